-- `side_by_side::put_left` meets its contract. Assumes nothing.
use native.Mathlib.Omega.{arith}
use mathlib.Core.Path.{refl, sym}
use Rattle.text.proofs.Sets.{retext}
use Rattle.side_by_side.proofs.Pieces.{pieces-held, refused-text}
use borrow.Author.Rules.{rules}
use Rattle.side_by_side.proofs.put_left.Goals as goal

pub slice_bounds-put_rings-end : goal.slice_bounds-put_rings-end
slice_bounds-put_rings-end c = sym ((pieces-held _ _ _ _ _ _ c.in-Ok.is c.left_of-left.ensures).room (search rules))

pub put_rings-requires : goal.put_rings-requires
put_rings-requires c = let h = pieces-held _ _ _ _ _ _ c.in-Ok.is c.left_of-left.ensures in
    let n = h.few in
    let l = h.room (search rules) in
    (omega arith, omega arith)

pub returns-in-Ok : goal.returns-in-Ok
returns-in-Ok c = retext (pieces-held _ _ _ _ _ _ c.in-Ok.is c.left_of-left.ensures).text c.put_rings.ensures

pub returns-in-Err : goal.returns-in-Err
returns-in-Err c = retext (refused-text _ _ _ _ _ _ c.in-Err.is c.left_of-left.ensures) (record { text = refl; end = refl })
