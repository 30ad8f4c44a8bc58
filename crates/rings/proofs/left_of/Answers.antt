-- `rings::left_of` meets its contract. Assumes nothing.
use mathlib.Core.Path.{refl}
use Rattle.rings.proofs.Adding.{leaves-pieces, leaves-over}
use Rattle.rings.proofs.left_of.Goals as goal

pub returns-then-left-gt-PIECE_LIMIT : goal.returns-then-left-gt-PIECE_LIMIT
returns-then-left-gt-PIECE_LIMIT c = let cut-ring = c.cut_ring-left in
    let lesser = c.lesser-n in
    leaves-over 0 lesser.result 256 c.args.ring c.args.rings.now _ cut-ring.result.left cut-ring.ensures.pieces _ lesser.ensures refl c.if-left-gt-PIECE_LIMIT.true c.args.pieces.now

pub returns : goal.returns
returns c = let cut-ring = c.cut_ring-left in
    let lesser = c.lesser-n in
    leaves-pieces 0 lesser.result 256 c.args.ring c.args.rings.now _ cut-ring.result.left cut-ring.ensures.pieces _ lesser.ensures refl c.if-left-gt-PIECE_LIMIT.false c.args.pieces.now _ c.copy_rings.ensures
