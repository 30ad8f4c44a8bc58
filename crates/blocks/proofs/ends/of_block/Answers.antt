-- `blocks::ends::of_block` meets its contract. The loop's invariant: what is found is of the bins passed. Assumes nothing.
use mathlib.Core.Path.{◌≡◌, ap, ◌∙◌}
use Prim.Native.Nat.{ℕ, ◌-◌}
use native.Mathlib.Omega.{arith}
use Rattle.blocks.specs.Lots.{ends_in, lot_to}
use Rattle.blocks.proofs.Lots.{lot-start, lot-more}
use Rattle.blocks.proofs.ends.of_block.Goals as goal

pub loop-k-init : goal.loop-k-init
loop-k-init c = (omega arith, lot-start _ _ _ c.of_four-found.ensures)

pub loop-k-preserved : goal.loop-k-preserved
loop-k-preserved c = let l = c.loop-k in
    (omega arith, lot-more c.args.cells.now c.args.a l.k l.found c.of_four.result c.joined-found.result l.auto.k l.invariant.1 c.of_four.ensures c.joined-found.ensures)

pub returns : goal.returns
returns c = let e : c.loop-k.k - 1 ≡ 15 = omega arith in
    c.loop-k.invariant.1 ∙ ap (λ (k : ℕ). ends_in (lot_to c.args.cells.now c.args.a k)) e
