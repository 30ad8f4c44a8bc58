-- `blocks::bins::fold_any` meets its contract. The loop's invariant: what is found is said of the bins passed. Assumes nothing.
use mathlib.Core.Path.{◌≡◌, ap, ◌∙◌}
use Prim.Native.Nat.{ℕ, ◌-◌}
use native.Mathlib.Omega.{arith}
use Rattle.queries.specs.Material.{most_of}
use Rattle.blocks.specs.Block.{fold_from}
use Rattle.blocks.proofs.Steps.{fold_more, fold-none}
use Rattle.blocks.proofs.bins.fold_any.Goals as goal

pub loop-i-init : goal.loop-i-init
loop-i-init c = (omega arith, fold-none _ _ _ _ (omega arith))

pub loop-i-preserved : goal.loop-i-preserved
loop-i-preserved c = let args = c.args in
    let loop = c.loop-i in
    (omega arith, fold_more args.k args.cells.now args.a loop.i loop.found c.block_with-found.result _ loop.auto.i loop.invariant.1 (c.most.ensures ∙ ap most_of c.cell_at.ensures) c.block_with-found.ensures)

pub returns : goal.returns
returns c = let args = c.args in
    let loop = c.loop-i in
    let e : loop.i - args.a ≡ args.e - args.a = omega arith in
    loop.invariant.1 ∙ ap (λ (m : ℕ). fold_from args.k args.cells.now args.a m) e
