-- `queries::sums` meets its contract. The loop's invariant: each sum is that of the bins passed. Assumes nothing.
use mathlib.Core.Path.{◌≡◌, refl, ap, ◌∙◌}
use native.Mathlib.Omega.{arith}
use Rattle.queries.specs.Material.{sure_of, most_of}
use Rattle.queries.specs.Volume.{sum_of}
use Rattle.queries.specs.Pass.{sums_of}
use Rattle.queries.proofs.Passes.{same-volumes, sum_more}
use Rattle.queries.proofs.sums.Goals as goal

pub loop-i-init : goal.loop-i-init
unfolding sum_of
loop-i-init c = (refl, refl)

pub loop-i-preserved : goal.loop-i-preserved
loop-i-preserved c = let args = c.args in
    let loop = c.loop-i in
    let cell = c.cell_at-c.ensures in
    let bin = c.bin_of-z.ensures in (
      sum_more args.s args.cells.now sure_of loop.i loop.least _ _ _ _ loop.invariant.0 cell c.sure.ensures bin c.held-least.ensures,
      sum_more args.s args.cells.now most_of loop.i loop.greatest _ _ _ _ loop.invariant.1 cell c.most.ensures bin c.held-greatest.ensures,
    )

pub returns : goal.returns
returns c = let args = c.args in
    let loop = c.loop-i in
    let e : loop.i ≡ args.n = omega arith in
    same-volumes loop.invariant.0 loop.invariant.1 ∙ ap (sums_of args.s args.cells.now) e
