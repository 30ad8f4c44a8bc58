-- `queries::less_ring` meets its contract. The loop's invariant: what is left is said of the bins passed. Assumes nothing.
use mathlib.Core.Path.{◌≡◌, refl, ap, ◌∙◌}
use native.Mathlib.Omega.{arith}
use Rattle.queries.specs.Volume.{less_ring}
use Rattle.queries.specs.Pass.{less_bins}
use Rattle.queries.proofs.Passes.{bin-more}
use Rattle.queries.proofs.less_ring.Goals as goal

pub loop-i-init : goal.loop-i-init
unfolding less_ring
loop-i-init c = refl

pub loop-i-preserved : goal.loop-i-preserved
loop-i-preserved c = let args = c.args in
    let loop = c.loop-i in
    bin-more args.s args.cells.now args.q args.v loop.left c.less_bin-left.result loop.i loop.invariant c.less_bin-left.ensures

pub returns : goal.returns
returns c = let args = c.args in
    let e : c.loop-i.i ≡ args.n = omega arith in
    c.loop-i.invariant ∙ ap (less_bins args.s args.cells.now args.q args.v) e
