-- `queries::less_rings` meets its contract. The loop's invariant: what is left is said of the rings passed. Assumes nothing.
use mathlib.Core.Path.{◌≡◌, refl, ap, ◌∙◌}
use native.Mathlib.Omega.{arith}
use Rattle.queries.specs.Volume.{less_rings}
use Rattle.queries.specs.Pass.{less_all}
use Rattle.queries.proofs.Passes.{ring-more}
use Rattle.queries.proofs.less_rings.Goals as goal

pub loop-k-init : goal.loop-k-init
unfolding less_rings
loop-k-init c = refl

pub loop-k-preserved : goal.loop-k-preserved
loop-k-preserved c = let args = c.args in
    let loop = c.loop-k in
    ring-more args.s args.cells.now args.n args.rings.now c.ring_at.result args.v loop.left c.less_ring-left.result loop.k loop.invariant c.ring_at.ensures c.less_ring-left.ensures

pub returns : goal.returns
returns c = let args = c.args in
    let e : c.loop-k.k ≡ args.count = omega arith in
    c.loop-k.invariant ∙ ap (less_all args.s args.cells.now args.n args.rings.now args.v) e
