-- `queries::most_over` meets its contract. The loop's invariant: what is seen so far is the most over the bins passed. Assumes nothing.
use mathlib.Core.Path.{◌≡◌, refl, ap, ◌∙◌}
use native.Mathlib.Omega.{arith}
use Rattle.queries.specs.Envelope.{most_over}
use Rattle.queries.proofs.Walks.{walk-on}
use Rattle.queries.proofs.most_over.Goals as goal

pub loop-k-init : goal.loop-k-init
unfolding most_over
loop-k-init c = refl

pub loop-k-preserved : goal.loop-k-preserved
loop-k-preserved c = let loop = c.loop-k in
    walk-on _ _ _ loop.seen c.shown-one.result c.together-seen.result loop.invariant c.cell_at.ensures c.most.ensures c.shown-one.ensures c.together-seen.ensures

pub returns : goal.returns
returns c = let args = c.args in
    let loop = c.loop-k in
    let e : loop.k ≡ args.count = omega arith in
    loop.invariant ∙ ap (most_over args.cells.now args.first) e
