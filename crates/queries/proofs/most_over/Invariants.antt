-- `queries::most_over` meets its contract. The loop's invariant: what is seen so far is the most over the bins passed. Assumes nothing.
use mathlib.Core.Path.{◌≡◌}
use Rattle.queries.specs.Envelope.{most_over}
use Rattle.queries.proofs.most_over.Given as goal

abbrev pub invariant-loop-k : goal.invariant-loop-k
invariant-loop-k l = l.seen ≡ most_over l.cells l.first l.k
