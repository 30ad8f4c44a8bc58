-- `insert::is_polygon` meets its contract. Assumes nothing.
use mathlib.Core.Path.{◌≡◌, sym, ◌∙◌}
use lib.IntN.{pos}
use borrow.Author.Tests.{le-leb, lt-leb}
use Rattle.envelope.specs.Halving.{kept_of}
use Rattle.envelope.proofs.Steps.{reads}
use Rattle.insert.specs.Insert.{polygon_good}
use Rattle.insert.proofs.Steps.{kept-refused, kept-accepted}
use Rattle.insert.proofs.is_polygon.Goals as goal

pub returns-then-polygon-gt-POINT_LIMIT : goal.returns-then-polygon-gt-POINT_LIMIT
unfolding polygon_good
returns-then-polygon-gt-POINT_LIMIT c = rw (lt-leb _ _ c.if-polygon-gt-POINT_LIMIT.true)

pub returns-then-order-eq-OUTSIDE : goal.returns-then-order-eq-OUTSIDE
unfolding polygon_good
returns-then-order-eq-OUTSIDE c = let n = c.number_of-order in
    rw (le-leb _ _ c.if-polygon-gt-POINT_LIMIT.false, kept-refused _ (sym n.ensures ∙ reads n.result 2 (record { sfits = n.type_inv }) c.if-order-eq-OUTSIDE.true))

pub returns : goal.returns
unfolding polygon_good
returns c = let n = c.number_of-order in
    let gs = c.args.polygon.now in
    rw (le-leb _ _ c.if-polygon-gt-POINT_LIMIT.false, kept-accepted gs (λ (e : kept_of gs ≡ pos 2). c.if-order-eq-OUTSIDE.false (rw (n.ensures, e))))
