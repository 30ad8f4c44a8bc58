-- `insert::touching` meets its contract. Assumes nothing.
use mathlib.Core.Path.{◌≡◌, sym, ap, ap₂, ◌∙◌}
use mir.Syntax.{w8}
use mir.Facts.{to_z-of_z}
use mathlib.Core.Bool.{◌&&◌}
use lib.IntN.{pos}
use borrow.Author.Tests.{not-true, not-false}
use Rattle.floats.specs.Numbers.{clean_of}
use Rattle.envelope.specs.Envelope.{points_good}
use Rattle.envelope.specs.Halving.{kept_of}
use Rattle.envelope.proofs.Steps.{reads}
use Rattle.envelope.proofs.Kept.{kept-good}
use Rattle.insert.specs.Insert.{touch_asks, touch_of, touched}
use Rattle.insert.proofs.Steps.{kept-refused, kept-accepted, asks-outside, asks-refused, asks-answered}
use Rattle.insert.proofs.touching.Goals as goal

pub returns-then-order-eq-OUTSIDE : goal.returns-then-order-eq-OUTSIDE
unfolding touched touch_asks
returns-then-order-eq-OUTSIDE c = let n = c.number_of-order in
    asks-outside _ _ _ (kept-refused _ (sym n.ensures ∙ reads n.result 2 (record { sfits = n.type_inv }) c.if-order-eq-OUTSIDE.true))

pub returns-then-not-is_polygon-is_tolerance : goal.returns-then-not-is_polygon-is_tolerance
unfolding touched touch_asks
returns-then-not-is_polygon-is_tolerance c = let a = c.args in
    let ps = a.points.now in
    asks-refused (points_good ps) _ (touch_of a.w ps a.polygon.now (clean_of a.tolerance))
    (ap₂ (λ a b. a && b) (sym c.is_polygon.ensures) (sym c.is_tolerance.ensures) ∙ not-true _ c.if-not-is_polygon-is_tolerance.true-raw)

pub tried-requires : goal.tried-requires
tried-requires c = let ps = c.args.points.now in
    let n = c.number_of-order in
    let g = kept-accepted ps (λ (e : kept_of ps ≡ pos 2). c.if-order-eq-OUTSIDE.false (rw (n.ensures, e))) in
    (g, to_z-of_z {w = w8} (record { sfits = n.type_inv }) ∙ (n.ensures ∙ kept-good ps g))

pub returns : goal.returns
unfolding touched touch_asks
returns c = let a = c.args in
    let ps = a.points.now in
    let n = c.number_of-order in
    asks-answered _ _ _ (kept-accepted ps (λ (e : kept_of ps ≡ pos 2). c.if-order-eq-OUTSIDE.false (rw (n.ensures, e)))) (ap₂ (λ a b. a && b) (sym c.is_polygon.ensures) (sym c.is_tolerance.ensures) ∙ not-false _ c.if-not-is_polygon-is_tolerance.false-raw)
    (c.tried.ensures ∙ ap (touch_of a.w ps a.polygon.now) c.clean.ensures)
