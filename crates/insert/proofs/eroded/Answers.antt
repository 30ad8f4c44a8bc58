-- `insert::eroded` meets its contract. Assumes nothing.
use mathlib.Core.Path.{◌≡◌, sym, ap₂, ◌∙◌}
use mathlib.Core.List.{List}
use lib.Ieee.{Float}
use mir.Syntax.{w8}
use mir.Facts.{to_z-of_z}
use mathlib.Core.Bool.{◌&&◌}
use lib.IntN.{pos}
use borrow.Author.Tests.{not-true, not-false}
use Rattle.floats.specs.Numbers.{clean_of}
use Rattle.envelope.specs.Envelope.{points_good}
use Rattle.envelope.specs.Halving.{kept_of}
use Rattle.envelope.proofs.Steps.{reads}
use Rattle.envelope.proofs.Kept.{kept-good}
use Rattle.insert.specs.declared.Which.{Which}
use Rattle.insert.specs.declared.Which.TheVariants.{Least}
use Rattle.insert.specs.Insert.{eroded_asks, offset_of, eroded_of}
use Rattle.insert.proofs.Steps.{kept-refused, kept-accepted, asks-outside, asks-refused, asks-answered}
use Rattle.insert.proofs.eroded.Goals as goal

pub returns-then-order-eq-OUTSIDE : goal.returns-then-order-eq-OUTSIDE
unfolding eroded_of eroded_asks
returns-then-order-eq-OUTSIDE c = let n = c.number_of-order in
    asks-outside _ _ _ (kept-refused _ (sym n.ensures ∙ reads n.result 2 (record { sfits = n.type_inv }) c.if-order-eq-OUTSIDE.true))

pub returns-then-not-is_usable-is_tolerance : goal.returns-then-not-is_usable-is_tolerance
unfolding eroded_of eroded_asks
returns-then-not-is_usable-is_tolerance c = let a = c.args in
    let ps = a.points.now in
    asks-refused (points_good ps) _ (offset_of Least ps (clean_of a.tolerance) (clean_of a.u))
    (ap₂ (λ a b. a && b) (sym c.is_usable.ensures) (sym c.is_tolerance.ensures) ∙ not-true _ c.if-not-is_usable-is_tolerance.true-raw)

pub new-part-requires : goal.new-part-requires
new-part-requires c = let ps = c.args.points.now in
    let n = c.number_of-order in
    let g = kept-accepted ps (λ (e : kept_of ps ≡ pos 2). c.if-order-eq-OUTSIDE.false (rw (n.ensures, e))) in
    (g, to_z-of_z {w = w8} (record { sfits = n.type_inv }) ∙ (n.ensures ∙ kept-good ps g))

pub returns : goal.returns
unfolding eroded_of eroded_asks
returns c = let a = c.args in
    let ps = a.points.now in
    let n = c.number_of-order in
    asks-answered _ _ _ (kept-accepted ps (λ (e : kept_of ps ≡ pos 2). c.if-order-eq-OUTSIDE.false (rw (n.ensures, e)))) (ap₂ (λ a b. a && b) (sym c.is_usable.ensures) (sym c.is_tolerance.ensures) ∙ not-false _ c.if-not-is_usable-is_tolerance.false-raw)
    (c.offset.ensures ∙ (ap₂ (λ (w : Which) (xs : List Float). offset_of w xs c.clean.result c.clean-2.result) c.new-part.ensures.1 c.new-part.ensures.0 ∙ ap₂ (offset_of Least ps) c.clean.ensures c.clean-2.ensures))
