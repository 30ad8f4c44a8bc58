-- `insert::tried` meets its contract. Assumes nothing.
use mathlib.Core.Path.{sym, ap₂, ◌∙◌}
use mir.Facts.{to_z-of_z}
use Rattle.floats.specs.Pick.{pick_true, pick-false}
use mathlib.Core.List.{List}
use lib.Ieee.{Float}
use borrow.Author.Tests.{eq-eqb, ne_eqb}
use Rattle.envelope.specs.Envelope.{count}
use Rattle.insert.specs.declared.Which.{Which}
use Rattle.insert.specs.Insert.{polygon_to, touch_of}
use Rattle.insert.proofs.tried.Goals as goal

pub returns-then-polygon-eq0 : goal.returns-then-polygon-eq0
unfolding touch_of
returns-then-polygon-eq0 c = sym (pick_true _ _ _ (eq-eqb _ _ c.if-polygon-eq0.true))

pub new-requires : goal.new-requires
new-requires c = (c.requires.0, to_z-of_z c.ranges.order ∙ c.requires.1)

pub returns-then-order-eq0 : goal.returns-then-order-eq0
unfolding touch_of
returns-then-order-eq0 c = let a = c.args in
    let gs = a.polygon.now in
    c.over_held.ensures ∙ (ap₂ (λ (w : Which) (ps : List Float). polygon_to w ps gs (record { tolerance = a.t; lo = c.most-lo.result; hi = c.most-hi.result }) (count gs)) c.new.ensures.1 c.new.ensures.0
    ∙ (ap₂ (λ (lo hi : Float). polygon_to a.w a.points.now gs (record { tolerance = a.t; lo = lo; hi = hi }) (count gs)) c.most-lo.ensures c.most-hi.ensures ∙ sym (pick-false _ _ _ (ne_eqb _ _ c.if-polygon-eq0.false))))

pub returns : goal.returns
unfolding touch_of
returns c = let a = c.args in
    let gs = a.polygon.now in
    c.over_all.ensures ∙ (ap₂ (λ (w : Which) (ps : List Float). polygon_to w ps gs (record { tolerance = a.t; lo = c.most-lo.result; hi = c.most-hi.result }) (count gs)) c.new.ensures.1 c.new.ensures.0
    ∙ (ap₂ (λ (lo hi : Float). polygon_to a.w a.points.now gs (record { tolerance = a.t; lo = lo; hi = hi }) (count gs)) c.most-lo.ensures c.most-hi.ensures ∙ sym (pick-false _ _ _ (ne_eqb _ _ c.if-polygon-eq0.false))))
