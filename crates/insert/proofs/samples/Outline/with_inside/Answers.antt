-- `insert::samples::Outline::with_inside` meets its contract. Assumes nothing.
use mathlib.Core.Path.{sym, ap, ◌∙◌}
use Rattle.floats.specs.Pick.{pick_true, pick-false}
use Rattle.envelope.specs.Envelope.{u_at}
use Rattle.insert.specs.Insert.{both, with_inside}
use Rattle.insert.proofs.samples.Outline.with_inside.Goals as goal

pub own_sample-requires : goal.own_sample-requires
unfolding u_at
own_sample-requires c = c.clean-u.ensures

pub returns-then-lo-u : goal.returns-then-lo-u
unfolding with_inside u_at
returns-then-lo-u c = let a = c.args in
    c.both.ensures
    ∙ (ap (both a.self.now.w (a.found)) c.own_sample.ensures
    ∙ (sym (pick_true _ _ _ c.if-lo-u.true) ∙ ap (with_inside a.self.now.w a.self.now.points.now a.lo a.hi (a.found)) c.clean-u.ensures))

pub returns : goal.returns
unfolding with_inside u_at
returns c = let a = c.args in
    sym (pick-false _ _ _ c.if-lo-u.false) ∙ ap (with_inside a.self.now.w a.self.now.points.now a.lo a.hi (a.found)) c.clean-u.ensures
