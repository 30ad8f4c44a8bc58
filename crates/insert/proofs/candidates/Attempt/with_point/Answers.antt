-- `insert::candidates::Attempt::with_point` meets its contract. Assumes nothing.
use Rattle.std.specs.Prelude.{Option}
use mathlib.Core.Path.{ap, ◌∙◌}
use lib.Ieee.{Float}
use Rattle.floats.specs.Numbers.{◌+₆₄◌}
use Rattle.insert.specs.Insert.{with_candidate, with_point}
use Rattle.insert.proofs.candidates.Attempt.with_point.Goals as goal

pub returns : goal.returns
unfolding with_point
returns c = let a = c.args in
    let ps = a.self.now.outline.points.now in
    let gs = a.self.now.polygon.now in
    c.with_candidate.ensures ∙ ap (λ (r : Option Float). with_candidate a.self.now.outline.w ps gs a.self.now.trial r (a.u +₆₄ a.self.now.trial.tolerance)) (c.with_candidate-there.ensures ∙ ap (λ (r : Option Float). with_candidate a.self.now.outline.w ps gs a.self.now.trial r a.u) c.with_candidate-before.ensures)
