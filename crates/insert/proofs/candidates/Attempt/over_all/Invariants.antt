-- `insert::candidates::Attempt::over_all` meets its contract. Assumes nothing.
use mathlib.Core.Path.{◌≡◌}
use Rattle.insert.specs.Insert.{polygon_to}
use Rattle.insert.proofs.candidates.Attempt.over_all.Given as goal

abbrev pub invariant-loop-i : goal.invariant-loop-i
invariant-loop-i l = l.found ≡ polygon_to l.self.outline.w l.self.outline.points.now l.self.polygon.now l.self.trial l.i
