-- `insert::candidates::Attempt::over_points` meets its contract. Assumes nothing.
use mathlib.Core.Path.{◌≡◌}
use Prim.Native.Nat.{◌-◌, ◌≤◌}
use Rattle.insert.specs.Insert.{points_to}
use Rattle.insert.proofs.candidates.Attempt.over_points.Given as goal

abbrev pub invariant-loop-i : goal.invariant-loop-i
invariant-loop-i l = (l.i - l.start ≤ l.i-end - l.start) × (l.found ≡ points_to l.self.outline.w l.self.outline.points.now l.self.polygon.now l.self.trial l.start (l.i - l.start))
