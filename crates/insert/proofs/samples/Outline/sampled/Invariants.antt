-- `insert::samples::Outline::sampled` meets its contract. Assumes nothing.
use mathlib.Core.Path.{◌≡◌}
use Prim.Native.Nat.{◌-◌, ◌≤◌}
use Rattle.insert.specs.Insert.{sampled_to}
use Rattle.insert.proofs.samples.Outline.sampled.Given as goal

abbrev pub invariant-loop-i : goal.invariant-loop-i
invariant-loop-i l = (l.i - l.start ≤ l.i-end - l.start) × (l.found ≡ sampled_to l.self.w l.self.points.now l.lo l.hi l.start (l.i - l.start))
