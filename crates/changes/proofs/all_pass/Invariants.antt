-- `changes::all_pass` meets its contract. The loop's invariant: where the changes passed by all pass, so says the rule. Assumes nothing.
use mathlib.Core.Path.{◌≡◌}
use mathlib.Core.Bool.{true}
use Prim.Native.Nat.{◌≤◌}
use lib.ListN.{length}
use Rattle.refusals.specs.Paper.{answers}
use Rattle.changes.specs.Change.{changes_from, room_of}
use Rattle.changes.specs.Commit.{each_from}
use Rattle.changes.proofs.all_pass.Given as goal

abbrev pub invariant-loop-i : goal.invariant-loop-i
invariant-loop-i l = (l.i ≤ l.k) × (l.k ≤ room_of (length l.indices) (length l.records)) × (l.ok ≡ true → each_from l.s l.n l.cells 0 (changes_from l.indices l.records l.i) ≡ answers tt)
