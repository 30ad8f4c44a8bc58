-- `text::plain::put_decimals` meets its contract. Assumes nothing.
use Rattle.std.proofs.Common.{◌≡◌, ◌+◌, ◌-◌, ◌≤◌, length}
use Rattle.text.proofs.plain.put_decimals.Given as goal

abbrev pub invariant-loop-d : goal.invariant-loop-d
invariant-loop-d l = (l.o ≤ length l.initial.out) × (l.at ≤ l.o + (l.at - length l.initial.out)) × (length l.out ≡ length l.initial.out)

abbrev pub decreases-loop-d : goal.decreases-loop-d
decreases-loop-d l = l.d
