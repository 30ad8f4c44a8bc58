-- `text::part` meets its contract. Assumes nothing.
use Rattle.std.proofs.Common.{◌≡◌, ◌-◌, ◌≤◌, [], length, get_or, drop}
use Rattle.text.specs.Parts.{parted_at}
use Rattle.text.proofs.part.Given as goal

abbrev pub invariant-loop : goal.invariant-loop
invariant-loop l = (l.a ≤ length l.s) × (get_or (parted_at l.p l.s) l.i [] ≡ get_or (parted_at l.p (drop l.a l.s)) (l.i - l.counter) [])
