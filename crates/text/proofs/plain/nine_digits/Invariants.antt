-- `text::plain::nine_digits` meets its contract. Assumes nothing.
use Rattle.std.proofs.Common.{◌≡◌, ◌+◌, ◌*◌, ◌^◌, ◌<◌}
use Rattle.text.proofs.plain.nine_digits.Given as goal

abbrev pub invariant-loop : goal.invariant-loop
invariant-loop l = (l.h < 2 ^ 42) × (l.l < 2 ^ 42) × (l.n < 10 ^ l.counter) × ((l.n * 2 ^ 42 + l.h) * 2 ^ 42 + l.l ≡ (l.high * 2 ^ 42 + l.low) * 10 ^ l.counter)
