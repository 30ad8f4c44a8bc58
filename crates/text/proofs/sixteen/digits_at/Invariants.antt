-- `text::sixteen::digits_at` meets its contract. The loop's invariant: what the digits passed say. Assumes nothing.
use Rattle.std.proofs.Common.{◌≡◌, drop}
use Rattle.text.specs.Hex.{hexes_to, value_to}
use Rattle.text.proofs.sixteen.digits_at.Given as goal

abbrev pub invariant-loop-i : goal.invariant-loop-i
invariant-loop-i l = (l.ok ≡ hexes_to (drop l.at l.s) l.i) × (l.n ≡ value_to (drop l.at l.s) l.i)
