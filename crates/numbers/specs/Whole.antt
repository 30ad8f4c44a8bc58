-- The whole part of a value, and the least whole number at or above it. Assumes nothing.
use Rattle.std.specs.Prelude.{ℕ, ◌+◌, ◌-◌, ◌*◌, ◌/◌, Bool, true, false, nat_le, Float, Option, None, Some}
use Rattle.std.specs.Float.{nan, inf, fin}
use Rattle.std.specs.Float.Ieee.{up, down, to_unsigned}
use Rattle.floats.specs.Pick.{pick}

-- The whole part, as the Rust's cast has it: 0 for a NaN and for what is below 1, 2 ^ 64 - 1 for what is 2 ^ 64 or more.
abbrev pub whole_part : Float → ℕ
whole_part q = to_unsigned 64 q

-- the least whole number at or above q. A finite q is m * up e / down e, negative where s is true
abbrev pub ceiling_of : Float → Option ℕ
ceiling_of nan = None
ceiling_of (inf s) = None
ceiling_of (fin true m e) = Some 0
ceiling_of (fin false m e) = Some ((m * up e + (down e - 1)) / down e)

abbrev pub at_most : ℕ → Option ℕ → Option ℕ
at_most limit None = None
at_most limit (Some n) = pick (nat_le n limit) (Some n) None

-- the same, or nothing where it is more than the limit
unfoldable pub whole_up : Float → ℕ → Option ℕ
whole_up q limit = at_most limit (ceiling_of q)
