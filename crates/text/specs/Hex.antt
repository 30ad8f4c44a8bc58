-- A float as 16 hexadecimal digits of its bits, and a number of 32 bits as 8. Assumes nothing.
use Rattle.std.specs.Prelude.{ℕ, zero, suc, ◌+◌, ◌-◌, ◌*◌, ◌%◌, Bool, true, ◌&&◌, List, length, drop, ◌==◌, from_bits, nat_lt, slice_index, Float, None, Option, Some}
use Rattle.std.specs.Float.{binary64}
use Rattle.floats.specs.Pick.{pick}

-- the value of a digit, `0` to `9` and `A` to `F`, and 16 for any other byte
unfoldable pub nibble_of : ℕ → ℕ
nibble_of b = pick (nat_lt b 48) 16 (pick (nat_lt b 58) (b - 48) (pick (nat_lt b 65) 16 (pick (nat_lt b 71) (b - 55) 16)))

-- the first k bytes are digits
unfoldable pub hexes_to : List ℕ → ℕ → Bool
hexes_to s zero = true
hexes_to s (suc k) = hexes_to s k && nat_lt (nibble_of (slice_index s k)) 16

-- the number that the first k digits spell
unfoldable pub value_to : List ℕ → ℕ → ℕ
value_to s zero = 0
value_to s (suc k) = value_to s k * 16 + nibble_of (slice_index s k) % 16

-- the first k bytes as a number: none where one is no digit
unfoldable pub number_at : ℕ → List ℕ → (Option ℕ)
number_at k s = pick (hexes_to s k) (Some (value_to s k)) None

-- the first 16 bytes as a float: none where one is no digit, nor for -0.0
unfoldable pub hex_at : List ℕ → (Option Float)
hex_at s = pick (hexes_to s 16) (pick (value_to s 16 == 0x8000000000000000) None (Some (from_bits binary64 (value_to s 16)))) None

-- a tab and then 16 digits
unfoldable pub field_of : List ℕ → (Option Float)
field_of s = pick (slice_index s 0 == 9) (hex_at (drop 1 s)) None

-- 8 digits and nothing else
unfoldable pub eight_of : List ℕ → (Option ℕ)
eight_of s = pick (length s == 8) (pick (hexes_to s 8) (Some (value_to s 8)) None) None
