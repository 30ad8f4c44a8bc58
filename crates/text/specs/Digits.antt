-- A number as text: digits in capitals, the most significant first. Assumes nothing.
use Rattle.std.specs.Prelude.{ℕ, zero, suc, ◌+◌, ◌/◌, ◌%◌, List, [], ◌∷◌, ◌++◌, ◌==◌, nat_lt, to_bits, Float}
use Rattle.std.specs.Float.{binary64}
use Rattle.floats.specs.Pick.{pick}

-- the ASCII code of a digit below 16: `0` to `9`, then `A` to `F`
abbrev pub glyph_of : ℕ → ℕ
glyph_of d = pick (nat_lt d 10) (48 + d) (55 + d)

-- the last k digits of n in base b
unfoldable pub digits : ℕ → ℕ → ℕ → List ℕ
digits b zero n = []
digits b (suc k) n = digits b k (n / b) ++ (glyph_of (n % b) ∷ [])

-- how many digits follow the last of n, counted to k
unfoldable pub more : ℕ → ℕ → ℕ
more zero n = 0
more (suc k) n = pick (n == 0) 0 (suc (more k (n / 10)))

-- a number below 10^20 in decimal, with no leading zeros
unfoldable pub decimal_of : ℕ → List ℕ
decimal_of n = digits 10 (suc (more 19 (n / 10))) n

-- the 16 hexadecimal digits of a float's bits
unfoldable pub hex_of : Float → List ℕ
hex_of x = digits 16 16 (to_bits binary64 x)
