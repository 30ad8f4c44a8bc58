-- A length in decimal, rounded to 1e-4 mm. Assumes nothing.
use Rattle.std.specs.Prelude.{ℕ, ◌/◌, ◌%◌, List, [], ◌∷◌, ◌++◌, eqb, Float}
use Rattle.std.specs.Float.{binary64}
use Rattle.std.specs.Float.Ieee.{of_bits}
use Rattle.floats.specs.Pick.{pick}
use Rattle.floats.specs.Numbers.{◌+₆₄◌, ◌*₆₄◌}
use Rattle.numbers.specs.Whole.{whole_part}
use Rattle.text.specs.Digits.{digits, decimal_of}
use Rattle.picture.specs.declared.decimals.Tail.{Tail}

-- how many units of 1e-4 mm: the whole part of x * 10000 + 0.5
abbrev pub units_of : Float → ℕ
units_of x = whole_part (x *₆₄ of_bits binary64 0x40C3880000000000 +₆₄ of_bits binary64 0x3FE0000000000000)

-- so many digits of a number
abbrev pub tail_with : ℕ → ℕ → Tail
tail_with k n = record { places = k; of = n }

-- the four digits of f, zeros at their end left out, but for the first
unfoldable pub tail_of : ℕ → Tail
tail_of f =
    pick (eqb (f % 1000) 0) (tail_with 1 (f / 1000))
    (pick (eqb (f % 100) 0) (tail_with 2 (f / 100))
    (pick (eqb (f % 10) 0) (tail_with 3 (f / 10))
    (tail_with 4 f)))

-- a point and these digits; nothing for 0
unfoldable pub fraction_text : ℕ → List ℕ
fraction_text f = pick (eqb f 0) [] ((46 ∷ []) ++ digits 10 (tail_of f).places (tail_of f).of)

-- n units, in millimetres
unfoldable pub units_text : ℕ → List ℕ
units_text n = decimal_of (n / 10000) ++ fraction_text (n % 10000)

-- a length that is not negative
unfoldable pub length_text : Float → List ℕ
length_text x = units_text (units_of x)
