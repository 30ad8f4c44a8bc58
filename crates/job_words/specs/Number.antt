-- What a field of a job line is as a number: whole micrometres, optional minus, 1 to 10 digits, at most 1,000,000,000 in size. Assumes nothing.
use Rattle.std.specs.Prelude.{ℕ, List, [], ◌∷◌, ℤ, pos, neg_ℤ, ◌==◌, from_bits, Float, None, Option, Some}
use Rattle.std.specs.Float.{binary64}
use Rattle.std.specs.Float.Ieee.{of_int, div}
use Rattle.text.specs.Whole.{whole_of}
use Rattle.floats.specs.Pick.{pick}

-- micrometres in millimetres: converted, and divided by 1000 with one rounding
abbrev pub millimetres : ℤ → Float
millimetres z = div binary64 (of_int binary64 z) (from_bits binary64 0x408F400000000000)

abbrev pub positive : Option ℕ → (Option Float)
positive (Some v) = Some (millimetres (pos v))
positive None = None

abbrev pub negative : Option ℕ → (Option Float)
negative (Some v) = Some (millimetres (neg_ℤ (pos v)))
negative None = None

-- an optional minus, then a whole number
unfoldable pub field_number : List ℕ → (Option Float)
field_number [] = None
field_number (b ∷ s) = pick (b == 45) (negative (whole_of s)) (positive (whole_of (b ∷ s)))
