-- A chord as a line of a job. Assumes nothing.
use Rattle.std.specs.Prelude.{ℕ, zero, suc, ◌+◌, ◌-◌, ◌*◌, ◌^◌, Bool, not, ◌&&◌, List, [], ◌∷◌, ◌++◌, ◌==◌, from_bits, slice_index_or, Float, Option, None, Some}
use Rattle.std.specs.Float.{nan, binary64}
use Rattle.std.specs.Float.Ieee.{lt}
use Rattle.floats.specs.Pick.{pick}
use Rattle.floats.specs.Numbers.{◌+₆₄◌, ◌*₆₄◌, zero64, size_of}
use Rattle.numbers.specs.Whole.{whole_part, whole_up}
use Rattle.text.specs.Digits.{decimal_of}
use Rattle.text.specs.Lines.{newline}
use Rattle.stock.specs.declared.TurnSide.{TurnSide}
use Rattle.stock.specs.declared.TurnSide.TheVariants.{Outer, Inner}

-- 1000, and a half
abbrev pub thousand : Float
thousand = from_bits binary64 0x408F400000000000

abbrev pub half : Float
half = from_bits binary64 0x3FE0000000000000

-- ---- millimetres as whole micrometres

abbrev pub micrometres : Float → ℕ
micrometres x = whole_part (size_of x *₆₄ thousand +₆₄ half)

-- a minus where x is below 0 and that is not 0
abbrev pub has_minus : Float → ℕ → Bool
has_minus x n = lt x zero64 && not (n == 0)

-- a tab and the number
unfoldable pub micro_field : Float → List ℕ
micro_field x = pick (has_minus x (micrometres x)) ((9 ∷ 45 ∷ []) ++ decimal_of (micrometres x)) ((9 ∷ []) ++ decimal_of (micrometres x))

-- a sag rounded up and one more; what is over 1,000,000,000 does not arise, and no job would take it
abbrev pub up_by : Option ℕ → ℕ
up_by (Some n) = n + 1
up_by None = 2 ^ 64 - 1

abbrev pub sag_up : Float → ℕ
sag_up sag = up_by (whole_up (sag *₆₄ thousand) 1000000000)

-- ---- `line` side rn sag a_r a_z b_r b_z

abbrev pub line_words : TurnSide → List ℕ
line_words Outer = 108 ∷ 105 ∷ 110 ∷ 101 ∷ 9 ∷ 111 ∷ 117 ∷ 116 ∷ 101 ∷ 114 ∷ []
line_words Inner = 108 ∷ 105 ∷ 110 ∷ 101 ∷ 9 ∷ 105 ∷ 110 ∷ 110 ∷ 101 ∷ 114 ∷ []

-- the nose and the sag
unfoldable pub front_text : TurnSide → Float → Float → List ℕ
front_text side rn sag = line_words side ++ (micro_field rn ++ ((9 ∷ []) ++ decimal_of (sag_up sag)))

-- the ends
unfoldable pub ends_text : Float → Float → Float → Float → List ℕ
ends_text ar az br bz = micro_field ar ++ (micro_field az ++ (micro_field br ++ (micro_field bz ++ newline)))

-- chord k of a flat list: radius and z of its start, those of its end, its sag
abbrev pub number_at : List Float → ℕ → Float
number_at xs k = slice_index_or xs k nan

unfoldable pub chord_text : TurnSide → Float → List Float → ℕ → List ℕ
chord_text side rn xs k =
    front_text side rn (number_at xs (5 * k + 4))
    ++ ends_text (number_at xs (5 * k)) (number_at xs (5 * k + 1)) (number_at xs (5 * k + 2)) (number_at xs (5 * k + 3))

-- the first n of them
unfoldable pub chord_texts : TurnSide → Float → List Float → ℕ → List ℕ
chord_texts side rn xs zero = []
chord_texts side rn xs (suc k) = chord_texts side rn xs k ++ chord_text side rn xs k
