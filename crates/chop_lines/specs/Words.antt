-- What a line of a profile says. Assumes nothing.
use Rattle.std.specs.Prelude.{ℕ, List, [], ◌∷◌, length, pos, ◌==◌, from_bits, slice_index_or, Float, None, Option, Some}
use Rattle.std.specs.Float.{binary64}
use Rattle.std.specs.Float.Ieee.{of_int, div, neg}
use Rattle.floats.specs.Pick.{pick}
use Rattle.text.specs.Whole.{whole_of}
use Rattle.text.specs.Same.{same_bytes}
use Rattle.stock.specs.declared.TurnSide.{TurnSide}
use Rattle.stock.specs.declared.TurnSide.TheVariants.{Outer, Inner}
use Rattle.job_words.specs.Number.{field_number}
use Rattle.job_words.specs.Kind.{fields_of, word_outer, word_inner}
use Rattle.chop_lines.specs.declared.words.Words.{Words}
use Rattle.chop_lines.specs.declared.words.Words.TheVariants.{Head, Corner, Bad}

-- ---- a bulge: whole millionths, an optional minus, 1 to 10 digits, at most 1,000,000,000 in size

-- converted, and divided by 1,000,000 with one rounding
abbrev pub millionths : ℕ → Float
millionths v = div binary64 (of_int binary64 (pos v)) (from_bits binary64 0x412E848000000000)

abbrev pub plain : Option ℕ → (Option Float)
plain (Some v) = Some (millionths v)
plain None = None

abbrev pub turned : Option ℕ → (Option Float)
turned (Some v) = Some (neg (millionths v))
turned None = None

unfoldable pub bulge_of : List ℕ → (Option Float)
bulge_of [] = None
bulge_of (b ∷ s) = pick (b == 45) (turned (whole_of s)) (plain (whole_of (b ∷ s)))

-- ---- the words

abbrev pub word_profile : List ℕ
word_profile = 112 ∷ 114 ∷ 111 ∷ 102 ∷ 105 ∷ 108 ∷ 101 ∷ []

abbrev pub word_point : List ℕ
word_point = 112 ∷ 111 ∷ 105 ∷ 110 ∷ 116 ∷ []

-- ---- the kinds of a line, by its four fields

abbrev pub head_by : TurnSide → (Option Float) → (Option Float) → Words
head_by side (Some rn) (Some tol) = Head side rn tol
head_by side (Some rn) None = Bad
head_by side None t = Bad

-- `profile` side rn tolerance
unfoldable pub head_on : List (List ℕ) → TurnSide → Words
head_on fs side = head_by side (field_number (slice_index_or fs 2 [])) (field_number (slice_index_or fs 3 []))

unfoldable pub head_of : List (List ℕ) → Words
head_of fs =
    pick (same_bytes (slice_index_or fs 1 []) word_outer) (head_on fs Outer)
    (pick (same_bytes (slice_index_or fs 1 []) word_inner) (head_on fs Inner) Bad)

abbrev pub corner_by : Option Float → (Option Float) → (Option Float) → Words
corner_by (Some r) (Some z) (Some b) = Corner r z b
corner_by (Some r) (Some z) None = Bad
corner_by (Some r) None b = Bad
corner_by None z b = Bad

-- `point` r z bulge
unfoldable pub corner_of : List (List ℕ) → Words
corner_of fs = corner_by (field_number (slice_index_or fs 1 [])) (field_number (slice_index_or fs 2 [])) (bulge_of (slice_index_or fs 3 []))

unfoldable pub words_by : List (List ℕ) → Words
words_by fs =
    pick (length fs == 4)
    (pick (same_bytes (slice_index_or fs 0 []) word_profile) (head_of fs)
    (pick (same_bytes (slice_index_or fs 0 []) word_point) (corner_of fs) Bad))
    Bad

-- a line without its newline
abbrev pub words_of : List ℕ → Words
words_of s = words_by (fields_of s)
