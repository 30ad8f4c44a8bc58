-- A line that more than one kind of file has. Assumes nothing.
use Rattle.std.specs.Prelude.{ℕ, List, [], ◌∷◌, ◌++◌, Float}
use Rattle.text.specs.Digits.{hex_of}

abbrev pub newline : List ℕ
newline = 10 ∷ []

-- a tab and a number
abbrev pub field : Float → List ℕ
field x = 9 ∷ hex_of x

-- four numbers, and the end of the line
abbrev pub four_fields : Float → Float → Float → Float → List ℕ
four_fields a b c d = field a ++ (field b ++ (field c ++ (field d ++ newline)))

-- `ring` and its edges
unfoldable pub ring_line : Float → Float → Float → Float → List ℕ
ring_line a b c d = (114 ∷ 105 ∷ 110 ∷ 103 ∷ []) ++ four_fields a b c d
