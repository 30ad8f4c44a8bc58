-- A whole file of lines, in order. What a line does, what a line that is too long does, and whether to stop, are the caller's. Assumes nothing.
use Rattle.std.specs.Prelude.{ℕ, Bool, List, [], ◌∷◌, ◌++◌, eqb, ltb, length}
use Rattle.floats.specs.Pick.{pick}
use Rattle.text.specs.Parts.{parted_at}

-- the pieces between the newlines; the last is what stands after the last newline
abbrev pub pieces_of : List ℕ → List (List ℕ)
pieces_of s = parted_at 10 s

-- what the end of the input does: nothing may stand after the last newline
unfoldable pub ended : {A : Type 0} → (A → Bool) → (A → A) → (A → A) → A → List ℕ → A
ended stopped on_long on_end a h = pick (stopped a) a (pick (eqb (length h) 0) (on_end a) (on_long a))

-- what a whole line does: 127 bytes at most without its newline
unfoldable pub line_on_bytes : {A : Type 0} → (A → Bool) → (A → List ℕ → A) → (A → A) → A → List ℕ → A
line_on_bytes stopped on_line on_long a l = pick (stopped a) a (pick (ltb (length l) 128) (on_line a l) (on_long a))

-- what the pieces of a whole file do, in order
unfoldable pub over_pieces : {A : Type 0} → (A → Bool) → (A → List ℕ → A) → (A → A) → (A → A) → A → List (List ℕ) → A
over_pieces stopped on_line on_long on_end a [] = a
over_pieces stopped on_line on_long on_end a (l ∷ []) = ended stopped on_long on_end a l
over_pieces stopped on_line on_long on_end a (l ∷ m ∷ ls) =
    over_pieces stopped on_line on_long on_end (line_on_bytes stopped on_line on_long a l) (m ∷ ls)

-- parts joined
unfoldable pub joined : List (List ℕ) → List ℕ
joined [] = []
joined (p ∷ ps) = p ++ joined ps
