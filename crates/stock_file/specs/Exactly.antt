-- Bytes that begin a file of the form, and the line at which a file is refused. Assumes nothing.
use Rattle.std.specs.Prelude.{◌≡◌, false, List, [], ◌∷◌, ◌++◌, ℕ, suc, ◌<◌, length, take, Float}
use Rattle.lines.specs.File.{pieces_of}
use Rattle.stock_file.specs.Read.{file_in}

-- a whole file of the form: none of its lines is refused
abbrev pub OfForm : List Float → List Float → List ℕ → Type 0
OfForm cs rs s = (file_in cs rs s).reading.refused ≡ false

-- bytes that some file of the form begins with
pub record Begins (cs rs : List Float) (p : List ℕ) : Type 0 where
  pub rest : List ℕ
  pub whole : OfForm cs rs (p ++ rest)

-- lines, each ended by a newline
unfoldable pub ended_lines : List (List ℕ) → List ℕ
ended_lines [] = []
ended_lines (l ∷ ls) = l ++ (10 ∷ ended_lines ls)

-- the first k lines of some bytes
abbrev pub first_lines : ℕ → List ℕ → List ℕ
first_lines k s = ended_lines (take k (pieces_of s))

-- The line behind the first k is the one that is refused: those before it begin some file of the form. With it they begin none; where the bytes end inside it or before it, they are none.
pub record RefusedBehind (cs rs : List Float) (k : ℕ) (s : List ℕ) : Type 0 where
  pub within : k < length (pieces_of s)
  pub begins : Begins cs rs (first_lines k s)
  pub with_it : suc k < length (pieces_of s) → Begins cs rs (first_lines (suc k) s) → ⊥
  pub at_end : suc k ≡ length (pieces_of s) → OfForm cs rs s → ⊥
