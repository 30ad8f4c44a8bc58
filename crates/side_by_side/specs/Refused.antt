-- The one line of a comparison that is refused. Assumes nothing.
use Rattle.std.specs.Prelude.{ℕ, List, [], ◌∷◌, ◌++◌, Option, None, Some}
use Rattle.refusals.specs.Paper.{Paper, Reason, answers, refuses}
use Rattle.text.specs.Digits.{decimal_of}
use Rattle.text.specs.Lines.{newline}
use Rattle.stock_file.specs.declared.Kept.{Kept}

-- numbers in decimal, a tab before each, and the end of the line
unfoldable pub tabbed : List ℕ → List ℕ
tabbed [] = newline
tabbed (n ∷ ns) = (9 ∷ []) ++ (decimal_of n ++ tabbed ns)

-- `refused` and numbers
unfoldable pub refused_with : List ℕ → List ℕ
refused_with ns = (114 ∷ 101 ∷ 102 ∷ 117 ∷ 115 ∷ 101 ∷ 100 ∷ []) ++ tabbed ns

-- a line's number, where there is one, and the refusal's
abbrev pub place_before : Option ℕ → ℕ → List ℕ
place_before None n = n ∷ []
place_before (Some k) n = k ∷ n ∷ []

abbrev pub reason_numbers : Reason → List ℕ
reason_numbers r = place_before r.place r.number

-- the line of file f; none where it tells a stock
abbrev pub file_refused : ℕ → Paper Kept → List ℕ
file_refused f (answers s) = []
file_refused f (refuses r) = refused_with (f ∷ reason_numbers r)

-- the line of both; none where they are compared
abbrev pub pair_refused : Paper ℕ → List ℕ
pair_refused (answers n) = []
pair_refused (refuses r) = refused_with (reason_numbers r)
