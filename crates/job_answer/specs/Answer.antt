-- The whole answer of a job, as a list of lines: all cells, rings, the generation; or the one refusal. Assumes nothing.
use Rattle.std.specs.Prelude.{ℕ, zero, suc, ◌+◌, ◌*◌, ◌/◌, List, [], ◌∷◌, ◌++◌, eqb, length, get_or, Float}
use Rattle.std.specs.Float.{nan}
use Rattle.floats.specs.Pick.{pick}
use Rattle.text.specs.Lines.{ring_line}
use Rattle.job_answer.specs.Lines.{cell_line, gen_line, refused_line}

-- the cell at i of a flat list of bounds: outer and inner, lower first
abbrev pub cell_line_at : List Float → ℕ → List ℕ
cell_line_at xs i = cell_line i (get_or xs (i * 4) nan) (get_or xs (i * 4 + 1) nan) (get_or xs (i * 4 + 2) nan) (get_or xs (i * 4 + 3) nan)

-- the ring at i of a flat list of edges
abbrev pub ring_line_at : List Float → ℕ → List ℕ
ring_line_at xs i = ring_line (get_or xs (i * 4) nan) (get_or xs (i * 4 + 1) nan) (get_or xs (i * 4 + 2) nan) (get_or xs (i * 4 + 3) nan)

-- the first n lines that f makes
unfoldable pub lines_to : (ℕ → List ℕ) → ℕ → List (List ℕ)
lines_to f zero = []
lines_to f (suc n) = lines_to f n ++ (f n ∷ [])

unfoldable pub answer_of : ℕ → ℕ → ℕ → List Float → List Float → List (List ℕ)
answer_of refused line generation cells rings =
    pick (eqb refused 0)
    (lines_to (cell_line_at cells) (length cells / 4) ++ (lines_to (ring_line_at rings) (length rings / 4) ++ (gen_line generation ∷ [])))
    (refused_line line refused ∷ [])
