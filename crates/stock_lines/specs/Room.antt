-- What a line leaves in the lent room. Assumes nothing.
use Rattle.std.specs.Prelude.{ℕ, ◌*◌, ◌/◌, Bool, true, false, List, [], ◌∷◌, length, ◌==◌, nat_le, nat_lt, Float, Option, Some, None}
use Rattle.std.proofs.lemmas.List.Edits.{sets}
use Rattle.floats.specs.Pick.{pick}
use Rattle.text.specs.Same.{same_bytes}
use Rattle.refusals.specs.Limits.{ring_limit}
use Rattle.stock_lines.specs.Form.{form_of, line_of, four_of, cell_prefix, ring_prefix, end_text}
use Rattle.stock_lines.specs.declared.form.Four.{Four}
use Rattle.stock_lines.specs.declared.room.Took.{Took}
use Rattle.stock_lines.specs.declared.room.Took.TheVariants.{Cell, Ring, End, NoLine}

-- four numbers at place k, if the limit and the room reach there
unfoldable pub kept : ℕ → List Float → ℕ → List Float → List Float
kept limit l k xs = pick (nat_lt k limit) (pick (nat_lt k (length l / 4)) (sets l (4 * k) xs) l) l

-- a line that held numbers
unfoldable pub taken : Option Four → Bool
taken (Some x) = true
taken None = false

-- the room after a line: its numbers at place k, or all as before
unfoldable pub stored : ℕ → List Float → ℕ → Option Four → List Float
stored limit l k (Some x) = kept limit l k (x.a ∷ x.b ∷ x.c ∷ x.d ∷ [])
stored limit l k None = l

-- a cell's line of form k in its turn: the index n, before all rings
unfoldable pub cell_at : ℕ → ℕ → ℕ → List ℕ → Option Four
cell_at k n m s = pick (m == 0) (pick (nat_lt n (form_of k).most) (four_of (line_of (cell_prefix k n) 4 s)) None) None

abbrev pub ring_at : List ℕ → Option Four
ring_at s = four_of (line_of ring_prefix 4 s)

-- a ring's line of form k in its turn: behind enough cell lines
unfoldable pub ring_turn : ℕ → ℕ → List ℕ → Option Four
ring_turn k n s = pick (nat_le (form_of k).least n) (ring_at s) None

-- the last line of form k in its turn: behind enough cell lines, with the count of all lines before it
unfoldable pub end_turn : ℕ → ℕ → ℕ → List ℕ → Bool
end_turn k n before s = pick (nat_le (form_of k).least n) (same_bytes s (end_text before)) false

-- what the line is in form k, after n cell lines, m ring lines and so many lines in all
unfoldable pub took_of : ℕ → ℕ → ℕ → ℕ → List ℕ → Took
took_of k n m before s =
    pick (taken (cell_at k n m s)) Cell (pick (taken (ring_turn k n s)) Ring (pick (end_turn k n before s) End NoLine))

-- the rings after the line
unfoldable pub rings_left_after : ℕ → ℕ → ℕ → List ℕ → List Float → List Float
rings_left_after k n m s l = pick (taken (cell_at k n m s)) l (stored ring_limit l m (ring_turn k n s))
