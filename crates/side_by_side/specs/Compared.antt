-- What differs between two stocks, as lines of a stock file: both cells of each unequal bin, then what the second's rings leave of each of the first's, then what the first's leave of each of the second's. Assumes nothing.
use Rattle.std.specs.Prelude.{ℕ, zero, suc, ◌/◌, max, Bool, true, ◌&&◌, List, [], ◌∷◌, ◌++◌, length, get_or, Float}
use Rattle.std.specs.Float.Ieee.{eq}
use Rattle.refusals.specs.Limits.{piece_limit}
use Rattle.refusals.specs.Paper.{Paper, answers, refuses, demand, onward}
use Rattle.floats.specs.Pick.{pick}
use Rattle.stock.specs.declared.TurnStockSpec.{TurnStockSpec}
use Rattle.stock.specs.declared.TurnCell.{TurnCell}
use Rattle.stock.specs.Cell.{cell_at, same_cell}
use Rattle.rings.specs.declared.Ring.{Ring}
use Rattle.rings.specs.Ring.{kept, in_hand, left}
use Rattle.rings.specs.Remove.{lent_rings, leaves}
use Rattle.text.specs.Lines.{ring_line}
use Rattle.stock_lines.specs.Form.{written_form, kept_cell_line}

-- the cells and the rings of a stock
pub record Side : Type 0 where
  pub cells : List Float
  pub rings : List Ring

-- as they are lent: a count over the lent rings is that of the lent ones
abbrev pub side : List Float → List Float → ℕ → Side
side cs rs m = record { cells = cs; rings = lent_rings rs m }

-- ---- cells

-- the line of bin i's cell, of as many bins as there are in all: it has the digits of their file
abbrev pub cell_text : ℕ → ℕ → TurnCell → List ℕ
cell_text all i c = kept_cell_line (written_form all) i c.outer.lower_mm c.outer.upper_mm c.inner.lower_mm c.inner.upper_mm

-- bin i: where its cells are unequal as numbers, the first's line and then the second's
unfoldable pub bin_text : ℕ → List Float → List Float → ℕ → List ℕ
bin_text all cs ds i = pick (same_cell (cell_at cs i) (cell_at ds i)) [] (cell_text all i (cell_at cs i) ++ cell_text all i (cell_at ds i))

-- the bins below n
unfoldable pub bin_texts : ℕ → List Float → List Float → ℕ → List (List ℕ)
bin_texts all cs ds zero = []
bin_texts all cs ds (suc i) = bin_texts all cs ds i ++ (bin_text all cs ds i ∷ [])

-- as many bins as either stock has
abbrev pub bin_count : List Float → List Float → ℕ
bin_count cs ds = max (length cs / 4) (length ds / 4)

-- ---- rings

-- a line for each ring
unfoldable pub ring_texts : List Ring → List ℕ
ring_texts [] = []
ring_texts (q ∷ qs) = ring_line q.z0 q.z1 q.r0 q.r1 ++ ring_texts qs

-- of pieces, and none where they are refused
abbrev pub pieces_text : Paper (List Ring) → List ℕ
pieces_text (answers l) = ring_texts l
pieces_text (refuses r) = []

-- what the rings ks leave of each of the others
unfoldable pub left_texts : List Ring → List Ring → List (List ℕ)
left_texts ks [] = []
left_texts ks (q ∷ qs) = pieces_text (leaves ks q) ∷ left_texts ks qs

-- the rings that those lines are of, where nothing is refused
unfoldable pub left_all : List Ring → List Ring → List Ring
left_all ks [] = []
left_all ks (q ∷ qs) = left ks q ++ left_all ks qs

-- never over 256 pieces in hand, after any step of any of the others
unfoldable pub each_in_hand : List Ring → List Ring → Bool
each_in_hand ks [] = true
each_in_hand ks (q ∷ qs) = in_hand piece_limit (kept q) ks && each_in_hand ks qs

-- ---- both

-- the five numbers of the specs are equal
abbrev pub same_bar : TurnStockSpec → TurnStockSpec → Bool
same_bar s t =
    eq s.z_min_mm t.z_min_mm && eq s.z_max_mm t.z_max_mm && eq s.outer_radius_mm t.outer_radius_mm
    && eq s.bore_radius_mm t.bore_radius_mm && eq s.cell_mm t.cell_mm

-- all chunks: one a bin, one a ring of the first, one a ring of the second
unfoldable pub chunks_of : Side → Side → List (List ℕ)
chunks_of a b = bin_texts (bin_count a.cells b.cells) a.cells b.cells (bin_count a.cells b.cells) ++ (left_texts b.rings a.rings ++ left_texts a.rings b.rings)

-- chunk c, and nothing behind the last
abbrev pub chunk_of : Side → Side → ℕ → List ℕ
chunk_of a b c = get_or (chunks_of a b) c []

-- over 256 pieces are in hand nowhere, in either direction
abbrev pub both_in_hand : Side → Side → Bool
both_in_hand a b = each_in_hand b.rings a.rings && each_in_hand a.rings b.rings

-- the chunks of two stocks; 24, 11
unfoldable pub compared_of : TurnStockSpec → Side → TurnStockSpec → Side → Paper (List (List ℕ))
compared_of s a t b =
    demand (same_bar s t) 24
    (demand (both_in_hand a b) 11
    (answers (chunks_of a b)))

-- how many chunks
unfoldable pub chunk_count : Paper (List (List ℕ)) → Paper ℕ
chunk_count p = onward p (λ l. answers (length l))
