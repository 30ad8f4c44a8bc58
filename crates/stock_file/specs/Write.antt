-- A stock's file in a form: its lines, each ended by a newline. Assumes nothing.
use Rattle.std.specs.Prelude.{◌≡◌, ℕ, zero, suc, ◌+◌, ◌-◌, ◌*◌, List, [], ◌++◌, ltb, leb, eqb, length, get_or, Float, Err, Ok, Result}
use Rattle.std.proofs.lemmas.List.Edits.{sets}
use Rattle.std.specs.Float.{nan}
use Rattle.refusals.specs.declared.Refusal.{Refusal}
use Rattle.refusals.specs.Number.{reason_of, paper_of}
use Rattle.refusals.specs.Paper.{Paper, answers, refuses, demand, onward}
use Rattle.refusals.specs.Lent.{Lent}
use Rattle.floats.specs.Pick.{pick}
use Rattle.stock.specs.declared.TurnStockSpec.{TurnStockSpec}
use Rattle.stock.specs.declared.TurnStock.{TurnStock}
use Rattle.stock.specs.Spec.{clean_spec}
use Rattle.stock.specs.Cell.{stock_of, new_of}
use Rattle.rings.specs.Store.{bar_ring, count_fits, room_for_rings}
use Rattle.text.specs.Lines.{ring_line}
use Rattle.stock_lines.specs.declared.Bar.{Bar}
use Rattle.stock_lines.specs.Form.{written_form, stock_line, kept_cell_line, end_line}

-- the numbers of a spec that a file keeps, -0.0 as +0.0
abbrev pub bar_of : TurnStockSpec → Bar
bar_of spec =
    let s = clean_spec spec in
    record { z_min_mm = s.z_min_mm; z_max_mm = s.z_max_mm; outer_radius_mm = s.outer_radius_mm; bore_radius_mm = s.bore_radius_mm; cell_mm = s.cell_mm }

-- what a first line says: the form's number, the edition and the bar
pub record Opening : Type 0 where
  pub form : ℕ
  pub edition : ℕ
  pub bar : Bar

abbrev pub opening : ℕ → ℕ → Bar → Opening
opening form edition b = record { form = form; edition = edition; bar = b }

-- the first line of the file of a stock with n cells, in the form that is written
abbrev pub opening_of : TurnStock → ℕ → Opening
opening_of k n = opening (written_form n) k.stamp.edition (bar_of k.spec)

-- the lines of a cell, in a form, and of a ring
abbrev pub cell_at : ℕ → List Float → ℕ → List ℕ
cell_at form cs i = kept_cell_line form i (get_or cs (4 * i) nan) (get_or cs (4 * i + 1) nan) (get_or cs (4 * i + 2) nan) (get_or cs (4 * i + 3) nan)

abbrev pub ring_at : List Float → ℕ → List ℕ
ring_at rs i = ring_line (get_or rs (4 * i) nan) (get_or rs (4 * i + 1) nan) (get_or rs (4 * i + 2) nan) (get_or rs (4 * i + 3) nan)

-- line i behind the first, of n cells and m rings: a cell, a ring, or the end; none behind the end
unfoldable pub line_behind : ℕ → List Float → ℕ → List Float → ℕ → ℕ → List ℕ
line_behind form cs n rs m i = pick (ltb i n) (cell_at form cs i) (pick (ltb (i - n) m) (ring_at rs (i - n)) (pick (eqb (i - n) m) (end_line (i + 1)) []))

-- line k
unfoldable pub line_at : Opening → List Float → ℕ → List Float → ℕ → ℕ → List ℕ
line_at b cs n rs m k = pick (eqb k 0) (stock_line b.form b.bar b.edition) (line_behind b.form cs n rs m (k - 1))

-- the first k lines
unfoldable pub lines_to : (ℕ → List ℕ) → ℕ → List ℕ
lines_to f zero = []
lines_to f (suc k) = lines_to f k ++ f k

-- the file of n cells and m rings: the first line, n and m more, and the end
unfoldable pub file_of : Opening → List Float → ℕ → List Float → ℕ → List ℕ
file_of b cs n rs m = lines_to (line_at b cs n rs m) (n + m + 2)

-- how many lines the file of a stock has; 1, 2, 3, 4
unfoldable pub line_count : TurnStockSpec → List Float → List Float → ℕ → Paper ℕ
line_count spec cs rs m =
    onward (stock_of spec cs) (λ n.
    demand (count_fits (bar_ring (clean_spec spec)) rs m) 4
    (answers (n + m + 2)))

-- line k of the file of a stock with any numbers; 1, 2, 3 for the length alone, 4 for the count alone
unfoldable pub line_for : TurnStock → List Float → List Float → ℕ → Paper (List ℕ)
line_for stock cs rs k =
    onward (new_of stock.spec (length cs)) (λ n.
    demand (leb stock.rings (room_for_rings (length rs))) 4
    (answers (line_at (opening_of stock n) cs n rs stock.rings k)))

-- how long a line is
abbrev pub length_of : Paper (List ℕ) → Paper ℕ
length_of (answers s) = answers (length s)
length_of (refuses r) = refuses r

-- a buffer with the line over its front, and as it was where there is none
abbrev pub line_over : Paper (List ℕ) → List ℕ → List ℕ
line_over (answers s) l = sets l 0 s
line_over (refuses r) l = l

pub record WroteFileLine (l : List ℕ) (p : Paper (List ℕ)) (r : Result ℕ Refusal) (m : List ℕ) : Type 0 where
  pub answer : paper_of r ≡ length_of p
  pub out : m ≡ line_over p l

abbrev pub WritesFileLine : Lent ℕ → Paper (List ℕ) → (Result ℕ Refusal) → Type 0
WritesFileLine out p r = WroteFileLine out.entry.now p r out.exit.now
