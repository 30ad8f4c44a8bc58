-- A job between two calls of the C boundary, in flat words and numbers, and what the calls make of it. Assumes nothing.
use Rattle.std.specs.Prelude.{◌≡◌, ℕ, min, eqb, get_or, Float}
use mathlib.Core.List.{List, [], ◌∷◌, foldl}
use Rattle.std.proofs.lemmas.List.Edits.{sets}
use Rattle.std.specs.Float.{nan}
use Rattle.refusals.specs.Lent.{Lent}
use Rattle.floats.specs.Pick.{pick}
use Rattle.floats.specs.Numbers.{zero64}
use Rattle.stock.specs.declared.TurnStockSpec.{TurnStockSpec}
use Rattle.stock.specs.Stock.{stock_from}
use Rattle.text.specs.Wrote.{WroteLine}
use Rattle.job_run.specs.declared.Run.{Run}
use Rattle.job_run.specs.Run.{State, state, Hold, hold, byte_on, finish_of, output_of}
use Rattle.turning.specs.Boundary.{Out, spec_from, edition_in}

-- ---- a job's words: max_cells, cells, rings, generation, lines, refused, held, and the edition, which no line changes

abbrev pub word_at : List ℕ → ℕ → ℕ
word_at ws k = get_or ws k 0

-- the bar: z_min, z_max, outer, bore, cell
abbrev pub bar_from : List Float → ℕ → TurnStockSpec
bar_from bar most = spec_from (get_or bar 0 nan) (get_or bar 1 nan) (get_or bar 2 nan) (get_or bar 3 nan) (get_or bar 4 nan) most

-- the run that they are
abbrev pub run_from : List ℕ → List Float → Run
run_from ws bar =
    record {
      job = record { stock = stock_from (bar_from bar (word_at ws 0)) (edition_in (word_at ws 7)) (word_at ws 2) (word_at ws 3); cells = word_at ws 1 };
      lines = word_at ws 4;
      refused = word_at ws 5;
    }

-- so many bytes of the unfinished line are held
abbrev pub held_in : List ℕ → ℕ
held_in ws = word_at ws 6

-- the words and the bar of a run that holds n bytes
abbrev pub words_of : Run → ℕ → List ℕ
words_of r n =
    let k = r.job.stock in
    k.spec.max_cells ∷ r.job.cells ∷ k.rings ∷ k.stamp.generation ∷ r.lines ∷ r.refused ∷ n ∷ []

abbrev pub bar_of : TurnStockSpec → List Float
bar_of s = s.z_min_mm ∷ s.z_max_mm ∷ s.outer_radius_mm ∷ s.bore_radius_mm ∷ s.cell_mm ∷ []

-- ---- bytes taken

-- the words and the bar hold a run that holds n bytes, from their first place on; the edition stays as it was
pub record Kept (r : Run) (n : ℕ) (ws ws' : List ℕ) (bar bar' : List Float) : Type 0 where
  pub words : ws' ≡ sets ws 0 (words_of r n)
  pub numbers : bar' ≡ sets bar 0 (bar_of r.job.stock.spec)

-- a job in hand, kept in lent memory
pub record TakesJob (h : Hold) (r : ℕ) (ws ws' : List ℕ) (bar bar' cs' rs' : List Float) (l' : List ℕ) : Type 0 where
  pub code : r ≡ 0
  pub kept : Kept h.state.run h.len ws ws' bar bar'
  pub cells : cs' ≡ h.state.cells
  pub rings : rs' ≡ h.state.rings
  pub line : l' ≡ h.line

-- ---- a job as if its input ended here; its bar does not show

abbrev pub no_bar : List Float
no_bar = zero64 ∷ zero64 ∷ zero64 ∷ zero64 ∷ zero64 ∷ []

abbrev pub end_from : List ℕ → Run
end_from ws = finish_of (run_from ws no_bar) (held_in ws)

abbrev pub end_state : List ℕ → List Float → List Float → State
end_state ws cs rs = state (end_from ws) cs rs

-- a refusal is a number of 32 bits; a word over that, which no job has, is read as the last
abbrev pub refusal_of : Run → ℕ
refusal_of r = min r.refused 4294967295

-- the refusal, or 0; the number of the refused line, only where there is one
pub record EndsJob (e : Run) (r l l' : ℕ) : Type 0 where
  pub code : r ≡ refusal_of e
  pub line : l' ≡ pick (eqb e.refused 0) l e.lines

-- a line of the answer, and its length
pub record WritesJob (st : State) (k r n' : ℕ) (out out' : List ℕ) : Type 0 where
  pub code : r ≡ 0
  pub line : WroteLine out (get_or (output_of st) k []) out' n'

-- ---- the same of what is lent to a call, at its two moments: what contracts say

abbrev pub KeepsRun : Run → ℕ → Lent ℕ → Lent Float → Type 0
KeepsRun r n ws bar = Kept r n ws.entry.now ws.exit.now bar.entry.now bar.exit.now

abbrev pub HandsJob : ℕ → Lent ℕ → Lent Float → Lent Float → Lent Float → Lent ℕ → List ℕ → Type 0
HandsJob r ws bar cells rings line bytes =
    TakesJob (foldl byte_on (hold (state (run_from ws.entry.now bar.entry.now) cells.entry.now rings.entry.now) line.entry.now (held_in ws.entry.now)) bytes) r
    ws.entry.now ws.exit.now bar.entry.now bar.exit.now cells.exit.now rings.exit.now line.exit.now

abbrev pub HandsEnd : Run → ℕ → Out ℕ → Type 0
HandsEnd e r line = EndsJob e r line.entry.now line.exit.now

abbrev pub HandsLine : State → ℕ → ℕ → Lent ℕ → Out ℕ → Type 0
HandsLine st k r out len = WritesJob st k r len.exit.now out.entry.now out.exit.now
