-- A stock file between two calls of the C boundary, in flat words and numbers, and what the calls make of it. Assumes nothing.
use Rattle.std.specs.Prelude.{◌≡◌, Bool, not, List, [], ◌∷◌, ℕ, eqb, length, get_or, Float}
use Rattle.std.proofs.lemmas.List.Edits.{sets}
use Rattle.std.specs.Float.{nan}
use Rattle.refusals.specs.Paper.{Paper}
use Rattle.refusals.specs.Lent.{Lent, over}
use Rattle.floats.specs.Pick.{pick}
use Rattle.lines.specs.Hands.{Hand}
use Rattle.stock_lines.specs.declared.Bar.{Bar}
use Rattle.stock_lines.specs.declared.Reading.{Reading}
use Rattle.stock_lines.specs.Form.{bar_numbers}
use Rattle.stock_lines.specs.Reading.{State, state}
use Rattle.stock_file.specs.Read.{held_in, taking, ended, told_as}
use Rattle.stock_file.specs.declared.Kept.{Kept}
use Rattle.stock_file.specs.Write.{line_over}
use Rattle.turning.specs.Boundary.{Out, edition_in, code_of, out_of, place_out}
use Rattle.turning.specs.Jobs.{word_at}
use Rattle.turning.specs.JobCalls.{Flat}

-- ---- a reading's words: stage, cell lines, ring lines, lines, held, refused, form, edition

-- any number but 0 is a refusal
abbrev pub refused_in : List ℕ → Bool
refused_in ws = not (eqb (word_at ws 5) 0)

-- so many bytes of the unfinished line are held
abbrev pub held_from : List ℕ → ℕ
held_from ws = word_at ws 4

-- the bar: z_min, z_max, outer, bore, cell
abbrev pub bar_in : List Float → Bar
bar_in bar =
    record {
      z_min_mm = get_or bar 0 nan;
      z_max_mm = get_or bar 1 nan;
      outer_radius_mm = get_or bar 2 nan;
      bore_radius_mm = get_or bar 3 nan;
      cell_mm = get_or bar 4 nan;
    }

-- the reading that they are
abbrev pub reading_from : List ℕ → List Float → Reading
reading_from ws bar = record { stage = word_at ws 0; form = word_at ws 6; edition = edition_in (word_at ws 7); bar = bar_in bar; cells = word_at ws 1; rings = word_at ws 2; lines = word_at ws 3; refused = refused_in ws }

-- the words of a reading that holds n bytes
abbrev pub words_of : Reading → ℕ → List ℕ
words_of r n = r.stage ∷ r.cells ∷ r.rings ∷ r.lines ∷ n ∷ pick r.refused 16 0 ∷ r.form ∷ r.edition ∷ []

-- the words and the bar hold a reading that holds n bytes, from their first place on
pub record KeptReading (r : Reading) (n : ℕ) (ws ws' : List ℕ) (bar bar' : List Float) : Type 0 where
  pub words : ws' ≡ sets ws 0 (words_of r n)
  pub numbers : bar' ≡ sets bar 0 (bar_numbers r.bar)

-- ---- bytes taken

-- a reading after a part, put into what is lent for it
abbrev pub put_into : Flat → Hand State → Flat
put_into f h =
    record {
      words = sets f.words 0 (words_of h.job.reading (length h.held));
      bar = sets f.bar 0 (bar_numbers h.job.reading.bar);
      cells = h.job.cells;
      rings = h.job.rings;
      line = over h.held f.line;
    }

-- some bytes more of the reading that is lent, behind the unfinished line
abbrev pub taking_in : Flat → List ℕ → Hand State
taking_in f s = taking (state (reading_from f.words f.bar) f.cells f.rings) (held_in (held_from f.words) f.line) s

-- what a part leaves; after a refused line, all as it was
unfoldable pub after_part : Flat → List ℕ → Flat
after_part f s = pick (refused_in f.words) f (put_into f (taking_in f s))

-- all that is lent is what the part leaves, and 16 tells that a line is refused, of this part or before it
pub record TakesFile (f g : Flat) (s : List ℕ) (r : ℕ) : Type 0 where
  pub left : g ≡ after_part f s
  pub code : r ≡ pick (taking_in f s).job.reading.refused 16 0

-- ---- the end

-- what a reading tells as if its bytes ended here
abbrev pub told_from : List ℕ → List Float → ℕ → List Float → List Float → Paper Kept
told_from ws bar most cs rs = told_as (ended (reading_from ws bar) (held_from ws)) most cs rs

-- what the end hands out: how many cells and rings the room holds and the edition, or the refusal, and its line where it has one
pub record GivesKept (p : Paper Kept) (r n n' m m' e e' l l' : ℕ) : Type 0 where
  pub code : r ≡ code_of p
  pub cells : n' ≡ out_of (λ (s : Kept). s.cells) p n
  pub rings : m' ≡ out_of (λ (s : Kept). s.stock.rings) p m
  pub edition : e' ≡ out_of (λ (s : Kept). s.stock.stamp.edition) p e
  pub line : l' ≡ place_out p l

-- ---- a line of the file of a stock, and its length

pub record GivesFileLine (p : Paper (List ℕ)) (r n n' : ℕ) (l l' : List ℕ) : Type 0 where
  pub code : r ≡ code_of p
  pub len : n' ≡ out_of (λ (s : List ℕ). length s) p n
  pub line : l' ≡ line_over p l

-- ---- the same of what is lent to a call, at its two moments: what contracts say

abbrev pub KeepsReading : Reading → ℕ → Lent ℕ → Lent Float → Type 0
KeepsReading r n ws bar = KeptReading r n ws.entry.now ws.exit.now bar.entry.now bar.exit.now

abbrev pub flat_of : List ℕ → List Float → List Float → List Float → List ℕ → Flat
flat_of ws bar cs rs l = record { words = ws; bar = bar; cells = cs; rings = rs; line = l }

abbrev pub HandsPart : ℕ → Lent ℕ → Lent Float → Lent Float → Lent Float → Lent ℕ → List ℕ → Type 0
HandsPart r ws bar cells rings line s =
    TakesFile (flat_of ws.entry.now bar.entry.now cells.entry.now rings.entry.now line.entry.now)
    (flat_of ws.exit.now bar.exit.now cells.exit.now rings.exit.now line.exit.now) s r

abbrev pub HandsKept : Paper Kept → ℕ → Out ℕ → Out ℕ → Out ℕ → Out ℕ → Type 0
HandsKept p r n m e line = GivesKept p r n.entry.now n.exit.now m.entry.now m.exit.now e.entry.now e.exit.now line.entry.now line.exit.now

abbrev pub HandsFileLine : Paper (List ℕ) → ℕ → Lent ℕ → Out ℕ → Type 0
HandsFileLine p r line len = GivesFileLine p r len.entry.now len.exit.now line.entry.now line.exit.now
