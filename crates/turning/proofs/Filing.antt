-- A stock file kept in lent words and numbers between two calls. Assumes nothing.
use Rattle.std.specs.Prelude.{Result}
use mathlib.Core.Path.{◌≡◌, refl, sym, ap, ◌∙◌, subst}
use mathlib.Core.Bool.{Bool, true, false}
use mathlib.Core.List.{List, [], ◌∷◌}
use Prim.Native.Nat.{ℕ}
use lib.ListN.{length}
use lib.Seq.{sets}
use lib.Ieee.{Float}
use Rattle.floats.specs.Pick.{pick, pick_true, pick-false}
use Rattle.refusals.specs.Lent.{over}
use Rattle.refusals.specs.declared.Refusal.{Refusal}
use Rattle.refusals.specs.Number.{paper_of}
use Rattle.refusals.specs.Paper.{Paper, answers, refuses}
use Rattle.stock.specs.declared.TurnStock.{TurnStock}
use Rattle.lines.specs.Hands.{Hand}
use Rattle.lines.proofs.Parts.{stopped-takes}
use Rattle.stock_lines.specs.declared.Reading.{Reading}
use Rattle.stock_lines.specs.Form.{bar_numbers}
use Rattle.stock_lines.specs.Reading.{State, state, on_line}
use Rattle.stock_file.specs.declared.Kept.{Kept}
use Rattle.stock_file.specs.Read.{stopped, on_long, held_in, taking, ended, told_as}
use Rattle.stock_file.specs.Write.{length_of, WroteFileLine}
use Rattle.turning.specs.Boundary.{edition_in, code_of, out_of, Gives}
use Rattle.turning.specs.Jobs.{word_at}
use Rattle.turning.specs.JobCalls.{Flat}
use Rattle.turning.specs.Files.{refused_in, held_from, bar_in, reading_from, words_of, KeptReading, taking_in, put_into, after_part, TakesFile, flat_of, told_from, GivesKept, GivesFileLine}

-- the reading that the words and the bar are
pub reading-is : (ws : List ℕ) (bar : List Float) (t : Bool) (e : ℕ) → t ≡ refused_in ws → e ≡ edition_in (word_at ws 7)
    → ◌≡◌ {A = Reading} (record { stage = word_at ws 0; form = word_at ws 6; edition = e; bar = bar_in bar; cells = word_at ws 1; rings = word_at ws 2; lines = word_at ws 3; refused = t }) (reading_from ws bar)
reading-is ws bar t e et ee = λ i. record { stage = word_at ws 0; form = word_at ws 6; edition = ee i; bar = bar_in bar; cells = word_at ws 1; rings = word_at ws 2; lines = word_at ws 3; refused = et i }

-- put into them
pub kept-reading : (r : Reading) (n : ℕ) (ws : List ℕ) (bar : List Float) (v : ℕ) → v ≡ pick r.refused 16 0
    → KeptReading r n ws (sets ws 0 (r.stage ∷ r.cells ∷ r.rings ∷ r.lines ∷ n ∷ v ∷ r.form ∷ r.edition ∷ [])) bar (sets bar 0 (bar_numbers r.bar))
kept-reading r n ws bar v e = record { words = ap (λ (x : ℕ). sets ws 0 (r.stage ∷ r.cells ∷ r.rings ∷ r.lines ∷ n ∷ x ∷ r.form ∷ r.edition ∷ [])) e; numbers = refl }

-- an answer that says what the rule says
pub gives-kept : (p q : Paper Kept) (r n n' m m' e e' l l' : ℕ) → p ≡ q → GivesKept p r n n' m m' e e' l l' → GivesKept q r n n' m m' e e' l l'
gives-kept p q r n n' m m' e e' l l' h g = subst (λ (x : Paper Kept). GivesKept x r n n' m m' e e' l l') h g

-- a line of the file of a stock
pub same-file-line : (s s' : TurnStock) (f : TurnStock → Paper (List ℕ)) (a : Result ℕ Refusal) (l l' : List ℕ) → s ≡ s' → WroteFileLine l (f s) a l' → WroteFileLine l (f s') a l'
same-file-line s s' f a l l' e q = subst (λ (x : TurnStock). WroteFileLine l (f x) a l') e q

pub gives-file-line : (p : Paper (List ℕ)) (a : Result ℕ Refusal) (r n n' : ℕ) (l l' : List ℕ) → Gives (paper_of a) r n n' → WroteFileLine l p a l' → GivesFileLine p r n n' l l'
gives-file-line p a r n n' l l' g w = record {
  code = g.code ∙ ap code_of w.answer ∙ same_code p;
  len = g.out ∙ ap (λ (z : Paper ℕ). out_of (λ (k : ℕ). k) z n) w.answer ∙ same_length p;
  line = w.out;
}
  where
    same_code : (p : Paper (List ℕ)) → code_of (length_of p) ≡ code_of p
    same_code (answers s) = refl
    same_code (refuses c) = refl

    same_length : (p : Paper (List ℕ)) → out_of (λ (k : ℕ). k) (length_of p) n ≡ out_of (λ (s : List ℕ). length s) p n
    same_length (answers s) = refl
    same_length (refuses c) = refl

-- a line was refused before: all stays
pub part-refused : (f : Flat) (s : List ℕ) (a : Reading) (r : ℕ) → a ≡ reading_from f.words f.bar → a.refused ≡ true → r ≡ pick true 16 0 → TakesFile f f s r
unfolding after_part
part-refused f s a r ea h er =
    let e : refused_in f.words ≡ true = ap (λ (x : Reading). x.refused) (sym ea) ∙ h in
    let st : State = state (reading_from f.words f.bar) f.cells f.rings in
    let q : (taking_in f s).job.reading.refused ≡ true = ap (λ (j : Hand State). j.job.reading.refused) (stopped-takes stopped on_line on_long s st (held_in (held_from f.words) f.line) e) ∙ e in
    record { left = sym (pick_true _ _ _ e); code = er ∙ ap (λ (t : Bool). pick t 16 0) (sym q) }

-- bytes taken
pub part-taken : (ws ws' : List ℕ) (bar bar' cs cs' rs rs' : List Float) (l l' s : List ℕ) (a b : Reading) (m n r : ℕ) → a ≡ reading_from ws bar → a.refused ≡ false → m ≡ held_from ws
    → state b cs' rs' ≡ (taking (state a cs rs) (held_in m l) s).job → n ≡ length (taking (state a cs rs) (held_in m l) s).held → l' ≡ over (taking (state a cs rs) (held_in m l) s).held l
    → KeptReading b n ws ws' bar bar' → r ≡ pick b.refused 16 0 → TakesFile (flat_of ws bar cs rs l) (flat_of ws' bar' cs' rs' l') s r
unfolding after_part
part-taken ws ws' bar bar' cs cs' rs rs' l l' s a b m n r ea h em reads holds keeps k er =
    let f : Flat = flat_of ws bar cs rs l in
    let same : taking (state a cs rs) (held_in m l) s ≡ taking_in f s = λ j. taking (state (ea j) cs rs) (held_in (em j) l) s in
    let e : state b cs' rs' ≡ (taking_in f s).job = reads ∙ ap (λ (t : Hand State). t.job) same in
    let en : n ≡ length (taking_in f s).held = holds ∙ ap (λ (t : Hand State). length t.held) same in
    let el : l' ≡ over (taking_in f s).held l = keeps ∙ ap (λ (t : Hand State). over t.held l) same in
    let ew : ws' ≡ sets ws 0 (words_of (taking_in f s).job.reading (length (taking_in f s).held)) = k.words ∙ (λ j. sets ws 0 (words_of (e j).reading (en j))) in
    let eb : bar' ≡ sets bar 0 (bar_numbers (taking_in f s).job.reading.bar) = k.numbers ∙ (λ j. sets bar 0 (bar_numbers (e j).reading.bar)) in
    let put : flat_of ws' bar' cs' rs' l' ≡ put_into f (taking_in f s) = λ j. flat_of (ew j) (eb j) (e j).cells (e j).rings (el j) in
    record {
      left = put ∙ sym (pick-false _ _ _ (ap (λ (x : Reading). x.refused) (sym ea) ∙ h));
      code = er ∙ ap (λ (t : State). pick t.reading.refused 16 0) e;
    }

-- what the end tells
pub told_is : (ws : List ℕ) (bar : List Float) (most : ℕ) (cs rs : List Float) (a : Reading) (n : ℕ) (p : Paper Kept) → a ≡ reading_from ws bar → n ≡ held_from ws → p ≡ told_as (ended a n) most cs rs → p ≡ told_from ws bar most cs rs
told_is ws bar most cs rs a n p ea en e = e ∙ (λ j. told_as (ended (ea j) (en j)) most cs rs)
