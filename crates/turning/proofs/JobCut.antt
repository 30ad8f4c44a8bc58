-- However a job is cut into parts for the C calls, their answer is that of the whole file. Assumes nothing.
use mathlib.Core.Path.{◌≡◌, refl, sym, ap, ◌∙◌, subst}
use mathlib.Core.Bool.{Bool, true, false, not}
use mathlib.Core.List.{List, [], ◌∷◌, ◌++◌, foldl}
use Prim.Native.Nat.{ℕ, min}
use native.Mathlib.Omega.{arith}
use lib.Dec.{eqb}
use lib.ListN.{length, drop, get_or}
use lib.Seq.{get_or-drop, sets-eq, length-sets}
use lib.Ieee.{Float}
use borrow.Author.Tests.{ne_eqb}
use Rattle.floats.specs.Pick.{pick}
use Rattle.text.proofs.Chosen.{yes, no}
use Rattle.lines.specs.File.{joined}
use Rattle.job_run.specs.declared.Run.{Run}
use Rattle.job_run.specs.Run.{State, state, fresh_run, refused_with, Hold, hold, byte_on, is_empty, finish_of, output_of, job_of}
use Rattle.job_run.proofs.WholeFile.{take_parts, end_of, however-cut}
use Rattle.stock.specs.Stock.{stock_from}
use Rattle.job_run.proofs.Streamed.{parts_stay}
use Rattle.job_run.proofs.Editions.{edition_of, bytes-keep}
use Rattle.job_run.proofs.Room.{Alike, alike-job, alike-output, alike-fresh}
use Rattle.turning.specs.Boundary.{edition_in}
use Rattle.turning.specs.Jobs.{word_at, run_from, held_in, words_of, bar_of, Kept, TakesJob, no_bar, end_from, end_state, EndsJob}
use Rattle.turning.specs.JobCalls.{Flat, in_hand, TookFlat, start, part}

-- eight words and five numbers
record Sized (f : Flat) : Type 0 where
  words : length f.words ≡ 8
  bar : length f.bar ≡ 5

-- what is put into them is found there
kept_run : (r : Run) (n : ℕ) (ws ws' : List ℕ) (bar bar' : List Float) → length ws ≡ 8 → length bar ≡ 5 → edition_in (word_at ws 7) ≡ edition_of r.job → Kept r n ws ws' bar bar' → run_from ws' bar' ≡ r
kept_run r n ws ws' bar bar' hw hb same k =
    ap (λ (x : List ℕ). run_from x bar') (k.words ∙ sets-eq (words_of r n) ws 0 (omega (arith, hw)))
    ∙ ap (λ (x : List Float). run_from (words_of r n ++ drop 7 ws) x) (k.numbers ∙ sets-eq (bar_of r.job.stock.spec) bar 0 (omega (arith, hb)))
    ∙ (λ i. record { job = record { stock = stock_from r.job.stock.spec ((ap edition_in (get_or-drop 7 ws 0 0) ∙ same) i) r.job.stock.rings r.job.stock.stamp.generation; cells = r.job.cells }; lines = r.lines; refused = r.refused })

kept-held : (r : Run) (n : ℕ) (ws ws' : List ℕ) (bar bar' : List Float) → length ws ≡ 8 → Kept r n ws ws' bar bar' → held_in ws' ≡ n
kept-held r n ws ws' bar bar' hw k = ap held_in (k.words ∙ sets-eq (words_of r n) ws 0 (omega (arith, hw)))

-- a part taken
record Next (f g : Flat) (p : List ℕ) : Type 0 where
  sized : Sized g
  same : in_hand g ≡ foldl byte_on (in_hand f) p

next-is : (f g : Flat) (p : List ℕ) (r : ℕ) → Sized f → TakesJob (foldl byte_on (in_hand f) p) r f.words g.words f.bar g.bar g.cells g.rings g.line → Next f g p
next-is f g p r s t =
    let h = foldl byte_on (in_hand f) p in
    let er : run_from g.words g.bar ≡ h.state.run = kept_run h.state.run h.len _ _ _ _ s.words s.bar (sym (bytes-keep p (in_hand f))) t.kept in
    let en : held_in g.words ≡ h.len = kept-held h.state.run h.len _ _ _ _ s.words t.kept in
    record {
      sized = record {
        words = ap length t.kept.words ∙ length-sets f.words 0 (words_of h.state.run h.len) ∙ s.words;
        bar = ap length t.kept.numbers ∙ length-sets f.bar 0 (bar_of h.state.run.job.stock.spec) ∙ s.bar;
      };
      same =
          ap (λ (x : Run). hold (state x g.cells g.rings) g.line (held_in g.words)) er
          ∙ ap (λ (x : List Float). hold (state h.state.run x g.rings) g.line (held_in g.words)) t.cells
          ∙ ap (λ (x : List Float). hold (state h.state.run h.state.cells x) g.line (held_in g.words)) t.rings
          ∙ ap (λ (x : List ℕ). hold h.state x (held_in g.words)) t.line
          ∙ ap (λ (x : ℕ). hold h.state h.line x) en;
    }

took-flat : {f k : Flat} {ps : List (List ℕ)} → Sized f → TookFlat f ps k → in_hand k ≡ take_parts (in_hand f) ps
took-flat s start = refl
took-flat s (part {f} {g} {p = p} {ps = ps} t r) =
    let n = next-is f g p _ s t in
    took-flat n.sized r ∙ ap (λ (x : Hold). take_parts x ps) n.same

-- the bar does not show in an answer
no-bar : (r r' : Run) (n : ℕ) (cs rs : List Float) → r.lines ≡ r'.lines → r.refused ≡ r'.refused → r.job.cells ≡ r'.job.cells → r.job.stock.rings ≡ r'.job.stock.rings → r.job.stock.stamp.generation ≡ r'.job.stock.stamp.generation
    → output_of (state (finish_of r n) cs rs) ≡ output_of (state (finish_of r' n) cs rs)
unfolding output_of finish_of refused_with
no-bar r r' n cs rs el er ec ek eg = by (not (eqb r.refused 0)) refl (not (eqb n 0)) refl (is_empty r) refl
  where
    by : (t : Bool) → not (eqb r.refused 0) ≡ t → (u : Bool) → not (eqb n 0) ≡ u → (v : Bool) → is_empty r ≡ v → output_of (state (finish_of r n) cs rs) ≡ output_of (state (finish_of r' n) cs rs)
    by true e u f v g = simp (← el, ← er, ← ec, ← ek, ← eg, e, yes)
    by false e true f v g = simp (← el, ← er, ← ec, ← ek, ← eg, e, f, yes, no)
    by false e false f true g = simp (← el, ← er, ← ec, ← ek, ← eg, e, f, g, yes, no)
    by false e false f false g = simp (← el, ← er, ← ec, ← ek, ← eg, e, f, g, no)

-- nor in what `turning_job_finish` tells
no-bar-told : (r r' : Run) (n : ℕ) → r.lines ≡ r'.lines → r.refused ≡ r'.refused → r.job.cells ≡ r'.job.cells → ((finish_of r n).refused ≡ (finish_of r' n).refused) × ((finish_of r n).lines ≡ (finish_of r' n).lines)
unfolding finish_of refused_with
no-bar-told r r' n el er ec = by (not (eqb r.refused 0)) refl (not (eqb n 0)) refl (is_empty r) refl
  where
    by : (t : Bool) → not (eqb r.refused 0) ≡ t → (u : Bool) → not (eqb n 0) ≡ u → (v : Bool) → is_empty r ≡ v → ((finish_of r n).refused ≡ (finish_of r' n).refused) × ((finish_of r n).lines ≡ (finish_of r' n).lines)
    by true e u f v g = (simp (← el, ← er, ← ec, e, yes), simp (← el, ← er, ← ec, e, yes))
    by false e true f v g = (simp (← el, ← er, ← ec, e, f, yes, no), simp (← el, ← er, ← ec, e, f, yes, no))
    by false e false f true g = (simp (← el, ← er, ← ec, e, f, g, yes, no), simp (← el, ← er, ← ec, e, f, g, yes, no))
    by false e false f false g = (simp (← el, ← er, ← ec, e, f, g, no), simp (← el, ← er, ← ec, e, f, g, no))

-- the job in hand after its parts, as if its input ended there, is alike to that of the whole file
whole-alike : {f k : Flat} {ps : List (List ℕ)} {e : ℕ} → f.words ≡ (0 ∷ 0 ∷ 0 ∷ 0 ∷ 0 ∷ 0 ∷ 0 ∷ e ∷ []) → length f.bar ≡ 5 → length f.line ≡ 128 → TookFlat f ps k
    → (cs rs : List Float) → length cs ≡ length f.cells → length rs ≡ length f.rings → Alike (end_of (in_hand k)) (job_of (state (fresh_run (edition_in e)) cs rs) (joined ps))
whole-alike {f} {k} {ps} {e} zeros hb hl t cs rs ec er =
    let s : Sized f = record { words = ap length zeros; bar = hb } in
    let st = state (run_from f.words f.bar) f.cells f.rings in
    let held : held_in f.words ≡ 0 = ap held_in zeros in
    let q : in_hand k ≡ take_parts (hold st f.line 0) ps = took-flat s t ∙ ap (λ (n : ℕ). take_parts (hold st f.line n) ps) held in
    let a : Alike st (state (fresh_run (edition_in e)) cs rs) = alike-fresh st (state (fresh_run (edition_in e)) cs rs) (ap (λ (x : List ℕ). get_or x 4 0) zeros) (ap (λ (x : List ℕ). get_or x 5 0) zeros) (ap (λ (x : List ℕ). get_or x 1 0) zeros) refl (ap (λ (x : List ℕ). get_or x 2 0) zeros) refl (ap (λ (x : List ℕ). get_or x 3 0) zeros) (sym ec) (sym er) in
    let same : end_of (in_hand k) ≡ job_of st (joined ps) = ap end_of q ∙ however-cut st f.line ps (omega (arith, hl)) in
    subst (λ (x : State). Alike x (job_of (state (fresh_run (edition_in e)) cs rs) (joined ps))) (sym same) (alike-job (joined ps) st (state (fresh_run (edition_in e)) cs rs) a)

-- HOWEVER THE BYTES ARE CUT, FROM WORDS THAT ARE ALL 0 UP TO THE EDITION: whatever else is lent, what `turning_job_output` is then of is the job of the whole file in a room that held anything.
pub job-in-c : {f k : Flat} {ps : List (List ℕ)} {e : ℕ} → f.words ≡ (0 ∷ 0 ∷ 0 ∷ 0 ∷ 0 ∷ 0 ∷ 0 ∷ e ∷ []) → length f.bar ≡ 5 → length f.line ≡ 128 → TookFlat f ps k
    → (cs rs : List Float) → length cs ≡ length f.cells → length rs ≡ length f.rings → output_of (end_state k.words k.cells k.rings) ≡ output_of (job_of (state (fresh_run (edition_in e)) cs rs) (joined ps))
job-in-c {k = k} {e = e} zeros hb hl t cs rs ec er =
    no-bar (run_from k.words no_bar) (run_from k.words k.bar) (held_in k.words) k.cells k.rings refl refl refl refl refl ∙ alike-output _ _ (whole-alike zeros hb hl t cs rs ec er)

-- AND `turning_job_finish` TELLS THE WHOLE FILE'S REFUSAL AND ITS LINE: whatever meets its promise after these parts meets that of the whole file's run.
pub job-end-in-c : {f k : Flat} {ps : List (List ℕ)} {e : ℕ} → f.words ≡ (0 ∷ 0 ∷ 0 ∷ 0 ∷ 0 ∷ 0 ∷ 0 ∷ e ∷ []) → length f.bar ≡ 5 → length f.line ≡ 128 → TookFlat f ps k
    → (cs rs : List Float) → length cs ≡ length f.cells → length rs ≡ length f.rings → (r l l' : ℕ) → EndsJob (end_from k.words) r l l' → EndsJob (job_of (state (fresh_run (edition_in e)) cs rs) (joined ps)).run r l l'
job-end-in-c {k = k} {ps = ps} {e = e} zeros hb hl t cs rs ec er r l l' g =
    let n = no-bar-told (run_from k.words no_bar) (run_from k.words k.bar) (held_in k.words) refl refl refl in
    let a = whole-alike zeros hb hl t cs rs ec er in
    let refused : (end_from k.words).refused ≡ (job_of (state (fresh_run (edition_in e)) cs rs) (joined ps)).run.refused = n.0 ∙ a.refused in
    let lines : (end_from k.words).lines ≡ (job_of (state (fresh_run (edition_in e)) cs rs) (joined ps)).run.lines = n.1 ∙ a.lines in
    record {
      code = g.code ∙ ap (λ (x : ℕ). min x 4294967295) refused;
      line = g.line ∙ ap (λ (x : ℕ). pick (eqb x 0) l (end_from k.words).lines) refused ∙ ap (λ (x : ℕ). pick (eqb (job_of (state (fresh_run (edition_in e)) cs rs) (joined ps)).run.refused 0) l x) lines;
    }

-- A REFUSED LINE IS THE LAST: whatever parts `turning_job_take` is handed after a refusal, the words are of the same job, and its bar, cells, rings and line are as they were.
pub refused-in-c : {f k : Flat} {ps : List (List ℕ)} → length f.words ≡ 8 → length f.bar ≡ 5 → TookFlat f ps k → (get_or f.words 5 0 ≡ 0 → ⊥) → in_hand k ≡ in_hand f
refused-in-c {f} {k} {ps} hw hb t r = took-flat (record { words = hw; bar = hb }) t ∙ parts_stay ps (in_hand f) (ap not (ne_eqb _ _ r))
