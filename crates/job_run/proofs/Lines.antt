-- What a line, a part and the end do to a job. Assumes nothing.
use Rattle.std.proofs.Common.{◌≡◌, ℕ, ◌+◌, ◌*◌, ◌/◌, ◌<◌, ◌≤◌, Bool, true, false, eqb, List, [], ◌∷◌, ◌++◌, length, get_or, take, set, sym, refl, ap, ◌∙◌, subst, arith, length-append, length-take, le-ltb, lt-ltb, eq-eqb, ne_eqb, Err, Ok, Result}
use lib.Ieee.{Float}
use Rattle.refusals.specs.declared.Refusal.{Refusal}
use Rattle.refusals.specs.declared.Refusal.TheVariants.{LineMalformed}
use Rattle.refusals.specs.Number.{number_of, reason_of}
use Rattle.refusals.specs.Paper.{Paper, Reason, answers, refuses, only}
use Rattle.text.proofs.Chosen.{yes, no}
use Rattle.stock.proofs.Count.{no_answer, same_answer}
use Rattle.job_run.specs.declared.line.Job.{Job}
use Rattle.job_run.proofs.Carrying.{same_number}
use Rattle.job_run.specs.Job.{Stand, full_room, job_line, Carries}
use Rattle.job_answer.specs.Lines.{gen_line}
use Rattle.job_words.specs.Kind.{most_cells}
use Rattle.job_answer.specs.Answer.{cell_line_at, ring_line_at, lines_to, answer_of}
use Rattle.job_answer.proofs.Nth.{lines-length}
use Rattle.job_run.specs.declared.Run.{Run}
use Rattle.job_run.specs.Run.{State, state, next, refused_with, refusing, answered, on_line, hold, byte_on, is_empty, finish_of, output_of, max_rings, most_lines}

-- ---- a line

carried-refused : (p : Paper Stand) (r : Run) (c : Refusal) (cs cs' rs rs' : List Float) → Carries p (Err c) cs cs' rs rs' → state (refusing r c) cs' rs' ≡ answered (state r cs rs) p
unfolding answered
carried-refused (answers s) r c cs cs' rs rs' w = absurd (no_answer (reason_of c) s.job w.answer)
carried-refused (refuses n) r c cs cs' rs rs' w =
    ap (λ (k : Reason). state (refused_with r k.number) cs' rs') (same_number {A = Job} w.answer)
    ∙ ap (λ (x : List Float). state (refused_with r n.number) x rs') w.cells
    ∙ ap (λ (x : List Float). state (refused_with r n.number) cs x) w.rings

carried-went : (p : Paper Stand) (r : Run) (j : Job) (cs cs' rs rs' : List Float) → Carries p (Ok j) cs cs' rs rs' → state (record { job = j; lines = next r; refused = 0 }) cs' rs' ≡ answered (state r cs rs) p
unfolding answered
carried-went (refuses n) r j cs cs' rs rs' w = absurd (no_answer (only n.number) j (sym w.answer))
carried-went (answers s) r j cs cs' rs rs' w =
    ap (λ (k : Job). state (record { job = k; lines = next r; refused = 0 }) cs' rs') (same_answer w.answer)
    ∙ ap (λ (x : List Float). state (record { job = s.job; lines = next r; refused = 0 }) x rs') w.cells
    ∙ ap (λ (x : List Float). state (record { job = s.job; lines = next r; refused = 0 }) s.cells x) w.rings

module _ (r : Run) (s : List ℕ) (room : ℕ) (full : room ≡ full_room) (cs cs' rs rs' : List Float) (d : Result Job Refusal) (w : Carries (job_line r.job s room cs rs) d cs cs' rs rs') where
  told : (x : Result Job Refusal) → d ≡ x → Carries (job_line r.job s full_room cs rs) x cs cs' rs rs'
  told x e = subst (λ (y : Result Job Refusal). Carries (job_line r.job s full_room cs rs) y cs cs' rs rs') e (subst (λ (n : ℕ). Carries (job_line r.job s n cs rs) d cs cs' rs rs') full w)

  pub line_refused : (c : Refusal) (q : Run) → d ≡ Err c → q ≡ refusing r c → state q cs' rs' ≡ on_line (state r cs rs) s
  unfolding on_line
  line_refused c q e eq = rw eq (carried-refused _ r c cs cs' rs rs' (told _ e))

  pub line-went : (j : Job) (l : ℕ) → d ≡ Ok j → l ≡ next r → state (record { job = j; lines = l; refused = 0 }) cs' rs' ≡ on_line (state r cs rs) s
  unfolding on_line
  line-went j l e el = rw el (carried-went _ r j cs cs' rs rs' (told _ e))

-- the next line refused
pub refused-is : (r : Run) (c : Refusal) (l n : ℕ) → l ≡ next r → n ≡ number_of c → ◌≡◌ {A = Run} (record { job = r.job; lines = l; refused = n }) (refusing r c)
unfolding refused_with
refused-is r c l n el en = rw (el, en)

-- ---- the end
pub finish-stopped : (j : Run) (n : ℕ) → (j.refused ≡ 0 → ⊥) → j ≡ finish_of j n
unfolding finish_of
finish-stopped j n h = simp (ne_eqb _ _ h, yes)

pub finish-cut : (j : Run) (n : ℕ) → j.refused ≡ 0 → (n ≡ 0 → ⊥) → refusing j LineMalformed ≡ finish_of j n
unfolding finish_of
finish-cut j n h k = simp (eq-eqb _ _ h, ne_eqb _ _ k, no, yes)

pub finish-empty : (j : Run) (n : ℕ) → j.refused ≡ 0 → n ≡ 0 → is_empty j ≡ true → refusing j LineMalformed ≡ finish_of j n
unfolding finish_of
finish-empty j n h k l = simp (eq-eqb _ _ h, eq-eqb _ _ k, l, no, yes)

pub finish-done : (j : Run) (n : ℕ) → j.refused ≡ 0 → n ≡ 0 → is_empty j ≡ false → j ≡ finish_of j n
unfolding finish_of
finish-done j n h k l = simp (eq-eqb _ _ h, eq-eqb _ _ k, l, no)

-- ---- a byte
pub byte-stopped : (st : State) (l : List ℕ) (n b : ℕ) → (st.run.refused ≡ 0 → ⊥) → hold st l n ≡ byte_on (hold st l n) b
unfolding byte_on
byte-stopped st l n b h = simp (ne_eqb _ _ h, yes)

module _ (st : State) (l : List ℕ) (n b : ℕ) (l' : List ℕ) (put : l' ≡ set l n b) (h : st.run.refused ≡ 0) where
  pub byte-ends : (after : State) → b ≡ 10 → after ≡ on_line st (take n l) → hold after l' 0 ≡ byte_on (hold st l n) b
  unfolding byte_on
  byte-ends after k e = rw (e, put) (simp (eq-eqb _ _ h, eq-eqb _ _ k, no, yes))

  pub byte-held : (b ≡ 10 → ⊥) → n < 127 → hold st l' (n + 1) ≡ byte_on (hold st l n) b
  unfolding byte_on
  byte-held k r = rw put (simp (eq-eqb _ _ h, ne_eqb _ _ k, lt-ltb n 127 r, no, yes))

  pub byte-over : (j : Run) → (b ≡ 10 → ⊥) → 127 ≤ n → j ≡ refusing st.run LineMalformed → hold (state j st.cells st.rings) l' 0 ≡ byte_on (hold st l n) b
  unfolding byte_on
  byte-over j k r e = rw (e, put) (simp (eq-eqb _ _ h, ne_eqb _ _ k, le-ltb n 127 r, no))

-- ---- the output
pub output-is : (r : Run) (cs rs xs ys : List Float) (k : ℕ) → xs ≡ take (4 * r.job.cells) cs → ys ≡ take (4 * r.job.stock.rings) rs → get_or (answer_of r.refused r.lines r.job.stock.stamp.generation xs ys) k [] ≡ get_or (output_of (state r cs rs)) k []
unfolding output_of
output-is r cs rs xs ys k ex ey = rw (ex, ey)

-- an answer has so many lines at most
pub output-most : (r : Run) (cs rs : List Float) → length cs ≡ 4 * most_cells → length rs ≡ 4 * max_rings → length (output_of (state r cs rs)) ≤ most_lines
unfolding output_of answer_of
output-most r cs rs hc hr = by (eqb r.refused 0) refl
  where
    xs : List Float
    xs = take (4 * r.job.cells) cs

    ys : List Float
    ys = take (4 * r.job.stock.rings) rs

    by : (t : Bool) → eqb r.refused 0 ≡ t → length (answer_of r.refused r.lines r.job.stock.stamp.generation xs ys) ≤ most_lines
    by true e =
        simp (e, yes)
        (omega (
          arith,
          hc,
          hr,
          length-take (4 * r.job.cells) cs,
          length-take (4 * r.job.stock.rings) rs,
          length-append (lines_to (cell_line_at xs) (length xs / 4)) (lines_to (ring_line_at ys) (length ys / 4) ++ (gen_line r.job.stock.stamp.generation ∷ [])),
          length-append (lines_to (ring_line_at ys) (length ys / 4)) (gen_line r.job.stock.stamp.generation ∷ []),
          lines-length (cell_line_at xs) (length xs / 4),
          lines-length (ring_line_at ys) (length ys / 4),
        ))
    by false e = simp (e, no) (omega arith)
