-- The lines of the chords put one behind the other, and what a profile becomes. Assumes nothing.
use Rattle.std.proofs.Common.{◌≡◌, ℕ, zero, suc, ◌+◌, ◌*◌, ◌/◌, ◌<◌, ◌≤◌, Bool, true, false, leb, List, [], ◌∷◌, ◌++◌, length, take, drop, sym, refl, ap, ◌∙◌, subst, ap₂, append_assoc, add-one, arith, eq-eqb, ne_eqb, le-leb, leb-true, Option, None, Some, Err, Ok, Result}
use lib.ListN.{get_or-append}
use lib.Seq.{sets-eq, take-append_seam}
use lib.Ieee.{Float, nan}
use Rattle.floats.specs.Pick.{pick_true, pick-false}
use Rattle.text.proofs.Chosen.{yes, no}
use Rattle.text.specs.Wrote.{Wrote}
use Rattle.text.specs.Digits.{decimal_of}
use Rattle.text.proofs.Spelling.{decimal-short}
use Rattle.refusals.specs.declared.Refusal.{Refusal}
use Rattle.refusals.specs.Number.{number_of, reason_of}
use Rattle.refusals.specs.Paper.{Paper, Reason, answers, refuses, demand-true}
use Rattle.refusals.specs.Lent.{over}
use Rattle.stock.specs.declared.TurnSide.{TurnSide}
use Rattle.stock.specs.declared.TurnSide.TheVariants.{Outer, Inner}
use Rattle.stock.proofs.Count.{no_answer}
use Rattle.numbers.specs.Whole.{whole_up, ceiling_of, at_most}
use Rattle.profile.specs.Chords.{Chord, flat_of, room_for, segments_of, count_of, Segmented}
use Rattle.profile.proofs.Answers.{flat-length}
use Rattle.profile.proofs.Laws.{Accepted, accepted}
use Rattle.streams.specs.declared.Out.{Out}
use Rattle.streams.specs.Moves.{Gathers, Puts}
use Rattle.job_answer.specs.Lines.{refused_line}
use Rattle.chop_lines.specs.Scan.{State}
use Rattle.chop_lines.specs.Spelled.{micrometres, has_minus, micro_field, line_words, number_at, chord_text, chord_texts}
use Rattle.chop_lines.specs.Chopped.{most_chords, text_by, text_of, AllPut}

-- ---- a number

pub field-minus : (x : Float) {n : ℕ} {t : Bool} → n ≡ micrometres x → t ≡ has_minus x n → t ≡ true → (9 ∷ 45 ∷ []) ++ decimal_of n ≡ micro_field x
unfolding micro_field
field-minus x en et e = ap (λ (k : ℕ). (9 ∷ 45 ∷ []) ++ decimal_of k) en ∙ sym (pick_true _ _ _ (ap (has_minus x) (sym en) ∙ sym et ∙ e))

pub field_plain : (x : Float) {n : ℕ} {t : Bool} → n ≡ micrometres x → t ≡ has_minus x n → t ≡ false → (9 ∷ []) ++ decimal_of n ≡ micro_field x
unfolding micro_field
field_plain x en et e = ap (λ (k : ℕ). (9 ∷ []) ++ decimal_of k) en ∙ sym (pick-false _ _ _ (ap (has_minus x) (sym en) ∙ sym et ∙ e))

pub micro-short : (x : Float) → length (micro_field x) ≤ 22
unfolding micro_field
micro-short x = by (has_minus x (micrometres x)) refl
  where
    by : (t : Bool) → has_minus x (micrometres x) ≡ t → length (micro_field x) ≤ 22
    by true e = simp (e, yes) (omega (arith, decimal-short (micrometres x)))
    by false e = simp (e, no) (omega (arith, decimal-short (micrometres x)))

up-most : (o : Option ℕ) (limit n : ℕ) → at_most limit o ≡ Some n → n ≤ limit
up-most None limit n e = absurd (let z : ◌≡◌ {A = ℕ} 0 1 = cc in omega arith)
up-most (Some m) limit n e = by (leb m limit) refl
  where
    same : {a b : ℕ} → Some a ≡ Some b → a ≡ b
    same h = cc

    by : (t : Bool) → leb m limit ≡ t → n ≤ limit
    by true h =
        let q : m ≡ n = same (sym (pick_true _ _ _ h) ∙ e) in
        let k : m ≤ limit = leb-true m limit h in
        omega (arith, q, k)
    by false h = absurd (let k : None ≡ Some n = sym (pick-false _ _ _ h) ∙ e in let z : ◌≡◌ {A = ℕ} 0 1 = cc in omega arith)

pub up-within : (q : Float) (limit n : ℕ) → whole_up q limit ≡ Some n → n ≤ limit
unfolding whole_up
up-within q limit n e = up-most (ceiling_of q) limit n e

pub words_long : (side : TurnSide) → length (line_words side) ≡ 10
words_long Outer = refl
words_long Inner = refl

-- ---- bytes put behind those that are gathered

pub wrote-front : {l t m : List ℕ} {j : ℕ} → j ≤ length l → Wrote l 0 t m j → take j m ≡ t
wrote-front {l} {t} {m} {j} h w =
    let k : j ≡ length t = omega (arith, w.end) in
    rw (k, w.text, sets-eq t l 0 (omega (arith, h, k))) (take-append_seam t (drop (0 + length t) l))

pub puts-text : {out r : Out} {buf buf' l t m : List ℕ} {j : ℕ} → j ≤ length l → Wrote l 0 t m j → Puts out buf (take j m) r buf' → Puts out buf t r buf'
puts-text {out} {r} {buf} {buf'} h w p = subst (λ (x : List ℕ). Puts out buf x r buf') (wrote-front h w) p

gathers-more : {p a p' b q : List ℕ} → Gathers p a p' → Gathers p' b q → Gathers p (a ++ b) q
gathers-more {p} {a} {p'} {b} {q} g h = record {
  handed = g.handed ++ h.handed;
  split = append_assoc g.handed h.handed q ∙ ap (λ (x : List ℕ). g.handed ++ x) h.split ∙ sym (append_assoc g.handed p' b) ∙ ap (λ (x : List ℕ). x ++ b) g.split ∙ append_assoc p a b;
}

not-failed : (a b : Bool) → (a ≡ true → b ≡ true) → b ≡ false → a ≡ false
not-failed true b h e = sym (h refl) ∙ e
not-failed false b h e = refl

pub puts-more : {out r q : Out} {buf buf' buf'' a b : List ℕ} → Puts out buf a r buf' → Puts r buf' b q buf'' → Puts out buf (a ++ b) q buf''
puts-more {out} {r} {q} u v = record {
  stopped = λ f. v.stopped (u.stopped f);
  gathers = λ f. gathers-more (u.gathers (not-failed r.failed q.failed v.stopped f)) (v.gathers f);
}

pub put-none : (out : Out) (buf : List ℕ) → out.len ≡ 0 → AllPut [] out buf
put-none out buf e = record { all = λ f. record { handed = []; split = ap (λ (n : ℕ). take n buf) e } }

-- the same bytes under another name
pub all-put : {out : Out} {buf a b : List ℕ} → a ≡ b → AllPut a out buf → AllPut b out buf
all-put {out} {buf} e p = subst (λ (x : List ℕ). AllPut x out buf) e p

pub put_on : {out r : Out} {buf buf' a b : List ℕ} → AllPut a out buf → Puts out buf b r buf' → AllPut (a ++ b) r buf'
put_on {out} {r} a p = record { all = λ f. gathers-more (a.all (not-failed out.failed r.failed p.stopped f)) (p.gathers f) }

-- ---- the lines of chords

pub texts-more : (side : TurnSide) (rn : Float) (xs : List Float) (k : ℕ) → chord_texts side rn xs k ++ chord_text side rn xs k ≡ chord_texts side rn xs (k + 1)
unfolding chord_texts
texts-more side rn xs k = sym (ap (chord_texts side rn xs) (add-one k))

front_at : (l : List Chord) (bs : List Float) (i : ℕ) → i < 5 * length l → number_at (over (flat_of l) bs) i ≡ number_at (flat_of l) i
unfolding over
front_at l bs i h = get_or-append (flat_of l) (drop (length (flat_of l)) bs) nan i (omega (arith, flat-length l, h))

texts-front : (side : TurnSide) (rn : Float) (l : List Chord) (bs : List Float) (k : ℕ) → k ≤ length l → chord_texts side rn (over (flat_of l) bs) k ≡ chord_texts side rn (flat_of l) k
unfolding chord_texts chord_text
texts-front side rn l bs zero h = refl
texts-front side rn l bs (suc k) h =
    rw (
      texts-front side rn l bs k (omega arith),
      front_at l bs (5 * k + 4) (omega arith),
      front_at l bs (5 * k) (omega arith),
      front_at l bs (5 * k + 1) (omega arith),
      front_at l bs (5 * k + 2) (omega arith),
      front_at l bs (5 * k + 3) (omega arith),
    )

-- ---- what a profile becomes

same_number : (n m : Reason) → ◌≡◌ {A = Paper ℕ} (refuses n) (refuses m) → n ≡ m
same_number n m e = cc

pub text-scan : (st : State) → (st.scan.refused ≡ 0 → ⊥) → refused_line st.scan.lines st.scan.refused ≡ text_of st
unfolding text_of
text-scan st h = sym (pick-false _ _ _ (ne_eqb _ _ h))

module _ (st : State) (bs ws : List Float) {r : (Result ℕ Refusal)} (goes : st.scan.refused ≡ 0) (room : length bs ≡ 20480) (s : Segmented st.points st.scan.tolerance r bs ws) where
  fits : length bs / 5 ≡ most_chords
  fits = ap (λ (n : ℕ). n / 5) room

  is : text_by st.scan (segments_of st.points st.scan.tolerance (length bs / 5)) ≡ text_of st
  unfolding text_of
  is = ap (λ (n : ℕ). text_by st.scan (segments_of st.points st.scan.tolerance n)) fits ∙ sym (pick_true _ _ _ (eq-eqb _ _ goes))

  pub text-refused : (c : Refusal) (n : ℕ) → r ≡ Err c → n ≡ number_of c → refused_line st.scan.lines n ≡ text_of st
  unfolding count_of text_by
  text-refused c n e en = ap (refused_line st.scan.lines) en ∙ by (segments_of st.points st.scan.tolerance (length bs / 5)) refl ∙ is
    where
      told : refuses (reason_of c) ≡ count_of (segments_of st.points st.scan.tolerance (length bs / 5))
      told = (subst (λ (x : Result ℕ Refusal). Segmented st.points st.scan.tolerance x bs ws) e s).answer

      by : (p : Paper (List Chord)) → segments_of st.points st.scan.tolerance (length bs / 5) ≡ p → refused_line st.scan.lines (number_of c) ≡ text_by st.scan (segments_of st.points st.scan.tolerance (length bs / 5))
      by (answers l) q = absurd (no_answer (reason_of c) (length l) (told ∙ ap count_of q))
      by (refuses m) q = ap (λ (k : Reason). refused_line st.scan.lines k.number) (same_number (reason_of c) m (told ∙ ap count_of q)) ∙ sym (ap (text_by st.scan) q)

  module _ (n : ℕ) (e : r ≡ Ok n) where
    a : Accepted st.points st.scan.tolerance n bs ws
    a = accepted _ _ n bs ws (subst (λ (x : Result ℕ Refusal). Segmented st.points st.scan.tolerance x bs ws) e s)

    pub chords-fit : length ws ≡ length bs → 5 * n ≤ length ws
    chords-fit h = omega (arith, h, room, a.many, a.fit)

    segments-are : segments_of st.points st.scan.tolerance (length bs / 5) ≡ answers a.chords
    unfolding segments_of room_for
    segments-are =
        demand-true _ _ _ a.good
        ∙ ap (room_for (length bs / 5)) a.are
        ∙ demand-true _ _ _ (le-leb _ _ a.fit)

    pub text-chords : chord_texts st.scan.side st.scan.rn ws n ≡ text_of st
    unfolding text_by
    text-chords =
        ap₂ (λ (xs : List Float) (k : ℕ). chord_texts st.scan.side st.scan.rn xs k) a.out a.many
        ∙ texts-front st.scan.side st.scan.rn a.chords bs (length a.chords) (omega arith)
        ∙ sym (ap (text_by st.scan) segments-are)
        ∙ is
