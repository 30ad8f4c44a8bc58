-- However a stock file is cut into parts for the C calls, what they tell and leave is that of the whole file. Assumes nothing.
use Rattle.std.specs.Prelude.{Option, None, Some}
use mathlib.Core.Path.{◌≡◌, refl, sym, ap, ◌∙◌, subst}
use mathlib.Core.Bool.{Bool, true, false, not}
use mathlib.Core.List.{List, [], ◌∷◌, ◌++◌}
use Prim.Native.Nat.{ℕ, ◌≤◌, ◌<◌, min, ◌^◌}
use native.Mathlib.Omega.{arith}
use native.Mathlib.Nat.{min-le_right, mod-eq_of_lt, mod-lt}
use lib.Dec.{eqb, ltb}
use lib.ListN.{length, drop}
use lib.Seq.{sets-eq, length-sets, length-take-le}
use borrow.Author.Tests.{eq-eqb, ne_eqb, eqb-true, eqb-false}
use Rattle.floats.specs.Pick.{pick, pick_true, pick-false}
use Rattle.refusals.proofs.Written.{length_over}
use Rattle.lines.specs.File.{joined, pieces_of, over_pieces}
use Rattle.lines.specs.File as file
use Rattle.text.proofs.Chosen.{yes, no}
use Rattle.lines.specs.Hands.{Hand, hand, byte_on, takes, in_turn}
use Rattle.lines.proofs.Parts.{stopped-takes}
use Rattle.lines.proofs.AnyCut.{any-cut}
use Rattle.stock_lines.specs.declared.Reading.{Reading}
use Rattle.stock_lines.specs.Form.{bar_numbers}
use Rattle.stock_lines.specs.declared.form.First.{First}
use Rattle.stock_lines.specs.declared.room.Took.{Took}
use Rattle.stock_lines.specs.declared.room.Took.TheVariants.{Cell, Ring, End, NoLine}
use Rattle.stock_lines.specs.First.{first_of, CanSay, one, two, three}
use Rattle.stock_lines.specs.Reading.{State, state, refusing, begun, onward_to, went, on_body, on_line}
use Rattle.stock_lines.proofs.Firsts.{first-spelled}
use Rattle.stock_file.specs.Read.{stopped, on_long, on_end, held_in, ended, told_as, file_in, read_of}
use Rattle.stock_file.proofs.Cut.{long-stops, takes-few, found-again, end_is}
use Rattle.stock_file.proofs.AnyBar.{fresh, any-bar}
use Rattle.turning.specs.JobCalls.{Flat}
use Rattle.turning.specs.Jobs.{word_at}
use Rattle.turning.specs.Files.{refused_in, held_from, bar_in, reading_from, words_of, taking_in, put_into, after_part, told_from}
use Rattle.turning.specs.FileCalls.{TookFile, start, part}

-- eight words, five numbers and a line
record Sized (f : Flat) : Type 0 where
  words : length f.words ≡ 8
  bar : length f.bar ≡ 5
  line : length f.line ≡ 128

-- the reading that is lent, with its unfinished line
abbrev in_file : Flat → Hand State
in_file f = hand (state (reading_from f.words f.bar) f.cells f.rings) (held_in (held_from f.words) f.line)

few-held : (f : Flat) → length f.line ≡ 128 → length (in_file f).held ≤ 127
few-held f e = let w = min-le_right (held_from f.words) 127 in omega (arith, e, w, length-take-le (min (held_from f.words) 127) f.line (omega (arith, e, w)))

-- ---- what is put into them is found there

refused-again : (t : Bool) → not (eqb (pick t 16 0) 0) ≡ t
refused-again true = ap (λ (n : ℕ). not (eqb n 0)) (pick_true true 16 0 refl)
refused-again false = ap (λ (n : ℕ). not (eqb n 0)) (pick-false false 16 0 refl)

module _ (f : Flat) (s : Sized f) (h : Hand State) where
  words_are : (put_into f h).words ≡ words_of h.job.reading (length h.held) ++ drop 8 f.words
  words_are = sets-eq (words_of h.job.reading (length h.held)) f.words 0 (omega (arith, s.words))

  bar-is : (put_into f h).bar ≡ bar_numbers h.job.reading.bar ++ drop 5 f.bar
  bar-is = sets-eq (bar_numbers h.job.reading.bar) f.bar 0 (omega (arith, s.bar))

  reading-is : h.job.reading.edition < 2 ^ 32 → reading_from (put_into f h).words (put_into f h).bar ≡ h.job.reading
  reading-is w =
      (λ j. reading_from (words_are j) (bar-is j))
      ∙ (λ j. record { stage = h.job.reading.stage; form = h.job.reading.form; edition = mod-eq_of_lt w j; bar = h.job.reading.bar; cells = h.job.reading.cells; rings = h.job.reading.rings; lines = h.job.reading.lines; refused = refused-again h.job.reading.refused j })

  held-is : length h.held ≤ 127 → held_in (held_from (put_into f h).words) (put_into f h).line ≡ h.held
  held-is w = found-again h.held f.line _ w (ap held_from words_are)

  put-sized : length h.held ≤ 127 → Sized (put_into f h)
  put-sized w = record {
    words = length-sets f.words 0 (words_of h.job.reading (length h.held)) ∙ s.words;
    bar = length-sets f.bar 0 (bar_numbers h.job.reading.bar) ∙ s.bar;
    line = length_over h.held f.line (omega (arith, s.line)) ∙ s.line;
  }

-- ---- an edition is a number of 32 bits

begun-small : (r : Reading) (s : List ℕ) (a : Option First) → first_of s ≡ a → r.edition < 2 ^ 32 → (begun r a).edition < 2 ^ 32
unfolding begun refusing
begun-small r s (Some f) h w = by (first-spelled s f.form f.edition f.bar h).says
  where
    by : {k e : ℕ} → CanSay k e → e < 2 ^ 32
    by one = omega arith
    by (two v) = v
    by (three v) = v
begun-small r s None h w = w

went-small : (r : Reading) (t : Took) → r.edition < 2 ^ 32 → (went r t).edition < 2 ^ 32
unfolding went onward_to refusing
went-small r Cell w = w
went-small r Ring w = w
went-small r End w = w
went-small r NoLine w = w

line_small : (st : State) (s : List ℕ) → st.reading.edition < 2 ^ 32 → (on_line st s).reading.edition < 2 ^ 32
unfolding on_line on_body refusing
line_small st s w = by (eqb st.reading.stage 0) refl (eqb st.reading.stage 1) refl
  where
    by : (t : Bool) → eqb st.reading.stage 0 ≡ t → (u : Bool) → eqb st.reading.stage 1 ≡ u → (on_line st s).reading.edition < 2 ^ 32
    by true e u f = simp (e, yes) (begun-small st.reading s (first_of s) refl w)
    by false e true f = simp (e, f, no, yes) (went-small st.reading _ w)
    by false e false f = simp (e, f, no) w

byte_small : (j : Hand State) (b : ℕ) → j.job.reading.edition < 2 ^ 32 → (byte_on stopped on_line on_long j b).job.reading.edition < 2 ^ 32
unfolding byte_on refusing
byte_small j b w = by (stopped j.job) refl (eqb b 10) refl (ltb (length j.held) 127) refl
  where
    by : (t : Bool) → stopped j.job ≡ t → (u : Bool) → eqb b 10 ≡ u → (v : Bool) → ltb (length j.held) 127 ≡ v → (byte_on stopped on_line on_long j b).job.reading.edition < 2 ^ 32
    by true e u f v g = simp (e, yes) w
    by false e true f v g = simp (e, f, no, yes) (line_small j.job j.held w)
    by false e false f true g = simp (e, f, g, no, yes) w
    by false e false f false g = simp (e, f, g, no) w

takes-small : (s : List ℕ) (j : Hand State) → j.job.reading.edition < 2 ^ 32 → (takes stopped on_line on_long j s).job.reading.edition < 2 ^ 32
unfolding takes
takes-small [] j w = w
takes-small (b ∷ s) j w = takes-small s (byte_on stopped on_line on_long j b) (byte_small j b w)

-- a part taken
record Next (f g : Flat) (p : List ℕ) : Type 0 where
  sized : Sized g
  same : in_file g ≡ takes stopped on_line on_long (in_file f) p

next-is : (f : Flat) (p : List ℕ) → Sized f → Next f (after_part f p) p
unfolding after_part
next-is f p s = by (refused_in f.words) refl
  where
    by : (t : Bool) → refused_in f.words ≡ t → Next f (after_part f p) p
    by true e = subst (λ (g : Flat). Next f g p) (sym (pick_true _ _ _ e)) (record { sized = s; same = sym (stopped-takes stopped on_line on_long p (in_file f).job (in_file f).held e) })
    by false e =
        let h : Hand State = taking_in f p in
        let w : length h.held ≤ 127 = takes-few p (in_file f) (few-held f s.line) in
        let small : h.job.reading.edition < 2 ^ 32 = takes-small p (in_file f) (mod-lt (word_at f.words 7) {m = 2 ^ 32} (omega arith)) in
        subst (λ (g : Flat). Next f g p) (sym (pick-false _ _ _ e))
        (record { sized = put-sized f s h w; same = λ j. hand (state (reading-is f s h small j) h.job.cells h.job.rings) (held-is f s h w j) })

record Parts (f k : Flat) (ps : List (List ℕ)) : Type 0 where
  sized : Sized k
  same : in_file k ≡ in_turn stopped on_line on_long (in_file f) ps

took-file : {f k : Flat} {ps : List (List ℕ)} → Sized f → TookFile f ps k → Parts f k ps
unfolding in_turn
took-file s start = record { sized = s; same = refl }
took-file s (part {f} {g} {p = p} {ps = ps} t r) =
    let n = subst (λ (x : Flat). Next f x p) (sym t.left) (next-is f p s) in
    let q = took-file n.sized r in
    record { sized = q.sized; same = q.same ∙ ap (λ (x : Hand State). in_turn stopped on_line on_long x ps) n.same }

-- ---- the end

-- of what is held only matters whether there is any
end-held : (r : Reading) (n : ℕ) (l : List ℕ) → length l ≡ 128 → ended r n ≡ ended r (length (held_in n l))
unfolding ended
end-held r n l e = ap (λ (t : Bool). pick r.refused r (pick t (pick (ltb r.stage 2) (refusing r) r) (refusing r))) (by (eqb n 0) refl)
  where
    long : length (held_in n l) ≡ min n 127
    long = let w = min-le_right n 127 in length-take-le (min n 127) l (omega (arith, e, w))

    by : (t : Bool) → eqb n 0 ≡ t → eqb n 0 ≡ eqb (length (held_in n l)) 0
    by true f = let z : n ≡ 0 = eqb-true _ _ f in f ∙ sym (eq-eqb (length (held_in n l)) 0 (omega (arith, long)))
    by false f = let z : n ≡ 0 → ⊥ = eqb-false _ _ f in f ∙ sym (ne_eqb (length (held_in n l)) 0 (λ q. z (omega (arith, long))))

-- HOWEVER THE BYTES ARE CUT, FROM WORDS THAT ARE ALL 0: whatever else is lent, `turning_read_end` then tells what the whole file tells, in the room as it was lent, and the room holds what the whole file leaves.
pub file-in-c : {f k : Flat} {ps : List (List ℕ)} → f.words ≡ (0 ∷ 0 ∷ 0 ∷ 0 ∷ 0 ∷ 0 ∷ 0 ∷ 0 ∷ []) → length f.bar ≡ 5 → length f.line ≡ 128 → TookFile f ps k → (most : ℕ)
    → (told_from k.words k.bar most k.cells k.rings ≡ read_of most f.cells f.rings (joined ps)) × (k.cells ≡ (file_in f.cells f.rings (joined ps)).cells) × (k.rings ≡ (file_in f.cells f.rings (joined ps)).rings)
file-in-c {f} {k} {ps} zeros hb hl t most =
    let p = took-file (record { words = ap length zeros; bar = hb; line = hl }) t in
    let st : State = state (fresh (bar_in f.bar)) f.cells f.rings in
    let begins : in_file f ≡ hand st [] = ap (λ (ws : List ℕ). hand (state (reading_from ws f.bar) f.cells f.rings) (held_in (held_from ws) f.line)) zeros in
    let r : Reading = reading_from k.words k.bar in
    let e : state (ended r (held_from k.words)) k.cells k.rings ≡ over_pieces stopped on_line on_long on_end st (pieces_of (joined ps)) =
    ap (λ (x : Reading). state x k.cells k.rings) (end-held r (held_from k.words) k.line p.sized.line)
    ∙ end_is r k.cells k.rings (in_file k).held
    ∙ ap (λ (j : Hand State). file.ended stopped on_long on_end j.job j.held) (p.same ∙ ap (λ (j : Hand State). in_turn stopped on_line on_long j ps) begins)
    ∙ any-cut stopped on_line on_long on_end long-stops ps st in
    let w = any-bar (bar_in f.bar) f.cells f.rings (joined ps) in
    (ap (λ (x : State). told_as x.reading most x.cells x.rings) e ∙ w.told most, ap (λ (x : State). x.cells) e ∙ w.cells, ap (λ (x : State). x.rings) e ∙ w.rings)

-- A REFUSED LINE IS THE LAST: whatever parts `turning_read_part` is handed after a refusal, all that is lent stays as it was.
pub file-refused-in-c : {f k : Flat} {ps : List (List ℕ)} → TookFile f ps k → refused_in f.words ≡ true → k ≡ f
unfolding after_part
file-refused-in-c start e = refl
file-refused-in-c (part {f} {g} {p = p} t r) e =
    let q : g ≡ f = t.left ∙ pick_true _ _ _ e in
    file-refused-in-c r (ap (λ (x : Flat). refused_in x.words) q ∙ e) ∙ q
