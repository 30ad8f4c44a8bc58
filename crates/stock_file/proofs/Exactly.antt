-- A file is refused at a line exactly when the lines before it begin some file of the form, and with it, or with the end in its place, they begin none. Assumes nothing.
use Rattle.std.specs.Prelude.{Option, None, Some}
use Prim.Native.Nat.{ℕ, zero, suc, ◌+◌, ◌-◌, ◌^◌, ◌≤◌, ◌<◌}
use native.Mathlib.Omega.{arith}
use mathlib.Core.Path.{◌≡◌, refl, sym, ap, ◌∙◌, subst}
use mathlib.Core.Bool.{Bool, true, false, not, true≢false, false≢true}
use mathlib.Core.List.{List, [], ◌∷◌, ◌++◌, append_assoc}
use lib.Dec.{T, eqb, leb, ltb}
use lib.ListN.{length, take, drop, length-append}
use lib.Ieee.{Float, binary64, fits, to_bits, of_bits, of_fields, odd}
use borrow.Author.Tests.{eqb-true, eqb-false, ne_eqb, lt-ltb, ltb-true, ltb-false, leb-true, leb-false}
use Rattle.refusals.specs.Paper.{Paper, answers, refuses, at, place_or, demand, onward, demand_at-true}
use Rattle.floats.specs.Numbers.{zero64, minus_zero}
use Rattle.floats.specs.Pick.{pick_true, pick-false}
use Rattle.numbers.specs.Whole.{whole_up}
use Rattle.refusals.specs.Limits.{cell_limit}
use Rattle.stock.specs.declared.TurnStockSpec.{TurnStockSpec}
use Rattle.stock.specs.Spec.{clean_spec, quotient, counted, cells_of}
use Rattle.stock.specs.Cell.{stock_of}
use Rattle.text.specs.Lines.{newline}
use Rattle.text.specs.Parts.{into_first}
use Rattle.text.proofs.Parting as parting
use Rattle.text.proofs.Spelling.{decimal-short}
use Rattle.lines.specs.File.{pieces_of, ended, line_on_bytes, over_pieces}
use Rattle.stock_lines.specs.declared.Reading.{Reading}
use Rattle.stock_lines.specs.declared.form.First.{First}
use Rattle.stock_lines.specs.declared.room.Took.{Took}
use Rattle.stock_lines.specs.declared.room.Took.TheVariants.{Cell, Ring, End, NoLine}
use Rattle.stock_lines.specs.Form.{fields_text, bar_numbers, cell_prefix, end_text, kept_cell_line, end_line, four}
use Rattle.stock_lines.specs.First.{first_of, two}
use Rattle.stock_lines.specs.Room.{stored, took_of}
use Rattle.stock_lines.specs.Reading.{State, state, next, refusing, begun, onward_to, went, on_body, on_line}
use Rattle.stock_lines.proofs.Forms as forms
use Rattle.stock_lines.proofs.Steps.{counts-few, least-most, few-least, cell-short}
use Rattle.stock_lines.proofs.Readings.{line_first, line-body, line-behind}
use Rattle.stock_file.specs.declared.Kept.{Kept}
use Rattle.stock_file.specs.Read.{fresh_reading, stopped, on_long, spec_of, stock_in, told_as, file_in, read_of}
use Rattle.stock_file.specs.Write.{Opening, opening, file_of}
use Rattle.stock_file.specs.Exactly.{Begins, ended_lines, first_lines, RefusedBehind}
use Rattle.stock_file.proofs.Newlines.{Free, none, more, cell_free, end-free}
use Rattle.stock_file.proofs.LineSteps.{most, least, reading, cell-on, end_step}
use Rattle.stock_file.proofs.Spelt.{walk, stopped-walk, went_on}
use Rattle.stock_file.proofs.WriteAfter as kinds
use Rattle.stock_file.proofs.Ends.{told_line}
use Rattle.stock_file.proofs.Keepable.{plus}
use Rattle.stock_file.proofs.ReadBack as back

-- ---- lines and pieces

data AllFree : List (List ℕ) → Type 0 where
  nil : AllFree []
  cons : {l : List ℕ} {ls : List (List ℕ)} → Free l → AllFree ls → AllFree (l ∷ ls)

into-free : (b : ℕ) (ls : List (List ℕ)) → (b ≡ 10 → ⊥) → AllFree ls → AllFree (into_first b ls)
unfolding into_first
into-free b [] n nil = nil
into-free b (l ∷ ls) n (cons f g) = cons (more n f) g

pieces-free : (s : List ℕ) → AllFree (pieces_of s)
pieces-free [] = subst AllFree (sym (parting.parted-end 10)) (cons none nil)
pieces-free (b ∷ s) = by (eqb b 10) refl (pieces-free s)
  where
    by : (t : Bool) → eqb b 10 ≡ t → AllFree (pieces_of s) → AllFree (pieces_of (b ∷ s))
    by true e f = subst AllFree (sym (parting.parted-here 10 b s e)) (cons none f)
    by false e f = subst AllFree (sym (parting.parted-on 10 b s e)) (into-free b (pieces_of s) (eqb-false _ _ e) f)

line-parted : (l t : List ℕ) → Free l → pieces_of (l ++ (10 ∷ t)) ≡ l ∷ pieces_of t
unfolding into_first
line-parted [] t none = parting.parted-here 10 10 t refl
line-parted (b ∷ l) t (more n f) = parting.parted-on 10 b (l ++ (10 ∷ t)) (ne_eqb _ _ n) ∙ ap (into_first b) (line-parted l t f)

take-free : (k : ℕ) (ls : List (List ℕ)) → AllFree ls → AllFree (take k ls)
take-free zero ls f = nil
take-free (suc k) [] f = nil
take-free (suc k) (l ∷ ls) (cons g f) = cons g (take-free k ls f)

-- ---- lines in turn

abbrev step : State → List ℕ → State
step st l = line_on_bytes stopped on_line on_long st l

unfoldable steps : State → List (List ℕ) → State
steps st [] = st
steps st (l ∷ ls) = steps (step st l) ls

walk-next : (l : List ℕ) (ls : List (List ℕ)) (st : State) → 0 < length ls → walk st (l ∷ ls) ≡ walk (step st l) ls
unfolding over_pieces
walk-next l [] st h = absurd (omega arith)
walk-next l (m ∷ ls) st h = refl

-- behind so many lines
walk-behind : (k : ℕ) (ls : List (List ℕ)) (st : State) → k < length ls → walk st ls ≡ walk (steps st (take k ls)) (drop k ls)
unfolding steps
walk-behind zero ls st h = refl
walk-behind (suc k) [] st h = absurd (omega arith)
walk-behind (suc k) (l ∷ ls) st h = walk-next l ls st (omega arith) ∙ walk-behind k ls (step st l) (omega arith)

-- whole lines and then some bytes
lines_then : (ls : List (List ℕ)) (t : List ℕ) (st : State) → AllFree ls → walk st (pieces_of (ended_lines ls ++ t)) ≡ walk (steps st ls) (pieces_of t)
unfolding steps ended_lines
lines_then [] t st f = refl
lines_then (l ∷ ls) t st (cons g f) =
    ap (λ (x : List ℕ). walk st (pieces_of x)) (append_assoc l (10 ∷ ended_lines ls) t)
    ∙ ap (walk st) (line-parted l (ended_lines ls ++ t) g)
    ∙ walk-next l (pieces_of (ended_lines ls ++ t)) st (parting.some 10 (ended_lines ls ++ t))
    ∙ lines_then ls t (step st l) f

-- ---- what a line does to the count of lines

went-next : (r : Reading) (t : Took) → (went r t).lines ≡ next r
unfolding went onward_to refusing
went-next r Cell = refl
went-next r Ring = refl
went-next r End = refl
went-next r NoLine = refl

begun-next : (r : Reading) (f : Option First) → (begun r f).lines ≡ next r
unfolding begun refusing
begun-next r (Some f) = refl
begun-next r None = refl

line-next : (st : State) (s : List ℕ) → (on_line st s).reading.lines ≡ next st.reading
unfolding on_body refusing
line-next st s = by (eqb st.reading.stage 0) refl (eqb st.reading.stage 1) refl
  where
    by : (t : Bool) → eqb st.reading.stage 0 ≡ t → (u : Bool) → eqb st.reading.stage 1 ≡ u → (on_line st s).reading.lines ≡ next st.reading
    by true e u f = ap (λ (x : State). x.reading.lines) (line_first st s (eqb-true _ _ e)) ∙ begun-next st.reading (first_of s)
    by false e true f = ap (λ (x : State). x.reading.lines) (line-body st s (eqb-false _ _ e) (eqb-true _ _ f)) ∙ went-next st.reading (took_of st.reading.form st.reading.cells st.reading.rings st.reading.lines s)
    by false e false f = ap (λ (x : State). x.reading.lines) (line-behind st s (eqb-false _ _ e) (eqb-false _ _ f))

step-next : (st : State) (l : List ℕ) → stopped st ≡ false → (step st l).reading.lines ≡ next st.reading
unfolding line_on_bytes refusing
step-next st l g = by (ltb (length l) 128) refl
  where
    by : (t : Bool) → ltb (length l) 128 ≡ t → (step st l).reading.lines ≡ next st.reading
    by true e = ap (λ (x : State). x.reading.lines) (pick-false _ _ _ g ∙ pick_true _ _ _ e) ∙ line-next st l
    by false e = ap (λ (x : State). x.reading.lines) (pick-false _ _ _ g ∙ pick-false _ _ _ e)

-- the end refuses the next line
end-next : (st : State) (l : List ℕ) → stopped st ≡ false → stopped (walk st (l ∷ [])) ≡ true → (walk st (l ∷ [])).reading.lines ≡ next st.reading
unfolding over_pieces ended refusing
end-next st l g h = by (eqb (length l) 0) refl (ltb st.reading.stage 2) refl
  where
    by : (t : Bool) → eqb (length l) 0 ≡ t → (u : Bool) → ltb st.reading.stage 2 ≡ u → (walk st (l ∷ [])).reading.lines ≡ next st.reading
    by true e true f = ap (λ (x : State). x.reading.lines) (pick-false _ _ _ g ∙ pick_true _ _ _ e ∙ pick_true _ _ _ f)
    by true e false f = absurd (true≢false (sym h ∙ ap stopped (pick-false _ _ _ g ∙ pick_true _ _ _ e ∙ pick-false _ _ _ f) ∙ g))
    by false e u f = ap (λ (x : State). x.reading.lines) (pick-false _ _ _ g ∙ pick-false _ _ _ e)

-- ---- what is reached by j lines of which none is refused

-- before there are enough cell lines there is no other line
record Early (b : Opening) (n m k : ℕ) : Type 0 where
  alone : n < least b → m ≡ 0
  lines : n < least b → k ≡ n + 1

data Reached (cs rs : List Float) : ℕ → State → Type 0 where
  first : Reached cs rs 0 (state fresh_reading cs rs)
  body : {b : Opening} {n m k : ℕ} {cs' rs' : List Float} → Early b n m k → Reached cs rs k (state (reading b 1 n m k) cs' rs')
  done : {b : Opening} {n m k : ℕ} {cs' rs' : List Float} → Reached cs rs k (state (reading b 2 n m k) cs' rs')

module _ (cs rs : List Float) where
  reached-goes : {j : ℕ} {st : State} → Reached cs rs j st → stopped st ≡ false
  reached-goes first = refl
  reached-goes (body e) = refl
  reached-goes done = refl

  reached-next : {j : ℕ} {st : State} → Reached cs rs j st → j + 1 < 2 ^ 64 → next st.reading ≡ j + 1
  reached-next first h = omega arith
  reached-next (body e) h = omega arith
  reached-next done h = omega arith

  taken : (st : State) (l : List ℕ) → stopped st ≡ false → stopped (step st l) ≡ false → step st l ≡ on_line st l
  unfolding line_on_bytes refusing
  taken st l g h = by (ltb (length l) 128) refl
    where
      by : (t : Bool) → ltb (length l) 128 ≡ t → step st l ≡ on_line st l
      by true e = pick-false _ _ _ g ∙ pick_true _ _ _ e
      by false e = absurd (true≢false (ap stopped (sym (pick-false _ _ _ g ∙ pick-false _ _ _ e)) ∙ h))

  first_on : (f : Option First) → stopped (state (begun fresh_reading f) cs rs) ≡ false → Reached cs rs 1 (state (begun fresh_reading f) cs rs)
  unfolding begun refusing
  first_on None h = absurd (true≢false h)
  first_on (Some f) h =
      let one : 1 ≡ next fresh_reading = omega arith in
      subst (λ (k : ℕ). Reached cs rs 1 (state (reading (opening f.form f.edition f.bar) 1 0 0 k) cs rs)) one (body (record { alone = λ z. refl; lines = λ z. sym one }))

  line_on : {j : ℕ} {st : State} (l : List ℕ) → Reached cs rs j st → j + 1 < 2 ^ 64 → stopped (on_line st l) ≡ false → Reached cs rs (j + 1) (on_line st l)
  unfolding refusing
  line_on l first h g =
      let e = line_first (state fresh_reading cs rs) l refl in
      subst (Reached cs rs 1) (sym e) (first_on (first_of l) (ap stopped (sym e) ∙ g))
  line_on l (body {b} {n} {m} {k} {cs'} {rs'} early) h g = by (kinds.kind b n m k cs' rs' l h g)
    where
      by : kinds.Kind b n m k cs' rs' l → Reached cs rs (k + 1) (on_line (state (reading b 1 n m k) cs' rs') l)
      by (kinds.cell x y z w em lt q e) = subst (Reached cs rs (k + 1)) (sym e) (body (record { alone = λ v. em; lines = λ v. omega (arith, early.lines (omega arith)) }))
      by (kinds.ring x y z w enough q e) = subst (Reached cs rs (k + 1)) (sym e) (body (record { alone = λ v. absurd (omega arith); lines = λ v. absurd (omega arith) }))
      by (kinds.end enough q e) = subst (Reached cs rs (k + 1)) (sym e) done
  line_on l (done {b} {n} {m} {k} {cs'} {rs'}) h g =
      absurd (true≢false (ap stopped (sym (line-behind (state (reading b 2 n m k) cs' rs') l (λ z. omega arith) (λ z. omega arith))) ∙ g))

  step-on : {j : ℕ} {st : State} (l : List ℕ) → Reached cs rs j st → j + 1 < 2 ^ 64 → stopped (step st l) ≡ false → Reached cs rs (j + 1) (step st l)
  step-on {j} {st} l r h g =
      let e = taken st l (reached-goes r) g in
      subst (Reached cs rs (j + 1)) (sym e) (line_on l r h (ap stopped (sym e) ∙ g))

  -- a cell's line of zeros
  line-is : (form n : ℕ) → (cell_prefix form n ++ fields_text (zero64 ∷ zero64 ∷ zero64 ∷ zero64 ∷ []) []) ++ newline ≡ kept_cell_line form n zero64 zero64 zero64 zero64
  unfolding kept_cell_line
  line-is form n = back.with_newline (cell_prefix form n) (zero64 ∷ zero64 ∷ zero64 ∷ zero64 ∷ [])

  -- they begin some file of the form: a whole one, one that goes on with the cell lines that are missing and its end, or itself
  whole-file : List ℕ
  whole-file = file_of (opening 2 0 fresh_reading.bar) [] 0 [] 0

  zero-fits : T (fits binary64 zero64)
  unfolding fits of_bits of_fields odd
  zero-fits = tt

  zero-plus : to_bits binary64 zero64 ≡ 0x8000000000000000 → ⊥
  unfolding minus_zero of_bits of_fields odd
  zero-plus = plus zero64 zero-fits tt

  zeros : forms.Keeps (bar_numbers fresh_reading.bar)
  zeros = forms.more zero-fits zero-plus (forms.more zero-fits zero-plus (forms.more zero-fits zero-plus (forms.more zero-fits zero-plus (forms.more zero-fits zero-plus forms.none))))

  kept-nothings : forms.Keeps (zero64 ∷ zero64 ∷ zero64 ∷ zero64 ∷ [])
  kept-nothings = forms.more zero-fits zero-plus (forms.more zero-fits zero-plus (forms.more zero-fits zero-plus (forms.more zero-fits zero-plus forms.none)))

  -- so many cells of zeros, and the end
  unfoldable rest_of : ℕ → ℕ → ℕ → ℕ → List ℕ
  rest_of form n zero k = end_line k
  rest_of form n (suc d) k = kept_cell_line form n zero64 zero64 zero64 zero64 ++ rest_of form (n + 1) d (k + 1)

  abbrev nothings : List Float
  nothings = zero64 ∷ zero64 ∷ zero64 ∷ zero64 ∷ []

  made_up : (b : Opening) (d n m k : ℕ) (cs' rs' : List Float) → (0 < d → m ≡ 0) → least b ≤ n + d → (0 < d → n + d ≤ most b) → k + d + 1 < 2 ^ 64 → stopped (walk (state (reading b 1 n m k) cs' rs') (pieces_of (rest_of b.form n d k))) ≡ false
  unfolding over_pieces ended line_on_bytes end_line refusing rest_of
  made_up b zero n m k cs' rs' alone enough within few =
      let st : State = state (reading b 1 n m k) cs' rs' in
      let d = decimal-short k in
      let w : length (end_text k) < 128 = omega arith in
      let e : walk st (pieces_of (end_line k)) ≡ walk (state (reading b 2 n m (k + 1)) cs' rs') ([] ∷ []) =
      ap (walk st) (line-parted (end_text k) [] (end-free k) ∙ ap (λ (x : List (List ℕ)). end_text k ∷ x) (parting.parted-end 10))
      ∙ ap (λ (x : State). walk x ([] ∷ [])) (pick-false _ _ _ refl ∙ pick_true _ _ _ (lt-ltb _ _ w) ∙ end_step b n m k cs' rs' (end_text k) (omega arith) (omega arith) refl (λ v. omega arith) (λ v. omega arith)) in
      ap stopped (e ∙ pick-false _ _ _ refl ∙ pick_true _ _ _ refl ∙ pick-false _ _ _ refl)
  made_up b (suc d) n m k cs' rs' alone enough within few =
      let st : State = state (reading b 1 n m k) cs' rs' in
      let t : List ℕ = rest_of b.form (n + 1) d (k + 1) in
      let l : List ℕ = cell_prefix b.form n ++ fields_text nothings [] in
      let u : l ++ newline ≡ kept_cell_line b.form n zero64 zero64 zero64 zero64 = line-is b.form n in
      let w : length l < 128 = omega (arith, length-append (cell_prefix b.form n) (fields_text nothings []), cell-short b.form n, forms.fields-text-long nothings) in
      let lots : n < most b = omega (arith, within (omega arith)) in
      let cells : List Float = stored (most b) cs' n (four zero64 zero64 zero64 zero64) in
      let s : step st l ≡ state (reading b 1 (n + 1) m (k + 1)) cells rs' =
      pick-false _ _ _ refl ∙ pick_true _ _ _ (lt-ltb _ _ w) ∙ cell-on b n m k cs' rs' l (omega arith) zero64 zero64 zero64 zero64 (alone (omega arith)) lots kept-nothings u in
      ap (λ (x : List ℕ). stopped (walk st (pieces_of x))) (ap (λ (x : List ℕ). x ++ t) (sym u) ∙ append_assoc l newline t)
      ∙ ap (λ (x : List (List ℕ)). stopped (walk st x)) (line-parted l t (cell_free b.form n nothings))
      ∙ ap stopped (walk-next l (pieces_of t) st (parting.some 10 t))
      ∙ ap (λ (x : State). stopped (walk x (pieces_of t))) s
      ∙ made_up b d (n + 1) m (k + 1) cells rs' (λ z. alone (omega arith)) (omega arith) (λ z. omega (arith, within (omega arith))) (omega arith)

  goes_on : {j : ℕ} {st : State} → Reached cs rs j st → j + 1 < 2 ^ 64 → (t : List ℕ) × (stopped (walk st (pieces_of t)) ≡ false)
  unfolding over_pieces ended line_on_bytes refusing whole-file
  goes_on first h =
      (whole-file, ap stopped (back.reads-back (opening 2 0 fresh_reading.bar) [] 0 [] 0 (record { says = two (omega arith); bar = zeros; cells = λ i z. absurd (omega arith); rings = λ i z. absurd (omega arith); counts = counts-few 2 0 (omega arith) (omega arith); few-rings = omega arith }) cs rs (omega arith) (omega arith)))
  goes_on (body {b} {n} {m} {k} {cs'} {rs'} early) h = by (leb (least b) n) refl
    where
      by : (t : Bool) → leb (least b) n ≡ t → (t : List ℕ) × (stopped (walk (state (reading b 1 n m k) cs' rs') (pieces_of t)) ≡ false)
      by true e = let u : least b ≤ n = leb-true _ _ e in (rest_of b.form n 0 k, made_up b 0 n m k cs' rs' (λ z. absurd (omega arith)) (omega arith) (λ z. absurd (omega arith)) (omega arith))
      by false e =
          let u : n < least b = leb-false _ _ e in
          let d : ℕ = least b - n in
          let few : k + d + 1 < 2 ^ 64 = omega (arith, early.lines u, few-least b.form) in
          (rest_of b.form n d k, made_up b d n m k cs' rs' (λ z. early.alone u) (omega arith) (λ z. omega (arith, least-most b.form)) few)
  goes_on (done {b} {n} {m} {k} {cs'} {rs'}) h =
      ([], ap stopped (ap (walk (state (reading b 2 n m k) cs' rs')) (parting.parted-end 10) ∙ pick-false _ _ _ refl ∙ pick_true _ _ _ refl ∙ pick-false _ _ _ refl))

  -- ---- where a file that is refused breaks off
  record Breaks (j : ℕ) (st : State) (ls : List (List ℕ)) : Type 0 where
    many : ℕ
    within : many < length ls
    reached : Reached cs rs (j + many) (steps st (take many ls))
    breaks : suc many < length ls → stopped (steps st (take (suc many) ls)) ≡ true
    line : (walk st ls).reading.lines ≡ j + many + 1

  break : (ls : List (List ℕ)) (j : ℕ) (st : State) → Reached cs rs j st → 0 < length ls → j + length ls < 2 ^ 64 → stopped (walk st ls) ≡ true → Breaks j st ls
  unfolding steps
  break [] j st r h few g = absurd (omega arith)
  break (l ∷ []) j st r h few g =
      let z : j ≡ j + 0 = omega arith in
      let n = reached-next r (omega arith) in
      record {
        many = 0;
        within = omega arith;
        reached = subst (λ (k : ℕ). Reached cs rs k st) z r;
        breaks = λ k. absurd (omega arith);
        line = end-next st l (reached-goes r) g ∙ omega (arith, n);
      }
  break (l ∷ m ∷ ls) j st r h few g = by (stopped (step st l)) refl (λ q i. break (m ∷ ls) (j + 1) (step st l) q (omega arith) (omega arith) i)
    where
      by : (t : Bool) → stopped (step st l) ≡ t → (Reached cs rs (j + 1) (step st l) → stopped (walk (step st l) (m ∷ ls)) ≡ true → Breaks (j + 1) (step st l) (m ∷ ls)) → Breaks j st (l ∷ m ∷ ls)
      by true e again =
          let z : j ≡ j + 0 = omega arith in
          let n = reached-next r (omega arith) in
          record {
            many = 0;
            within = omega arith;
            reached = subst (λ (k : ℕ). Reached cs rs k st) z r;
            breaks = λ k. e;
            line = ap (λ (x : State). x.reading.lines) (walk-next l (m ∷ ls) st (omega arith) ∙ stopped-walk (m ∷ ls) (step st l) e) ∙ step-next st l (reached-goes r) ∙ omega (arith, n);
          }
      by false e again =
          let q = walk-next l (m ∷ ls) st (omega arith) in
          let w = again (step-on l r (omega arith) e) (ap stopped (sym q) ∙ g) in
          let z : j + 1 + w.many ≡ j + suc w.many = omega arith in
          let i = w.within in
          let n = w.line in
          record {
            many = suc w.many;
            within = omega arith;
            reached = subst (λ (k : ℕ). Reached cs rs k (steps (step st l) (take w.many (m ∷ ls)))) z w.reached;
            breaks = λ k. w.breaks (omega arith);
            line = ap (λ (x : State). x.reading.lines) q ∙ omega (arith, n);
          }

  -- not refused behind some lines, not refused before them
  steps-went : (ms : List (List ℕ)) (st : State) → stopped (steps st ms) ≡ false → stopped st ≡ false
  unfolding steps line_on_bytes
  steps-went [] st g = g
  steps-went (a ∷ ms) st g = by (stopped st) refl (steps-went ms (step st a) g)
    where
      by : (t : Bool) → stopped st ≡ t → stopped (step st a) ≡ false → stopped st ≡ false
      by false e h = e
      by true e h = absurd (true≢false (sym e ∙ ap stopped (sym (pick_true _ _ _ e)) ∙ h))

  -- not refused so far, they are reached
  on-to : (k : ℕ) (ls : List (List ℕ)) (j : ℕ) (st : State) → Reached cs rs j st → k ≤ length ls → j + k < 2 ^ 64 → stopped (steps st (take k ls)) ≡ false → Reached cs rs (j + k) (steps st (take k ls))
  unfolding steps
  on-to zero ls j st r h few g = let z : j ≡ j + 0 = omega arith in subst (λ (k : ℕ). Reached cs rs k st) z r
  on-to (suc k) [] j st r h few g = absurd (omega arith)
  on-to (suc k) (l ∷ ls) j st r h few g =
      let z : j + 1 + k ≡ j + suc k = omega arith in
      subst (λ (i : ℕ). Reached cs rs i (steps (step st l) (take k ls))) z (on-to k ls (j + 1) (step st l) (step-on l r (omega arith) (steps-went (take k ls) (step st l) g)) (omega arith) (omega arith) g)

  -- one line more
  step-last : (k : ℕ) (ls : List (List ℕ)) (st : State) → k < length ls → stopped (steps st (take k ls)) ≡ false → (steps st (take (suc k) ls)).reading.lines ≡ next (steps st (take k ls)).reading
  unfolding steps
  step-last zero [] st h g = absurd (omega arith)
  step-last zero (l ∷ ls) st h g = step-next st l g
  step-last (suc k) [] st h g = absurd (omega arith)
  step-last (suc k) (l ∷ ls) st h g = step-last k ls (step st l) (omega arith) g

  -- the last piece
  last_one : (k : ℕ) (ls : List (List ℕ)) → suc k ≡ length ls → (l : List ℕ) × (drop k ls ≡ l ∷ [])
  last_one zero [] h = absurd (omega arith)
  last_one zero (l ∷ []) h = (l, refl)
  last_one zero (l ∷ m ∷ ls) h = absurd (omega arith)
  last_one (suc k) [] h = absurd (omega arith)
  last_one (suc k) (l ∷ ls) h = last_one k ls (omega arith)

-- ---- the law

module _ (cs rs : List Float) (s : List ℕ) where
  abbrev ls : List (List ℕ)
  ls = pieces_of s

  abbrev from : State
  from = state fresh_reading cs rs

  -- the first k lines begin some file exactly where none of them is refused
  begun-by : (k : ℕ) → k ≤ length ls → k + 1 < 2 ^ 64 → stopped (steps from (take k ls)) ≡ false → Begins cs rs (first_lines k s)
  begun-by k h few g =
      let r = goes_on cs rs (on-to cs rs k ls 0 from first h (omega arith) g) (omega arith) in
      record { rest = r.0; whole = ap stopped (lines_then (take k ls) r.0 from (take-free k ls (pieces-free s))) ∙ r.1 }

  not-refused : (k : ℕ) → Begins cs rs (first_lines k s) → stopped (steps from (take k ls)) ≡ false
  not-refused k b = went_on (pieces_of b.rest) _ (ap stopped (sym (lines_then (take k ls) b.rest from (take-free k ls (pieces-free s)))) ∙ b.whole)

  -- a file that is refused is refused behind the lines that begin some file
  pub refused-there : (k : ℕ) → length ls + 1 < 2 ^ 64 → stopped (file_in cs rs s) ≡ true → (file_in cs rs s).reading.lines ≡ k + 1 → RefusedBehind cs rs k s
  refused-there k few g e =
      let w = break cs rs ls 0 from first (parting.some 10 s) (omega arith) g in
      let n = w.line in
      let m : w.many ≡ k = omega arith in
      let i : k < length ls = subst (λ (x : ℕ). x < length ls) m w.within in
      let r : Reached cs rs (0 + k) (steps from (take k ls)) = subst (λ (x : ℕ). Reached cs rs (0 + x) (steps from (take x ls))) m w.reached in
      let b : suc k < length ls → stopped (steps from (take (suc k) ls)) ≡ true = subst (λ (x : ℕ). suc x < length ls → stopped (steps from (take (suc x) ls)) ≡ true) m w.breaks in
      record {
        within = i;
        begins = begun-by k (omega arith) (omega arith) (reached-goes cs rs r);
        with_it = λ h z. true≢false (sym (b h) ∙ not-refused (suc k) z);
        at_end = λ h z. true≢false (sym g ∙ z);
      }

  -- and refused there it is at the next line
  pub refused-so : (k : ℕ) → length ls + 1 < 2 ^ 64 → RefusedBehind cs rs k s → (stopped (file_in cs rs s) ≡ true) × ((file_in cs rs s).reading.lines ≡ k + 1)
  refused-so k few w = by (ltb (suc k) (length ls)) refl
    where
      i : k < length ls
      i = w.within

      g : stopped (steps from (take k ls)) ≡ false
      g = not-refused k w.begins

      r : Reached cs rs (0 + k) (steps from (take k ls))
      r = let h = i in on-to cs rs k ls 0 from first (omega arith) (omega arith) g

      n : next (steps from (take k ls)).reading ≡ k + 1
      n = let h = i in let z : 0 + k + 1 ≡ k + 1 = omega arith in reached-next cs rs r (omega arith) ∙ z

      refused-next : suc k < length ls → stopped (steps from (take (suc k) ls)) ≡ true
      refused-next h = one (stopped (steps from (take (suc k) ls))) refl
        where
          one : (t : Bool) → stopped (steps from (take (suc k) ls)) ≡ t → stopped (steps from (take (suc k) ls)) ≡ true
          one true e = e
          one false e = absurd (w.with_it h (begun-by (suc k) (omega arith) (omega arith) e))

      by : (t : Bool) → ltb (suc k) (length ls) ≡ t → (stopped (file_in cs rs s) ≡ true) × ((file_in cs rs s).reading.lines ≡ k + 1)
      by true e =
          let h : suc k < length ls = ltb-true _ _ e in
          let c = refused-next h in
          let q : file_in cs rs s ≡ steps from (take (suc k) ls) = walk-behind (suc k) ls from h ∙ stopped-walk (drop (suc k) ls) _ c in
          (ap stopped q ∙ c, ap (λ (x : State). x.reading.lines) q ∙ step-last cs rs k ls from i g ∙ n)
      by false e =
          let h : length ls ≤ suc k = ltb-false _ _ e in
          let j = i in
          let o : suc k ≡ length ls = omega arith in
          let d = last_one cs rs k ls o in
          let q : file_in cs rs s ≡ walk (steps from (take k ls)) (d.0 ∷ []) = walk-behind k ls from i ∙ ap (walk (steps from (take k ls))) d.1 in
          let c : stopped (file_in cs rs s) ≡ true = one o (stopped (file_in cs rs s)) refl in
          (c, ap (λ (x : State). x.reading.lines) q ∙ end-next (steps from (take k ls)) d.0 g (ap stopped (sym q) ∙ c) ∙ n)
        where
          one : suc k ≡ length ls → (t : Bool) → stopped (file_in cs rs s) ≡ t → stopped (file_in cs rs s) ≡ true
          one o true e = e
          one o false e = absurd (w.at_end o e)

-- ---- 16 alone has a place

abbrev place_of : {A : Type 0} → Paper A → Option ℕ
place_of (answers a) = None
place_of (refuses w) = w.place

demand-place : {A : Type 0} (t : Bool) (n : ℕ) (p : Paper A) → place_of p ≡ None → place_of (demand t n p) ≡ None
unfolding demand
demand-place true n p e = e
demand-place false n p e = refl

onward-place : {A B : Type 0} (p : Paper A) (f : A → Paper B) → place_of p ≡ None → ((a : A) → place_of (f a) ≡ None) → place_of (onward p f) ≡ None
unfolding onward
onward-place (answers a) f e h = h a
onward-place (refuses w) f e h = e

counted-place : (most : ℕ) (o : Option ℕ) → place_of (counted most o) ≡ None
counted-place most None = refl
counted-place most (Some n) = demand-place _ 2 _ refl

stock-place : (spec : TurnStockSpec) (edition n : ℕ) (cs : List Float) (m : ℕ) (rs : List Float) → place_of (stock_in spec edition n cs m rs) ≡ None
unfolding stock_in stock_of cells_of
stock-place spec edition n cs m rs =
    onward-place _ _
    (onward-place _ _ (demand-place _ 1 _ (counted-place (clean_spec spec).max_cells (whole_up (quotient (clean_spec spec)) cell_limit))) (λ k. demand-place _ 3 _ refl))
    (λ k. demand-place _ 4 _ refl)

has : Option ℕ → Bool
has None = false
has (Some k) = true

number_at : Paper Kept → ℕ
number_at (answers a) = 0
number_at (refuses w) = place_or 0 w.place

-- what is told with a line is a refused line, and that one
pub told-there : (r : Reading) (most : ℕ) (cs rs : List Float) (l : ℕ) → told_as r most cs rs ≡ refuses (at 16 l) → (r.refused ≡ true) × (r.lines ≡ l)
unfolding told_as has number_at
told-there r most cs rs l e = by r.refused refl
  where
    by : (t : Bool) → r.refused ≡ t → (r.refused ≡ true) × (r.lines ≡ l)
    by true f = (f, ap number_at (told_line r most cs rs r.lines f refl ∙ e))
    by false f =
        let q : stock_in (spec_of r.bar most) r.edition r.cells cs r.rings rs ≡ refuses (at 16 l) = sym (demand_at-true _ _ _ _ (ap not f)) ∙ e in
        absurd (false≢true (ap has (sym (stock-place (spec_of r.bar most) r.edition r.cells cs r.rings rs) ∙ ap place_of q)))

-- 16 AT A LINE EXACTLY WHEN the lines before it begin some file of the form, and with it, or with the end in its place, they begin none
pub record LineExactly (most : ℕ) (cs rs : List Float) (s : List ℕ) (k : ℕ) : Type 0 where
  pub there : read_of most cs rs s ≡ refuses (at 16 (k + 1)) → RefusedBehind cs rs k s
  pub so : RefusedBehind cs rs k s → read_of most cs rs s ≡ refuses (at 16 (k + 1))

pub line-exactly : (most : ℕ) (cs rs : List Float) (s : List ℕ) (k : ℕ) → length (pieces_of s) + 1 < 2 ^ 64 → LineExactly most cs rs s k
line-exactly most cs rs s k few = record {
  there = λ e. let w = told-there (file_in cs rs s).reading most (file_in cs rs s).cells (file_in cs rs s).rings (k + 1) e in refused-there cs rs s k few w.0 w.1;
  so = λ w. let q = refused-so cs rs s k few w in sym (told_line (file_in cs rs s).reading most (file_in cs rs s).cells (file_in cs rs s).rings (k + 1) q.0 (sym q.1));
}
