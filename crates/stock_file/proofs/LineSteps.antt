-- A whole line taken: its bytes, and what each kind of line leaves. Assumes nothing.
use Rattle.std.specs.Prelude.{Option, Some, None}
use Prim.Native.Nat.{ℕ, ◌+◌, ◌*◌, ◌/◌, ◌^◌, ◌≤◌, ◌<◌}
use native.Mathlib.Omega.{arith}
use mathlib.Core.Path.{◌≡◌, refl, sym, ap, ◌∙◌}
use mathlib.Core.Bool.{Bool, true, false}
use mathlib.Core.List.{List, [], ◌∷◌, ◌++◌, append_assoc, append-nil}
use lib.Dec.{eqb, ltb}
use lib.ListN.{length, get_or, length-append}
use lib.Seq.{sets}
use lib.Ieee.{Float}
use borrow.Author.Tests.{ne_eqb, lt-ltb}
use Rattle.floats.specs.Pick.{pick, pick_true, pick-false}
use Rattle.text.specs.Lines.{newline, ring_line}
use Rattle.lines.specs.Hands.{Hand, hand, takes}
use Rattle.lines.proofs.Parts.{byte-newline, byte-held}
use Rattle.stock_lines.specs.declared.Reading.{Reading}
use Rattle.stock_lines.specs.Form.{Line, holds, other, form_of, line_of, four_of, bar_numbers, cell_prefix, stock_line, kept_cell_line, end_line, four}
use Rattle.stock_lines.specs.Room.{kept, stored, taken, cell_at, ring_turn, took_of, rings_left_after}
use Rattle.stock_lines.specs.Reading.{State, state, next, onward_to, went, on_body, on_line}
use Rattle.stock_lines.proofs.Forms.{Keeps}
use Rattle.stock_lines.specs.First.{first_of, CanSay, first_says}
use Rattle.stock_lines.proofs.EachLine.{cell-reads, ring-reads, end_reads, first_byte}
use Rattle.stock_lines.proofs.Firsts.{first_reads}
use Rattle.stock_lines.proofs.Rooms.{cell-turn, ring-turn, end-turn, took-cell, took-ring, took-end, rings-cell, rings-other, taken-numbers, taken_none}
use Rattle.stock_lines.proofs.Readings.{line_first, line-body, count-more, begun-is, went-cell, went-ring, went-end}
use Rattle.stock_file.specs.Read.{fresh_reading, stopped, on_long}
use Rattle.stock_file.specs.Write.{Opening}
use Rattle.stock_file.proofs.Newlines.{Free, none, more}

-- ---- its bytes

held-taken : (l h t : List ℕ) (st : State) → Free l → stopped st ≡ false → length h + length l ≤ 127
    → takes stopped on_line on_long (hand st h) (l ++ (10 ∷ t)) ≡ takes stopped on_line on_long (hand (on_line st (h ++ l)) []) t
unfolding takes
held-taken [] h t st none e w =
    ap (λ (j : Hand State). takes stopped on_line on_long j t) (byte-newline stopped on_line on_long st h 10 e refl)
    ∙ ap (λ (x : List ℕ). takes stopped on_line on_long (hand (on_line st x) []) t) (sym (append-nil h))
held-taken (b ∷ l) h t st (more n f) e w =
    let k : length h < 127 = omega arith in
    let o : length (h ++ (b ∷ [])) + length l ≤ 127 = omega (arith, length-append h (b ∷ [])) in
    ap (λ (j : Hand State). takes stopped on_line on_long j (l ++ (10 ∷ t))) (byte-held stopped on_line on_long st h b e (ne_eqb _ _ n) (lt-ltb _ _ k))
    ∙ held-taken l (h ++ (b ∷ [])) t st f e o
    ∙ ap (λ (x : List ℕ). takes stopped on_line on_long (hand (on_line st x) []) t) (append_assoc h (b ∷ []) l)

pub line_taken : (l s : List ℕ) (st : State) → Free l → stopped st ≡ false → length l ≤ 127 → l ++ newline ≡ s → takes stopped on_line on_long (hand st []) s ≡ hand (on_line st l) []
unfolding takes
line_taken l s st f e w q = ap (takes stopped on_line on_long (hand st [])) (sym q) ∙ held-taken l [] [] st f e (omega arith)

-- ---- what is of another kind

-- a line that begins with another byte is of another kind
other-four : (b : ℕ) (p s : List ℕ) → (get_or s 0 0 ≡ b → ⊥) → four_of (line_of (b ∷ p) 4 s) ≡ None
unfolding four_of
other-four b p s h = by (line_of (b ∷ p) 4 s) refl
  where
    by : (l : Line) → line_of (b ∷ p) 4 s ≡ l → four_of (line_of (b ∷ p) 4 s) ≡ None
    by other f = ap four_of f
    by (holds xs) f = absurd (h (first_byte b p 4 s xs f))

no_cell : (form n m : ℕ) (s : List ℕ) → (get_or s 0 0 ≡ 99 → ⊥) → cell_at form n m s ≡ None
unfolding cell_at
no_cell form n m s h = by (eqb m 0) refl (ltb n (form_of form).most) refl
  where
    by : (t : Bool) → eqb m 0 ≡ t → (u : Bool) → ltb n (form_of form).most ≡ u → pick (eqb m 0) (pick (ltb n (form_of form).most) (four_of (line_of (cell_prefix form n) 4 s)) None) None ≡ None
    by true e true f = pick_true _ _ _ e ∙ pick_true _ _ _ f ∙ other-four 99 _ s h
    by true e false f = pick_true _ _ _ e ∙ pick-false _ _ _ f
    by false e u f = pick-false _ _ _ e

-- ---- a reading behind the first line, which said b

abbrev pub most : Opening → ℕ
most b = (form_of b.form).most

abbrev pub least : Opening → ℕ
least b = (form_of b.form).least

abbrev pub reading : Opening → ℕ → ℕ → ℕ → ℕ → Reading
reading b stage n m l = record { stage = stage; form = b.form; edition = b.edition; bar = b.bar; cells = n; rings = m; lines = l; refused = false }

next-is : (b : Opening) (stage n m l : ℕ) → l + 1 < 2 ^ 64 → next (reading b stage n m l) ≡ l + 1
next-is b stage n m l h = omega arith

onward-is : (b : Opening) (n m l stage n' m' : ℕ) → l + 1 < 2 ^ 64 → onward_to (reading b 1 n m l) stage n' m' ≡ reading b stage n' m' (l + 1)
unfolding onward_to
onward-is b n m l stage n' m' h = ap (reading b stage n' m') (next-is b 1 n m l h)

module _ (b : Opening) (n m l : ℕ) (cs rs : List Float) (s : List ℕ) (few : l + 1 < 2 ^ 64) where
  body : on_line (state (reading b 1 n m l) cs rs) s ≡ on_body (state (reading b 1 n m l) cs rs) s
  body = line-body (state (reading b 1 n m l) cs rs) s (λ e. omega arith) refl

  -- a cell's line
  pub cell-on : (x y z w : Float) → m ≡ 0 → n < (most b) → Keeps (x ∷ y ∷ z ∷ w ∷ []) → s ++ newline ≡ kept_cell_line b.form n x y z w
      → on_line (state (reading b 1 n m l) cs rs) s ≡ state (reading b 1 (n + 1) m (l + 1)) (stored (most b) cs n (four x y z w)) rs
  unfolding on_body
  cell-on x y z w e h keeps q =
      let c : cell_at b.form n m s ≡ four x y z w = sym (cell-turn b.form n m s e h) ∙ cell-reads b.form x y z w n s keeps q in
      let t : taken (cell_at b.form n m s) ≡ true = sym (taken-numbers (cell_at b.form n m s) _ c) in
      let r : went (reading b 1 n m l) (took_of b.form n m l s) ≡ reading b 1 (n + 1) m (l + 1) =
      sym (went-cell (reading b 1 n m l) (took_of b.form n m l s) (n + 1) (sym (took-cell b.form n m s l t)) (count-more (most b) n h)) ∙ onward-is b n m l 1 (n + 1) m few in
      let u : stored (most b) cs n (cell_at b.form n m s) ≡ stored (most b) cs n (four x y z w) = ap (stored (most b) cs n) c in
      let v : rings_left_after b.form n m s rs ≡ rs = sym (rings-cell b.form n m s rs t) in
      body ∙ (λ i. state (r i) (u i) (v i))

  -- the same in a room that reaches
  pub cell-step : (x y z w : Float) → m ≡ 0 → n < (most b) → n < length cs / 4 → Keeps (x ∷ y ∷ z ∷ w ∷ []) → s ++ newline ≡ kept_cell_line b.form n x y z w
      → on_line (state (reading b 1 n m l) cs rs) s ≡ state (reading b 1 (n + 1) m (l + 1)) (sets cs (4 * n) (x ∷ y ∷ z ∷ w ∷ [])) rs
  unfolding kept stored
  cell-step x y z w e h k keeps q =
      cell-on x y z w e h keeps q ∙ ap (λ (y : List Float). state (reading b 1 (n + 1) m (l + 1)) y rs) (pick_true _ _ _ (lt-ltb _ _ h) ∙ pick_true _ _ _ (lt-ltb _ _ k))

  -- a ring's line
  pub ring-step : (x y z w : Float) → least b ≤ n → m < 256 → m < length rs / 4 → Keeps (x ∷ y ∷ z ∷ w ∷ []) → s ++ newline ≡ ring_line x y z w
      → (get_or s 0 0 ≡ 99 → ⊥)
      → on_line (state (reading b 1 n m l) cs rs) s ≡ state (reading b 1 n (m + 1) (l + 1)) cs (sets rs (4 * m) (x ∷ y ∷ z ∷ w ∷ []))
  unfolding on_body kept stored
  ring-step x y z w enough h k keeps q g =
      let c : cell_at b.form n m s ≡ None = no_cell b.form n m s g in
      let t : taken (cell_at b.form n m s) ≡ false = sym (taken_none (cell_at b.form n m s) c) in
      let d : ring_turn b.form n s ≡ four x y z w = sym (ring-turn b.form n m s enough) ∙ ring-reads x y z w s keeps q in
      let o : taken (ring_turn b.form n s) ≡ true = sym (taken-numbers (ring_turn b.form n s) _ d) in
      let j : m < 257 = omega arith in
      let r : went (reading b 1 n m l) (took_of b.form n m l s) ≡ reading b 1 n (m + 1) (l + 1) =
      sym (went-ring (reading b 1 n m l) (took_of b.form n m l s) (m + 1) (sym (took-ring b.form n m s l t o)) (count-more 257 m j)) ∙ onward-is b n m l 1 n (m + 1) few in
      let u : stored (most b) cs n (cell_at b.form n m s) ≡ cs = ap (stored (most b) cs n) c in
      let v : rings_left_after b.form n m s rs ≡ sets rs (4 * m) (x ∷ y ∷ z ∷ w ∷ []) = sym (rings-other b.form n m s rs t) ∙ ap (stored 256 rs m) d ∙ pick_true _ _ _ (lt-ltb _ _ h) ∙ pick_true _ _ _ (lt-ltb _ _ k) in
      body ∙ (λ i. state (r i) (u i) (v i))

  -- the last line
  pub end_step : least b ≤ n → s ++ newline ≡ end_line l → (get_or s 0 0 ≡ 99 → ⊥) → (get_or s 0 0 ≡ 114 → ⊥)
      → on_line (state (reading b 1 n m l) cs rs) s ≡ state (reading b 2 n m (l + 1)) cs rs
  unfolding on_body kept stored
  end_step enough q g f =
      let c : cell_at b.form n m s ≡ None = no_cell b.form n m s g in
      let t : taken (cell_at b.form n m s) ≡ false = sym (taken_none (cell_at b.form n m s) c) in
      let d : ring_turn b.form n s ≡ None = sym (ring-turn b.form n m s enough) ∙ other-four 114 _ s f in
      let o : taken (ring_turn b.form n s) ≡ false = sym (taken_none (ring_turn b.form n s) d) in
      let r : went (reading b 1 n m l) (took_of b.form n m l s) ≡ reading b 2 n m (l + 1) =
      sym (went-end (reading b 1 n m l) (took_of b.form n m l s) (sym (took-end b.form n m s l t o (sym (end-turn b.form n m s l enough) ∙ end_reads l s q)))) ∙ onward-is b n m l 2 n m few in
      let u : stored (most b) cs n (cell_at b.form n m s) ≡ cs = ap (stored (most b) cs n) c in
      let v : rings_left_after b.form n m s rs ≡ rs = sym (rings-other b.form n m s rs t) ∙ ap (stored 256 rs m) d in
      body ∙ (λ i. state (r i) (u i) (v i))

-- the first line
pub first_step : (b : Opening) (cs rs : List Float) (s : List ℕ) → CanSay b.form b.edition → Keeps (bar_numbers b.bar) → s ++ newline ≡ stock_line b.form b.bar b.edition
    → on_line (state fresh_reading cs rs) s ≡ state (reading b 1 0 0 1) cs rs
first_step b cs rs s says keeps q =
    let c : first_of s ≡ first_says b.form b.edition b.bar = first_reads b.form b.edition b.bar says s keeps q in
    let one : 1 ≡ next fresh_reading = omega arith in
    line_first (state fresh_reading cs rs) s refl
    ∙ ap (λ (r : Reading). state r cs rs) (sym (begun-is fresh_reading (first_of s) _ 1 c one))
