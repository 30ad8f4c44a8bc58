-- Write after read: the lines of a file that is not refused are those that are written of what it left. Assumes nothing.
use Rattle.std.specs.Prelude.{Option, Some, None}
use Prim.Native.Nat.{ℕ, ◌+◌, ◌^◌, ◌≤◌, ◌<◌}
use native.Mathlib.Omega.{arith}
use mathlib.Core.Path.{◌≡◌, refl, sym, ap, ◌∙◌}
use mathlib.Core.Bool.{Bool, true, false, false≢true, true≢false}
use mathlib.Core.List.{List, ◌++◌}
use lib.Dec.{eqb, ltb}
use lib.Ieee.{Float}
use borrow.Author.Tests.{eqb-true, ltb-true}
use Rattle.floats.specs.Pick.{pick_true, pick-false}
use Rattle.text.specs.Lines.{newline}
use Rattle.stock_lines.specs.declared.Reading.{Reading}
use Rattle.stock_lines.specs.declared.form.Four.{Four}
use Rattle.stock_lines.specs.declared.room.Took.{Took}
use Rattle.stock_lines.specs.declared.room.Took.TheVariants.{Cell, Ring, End, NoLine}
use Rattle.stock_lines.specs.Form.{form_of, line_of, four_of, cell_prefix, end_line, four}
use Rattle.stock_lines.specs.Room.{stored, taken, cell_at, ring_at, ring_turn, end_turn, took_of, rings_left_after}
use Rattle.stock_lines.specs.Reading.{State, state, next, count_to, refusing, onward_to, went, on_body, on_line}
use Rattle.stock_lines.proofs.EachLine.{end-spelled}
use Rattle.stock_lines.proofs.Rooms.{ring-turned, end-turned, took-cell, took-ring, took-end, took-none, rings-cell, rings-other, stored_other}
use Rattle.stock_lines.proofs.Readings.{line-body, count-more}
use Rattle.stock_file.specs.Read.{stopped}
use Rattle.stock_file.specs.Write.{Opening}
use Rattle.stock_file.proofs.LineSteps.{most, least, reading}

-- ---- what a line behind the first was

numbers : (f : Option Four) → taken f ≡ true → (x : Float) × (y : Float) × (z : Float) × (w : Float) × (f ≡ four x y z w)
unfolding taken
numbers (Some f) e = (f.a, f.b, f.c, f.d, refl)
numbers None e = absurd (false≢true e)

-- a cell's line stands before all rings, and has an index of the form
pub cell-turned : (form n m : ℕ) (s : List ℕ) (x y z w : Float) → cell_at form n m s ≡ four x y z w → (m ≡ 0) × (n < (form_of form).most) × (four_of (line_of (cell_prefix form n) 4 s) ≡ four x y z w)
unfolding cell_at
cell-turned form n m s x y z w e = by (eqb m 0) refl (ltb n (form_of form).most) refl
  where
    never : ◌≡◌ {A = Option Four} None (four x y z w) → (m ≡ 0) × (n < (form_of form).most) × (four_of (line_of (cell_prefix form n) 4 s) ≡ four x y z w)
    never q = let z : ◌≡◌ {A = ℕ} 0 1 = cc in absurd (omega arith)

    by : (t : Bool) → eqb m 0 ≡ t → (u : Bool) → ltb n (form_of form).most ≡ u → (m ≡ 0) × (n < (form_of form).most) × (four_of (line_of (cell_prefix form n) 4 s) ≡ four x y z w)
    by true f true g = (eqb-true _ _ f, ltb-true _ _ g, sym (pick_true _ _ _ f ∙ pick_true _ _ _ g) ∙ e)
    by true f false g = never (sym (pick_true _ _ _ f ∙ pick-false _ _ _ g) ∙ e)
    by false f u g = never (sym (pick-false _ _ _ f) ∙ e)

pub data Kind (b : Opening) (n m l : ℕ) (cs rs : List Float) (s : List ℕ) : Type 0 where
  cell : (x y z w : Float) → m ≡ 0 → n < (most b) → four_of (line_of (cell_prefix b.form n) 4 s) ≡ four x y z w
      → on_line (state (reading b 1 n m l) cs rs) s ≡ state (reading b 1 (n + 1) m (l + 1)) (stored (most b) cs n (four x y z w)) rs → Kind b n m l cs rs s
  ring : (x y z w : Float) → least b ≤ n → ring_at s ≡ four x y z w
      → on_line (state (reading b 1 n m l) cs rs) s ≡ state (reading b 1 n (count_to 257 m) (l + 1)) cs (stored 256 rs m (four x y z w)) → Kind b n m l cs rs s
  end : least b ≤ n → s ++ newline ≡ end_line l → on_line (state (reading b 1 n m l) cs rs) s ≡ state (reading b 2 n m (l + 1)) cs rs → Kind b n m l cs rs s

module _ (b : Opening) (n m l : ℕ) (cs rs : List Float) (s : List ℕ) (few : l + 1 < 2 ^ 64) where
  onto : (stage n' m' : ℕ) → onward_to (reading b 1 n m l) stage n' m' ≡ reading b stage n' m' (l + 1)
  unfolding onward_to
  onto stage n' m' = let q : next (reading b 1 n m l) ≡ l + 1 = omega arith in ap (reading b stage n' m') q

  at : Took → List Float → List Float → State
  at t ds qs = state (went (reading b 1 n m l) t) ds qs

  shown : (t : Took) (ds qs : List Float) → took_of b.form n m l s ≡ t → stored (most b) cs n (cell_at b.form n m s) ≡ ds → rings_left_after b.form n m s rs ≡ qs → on_line (state (reading b 1 n m l) cs rs) s ≡ at t ds qs
  unfolding on_body at
  shown t ds qs e f g = line-body (state (reading b 1 n m l) cs rs) s (λ z. omega arith) refl ∙ (λ i. state (went (reading b 1 n m l) (e i)) (f i) (g i))

  pub kind : stopped (on_line (state (reading b 1 n m l) cs rs) s) ≡ false → Kind b n m l cs rs s
  unfolding at went refusing
  kind h = by (taken (cell_at b.form n m s)) refl (taken (ring_turn b.form n s)) refl (end_turn b.form n l s) refl
    where
      by : (t : Bool) → taken (cell_at b.form n m s) ≡ t → (u : Bool) → taken (ring_turn b.form n s) ≡ u → (v : Bool) → end_turn b.form n l s ≡ v → Kind b n m l cs rs s
      by true e u f v g =
          let k = numbers (cell_at b.form n m s) e in
          let c = cell-turned b.form n m s k.0 k.1 k.2 k.3 k.4 in
          cell k.0 k.1 k.2 k.3 c.0 c.1 c.2
          (shown Cell (stored (most b) cs n (four k.0 k.1 k.2 k.3)) rs (sym (took-cell b.form n m s l e)) (ap (stored (most b) cs n) k.4) (sym (rings-cell b.form n m s rs e))
          ∙ ap (λ (r : Reading). state r (stored (most b) cs n (four k.0 k.1 k.2 k.3)) rs) (onto 1 (count_to (most b) n) m ∙ ap (λ (i : ℕ). reading b 1 i m (l + 1)) (sym (count-more (most b) n c.1))))
      by false e true f v g =
          let k = numbers (ring_turn b.form n s) f in
          let c = ring-turned b.form n m s k.0 k.1 k.2 k.3 k.4 in
          ring k.0 k.1 k.2 k.3 c.0 c.1
          (shown Ring cs (stored 256 rs m (four k.0 k.1 k.2 k.3)) (sym (took-ring b.form n m s l e f)) (stored_other (most b) cs n (cell_at b.form n m s) e) (sym (rings-other b.form n m s rs e) ∙ ap (stored 256 rs m) k.4)
          ∙ ap (λ (r : Reading). state r cs (stored 256 rs m (four k.0 k.1 k.2 k.3))) (onto 1 n (count_to 257 m)))
      by false e false f true g =
          let c = end-turned b.form n m s l g in
          end c.0 (end-spelled l s c.1)
          (shown End cs rs (sym (took-end b.form n m s l e f g)) (stored_other (most b) cs n (cell_at b.form n m s) e) (sym (rings-other b.form n m s rs e) ∙ stored_other 256 rs m (ring_turn b.form n s) f)
          ∙ ap (λ (r : Reading). state r cs rs) (onto 2 n m))
      by false e false f false g =
          let q = shown NoLine cs rs (sym (took-none b.form n m s l e f g)) (stored_other (most b) cs n (cell_at b.form n m s) e) (sym (rings-other b.form n m s rs e) ∙ stored_other 256 rs m (ring_turn b.form n s) f) in
          absurd (true≢false (ap stopped (sym q) ∙ h))
