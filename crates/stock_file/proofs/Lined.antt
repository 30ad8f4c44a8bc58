-- The lines of a stock's file, case by case. Assumes nothing.
use Rattle.std.specs.Prelude.{Result, Err, Ok}
use Prim.Native.Nat.{ℕ, ◌+◌, ◌-◌, ◌*◌, ◌/◌, ◌≤◌, ◌<◌}
use native.Mathlib.Omega.{arith}
use native.Mathlib.Nat.{min-le_right}
use mathlib.Core.Path.{◌≡◌, refl, sym, ap, ◌∙◌, subst}
use mathlib.Core.Bool.{Bool, true, false}
use mathlib.Core.List.{List, []}
use lib.Dec.{leb, eqb}
use lib.ListN.{length}
use lib.Ieee.{Float}
use borrow.Author.Tests.{eq-eqb, ne_eqb, eqb-true, lt-ltb, le-ltb, lt-leb, le-leb}
use Rattle.refusals.specs.declared.Refusal.{Refusal}
use Rattle.refusals.specs.Number.{paper_of, reason_of}
use Rattle.refusals.specs.Paper.{Paper, Reason, answers, refuses, only, demand, onward, demand-true, demand-false, onward-answers, onward-refuses}
use Rattle.floats.specs.Pick.{pick_true, pick-false}
use Rattle.stock.specs.declared.TurnStock.{TurnStock}
use Rattle.stock.specs.Spec.{cells_of}
use Rattle.stock.specs.Cell.{new_of}
use Rattle.rings.specs.declared.Ring.{Ring}
use Rattle.rings.specs.Store.{count_fits, room_for_rings}
use Rattle.rings.proofs.Removing.{fits-within}
use Rattle.text.specs.Wrote.{WroteLine}
use Rattle.stock_lines.specs.Form.{stock_line, end_line}
use Rattle.stock_file.specs.Write.{Opening, opening_of, cell_at, ring_at, line_behind, line_at, line_for, length_of, line_over, WroteFileLine}

-- the same line under another name
pub reline : {l s t m : List ℕ} {r : ℕ} → s ≡ t → WroteLine l s m r → WroteLine l t m r
reline {l} {s} {t} {m} {r} e w = subst (λ (x : List ℕ). WroteLine l x m r) e w

-- no line
pub no_line : (l : List ℕ) → WroteLine l [] l 0
no_line l = record { wrote = record { text = refl; end = refl }; within = omega arith }

module _ (b : Opening) (cs : List Float) (n : ℕ) (rs : List Float) (m k : ℕ) where
  pub first-line : k ≡ 0 → stock_line b.form b.bar b.edition ≡ line_at b cs n rs m k
  unfolding line_at
  first-line e = sym (pick_true _ _ _ (eq-eqb _ _ e))

  behind : (k ≡ 0 → ⊥) → line_at b cs n rs m k ≡ line_behind b.form cs n rs m (k - 1)
  unfolding line_at
  behind h = pick-false _ _ _ (ne_eqb _ _ h)

  pub cell-line : (k ≡ 0 → ⊥) → k - 1 < n → cell_at b.form cs (k - 1) ≡ line_at b cs n rs m k
  unfolding line_behind
  cell-line h e = sym (behind h ∙ pick_true _ _ _ (lt-ltb _ _ e))

  pub ring-line : (k ≡ 0 → ⊥) → n ≤ k - 1 → k - 1 - n < m → ring_at rs (k - 1 - n) ≡ line_at b cs n rs m k
  unfolding line_behind
  ring-line h e f = sym (behind h ∙ pick-false _ _ _ (le-ltb _ _ e) ∙ pick_true _ _ _ (lt-ltb _ _ f))

  pub last_line : (k ≡ 0 → ⊥) → n ≤ k - 1 → m ≤ k - 1 - n → k - 1 - n ≡ m → end_line k ≡ line_at b cs n rs m k
  unfolding line_behind
  last_line h e f g =
      let q : k ≡ k - 1 + 1 = by h in
      ap end_line q ∙ sym (behind h ∙ pick-false _ _ _ (le-ltb _ _ e) ∙ pick-false _ _ _ (le-ltb _ _ f) ∙ pick_true _ _ _ (eq-eqb _ _ g))
    where
      by : (k ≡ 0 → ⊥) → k ≡ k - 1 + 1
      by h = one (eqb k 0) refl
        where
          one : (t : Bool) → eqb k 0 ≡ t → k ≡ k - 1 + 1
          one true e = absurd (h (eqb-true _ _ e))
          one false e = let z : k ≡ 0 → ⊥ = h in omega arith

  pub past-line : (k ≡ 0 → ⊥) → n ≤ k - 1 → m ≤ k - 1 - n → (k - 1 - n ≡ m → ⊥) → [] ≡ line_at b cs n rs m k
  unfolding line_behind
  past-line h e f g = sym (behind h ∙ pick-false _ _ _ (le-ltb _ _ e) ∙ pick-false _ _ _ (le-ltb _ _ f) ∙ pick-false _ _ _ (ne_eqb _ _ g))

-- ---- what is answered

pub rings-few : (e : Ring) (xs : List Float) (m : ℕ) → count_fits e xs m ≡ true → m ≤ 256
rings-few e xs m f = omega (arith, fits-within e xs m f, min-le_right (length xs / 4) 256)

-- a refusal that a call in it answered
pub line_exits : {r : Result ℕ Refusal} {w : Reason} (p : Paper (List ℕ)) (l : List ℕ) → paper_of r ≡ refuses w → p ≡ refuses w → WroteFileLine l p r l
line_exits p l q e = record { answer = q ∙ ap length_of (sym e); out = sym (ap (λ (q : Paper (List ℕ)). line_over q l) e) }

pub line_refused : (p : Paper (List ℕ)) (c : Refusal) (l : List ℕ) → p ≡ refuses (reason_of c) → WroteFileLine l p (Err c) l
line_refused p c l e = line_exits p l refl e

pub line-told : (p : Paper (List ℕ)) (s l m : List ℕ) (r : ℕ) → p ≡ answers s → WroteLine l s m r → WroteFileLine l p (Ok r) m
line-told p s l m r e w =
    let q : r ≡ length s = omega (arith, w.wrote.end) in
    record { answer = ap answers q ∙ sym (ap length_of e); out = w.wrote.text ∙ sym (ap (λ (q : Paper (List ℕ)). line_over q l) e) }

-- ---- what is asked of any numbers

module _ (stock : TurnStock) (cs rs : List Float) (k : ℕ) where
  pub for-refused : (w : Reason) → cells_of stock.spec ≡ refuses w → line_for stock cs rs k ≡ refuses w
  unfolding line_for new_of
  for-refused w e = rw e (ap (λ (p : Paper ℕ). onward p (λ n. demand (leb stock.rings (room_for_rings (length rs))) 4 (answers (line_at (opening_of stock n) cs n rs stock.rings k)))) (onward-refuses w (λ n. demand (eqb (length cs) (4 * n)) 3 (answers n))) ∙ onward-refuses _ _)

  module _ (n : ℕ) (e : cells_of stock.spec ≡ answers n) where
    counted : new_of stock.spec (length cs) ≡ demand (eqb (length cs) (4 * n)) 3 (answers n)
    unfolding new_of
    counted = ap (λ (p : Paper ℕ). onward p (λ n. demand (eqb (length cs) (4 * n)) 3 (answers n))) e ∙ onward-answers _ _

    pub for-length : (length cs ≡ 4 * n → ⊥) → line_for stock cs rs k ≡ refuses (only 3)
    unfolding line_for
    for-length h =
        ap (λ (p : Paper ℕ). onward p (λ n. demand (leb stock.rings (room_for_rings (length rs))) 4 (answers (line_at (opening_of stock n) cs n rs stock.rings k)))) (counted ∙ demand-false _ _ _ (ne_eqb _ _ h))
        ∙ onward-refuses _ _

    room : length cs ≡ 4 * n → line_for stock cs rs k ≡ demand (leb stock.rings (room_for_rings (length rs))) 4 (answers (line_at (opening_of stock n) cs n rs stock.rings k))
    unfolding line_for
    room h =
        ap (λ (p : Paper ℕ). onward p (λ n. demand (leb stock.rings (room_for_rings (length rs))) 4 (answers (line_at (opening_of stock n) cs n rs stock.rings k)))) (counted ∙ demand-true _ _ _ (eq-eqb _ _ h))
        ∙ onward-answers _ _

    pub for-count : length cs ≡ 4 * n → room_for_rings (length rs) < stock.rings → line_for stock cs rs k ≡ refuses (only 4)
    for-count h f = room h ∙ demand-false _ _ _ (lt-leb _ _ f)

    pub for-line : length cs ≡ 4 * n → stock.rings ≤ room_for_rings (length rs) → line_for stock cs rs k ≡ answers (line_at (opening_of stock n) cs n rs stock.rings k)
    for-line h f = room h ∙ demand-true _ _ _ (le-leb _ _ f)
