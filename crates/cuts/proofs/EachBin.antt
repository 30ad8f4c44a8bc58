-- One bin of the loops over the bins: it is left where the cut passes it over, and else its cell after the cut is compared. Assumes nothing.
use Rattle.std.specs.Prelude.{None, Some}
use mathlib.Core.Path.{◌≡◌, refl, sym, ap, ◌∙◌, subst}
use mathlib.Core.Bool.{Bool, true, false, false≢true}
use mathlib.Core.List.{List, [], ◌∷◌}
use Prim.Native.Nat.{ℕ, zero, suc, ◌+◌, ◌≤◌, ◌<◌}
use native.Mathlib.Nat.{add-zero}
use native.Mathlib.Omega.{arith}
use lib.ListN.{length}
use lib.Ieee.{Float}
use Rattle.floats.specs.Pick.{pick, pick_true, pick-false}
use Rattle.stock.specs.declared.TurnCell.{TurnCell}
use Rattle.stock.specs.declared.TurnChange.{TurnChange}
use Rattle.stock.specs.declared.TurnSide.{TurnSide}
use Rattle.stock.specs.Cell.{cell_at, same_cell}
use Rattle.reach.specs.declared.Reach.{Reach}
use Rattle.reach.specs.declared.Reach.TheVariants.{Passed, Low, Both}
use Rattle.reach.specs.Reach.{low_of, own_of, cut_by, cut_cell, Act, act_cell}
use Rattle.changes.specs.Change.{room_of, change_at, change_of, changes_to, PutChange, ListedOne, settled}
use Rattle.changes.proofs.Placed.{list_put}
use Rattle.cuts.specs.Source.{cut_change, SameTo}
use Rattle.cuts.specs.Preview.{proposed}

-- some radius is not none
no_none : (x : Float) → Some x ≡ None → ⊥
no_none x h = let e : ◌≡◌ {A = Bool} false true = cc in false≢true e

passes_over : (σ : TurnSide) (c : TurnCell) (r : Reach) → low_of r ≡ None → cut_cell σ c r ≡ c
unfolding low_of cut_cell cut_by own_of
passes_over σ c Passed h = refl
passes_over σ c (Low x) h = absurd (no_none x h)
passes_over σ c (Both x y) h = absurd (no_none x h)

module _ (a : Act) (cs : List Float) (i : ℕ) where
  -- a bin without a low keeps its cell
  pub bin-passed : (r : Reach) → r ≡ a.at i → low_of r ≡ None → SameTo cs i → same_cell (cell_at cs i) (act_cell a i (cell_at cs i)) ≡ true
  bin-passed r e h t = ap (same_cell (cell_at cs i)) (passes_over a.side (cell_at cs i) (a.at i) (ap low_of (sym e) ∙ h)) ∙ t

  -- the cell after the cut
  pub bin-after : (σ : TurnSide) (r : Reach) (before after : TurnCell) → σ ≡ a.side → r ≡ a.at i → before ≡ cell_at cs i → after ≡ cut_cell σ before r → after ≡ act_cell a i (cell_at cs i)
  bin-after σ r before after es er eb ea = ea ∙ rw (es, er, eb) refl

-- ---- counting
module _ (f : ℕ → TurnCell → TurnCell) (cs : List Float) (i k : ℕ) where
  pub none-counted : same_cell (cell_at cs i) (f i (cell_at cs i)) ≡ true → k ≡ k + length (change_at f cs i)
  unfolding change_at
  none-counted e = sym (ap (λ (l : List TurnChange). k + length l) (pick_true _ _ _ e) ∙ add-zero k)

  pub one-counted : same_cell (cell_at cs i) (f i (cell_at cs i)) ≡ false → k + 1 ≡ k + length (change_at f cs i)
  unfolding change_at
  one-counted e = sym (ap (λ (l : List TurnChange). k + length l) (pick-false _ _ _ e))

  pub one_at_most : length (change_at f cs i) ≤ 1
  unfolding change_at pick
  one_at_most = go (same_cell (cell_at cs i) (f i (cell_at cs i)))
    where
      go : (t : Bool) → length (pick t [] (change_of f cs i ∷ [])) ≤ 1
      go true = omega arith
      go false = omega arith

-- ---- cuts that reach the same in every bin propose the same
module _ (f g : ℕ → TurnCell → TurnCell) (cs : List Float) where
  pub changes-same : (n : ℕ) → ((i : ℕ) → i < n → f i (cell_at cs i) ≡ g i (cell_at cs i)) → changes_to f cs n ≡ changes_to g cs n
  unfolding changes_to change_at
  changes-same zero h = refl
  changes-same (suc n) h = rw (changes-same n (λ i l. h i (omega arith)), h n (omega arith)) refl

pub proposed-same : (a b : Act) (cs : List Float) (room n : ℕ) → a.side ≡ b.side → ((i : ℕ) → i < n → a.at i ≡ b.at i) → proposed a cs room n ≡ proposed b cs room n
proposed-same a b cs room n es h =
    ap (settled room) (changes-same (act_cell a) (act_cell b) cs n (λ i l. let e = h i l in rw (es, e) refl))

-- ---- writing
-- the change that was handed over is that of the bin
pub listed-as : (f : ℕ → TurnCell → TurnCell) (cs : List Float) (i k k' : ℕ) (before after : TurnCell) {is is' : List ℕ} {xs xs' : List Float} → before ≡ cell_at cs i → after ≡ f i (cell_at cs i) → ListedOne k k' (record { index = i; before = before; after = after }) is is' xs xs' → ListedOne k k' (change_of f cs i) is is' xs xs'
listed-as f cs i k k' before after {is} {is'} {xs} {xs'} eb ea p = subst (λ (c : TurnChange). ListedOne k k' c is is' xs xs') (λ j. record { index = i; before = eb j; after = ea j }) p

-- the change that was handed over is the one that the cut makes of the cell
pub listed-cut : (σ : TurnSide) (before after : TurnCell) (reached : Reach) (i k k' : ℕ) {is is' : List ℕ} {xs xs' : List Float} → after ≡ cut_cell σ before reached → ListedOne k k' (record { index = i; before = before; after = after }) is is' xs xs' → ListedOne k k' (cut_change σ before reached i) is is' xs xs'
listed-cut σ before after reached i k k' {is} {is'} {xs} {xs'} e p = subst (λ (c : TurnChange). ListedOne k k' c is is' xs xs') (λ j. record { index = i; before = before; after = e j }) p

-- a change that was put is listed, where the cut makes another cell
pub listed-put : (k i : ℕ) (before after to : TurnCell) {is is' : List ℕ} {xs xs' : List Float} → after ≡ to → same_cell before to ≡ false → k < room_of (length is) (length xs) → PutChange k (record { index = i; before = before; after = after }) is is' xs xs' → ListedOne k (k + 1) (record { index = i; before = before; after = to }) is is' xs xs'
listed-put k i before after to {is} {is'} {xs} {xs'} e m h p = list_put k (record { index = i; before = before; after = to }) is is' xs xs' m h (subst (λ (c : TurnChange). PutChange k c is is' xs xs') (λ j. record { index = i; before = before; after = e j }) p)
