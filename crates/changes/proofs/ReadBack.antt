-- What is written over the front of the two lent lists is read back from them. Assumes nothing.
use mathlib.Core.Path.{◌≡◌, refl, sym, ap₂, ◌∙◌, subst}
use mathlib.Core.List.{List, [], ◌∷◌, ◌++◌}
use Prim.Native.Nat.{ℕ, zero, suc, ◌+◌, ◌*◌, ◌≤◌, ◌<◌}
use native.Mathlib.Nat.{le_of_suc-le-suc, not-suc-le-zero}
use native.Mathlib.Omega.{arith}
use lib.ListN.{length, get_or, drop, take}
use lib.Seq.{take-suc, take-length}
use lib.Ieee.{Float, nan}
use Rattle.refusals.specs.Lent.{over}
use Rattle.stock.specs.declared.TurnChange.{TurnChange}
use Rattle.changes.specs.Change.{indices_of, row_of, numbers_of, change_from, changes_from}

index_at : (l : List TurnChange) (t : List ℕ) (d : TurnChange) (j : ℕ) → j < length l → get_or (indices_of l ++ t) j 0 ≡ (get_or l j d).index
index_at [] t d j h = absurd (not-suc-le-zero h)
index_at (c ∷ l) t d zero h = refl
index_at (c ∷ l) t d (suc j) h = index_at l t d j (le_of_suc-le-suc h)

-- the number at place r of row j
number-at : (l : List TurnChange) (t : List Float) (d : TurnChange) (j r m : ℕ) → m ≡ 8 * j + r → r < 8 → j < length l → get_or (numbers_of l ++ t) m nan ≡ get_or (row_of (get_or l j d)) r nan
unfolding numbers_of
number-at [] t d j r m e q h = absurd (not-suc-le-zero h)
number-at (c ∷ l) t d zero r m e q h = subst (λ (i : ℕ). get_or (numbers_of (c ∷ l) ++ t) i nan ≡ get_or (row_of c) r nan) (sym (e ∙ zero-less r)) (front r q)
  where
    zero-less : (r : ℕ) → 8 * 0 + r ≡ r
    zero-less r = omega arith

    front : (r : ℕ) → r < 8 → get_or (numbers_of (c ∷ l) ++ t) r nan ≡ get_or (row_of c) r nan
    front zero q = refl
    front (suc zero) q = refl
    front (suc (suc zero)) q = refl
    front (suc (suc (suc zero))) q = refl
    front (suc (suc (suc (suc zero)))) q = refl
    front (suc (suc (suc (suc (suc zero))))) q = refl
    front (suc (suc (suc (suc (suc (suc zero)))))) q = refl
    front (suc (suc (suc (suc (suc (suc (suc zero))))))) q = refl
    front (suc (suc (suc (suc (suc (suc (suc (suc r)))))))) q = absurd (omega arith)
number-at (c ∷ l) t d (suc j) r m e q h =
    subst (λ (i : ℕ). get_or (numbers_of (c ∷ l) ++ t) i nan ≡ get_or (row_of (get_or l j d)) r nan) (sym (e ∙ eight j r)) (number-at l t d j r (8 * j + r) refl q (le_of_suc-le-suc h))
  where
    eight : (j r : ℕ) → 8 * suc j + r ≡ suc (suc (suc (suc (suc (suc (suc (suc (8 * j + r))))))))
    eight j r = omega arith

change-at : (l : List TurnChange) (is : List ℕ) (xs : List Float) (d : TurnChange) (j : ℕ) → j < length l → change_from (indices_of l ++ is) (numbers_of l ++ xs) j ≡ get_or l j d
change-at l is xs d j h = λ i. record {
  index = index_at l is d j h i;
  before = record {
    outer = record { lower_mm = number-at l xs d j 0 (4 * (2 * j)) (omega arith) (omega arith) h i; upper_mm = number-at l xs d j 1 (4 * (2 * j) + 1) (omega arith) (omega arith) h i };
    inner = record { lower_mm = number-at l xs d j 2 (4 * (2 * j) + 2) (omega arith) (omega arith) h i; upper_mm = number-at l xs d j 3 (4 * (2 * j) + 3) (omega arith) (omega arith) h i };
  };
  after = record {
    outer = record { lower_mm = number-at l xs d j 4 (4 * (2 * j + 1)) (omega arith) (omega arith) h i; upper_mm = number-at l xs d j 5 (4 * (2 * j + 1) + 1) (omega arith) (omega arith) h i };
    inner = record { lower_mm = number-at l xs d j 6 (4 * (2 * j + 1) + 2) (omega arith) (omega arith) h i; upper_mm = number-at l xs d j 7 (4 * (2 * j + 1) + 3) (omega arith) (omega arith) h i };
  };
}

from-take : (l : List TurnChange) (is : List ℕ) (xs : List Float) (d : TurnChange) (k : ℕ) → k ≤ length l → changes_from (indices_of l ++ is) (numbers_of l ++ xs) k ≡ take k l
unfolding changes_from
from-take l is xs d zero h = refl
from-take l is xs d (suc k) h =
    ap₂ (λ (x : List TurnChange) (c : TurnChange). x ++ (c ∷ [])) (from-take l is xs d k (omega arith)) (change-at l is xs d k h) ∙ sym (take-suc l k d h)

pub read_back : (l : List TurnChange) (is : List ℕ) (xs : List Float) → changes_from (over (indices_of l) is) (over (numbers_of l) xs) (length l) ≡ l
unfolding over
read_back [] is xs = unfold changes_from in refl
read_back (c ∷ l) is xs = from-take (c ∷ l) (drop (length (indices_of (c ∷ l))) is) (drop (length (numbers_of (c ∷ l))) xs) c (length (c ∷ l)) (omega arith) ∙ take-length (c ∷ l)
