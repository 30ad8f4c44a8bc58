-- The changes of the bins below a number, bin by bin: the list only grows, and its indices rise. Assumes nothing.
use mathlib.Core.Path.{◌≡◌, refl, ap, ◌∙◌}
use mathlib.Core.Bool.{Bool, true, false}
use mathlib.Core.List.{List, [], ◌∷◌, ◌++◌, append-nil, map-append}
use Prim.Native.Nat.{ℕ, zero, suc, ◌+◌, ◌-◌, ◌≤◌, ◌<◌}
use native.Mathlib.Nat.{add-zero, add-suc}
use native.Mathlib.Numerals.{add-one}
use native.Mathlib.Omega.{arith}
use lib.ListN.{length, length-append}
use lib.Ieee.{Float}
use Rattle.floats.specs.Pick.{pick, pick_true, pick-false}
use Rattle.stock.specs.declared.TurnCell.{TurnCell}
use Rattle.stock.specs.Cell.{cell_at, same_cell}
use Rattle.changes.specs.Change.{change_of, change_at, changes_to, indices_of}

module _ (f : ℕ → TurnCell → TurnCell) (cs : List Float) where
  pub changes-more : (i : ℕ) → changes_to f cs (i + 1) ≡ changes_to f cs i ++ change_at f cs i
  unfolding changes_to
  changes-more i = rw (add-one i)

  -- bin i keeps its cell
  pub kept : (i : ℕ) → same_cell (cell_at cs i) (f i (cell_at cs i)) ≡ true → changes_to f cs (i + 1) ≡ changes_to f cs i
  unfolding change_at
  kept i e = changes-more i ∙ rw (pick_true _ _ _ e, append-nil)

  -- bin i gets another
  pub made : (i : ℕ) → same_cell (cell_at cs i) (f i (cell_at cs i)) ≡ false → changes_to f cs (i + 1) ≡ changes_to f cs i ++ (change_of f cs i ∷ [])
  unfolding change_at
  made i e = changes-more i ∙ rw (pick-false _ _ _ e)

  grows-by : (i d : ℕ) → length (changes_to f cs i) ≤ length (changes_to f cs (i + d))
  unfolding changes_to
  grows-by i zero = rw (add-zero i) (omega arith)
  grows-by i (suc d) =
      let h = grows-by i d in
      rw (add-suc i d, length-append) (omega arith)

  -- the list only grows
  pub grows : (i n : ℕ) → i ≤ n → length (changes_to f cs i) ≤ length (changes_to f cs n)
  grows i n h =
      let e : i + (n - i) ≡ n = omega arith in
      rw e at (grows-by i (n - i))

  -- by one where bin i gets another cell
  pub grown : (i n : ℕ) → same_cell (cell_at cs i) (f i (cell_at cs i)) ≡ false → i < n → length (changes_to f cs i) < length (changes_to f cs n)
  grown i n e h =
      let g = grows (i + 1) n (omega arith) in
      let l = ap length (made i e) ∙ length-append (changes_to f cs i) (change_of f cs i ∷ []) in
      omega arith

  -- at most one a bin
  pub at_most : (n : ℕ) → length (changes_to f cs n) ≤ n
  unfolding changes_to change_at
  at_most zero = omega arith
  at_most (suc n) = go (same_cell (cell_at cs n) (f n (cell_at cs n))) (at_most n)
    where
      go : (t : Bool) → length (changes_to f cs n) ≤ n → length (changes_to f cs n ++ pick t [] (change_of f cs n ∷ [])) ≤ suc n
      go true h = rw (pick_true true _ _ refl, append-nil) (omega arith)
      go false h = rw (pick-false false _ _ refl, length-append) (omega arith)

-- ---- indices rise and stay below n
abbrev pub RisingTo : ℕ → ℕ → List ℕ → Type 0
RisingTo lo hi [] = lo ≤ hi
RisingTo lo hi (x ∷ xs) = (lo ≤ x) × RisingTo (suc x) hi xs

widen : (lo hi : ℕ) (l : List ℕ) → RisingTo lo hi l → RisingTo lo (suc hi) l
widen lo hi [] h = omega arith
widen lo hi (x ∷ xs) h = (h.0, widen (suc x) hi xs h.1)

snoc : (lo hi : ℕ) (l : List ℕ) → RisingTo lo hi l → RisingTo lo (suc hi) (l ++ (hi ∷ []))
snoc lo hi [] h = (h, omega arith)
snoc lo hi (x ∷ xs) h = (h.0, snoc (suc x) hi xs h.1)

pub rising : (f : ℕ → TurnCell → TurnCell) (cs : List Float) (n : ℕ) → RisingTo 0 n (indices_of (changes_to f cs n))
unfolding changes_to change_at
rising f cs zero = omega arith
rising f cs (suc n) = go (same_cell (cell_at cs n) (f n (cell_at cs n))) (rising f cs n)
  where
    go : (t : Bool) → RisingTo 0 n (indices_of (changes_to f cs n)) → RisingTo 0 (suc n) (indices_of (changes_to f cs n ++ pick t [] (change_of f cs n ∷ [])))
    go true h = rw (pick_true true _ _ refl, append-nil) (widen 0 n (indices_of (changes_to f cs n)) h)
    go false h = rw (pick-false false _ _ refl, map-append) (snoc 0 n (indices_of (changes_to f cs n)) h)
