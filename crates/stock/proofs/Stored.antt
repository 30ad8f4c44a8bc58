-- A cell put into a list of cells is what the list then has in that bin, and every other bin keeps its cell. Assumes nothing.
use Rattle.std.proofs.Common.{◌≡◌, ℕ, zero, suc, ◌+◌, ◌*◌, ◌/◌, ◌%◌, ◌<◌, ◌≤◌, ◌⊎◌, List, [], ◌∷◌, length, get_or, set, sym, ap, ◌∙◌, subst, inl, inr, add-zero, add-one, arith, length-set, get_or-set_other, get_or-set_same, ext_get_or}
use native.Mathlib.Numerals.{add-two, add-three}
use lib.Seq.{sets}
use lib.Ieee.{Float, nan}
use Rattle.stock.specs.declared.TurnCell.{TurnCell}
use Rattle.stock.specs.Cell.{cell_at, four_of, put_cell}
use Rattle.stock.proofs.Cells.{put-room}

-- ---- four numbers stored at a place
module _ (cs : List Float) (k : ℕ) (a b c d : Float) (fits : k + 4 ≤ length cs) where
  l1 : List Float
  l1 = set cs k a

  l2 : List Float
  unfolding l1
  l2 = set l1 (suc k) b

  l3 : List Float
  unfolding l2
  l3 = set l2 (suc (suc k)) c

  four-0 : get_or (sets cs k (a ∷ b ∷ c ∷ d ∷ [])) k nan ≡ a
  unfolding l3
  four-0 =
      get_or-set_other l3 (suc (suc (suc k))) k d nan (omega arith) ∙ get_or-set_other l2 (suc (suc k)) k c nan (omega arith) ∙ get_or-set_other l1 (suc k) k b nan (omega arith)
      ∙ get_or-set_same cs k a nan (omega arith)

  four-1 : get_or (sets cs k (a ∷ b ∷ c ∷ d ∷ [])) (k + 1) nan ≡ b
  unfolding l3
  four-1 =
      get_or-set_other l3 (suc (suc (suc k))) (k + 1) d nan (omega arith) ∙ get_or-set_other l2 (suc (suc k)) (k + 1) c nan (omega arith) ∙ ap (λ (m : ℕ). get_or l2 m nan) (add-one k)
      ∙ get_or-set_same l1 (suc k) b nan (omega (arith, length-set cs k a))

  four-2 : get_or (sets cs k (a ∷ b ∷ c ∷ d ∷ [])) (k + 2) nan ≡ c
  unfolding l3
  four-2 =
      get_or-set_other l3 (suc (suc (suc k))) (k + 2) d nan (omega arith) ∙ ap (λ (m : ℕ). get_or l3 m nan) (add-two k)
      ∙ get_or-set_same l2 (suc (suc k)) c nan (omega (arith, length-set cs k a, length-set l1 (suc k) b))

  four-3 : get_or (sets cs k (a ∷ b ∷ c ∷ d ∷ [])) (k + 3) nan ≡ d
  unfolding l3
  four-3 =
      ap (λ (m : ℕ). get_or (sets cs k (a ∷ b ∷ c ∷ d ∷ [])) m nan) (add-three k)
      ∙ get_or-set_same l3 (suc (suc (suc k))) d nan (omega (arith, length-set cs k a, length-set l1 (suc k) b, length-set l2 (suc (suc k)) c))

  four-other : (m : ℕ) → (m < k) ⊎ (k + 4 ≤ m) → get_or (sets cs k (a ∷ b ∷ c ∷ d ∷ [])) m nan ≡ get_or cs m nan
  unfolding l3
  four-other m h = go (apart 0 h (omega arith)) (apart 1 h (omega arith)) (apart 2 h (omega arith)) (apart 3 h (omega arith))
    where
      apart : (j : ℕ) → (m < k) ⊎ (k + 4 ≤ m) → j < 4 → m ≡ k + j → ⊥
      apart j (inl p) q e = omega arith
      apart j (inr p) q e = omega arith

      go : (m ≡ k + 0 → ⊥) → (m ≡ k + 1 → ⊥) → (m ≡ k + 2 → ⊥) → (m ≡ k + 3 → ⊥) → get_or (sets cs k (a ∷ b ∷ c ∷ d ∷ [])) m nan ≡ get_or cs m nan
      go h0 h1 h2 h3 =
          get_or-set_other l3 (suc (suc (suc k))) m d nan (λ e. h3 (omega arith)) ∙ get_or-set_other l2 (suc (suc k)) m c nan (λ e. h2 (omega arith)) ∙ get_or-set_other l1 (suc k) m b nan (λ e. h1 (omega arith))
          ∙ get_or-set_other cs k m a nan (λ e. h0 (omega arith))

-- two cells with the same four numbers are the same
pub cell-path : {c c' : TurnCell} → c.outer.lower_mm ≡ c'.outer.lower_mm → c.outer.upper_mm ≡ c'.outer.upper_mm → c.inner.lower_mm ≡ c'.inner.lower_mm → c.inner.upper_mm ≡ c'.inner.upper_mm → c ≡ c'
cell-path p q r t = λ i. record { outer = record { lower_mm = p i; upper_mm = q i }; inner = record { lower_mm = r i; upper_mm = t i } }

-- ---- a cell put into a list that has its bin
module _ (cs : List Float) (i : ℕ) (x : TurnCell) (room : 4 * i + 4 ≤ length cs) where
  -- its bin holds it
  pub stored_same : cell_at (put_cell cs i x) i ≡ x
  stored_same =
      let o = x.outer in
      let n = x.inner in
      ap (λ (l : List Float). cell_at l i) (put-room cs i x room)
      ∙ cell-path
      (four-0 cs (4 * i) o.lower_mm o.upper_mm n.lower_mm n.upper_mm room)
      (four-1 cs (4 * i) o.lower_mm o.upper_mm n.lower_mm n.upper_mm room)
      (four-2 cs (4 * i) o.lower_mm o.upper_mm n.lower_mm n.upper_mm room)
      (four-3 cs (4 * i) o.lower_mm o.upper_mm n.lower_mm n.upper_mm room)

  -- the other bins keep their cells
  pub stored_other : (j : ℕ) → (j < i) ⊎ (i < j) → cell_at (put_cell cs i x) j ≡ cell_at cs j
  stored_other j h =
      let o = x.outer in
      let n = x.inner in
      let at : (m : ℕ) → (m < 4 * i) ⊎ (4 * i + 4 ≤ m) → get_or (sets cs (4 * i) (four_of x)) m nan ≡ get_or cs m nan = four-other cs (4 * i) o.lower_mm o.upper_mm n.lower_mm n.upper_mm room in
      ap (λ (l : List Float). cell_at l j) (put-room cs i x room)
      ∙ cell-path
      (at (4 * j) (off (4 * j) h (omega arith) (omega arith)))
      (at (4 * j + 1) (off (4 * j + 1) h (omega arith) (omega arith)))
      (at (4 * j + 2) (off (4 * j + 2) h (omega arith) (omega arith)))
      (at (4 * j + 3) (off (4 * j + 3) h (omega arith) (omega arith)))
    where
      off : (m : ℕ) → (j < i) ⊎ (i < j) → 4 * j ≤ m → m < 4 * j + 4 → (m < 4 * i) ⊎ (4 * i + 4 ≤ m)
      off m (inl p) a b = inl (omega arith)
      off m (inr p) a b = inr (omega arith)

-- ---- two lists of n cells with the same cells are the same
pub same-cells : (n : ℕ) (a b : List Float) → length a ≡ 4 * n → length b ≡ 4 * n → ((i : ℕ) → i < n → cell_at a i ≡ cell_at b i) → a ≡ b
same-cells n a b la lb h = ext_get_or nan a b (la ∙ sym lb) (λ m p. at m (m / 4) (m % 4) (omega arith) (omega arith) (omega arith))
  where
    at : (m i r : ℕ) → r < 4 → m ≡ 4 * i + r → i < n → get_or a m nan ≡ get_or b m nan
    at m i zero q e p = subst (λ (j : ℕ). get_or a j nan ≡ get_or b j nan) (sym (e ∙ add-zero (4 * i))) (ap (λ (c : TurnCell). c.outer.lower_mm) (h i p))
    at m i (suc zero) q e p = subst (λ (j : ℕ). get_or a j nan ≡ get_or b j nan) (sym e) (ap (λ (c : TurnCell). c.outer.upper_mm) (h i p))
    at m i (suc (suc zero)) q e p = subst (λ (j : ℕ). get_or a j nan ≡ get_or b j nan) (sym e) (ap (λ (c : TurnCell). c.inner.lower_mm) (h i p))
    at m i (suc (suc (suc zero))) q e p = subst (λ (j : ℕ). get_or a j nan ≡ get_or b j nan) (sym e) (ap (λ (c : TurnCell). c.inner.upper_mm) (h i p))
    at m i (suc (suc (suc (suc r)))) q e p = absurd (omega arith)
