-- Changes that pass leave cells that fit, and only remove material. Assumes nothing.
use mathlib.Core.Path.{◌≡◌, refl, sym, ◌∙◌, subst}
use mathlib.Core.Logic.{◌⊎◌, inl, inr}
use mathlib.Core.Bool.{Bool, true, false, ◌&&◌}
use mathlib.Core.List.{List, [], ◌∷◌}
use Prim.Native.Nat.{ℕ, suc, ◌+◌, ◌*◌, ◌≤◌, ◌<◌}
use native.Mathlib.Nat.{eq-or-lt_of_le}
use native.Mathlib.Omega.{arith}
use borrow.Author.Tests.{ltb-true, ltb-false}
use lib.Dec.{ltb}
use lib.ListN.{length}
use lib.Ieee.{Float, le, eq}
use lib.Ieee.Bits.{is_true}
use Rattle.refusals.specs.Paper.{answers, placed}
use Rattle.stock.specs.declared.TurnStockSpec.{TurnStockSpec}
use Rattle.stock.specs.declared.TurnCell.{TurnCell}
use Rattle.stock.specs.declared.TurnChange.{TurnChange}
use Rattle.stock.specs.Spec.{clean_spec}
use Rattle.stock.specs.Cell.{cell_at, cell_fits, same_cell, stock_of, put_cell}
use Rattle.stock.proofs.Count.{demanded, none-demanded, and_both, stocked, stock-length}
use Rattle.stock.proofs.EachFits.{stock-fits, fits-stock}
use Rattle.stock.proofs.SameCells.{fits-same}
use Rattle.stock.proofs.Stored.{stored_same, stored_other}
use Rattle.floats.proofs.Anywhere.{le-chain, eq-turns}
use Rattle.floats.proofs.Bounding.{eq-le}
use Rattle.floats.proofs.Bools.{so}
use Rattle.changes.specs.Commit.{only_removes, applies_to, passes, each_from, first_fall, pass_all, put_all}
use Rattle.changes.proofs.Passed.{put-length}
use Rattle.moves.proofs.Answered.{answered, unplaced}

-- ---- of n cells that fit
module _ (s : TurnStockSpec) (n : ℕ) where
  -- the after-cell of a change that passes fits, and there is such a bin
  pub one-fits : (cs : List Float) (c : TurnChange) → passes s n cs c ≡ answers tt → (cell_fits s c.after ≡ true) × (c.index < n)
  unfolding passes applies_to
  one-fits cs c h =
      let d = demanded _ _ _ _ h in
      (d.0, ltb-true c.index n (demanded _ _ _ _ d.1).0)

  -- its bin holds the before-cell, and it only removes
  one-applies : (cs : List Float) (c : TurnChange) → passes s n cs c ≡ answers tt → (same_cell (cell_at cs c.index) c.before ≡ true) × (only_removes c.before c.after ≡ true)
  unfolding passes applies_to
  one-applies cs c h =
      let e = demanded _ _ _ _ (demanded _ _ _ _ (demanded _ _ _ _ h).1).1 in
      (e.0, (demanded _ _ _ _ e.1).0)

  -- what holds of each cell, by its bin: one after-cell put of which it holds too
  put_keeps : (P : ℕ → TurnCell → Type 0) (out : List Float) (k : ℕ) (x : TurnCell) → length out ≡ 4 * n → k < n → P k x → ((i : ℕ) → i < n → P i (cell_at out i)) → (i : ℕ) → i < n → P i (cell_at (put_cell out k x) i)
  put_keeps P out k x len h f g i p = go (ltb i k) refl
    where
      room : 4 * k + 4 ≤ length out
      room = omega arith

      at : (k ≡ i) ⊎ (k < i) → P i (cell_at (put_cell out k x) i)
      at (inl q) = subst (λ (j : ℕ). P j (cell_at (put_cell out k x) j)) q (subst (P k) (sym (stored_same out k x room)) f)
      at (inr q) = subst (P i) (sym (stored_other out k x room i (inr q))) (g i p)

      go : (t : Bool) → ltb i k ≡ t → P i (cell_at (put_cell out k x) i)
      go true q = subst (P i) (sym (stored_other out k x room i (inl (ltb-true i k q)))) (g i p)
      go false q = at (eq-or-lt_of_le (ltb-false i k q))

  -- all of those that pass
  pub all_keep : (P : ℕ → TurnCell → Type 0) (cs : List Float) → ((c : TurnChange) → passes s n cs c ≡ answers tt → P c.index c.after)
      → (k : ℕ) (l : List TurnChange) (out : List Float) → each_from s n cs k l ≡ answers tt → length out ≡ 4 * n → ((i : ℕ) → i < n → P i (cell_at out i)) → (i : ℕ) → i < n → P i (cell_at (put_all out l) i)
  unfolding each_from
  all_keep P cs one k [] out h len g = g
  all_keep P cs one k (c ∷ l) out h len g =
      let a = answered (placed k (passes s n cs c)) (λ _. each_from s n cs (suc k) l) tt h in
      let p = unplaced k (passes s n cs c) tt a.first in
      all_keep P cs one (suc k) l (put_cell out c.index c.after) a.then (put-length (c ∷ []) out ∙ len) (put_keeps P out c.index c.after len (one-fits cs c p).1 (one c p) g)

-- a stock that is not refused is not refused after changes that pass
pub passed-stock : (spec : TurnStockSpec) (cs : List Float) (n : ℕ) (l : List TurnChange) → stock_of spec cs ≡ answers n → pass_all (clean_spec spec) n cs l ≡ answers tt → stock_of spec (put_all cs l) ≡ answers n
unfolding pass_all
passed-stock spec cs n l e h =
    let len = stock-length spec cs n e in
    fits-stock spec (put_all cs l) n (stocked spec cs n e).count (put-length l cs ∙ len)
    (all_keep (clean_spec spec) n (λ i x. cell_fits (clean_spec spec) x ≡ true) cs (λ c p. (one-fits (clean_spec spec) n cs c p).0) 0 l cs (none-demanded (first_fall l) 7 (each_from (clean_spec spec) n cs 0 l) tt h).1 len (stock-fits spec cs n e))

-- ---- changes that pass only remove: outer bounds fall and inner bounds rise, in every bin

at_most : (x y z : Float) → le x y ≡ true → eq z y ≡ true → le x z ≡ true
at_most x y z p q = is_true (le x z) (le-chain x y z (so p) (eq-turns z y (so q)))

at_least : (x y z : Float) → le x y ≡ true → eq z x ≡ true → le z y ≡ true
at_least x y z p q = is_true (le z y) (le-chain z x y (eq-le z x (so q)) (so p))

-- a change whose before-cell is the cell's, by number
same-removes : (c b a : TurnCell) → same_cell c b ≡ true → only_removes b a ≡ true → only_removes c a ≡ true
same-removes c b a e r =
    let OL = eq c.outer.lower_mm b.outer.lower_mm in
    let OU = eq c.outer.upper_mm b.outer.upper_mm in
    let IL = eq c.inner.lower_mm b.inner.lower_mm in
    let IU = eq c.inner.upper_mm b.inner.upper_mm in
    let A = le a.outer.upper_mm b.outer.upper_mm in
    let B = le a.outer.lower_mm b.outer.lower_mm in
    let C = le b.inner.lower_mm a.inner.lower_mm in
    let D = le b.inner.upper_mm a.inner.upper_mm in
    let e3 = and_both (OL && OU && IL) IU e in
    let e2 = and_both (OL && OU) IL e3.0 in
    let e1 = and_both OL OU e2.0 in
    let r3 = and_both (A && B && C) D r in
    let r2 = and_both (A && B) C r3.0 in
    let r1 = and_both A B r2.0 in
    rw (at_most _ _ _ r1.0 e1.1, at_most _ _ _ r1.1 e1.0, at_least _ _ _ r2.1 e2.1, at_least _ _ _ r3.1 e3.1) refl

-- a cell that fits is the same as itself, and so loses nothing to itself
none-removed : (c : TurnCell) → same_cell c c ≡ true → only_removes c c ≡ true
none-removed c e =
    let OL = eq c.outer.lower_mm c.outer.lower_mm in
    let OU = eq c.outer.upper_mm c.outer.upper_mm in
    let IL = eq c.inner.lower_mm c.inner.lower_mm in
    let IU = eq c.inner.upper_mm c.inner.upper_mm in
    let e3 = and_both (OL && OU && IL) IU e in
    let e2 = and_both (OL && OU) IL e3.0 in
    let e1 = and_both OL OU e2.0 in
    rw (self _ e1.1, self _ e1.0, self _ e2.1, self _ e3.1) refl
  where
    self : (x : Float) → eq x x ≡ true → le x x ≡ true
    self x q = is_true (le x x) (eq-le x x (so q))

pub passed-removes : (spec : TurnStockSpec) (cs : List Float) (n : ℕ) (l : List TurnChange) → stock_of spec cs ≡ answers n → pass_all (clean_spec spec) n cs l ≡ answers tt
    → (i : ℕ) → i < n → only_removes (cell_at cs i) (cell_at (put_all cs l) i) ≡ true
unfolding pass_all
passed-removes spec cs n l e h =
    all_keep (clean_spec spec) n (λ i x. only_removes (cell_at cs i) x ≡ true) cs one 0 l cs (none-demanded (first_fall l) 7 (each_from (clean_spec spec) n cs 0 l) tt h).1 (stock-length spec cs n e)
    (λ i p. none-removed (cell_at cs i) (fits-same (clean_spec spec) (cell_at cs i) (stock-fits spec cs n e i p)))
  where
    one : (c : TurnChange) → passes (clean_spec spec) n cs c ≡ answers tt → only_removes (cell_at cs c.index) c.after ≡ true
    one c p = let q = one-applies (clean_spec spec) n cs c p in same-removes (cell_at cs c.index) c.before c.after q.0 q.1
