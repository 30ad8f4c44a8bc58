-- The cells of a list fit exactly where each of them does. Assumes nothing.
use Rattle.std.proofs.Common.{◌≡◌, ℕ, zero, suc, ◌*◌, ◌<◌, true, eqb, ◌⊎◌, List, length, sym, refl, ◌∙◌, subst, inl, inr, eq-or-lt_of_le, arith, eq-eqb}
use lib.Ieee.{Float}
use Rattle.refusals.specs.Paper.{answers, demand-true}
use Rattle.stock.specs.declared.TurnStockSpec.{TurnStockSpec}
use Rattle.stock.specs.Spec.{clean_spec, cells_of}
use Rattle.stock.specs.Cell.{cell_at, cell_fits, fit_to, cells_fit, stock_of}
use Rattle.stock.proofs.Count.{and_both, stock-is, stocked}

-- each of the first k
pub fit-below : (s : TurnStockSpec) (cs : List Float) (k : ℕ) → fit_to s cs k ≡ true → (i : ℕ) → i < k → cell_fits s (cell_at cs i) ≡ true
unfolding fit_to
fit-below s cs zero t i h = absurd (none i h)
  where
    none : (i : ℕ) → i < 0 → ⊥
    none i p = omega arith
fit-below s cs (suc k) t i h = let b = and_both (fit_to s cs k) (cell_fits s (cell_at cs k)) t in go (eq-or-lt_of_le (omega arith)) b.1 (fit-below s cs k b.0 i)
  where
    go : (i ≡ k) ⊎ (i < k) → cell_fits s (cell_at cs k) ≡ true → (i < k → cell_fits s (cell_at cs i) ≡ true) → cell_fits s (cell_at cs i) ≡ true
    go (inl q) e r = subst (λ (j : ℕ). cell_fits s (cell_at cs j) ≡ true) (sym q) e
    go (inr q) e r = r q

pub fit_all : (s : TurnStockSpec) (cs : List Float) (k : ℕ) → ((i : ℕ) → i < k → cell_fits s (cell_at cs i) ≡ true) → fit_to s cs k ≡ true
unfolding fit_to
fit_all s cs zero h = refl
fit_all s cs (suc k) h = rw (fit_all s cs k (λ i p. h i (omega arith)), h k (omega arith))

-- ---- a stock that is not refused
module _ (spec : TurnStockSpec) (cs : List Float) (n : ℕ) where
  -- each of its cells fits
  pub stock-fits : stock_of spec cs ≡ answers n → (i : ℕ) → i < n → cell_fits (clean_spec spec) (cell_at cs i) ≡ true
  unfolding cells_fit
  stock-fits e = fit-below (clean_spec spec) cs n (and_both (eqb (length cs) (4 * n)) (fit_to (clean_spec spec) cs n) (stocked spec cs n e).fit).1

  -- as many cells as its spec says, each of which fits
  pub fits-stock : cells_of spec ≡ answers n → length cs ≡ 4 * n → ((i : ℕ) → i < n → cell_fits (clean_spec spec) (cell_at cs i) ≡ true) → stock_of spec cs ≡ answers n
  unfolding cells_fit
  fits-stock e l h = stock-is spec cs n e ∙ demand-true _ _ _ (rw (eq-eqb (length cs) (4 * n) l, fit_all (clean_spec spec) cs n h))
