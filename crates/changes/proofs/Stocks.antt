-- A stock that is not refused, as the facts of its cells; and back. Assumes nothing.
use mathlib.Core.Path.{◌≡◌}
use mathlib.Core.List.{List}
use Prim.Native.Nat.{ℕ, ◌*◌, ◌<◌}
use lib.Dec.{T}
use lib.ListN.{length}
use lib.Ieee.{Float, binary64, fits}
use Rattle.refusals.specs.Paper.{answers}
use Rattle.floats.specs.Numbers.{clean_of}
use Rattle.floats.proofs.Cleared.{clean-keeps}
use Rattle.floats.proofs.Exact.{plain-zero}
use Rattle.stock.specs.declared.TurnStockSpec.{TurnStockSpec}
use Rattle.stock.specs.Spec.{clean_spec, cells_of}
use Rattle.stock.specs.Cell.{cell_at, stock_of}
use Rattle.stock.proofs.Count.{stocked, stock-length}
use Rattle.stock.proofs.Bins.{HeldSpec, HeldList}
use Rattle.stock.proofs.EachFits.{stock-fits, fits-stock}
use Rattle.reach.proofs.Fit.{CellFit, held_at, fit_of, fit-test}

-- n cells, as the spec says, each of which fits
pub record Good (spec : TurnStockSpec) (n : ℕ) (cs : List Float) : Type 0 where
  pub count : cells_of spec ≡ answers n
  pub long : length cs ≡ 4 * n
  pub fit : (i : ℕ) → i < n → CellFit (clean_spec spec) (cell_at cs i)

held-clean : (x : Float) → T (fits binary64 x) → T (fits binary64 (clean_of x))
held-clean x h = clean-keeps (λ (y : Float). T (fits binary64 y)) {x = x} (plain-zero binary64).held h

-- what is not refused is good
pub stock-good : {spec : TurnStockSpec} {n : ℕ} {cs : List Float} → HeldSpec spec → HeldList cs → stock_of spec cs ≡ answers n → Good spec n cs
unfolding clean_spec
stock-good {spec} {n} {cs} hs hc e =
    let long = stock-length spec cs n e in
    record {
      count = (stocked spec cs n e).count;
      long = long;
      fit = λ i p. fit_of (clean_spec spec) (cell_at cs i) (held-clean spec.bore_radius_mm hs.bore) (held-clean spec.outer_radius_mm hs.outer) (held_at cs hc i) (stock-fits spec cs n e i p);
    }

-- and what is good is not refused
pub good-stock : {spec : TurnStockSpec} {n : ℕ} {cs : List Float} → Good spec n cs → stock_of spec cs ≡ answers n
good-stock {spec} {n} {cs} g = fits-stock spec cs n g.count g.long (λ i p. fit-test (clean_spec spec) (cell_at cs i) (g.fit i p))
