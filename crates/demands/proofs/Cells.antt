-- What `fill` leaves is a stock (`fresh-fits`), so that -0.0 is not stored there either; and the bounds of a cell that fits an accepted spec are finite (`cell-finite`), which `cell_fits` says by bore
-- and outer radius alone. Assumes nothing.
use Rattle.std.specs.Prelude.{Ok}
use mathlib.Core.Path.{◌≡◌, refl, sym, ap, ◌∙◌, subst}
use mathlib.Core.Logic.{◌⊎◌, inl, inr}
use mathlib.Core.Bool.{true}
use mathlib.Core.List.{List, ◌++◌}
use Prim.Native.Nat.{ℕ, zero, suc, ◌+◌, ◌*◌, ◌≤◌, ◌<◌}
use native.Mathlib.Nat.{eq-or-lt_of_le}
use native.Mathlib.Omega.{arith}
use lib.ListN.{length, get_or-append}
use lib.Seq.{get_or-append-add}
use lib.Ieee.{Float, binary64, nan}
use Rattle.refusals.specs.Paper.{Paper, answers, refuses}
use Rattle.floats.specs.Kinds.{Finite}
use Rattle.floats.proofs.Order.{number-of, le-self, le_trans, lt→le}
use Rattle.floats.proofs.Within.{finite-within, finite-between}
use Rattle.stock.specs.declared.TurnStockSpec.{TurnStockSpec}
use Rattle.stock.specs.declared.TurnCell.{TurnCell}
use Rattle.stock.specs.declared.RadiusBounds.{RadiusBounds}
use Rattle.stock.specs.declared.TurnStock.{TurnStock}
use Rattle.stock.specs.Spec.{clean_spec, cells_of}
use Rattle.stock.specs.Cell.{number_at, cell_at, four_of, cell_fits, stock_of, fresh_cell, cells_like, new_of, new_cells}
use Rattle.stock.specs.Stock.{stock_made, Filled}
use Rattle.stock.proofs.Count.{checked, demanded, no_answer, same_answer}
use Rattle.stock.proofs.Cells.{length-like}
use Rattle.stock.proofs.Bins.{HeldSpec, Bar, bar-of}
use Rattle.stock.proofs.Stored.{cell-path}
use Rattle.reach.proofs.Fit.{PairFit, CellFit, fit_of}
use Rattle.stock.proofs.Passes.{HeldCell}
use Rattle.changes.proofs.Stocks.{Good, good-stock}
use Rattle.moves.proofs.Answered.{answered}

-- ---- each of n cells that are the same

number-before : (c : TurnCell) (n k : ℕ) → k < 4 * n → number_at (cells_like c (suc n)) k ≡ number_at (cells_like c n) k
unfolding cells_like
number-before c n k h = let l = length-like c n in get_or-append (cells_like c n) (four_of c) nan k (omega arith)

number-last : (c : TurnCell) (n j k : ℕ) → k ≡ 4 * n + j → number_at (cells_like c (suc n)) k ≡ number_at (four_of c) j
unfolding cells_like
number-last c n j k e = let l = length-like c n in let f : k ≡ length (cells_like c n) + j = omega arith in ap (number_at (cells_like c n ++ four_of c)) f ∙ get_or-append-add (cells_like c n) (four_of c) j nan

cell-of-like : (c : TurnCell) (n i : ℕ) → i < n → cell_at (cells_like c n) i ≡ c
cell-of-like c zero i h = absurd (omega arith)
cell-of-like c (suc n) i h = go (eq-or-lt_of_le (under i n h)) (cell-of-like c n i)
  where
    under : (i n : ℕ) → i < suc n → i ≤ n
    under i n h = omega arith

    go : (i ≡ n) ⊎ (i < n) → (i < n → cell_at (cells_like c n) i ≡ c) → cell_at (cells_like c (suc n)) i ≡ c
    go (inl e) f = cell-path (number-last c n 0 (4 * i) (omega arith)) (number-last c n 1 (4 * i + 1) (omega arith)) (number-last c n 2 (4 * i + 2) (omega arith)) (number-last c n 3 (4 * i + 3) (omega arith))
    go (inr l) f =
        let k : cell_at (cells_like c (suc n)) i ≡ cell_at (cells_like c n) i =
        cell-path (number-before c n (4 * i) (omega arith)) (number-before c n (4 * i + 1) (omega arith)) (number-before c n (4 * i + 2) (omega arith)) (number-before c n (4 * i + 3) (omega arith)) in
        k ∙ f l

module _ {spec : TurnStockSpec} {n : ℕ} (hs : HeldSpec spec) (e : cells_of spec ≡ answers n) where
  bar : Bar (clean_spec spec)
  bar = bar-of hs (checked spec n e)

  -- ---- a new stock

  fresh-cell : CellFit (clean_spec spec) (fresh_cell (clean_spec spec))
  fresh-cell =
      let o = bar.outer.plain in
      let i = bar.bore.plain in
      let t = lt→le (number-of i) (number-of o) bar.thick in
      record {
        bore = number-of i;
        bar = number-of o;
        outer = record { lower = o; upper = o; from-bore = t; in_order = le-self (number-of o); to-outer = le-self (number-of o) };
        inner = record { lower = i; upper = i; from-bore = le-self (number-of i); in_order = le-self (number-of i); to-outer = t };
      }

  pub fresh-good : Good spec n (cells_like (fresh_cell (clean_spec spec)) n)
  fresh-good = record { count = e; long = length-like (fresh_cell (clean_spec spec)) n; fit = λ i h. subst (CellFit (clean_spec spec)) (sym (cell-of-like (fresh_cell (clean_spec spec)) n i h)) fresh-cell }

  -- FRESH CELLS FIT: they pass 1, 2 and 3
  pub fresh-fits : stock_of spec (cells_like (fresh_cell (clean_spec spec)) n) ≡ answers n
  fresh-fits = good-stock fresh-good

  -- ---- a cell that fits

  pair-finite : (b : RadiusBounds) → PairFit (clean_spec spec) b → Finite binary64 b.lower_mm × Finite binary64 b.upper_mm
  pair-finite b f =
      let lo = finite-within bar.bore.within in
      let hi = finite-within bar.outer.within in
      let l = f.lower in
      let u = f.upper in (
        finite-between lo hi l.held f.from-bore (le_trans (number-of l) (number-of u) (number-of bar.outer.plain) f.in_order f.to-outer),
        finite-between lo hi u.held (le_trans (number-of bar.bore.plain) (number-of l) (number-of u) f.from-bore f.in_order) f.to-outer,
      )

  -- THE BOUNDS OF A CELL THAT FITS ARE FINITE, in a spec that is not refused
  pub cell-finite : (c : TurnCell) → HeldCell c → cell_fits (clean_spec spec) c ≡ true
      → Finite binary64 c.outer.lower_mm × Finite binary64 c.outer.upper_mm × Finite binary64 c.inner.lower_mm × Finite binary64 c.inner.upper_mm
  cell-finite c h f =
      let g = fit_of (clean_spec spec) c bar.bore.plain.held bar.outer.plain.held h f in
      let o = pair-finite c.outer g.outer in
      let i = pair-finite c.inner g.inner in
      (o.0, o.1, i.0, i.1)

-- so it is of what the call leaves: it fits, and has as many cells as its spec says
pub record FilledCells (spec : TurnStockSpec) (cs : List Float) : Type 0 where
  pub bins : ℕ
  pub counted : cells_of spec ≡ answers bins
  pub fits : stock_of spec cs ≡ answers bins

pub fill-fits : (spec : TurnStockSpec) (edition : ℕ) (k : TurnStock) (cs cs' : List Float) → HeldSpec spec → Filled spec edition (Ok k) cs cs' → FilledCells spec cs'
unfolding new_of
fill-fits spec edition k cs cs' hs f = go (new_of spec (length cs)) refl f.answer f.cells
  where
    go : (p : Paper ℕ) → new_of spec (length cs) ≡ p → answers k ≡ stock_made spec edition p → cs' ≡ new_cells spec p cs → FilledCells spec cs'
    go (refuses r) e b c = absurd (no_answer r k (sym b))
    go (answers n) e b c =
        let a = answered (cells_of spec) _ n e in
        let s : a.value ≡ n = same_answer (demanded _ _ _ _ a.then).1 in
        let h : cells_of spec ≡ answers n = a.first ∙ ap answers s in
        record { bins = n; counted = h; fits = ap (stock_of spec) c ∙ fresh-fits hs h }
