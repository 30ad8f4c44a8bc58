-- A new stock: what `fill` answers and leaves, by what its rule says. Assumes nothing.
use Rattle.std.proofs.Common.{◌≡◌, ℕ, ◌*◌, List, length, ap, ◌∙◌, eq-eqb, Err, Ok}
use lib.Ieee.{Float}
use Rattle.refusals.specs.declared.Refusal.{Refusal}
use Rattle.refusals.specs.Number.{reason_of}
use Rattle.refusals.specs.Paper.{Paper, answers, refuses, papers}
use Rattle.stock.specs.declared.TurnStockSpec.{TurnStockSpec}
use Rattle.stock.specs.declared.TurnStock.{TurnStock}
use Rattle.stock.specs.Spec.{clean_spec, cells_of}
use Rattle.stock.specs.Cell.{new_of, new_cells, fresh_cell, cells_like}
use Rattle.stock.specs.Stock.{new_stock, stock_made, Filled}

-- as many numbers as n cells have
pub new_is : (spec : TurnStockSpec) (len n : ℕ) → cells_of spec ≡ answers n → len ≡ 4 * n → answers n ≡ new_of spec len
unfolding new_of
new_is spec len n e h = simp (papers, e, eq-eqb len (4 * n) h)

pub left : (spec : TurnStockSpec) (edition : ℕ) (cs : List Float) (r : Refusal) → refuses (reason_of r) ≡ new_of spec (length cs) → Filled spec edition (Err r) cs cs
left spec edition cs r e = record { answer = ap (stock_made spec edition) e; cells = ap (λ (p : Paper ℕ). new_cells spec p cs) e }

pub made : (spec : TurnStockSpec) (edition : ℕ) (cs cs' : List Float) (n : ℕ) (k : TurnStock) → answers n ≡ new_of spec (length cs) → cs' ≡ cells_like (fresh_cell (clean_spec spec)) n → k ≡ new_stock spec edition
    → Filled spec edition (Ok k) cs cs'
made spec edition cs cs' n k e h f = record { answer = ap (λ (x : TurnStock). answers x) f ∙ ap (stock_made spec edition) e; cells = h ∙ ap (λ (p : Paper ℕ). new_cells spec p cs) e }
