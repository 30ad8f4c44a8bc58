-- `stock_file::written::line_count` meets its contract. Assumes nothing.
use Rattle.std.proofs.Common.{sym, ap, ◌∙◌, arith}
use Rattle.refusals.specs.Number.{paper_of}
use Rattle.refusals.specs.Paper.{papers}
use Rattle.refusals.proofs.Exits.{same_exit}
use Rattle.stock.proofs.Count.{stock-length}
use Rattle.stock_file.specs.Write.{line_count}
use Rattle.stock_file.proofs.Lined.{rings-few}
use Rattle.stock_file.proofs.written.line_count.Goals as goal

pub overflow_add-result : goal.overflow_add-result
overflow_add-result c = let a = c.args in
    omega (arith, rings-few _ _ _ (sym c.rings_fit.ensures ∙ c.if-rings_fit.true), stock-length a.spec a.cells.now _ (sym c.cells_fit.ensures ∙ ap paper_of c.in_ok-n.was))

pub overflow_add-result-then-rings_fit : goal.overflow_add-result-then-rings_fit
overflow_add-result-then-rings_fit c = let a = c.args in
    omega (arith, rings-few _ _ _ (sym c.rings_fit.ensures ∙ c.if-rings_fit.true), stock-length a.spec a.cells.now _ (sym c.cells_fit.ensures ∙ ap paper_of c.in_ok-n.was))

pub returns-then-rings_fit : goal.returns-then-rings_fit
unfolding line_count
returns-then-rings_fit c = search (papers, ← c.cells_fit.ensures, c.in_ok-n.was, sym c.rings_fit.ensures ∙ c.if-rings_fit.true)

pub returns-in_err-n : goal.returns-in_err-n
unfolding line_count
returns-in_err-n c = search (papers, same_exit _ _ c.from_residual.ensures.1, ← c.cells_fit.ensures, c.in_err-n.was)

pub returns : goal.returns
unfolding line_count
returns c = search (papers, ← c.cells_fit.ensures, c.in_ok-n.was, sym c.rings_fit.ensures ∙ c.if-rings_fit.false)
