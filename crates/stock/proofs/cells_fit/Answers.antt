-- `stock::cells_fit` meets its contract. Assumes nothing.
use Rattle.std.proofs.Common.{sym, ap, ◌∙◌, arith, rules, eq-eqb, ne_eqb}
use Rattle.refusals.specs.Number.{paper_of}
use Rattle.refusals.specs.Paper.{papers}
use Rattle.refusals.proofs.Exits.{same_exit}
use Rattle.stock.specs.Cell.{stock_of, cells_fit}
use Rattle.stock.proofs.Count.{checked, good-bore}
use Rattle.stock.proofs.cells_fit.Goals as goal

pub returns-in_err-n : goal.returns-in_err-n
unfolding stock_of
returns-in_err-n c = search (papers, same_exit _ _ c.from_residual.ensures.1, c.in_err-n.was, ← c.validate.ensures)

pub overflow_mul-n : goal.overflow_mul-n
overflow_mul-n c = omega (arith, (checked _ _ (sym c.validate.ensures ∙ ap paper_of c.in_ok-n.was)).few)

pub returns-then-cells-n : goal.returns-then-cells-n
unfolding stock_of cells_fit
returns-then-cells-n c = search (papers, c.in_ok-n.was, ← c.validate.ensures, ne_eqb _ _ c.if-cells-n.true)

pub all_fit-requires : goal.all_fit-requires
all_fit-requires c = (rw c.clean_spec.ensures (good-bore _ (checked _ _ (sym c.validate.ensures ∙ ap paper_of c.in_ok-n.was)).good), search rules)

pub returns-then-all_fit : goal.returns-then-all_fit
unfolding stock_of cells_fit
returns-then-all_fit c = search (papers, c.in_ok-n.was, ← c.validate.ensures, eq-eqb _ _ c.if-cells-n.false, ← c.all_fit.ensures, ← c.clean_spec.ensures)

pub returns : goal.returns
unfolding stock_of cells_fit
returns c = search (papers, c.in_ok-n.was, ← c.validate.ensures, eq-eqb _ _ c.if-cells-n.false, ← c.all_fit.ensures, ← c.clean_spec.ensures)
