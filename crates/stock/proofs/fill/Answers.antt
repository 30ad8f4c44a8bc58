-- `stock::fill` meets its contract. Assumes nothing.
use Rattle.std.proofs.Common.{sym, ap, ◌∙◌, arith, ne_eqb}
use Rattle.std.proofs.lemmas.Result.{err_from_is_err_and}
use Rattle.refusals.specs.Number.{paper_of}
use Rattle.refusals.specs.Paper.{papers}
use Rattle.stock.specs.Cell.{new_of}
use Rattle.stock.proofs.Count.{checked}
use Rattle.stock.proofs.Fresh.{new_is, left, made}
use Rattle.stock.proofs.fill.Goals as goal

pub returns-in_err-n : goal.returns-in_err-n
unfolding new_of
returns-in_err-n c = let p = err_from_is_err_and c.from_residual.result c.from_residual.ensures.1 in
    rw (p.1, p.2) (left _ _ _ _ (search (papers, c.in_err-n.was, ← c.validate.ensures)))

pub overflow_mul-n : goal.overflow_mul-n
overflow_mul-n c = omega (arith, (checked _ _ (sym c.validate.ensures ∙ ap paper_of c.in_ok-n.was)).few)

pub returns-then-cells-n : goal.returns-then-cells-n
unfolding new_of
returns-then-cells-n c = left _ _ _ _ (search (papers, c.in_ok-n.was, ← c.validate.ensures, ne_eqb _ _ c.if-cells-n.true))

pub returns : goal.returns
returns c = made _ _ _ _ c.in_ok-n.n _
    (new_is _ _ c.in_ok-n.n (sym c.validate.ensures ∙ ap paper_of c.in_ok-n.was) c.if-cells-n.false)
    (simp (c.put_all.ensures, c.fresh_cell.ensures, c.clean_spec.ensures))
    c.new_stock.ensures
