-- `stock_file::written::file_line` meets its contract. Assumes nothing.
use Rattle.std.proofs.Common.{ℕ, ◌<◌, ◌≤◌, sym, ap, ◌∙◌, subst, arith}
use Rattle.refusals.specs.Number.{paper_of}
use Rattle.refusals.specs.declared.Refusal.TheVariants.{CellsDoNotFit, StoredRings}
use Rattle.refusals.proofs.Exits.{same_exit}
use Rattle.stock.proofs.Count.{checked}
use Rattle.stock_lines.specs.declared.Bar.{Bar}
use Rattle.stock_lines.specs.Form.{written_form}
use Rattle.stock_file.specs.Write.{opening, line_at}
use Rattle.stock_file.proofs.Lined.{reline, line_exits, line_refused, line-told, for-refused, for-length, for-count, for-line}
use Rattle.stock_file.proofs.written.file_line.Goals as goal

pub overflow_mul-n : goal.overflow_mul-n
overflow_mul-n c = let a = c.args in
    omega (arith, (checked a.stock.spec _ (sym c.validate.ensures ∙ ap paper_of c.in_ok-n.was)).few)

pub returns-then-cells-n : goal.returns-then-cells-n
returns-then-cells-n c = let a = c.args in
    line_refused _ CellsDoNotFit _ (for-length a.stock a.cells.now a.rings.now a.k _ (sym c.validate.ensures ∙ ap paper_of c.in_ok-n.was) c.if-cells-n.true)

pub returns-then-lesser-m : goal.returns-then-lesser-m
returns-then-lesser-m c = let a = c.args in
    line_refused _ StoredRings _ (for-count a.stock a.cells.now a.rings.now a.k _ (sym c.validate.ensures ∙ ap paper_of c.in_ok-n.was) c.if-cells-n.false (subst (λ (x : ℕ). x < a.stock.rings) c.lesser.ensures c.if-lesser-m.true))

pub returns-in_err-n : goal.returns-in_err-n
returns-in_err-n c = let a = c.args in
    line_exits _ _ (same_exit _ _ c.from_residual.ensures.1) (for-refused a.stock a.cells.now a.rings.now a.k _ (sym c.validate.ensures ∙ ap paper_of c.in_err-n.was))

pub returns : goal.returns
returns c = let a = c.args in
    line-told _ _ _ _ _ (for-line a.stock a.cells.now a.rings.now a.k _ (sym c.validate.ensures ∙ ap paper_of c.in_ok-n.was) c.if-cells-n.false (subst (λ (x : ℕ). a.stock.rings ≤ x) c.lesser.ensures c.if-lesser-m.false))
    (reline (ap (λ (b : Bar). line_at (opening (written_form c.in_ok-n.n) a.stock.stamp.edition b) a.cells.now c.in_ok-n.n a.rings.now a.stock.rings a.k) c.bar_of.ensures) c.put_line.ensures)
