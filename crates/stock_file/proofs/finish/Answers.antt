-- `stock_file::finish` meets its contract. Assumes nothing.
use Rattle.std.proofs.Common.{refl, sym, ap, ◌∙◌}
use Rattle.refusals.specs.declared.Refused.{Refused}
use Rattle.refusals.specs.Paper.{refuses}
use Rattle.refusals.specs.Number.{paper_of, reason_in}
use Rattle.refusals.proofs.Exits.{plain_exit}
use Rattle.stock_lines.specs.declared.Reading.{Reading}
use Rattle.stock_file.specs.Read.{told_as}
use Rattle.stock_file.proofs.Ends.{told_line, told-cells, told-rings, told-stock}
use Rattle.stock_file.proofs.finish.Goals as goal

pub returns-then-last : goal.returns-then-last
returns-then-last c = let a = c.args in
    ap (λ (x : Refused). refuses (reason_in x)) c.at.ensures
    ∙ told_line _ a.most a.cells.now a.rings.now _ c.if-last.true refl
    ∙ ap (λ (x : Reading). told_as x a.most a.cells.now a.rings.now) c.end-last.ensures

pub returns-in_err-n : goal.returns-in_err-n
returns-in_err-n c = let a = c.args in
    plain_exit _ _ c.from_residual.ensures.1
    ∙ told-cells _ a.most a.cells.now a.rings.now _ _ c.if-last.false c.spec_of-spec.ensures c.front.ensures _ (sym c.cells_fit.ensures ∙ ap paper_of c.in_err-n.was)
    ∙ ap (λ (x : Reading). told_as x a.most a.cells.now a.rings.now) c.end-last.ensures

pub returns-then-rings_fit : goal.returns-then-rings_fit
returns-then-rings_fit c = let a = c.args in
    told-stock _ a.most a.cells.now a.rings.now _ _ c.if-last.false c.spec_of-spec.ensures c.front.ensures _ _
    (sym c.cells_fit.ensures ∙ ap paper_of c.in_ok-n.was)
    (sym c.rings_fit.ensures ∙ c.if-rings_fit.true)
    c.stock_from.ensures
    ∙ ap (λ (x : Reading). told_as x a.most a.cells.now a.rings.now) c.end-last.ensures

pub returns : goal.returns
returns c = let a = c.args in
    ap (λ (x : Refused). refuses (reason_in x)) c.from.ensures
    ∙ told-rings _ a.most a.cells.now a.rings.now _ _ c.if-last.false c.spec_of-spec.ensures c.front.ensures _
    (sym c.cells_fit.ensures ∙ ap paper_of c.in_ok-n.was)
    (sym c.rings_fit.ensures ∙ c.if-rings_fit.false)
    ∙ ap (λ (x : Reading). told_as x a.most a.cells.now a.rings.now) c.end-last.ensures
