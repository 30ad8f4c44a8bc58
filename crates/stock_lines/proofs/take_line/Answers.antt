-- `stock_lines::take_line` meets its contract. Assumes nothing.
use Rattle.std.proofs.Common.{Option, sym, ap, ◌∙◌}
use Rattle.stock_lines.specs.declared.Reading.{Reading}
use Rattle.stock_lines.specs.declared.form.First.{First}
use Rattle.stock_lines.specs.Reading.{state, begun}
use Rattle.stock_lines.proofs.Readings.{body_is, line_first, line-body, line-behind}
use Rattle.stock_lines.proofs.take_line.Goals as goal

pub returns-then-reading-eq0 : goal.returns-then-reading-eq0
returns-then-reading-eq0 c = let a = c.args in
    let st = state a.reading a.cells.now a.rings.now in
    ap (λ (r : Reading). state r a.cells.now a.rings.now) (c.begin.ensures ∙ ap (λ (f : Option First). begun a.reading f) c.read_first_line.ensures)
    ∙ sym (line_first st a.line.now c.if-reading-eq0.true)

pub returns-then-reading-eq1 : goal.returns-then-reading-eq1
returns-then-reading-eq1 c = let a = c.args in
    let st = state a.reading a.cells.now a.rings.now in
    body_is a.reading _ _ a.cells.now _ a.rings.now _ a.line.now c.store_line-took.ensures.value c.go_on.ensures c.store_line-took.ensures.cells_after c.store_line-took.ensures.rings_after
    ∙ sym (line-body st a.line.now c.if-reading-eq0.false c.if-reading-eq1.true)

pub returns : goal.returns
returns c = let a = c.args in
    let st = state a.reading a.cells.now a.rings.now in
    ap (λ (r : Reading). state r a.cells.now a.rings.now) c.refuse.ensures
    ∙ sym (line-behind st a.line.now c.if-reading-eq0.false c.if-reading-eq1.false)
