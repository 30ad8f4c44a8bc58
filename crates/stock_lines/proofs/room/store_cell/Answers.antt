-- `stock_lines::room::store_cell` meets its contract. Assumes nothing.
use Rattle.std.proofs.Common.{Option, ap, ◌∙◌}
use Rattle.stock_lines.specs.declared.form.Form.{Form}
use Rattle.stock_lines.specs.declared.form.Four.{Four}
use Rattle.stock_lines.specs.Form.{form_of}
use Rattle.stock_lines.specs.Room.{taken, stored}
use Rattle.stock_lines.proofs.room.store_cell.Goals as goal

pub returns : goal.returns
returns c = let a = c.args in record {
  value = c.store.ensures.value ∙ ap taken c.cell_in_turn.ensures;
  cells_after = c.store.ensures.list_after
      ∙ ap (λ (x : Form). stored x.most a.cells.now a.n c.cell_in_turn.result) c.form_of-f.ensures
      ∙ ap (λ (x : Option Four). stored (form_of a.form).most a.cells.now a.n x) c.cell_in_turn.ensures;
}
