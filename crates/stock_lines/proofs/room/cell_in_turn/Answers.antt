-- `stock_lines::room::cell_in_turn` meets its contract. Assumes nothing.
use Rattle.std.proofs.Common.{◌<◌, ◌≤◌, ◌∙◌, subst}
use Rattle.stock_lines.specs.declared.form.Form.{Form}
use Rattle.stock_lines.proofs.Rooms.{cell-turn, cell-over, cell-after-ring}
use Rattle.stock_lines.proofs.room.cell_in_turn.Goals as goal

pub returns-then-n-f : goal.returns-then-n-f
returns-then-n-f c = let n = c.args.n in
    c.read_cell_line.ensures ∙ cell-turn _ _ _ _ c.if-m-eq0.true (subst (λ (x : Form). n < x.most) c.form_of-f.ensures c.if-n-f.true)

pub returns-else-n-f : goal.returns-else-n-f
returns-else-n-f c = let n = c.args.n in
    cell-over _ _ _ _ c.if-m-eq0.true (subst (λ (x : Form). x.most ≤ n) c.form_of-f.ensures c.if-n-f.false)

pub returns-else-m-eq0 : goal.returns-else-m-eq0
returns-else-m-eq0 c = cell-after-ring _ _ _ _ c.if-m-eq0.false
