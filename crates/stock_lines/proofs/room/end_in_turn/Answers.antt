-- `stock_lines::room::end_in_turn` meets its contract. Assumes nothing.
use Rattle.std.proofs.Common.{◌<◌, ◌≤◌, ◌∙◌, subst}
use Rattle.stock_lines.specs.declared.form.Form.{Form}
use Rattle.stock_lines.proofs.Rooms.{end-turn, end-early}
use Rattle.stock_lines.proofs.room.end_in_turn.Goals as goal

pub returns-then-f-n : goal.returns-then-f-n
returns-then-f-n c = let a = c.args in
    c.is_end_line.ensures ∙ end-turn a.form a.n 0 a.line.now a.before (subst (λ (x : Form). x.least ≤ a.n) c.form_of-f.ensures c.if-f-n.true)

pub returns : goal.returns
returns c = let a = c.args in
    end-early a.form a.n 0 a.line.now a.before (subst (λ (x : Form). a.n < x.least) c.form_of-f.ensures c.if-f-n.false)
