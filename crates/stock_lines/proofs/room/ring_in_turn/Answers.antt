-- `stock_lines::room::ring_in_turn` meets its contract. Assumes nothing.
use Rattle.std.proofs.Common.{◌<◌, ◌≤◌, ◌∙◌, subst}
use Rattle.stock_lines.specs.declared.form.Form.{Form}
use Rattle.stock_lines.proofs.Rooms.{ring-turn, ring-early}
use Rattle.stock_lines.proofs.room.ring_in_turn.Goals as goal

pub returns-then-f-n : goal.returns-then-f-n
returns-then-f-n c = let a = c.args in
    c.read_ring_line.ensures ∙ ring-turn a.form a.n 0 a.line.now (subst (λ (x : Form). x.least ≤ a.n) c.form_of-f.ensures c.if-f-n.true)

pub returns : goal.returns
returns c = let a = c.args in
    ring-early a.form a.n 0 a.line.now (subst (λ (x : Form). a.n < x.least) c.form_of-f.ensures c.if-f-n.false)
