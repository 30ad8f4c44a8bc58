-- `stock_lines::form::read_field` meets its contract. Assumes nothing.
use Rattle.std.proofs.Common.{ap, ◌∙◌}
use Rattle.text.specs.Hex.{eight_of}
use Rattle.stock_lines.proofs.Firsts.{rest-is, field-nothing, field-tab, field-other}
use Rattle.stock_lines.proofs.form.read_field.Goals as goal

pub returns-then-s-eq0 : goal.returns-then-s-eq0
returns-then-s-eq0 c = field-nothing _ c.if-s-eq0.true

pub returns-then-s-eq9 : goal.returns-then-s-eq9
returns-then-s-eq9 c = let a = c.args in
    c.read_eight.ensures ∙ ap eight_of (rest-is 1 a.s.now) ∙ field-tab a.s.now c.if-s-eq9.true

pub returns : goal.returns
returns c = field-other _ c.if-s-eq9.false
