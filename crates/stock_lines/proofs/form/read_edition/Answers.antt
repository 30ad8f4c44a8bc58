-- `stock_lines::form::read_edition` meets its contract. Assumes nothing.
use Rattle.std.proofs.Common.{sym, ap, ◌∙◌}
use Rattle.stock_lines.specs.declared.form.Form.{Form}
use Rattle.stock_lines.proofs.Firsts.{edition-there, edition-none, edition-behind}
use Rattle.stock_lines.proofs.form.read_edition.Goals as goal

pub returns-then-f : goal.returns-then-f
returns-then-f c = c.read_field.ensures ∙ edition-there _ _ (sym (ap (λ (f : Form). f.edition) c.form_of-f.ensures) ∙ c.if-f.true)

pub returns-then-s-eq0 : goal.returns-then-s-eq0
returns-then-s-eq0 c = edition-none _ _ (sym (ap (λ (f : Form). f.edition) c.form_of-f.ensures) ∙ c.if-f.false) c.if-s-eq0.true

pub returns : goal.returns
returns c = edition-behind _ _ (sym (ap (λ (f : Form). f.edition) c.form_of-f.ensures) ∙ c.if-f.false) c.if-s-eq0.false
