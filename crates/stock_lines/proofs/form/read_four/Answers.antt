-- `stock_lines::form::read_four` meets its contract. Assumes nothing.
use Rattle.stock_lines.specs.Form.{four_of}
use Rattle.stock_lines.proofs.Steps.{begins-long, line-begins, line-begins-not}
use Rattle.std.proofs.Common.{sym, refl, ap, ◌∙◌}
use Rattle.stock_lines.proofs.form.read_four.Goals as goal

pub four_from-requires : goal.four_from-requires
four_from-requires c = begins-long _ _ _ (sym c.begins.ensures ∙ c.if-begins.true)

pub returns-then-begins : goal.returns-then-begins
returns-then-begins c = c.four_from.ensures ∙ sym (ap four_of (line-begins _ _ 4 _ (sym c.begins.ensures ∙ c.if-begins.true)))

pub returns : goal.returns
unfolding four_of
returns c = sym (ap four_of (line-begins-not _ 68 4 _ refl (sym c.begins.ensures ∙ c.if-begins.false)))
