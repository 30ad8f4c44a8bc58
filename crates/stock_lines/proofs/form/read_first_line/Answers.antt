-- `stock_lines::form::read_first_line` meets its contract. Assumes nothing.
use Rattle.std.proofs.Common.{sym, refl, ap, ◌∙◌, arith, length-take-le}
use Rattle.stock_lines.specs.First.{edition_of}
use Rattle.stock_lines.proofs.Firsts.{rest-is, first_short, first-parts, from-no-edition, from-no-bar, from-both}
use Rattle.stock_lines.proofs.form.read_first_line.Goals as goal

pub returns-then-line-lt-BAR_LONG : goal.returns-then-line-lt-BAR_LONG
returns-then-line-lt-BAR_LONG c = first_short _ c.if-line-lt-BAR_LONG.true

pub slice_bounds-read_bar-end : goal.slice_bounds-read_bar-end
slice_bounds-read_bar-end c = sym (length-take-le 92 c.args.line.now (omega arith))

pub returns-in_err-bar : goal.returns-in_err-bar
returns-in_err-bar c = let a = c.args in
    c.from_residual.ensures
    ∙ from-no-bar _ _ _ c.in_err-bar.was
    ∙ first-parts a.line.now _ _ _ c.form_in-form.ensures refl c.read_bar.ensures

pub returns-in_err-edition : goal.returns-in_err-edition
returns-in_err-edition c = let a = c.args in
    c.from_residual-in_err-edition.ensures
    ∙ from-no-edition _ _ _ c.in_err-edition.was
    ∙ first-parts a.line.now _ _ _ c.form_in-form.ensures (c.read_edition.ensures ∙ ap (edition_of c.form_in-form.result) (rest-is 92 a.line.now)) c.read_bar.ensures

pub returns : goal.returns
returns c = let a = c.args in
    from-both _ _ _ _ _ c.in_ok-edition.was c.in_ok-bar.was
    ∙ first-parts a.line.now _ _ _ c.form_in-form.ensures (c.read_edition.ensures ∙ ap (edition_of c.form_in-form.result) (rest-is 92 a.line.now)) c.read_bar.ensures
