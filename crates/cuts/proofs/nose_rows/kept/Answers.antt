-- `cuts::nose_rows::kept` meets its contract. Assumes nothing.
use mathlib.Core.Path.{sym, ◌∙◌}
use borrow.Author.Rules.{rules}
use Rattle.nose.proofs.Tracks.{alike-sample}
use Rattle.cuts.proofs.nose_rows.kept.Goals as goal

pub returns-then-alike : goal.returns-then-alike
returns-then-alike c = c.requires ∙ alike-sample c.args.t c.args.at c.args.c (search rules) (search rules) (sym c.alike.ensures ∙ c.if-alike.true)

pub returns : goal.returns
returns c = c.sampled.ensures
