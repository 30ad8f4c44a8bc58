-- `insert::samples::look_of` meets its contract. Assumes nothing.
use mathlib.Core.Path.{sym, ap, ◌∙◌}
use Rattle.insert.specs.declared.Which.{Which}
use Rattle.insert.specs.declared.Which.TheVariants.{Least, Greatest}
use Rattle.insert.specs.Insert.{most_of, end_of}
use Rattle.insert.proofs.samples.look_of.Goals as goal

pub returns-in-Greatest-clause-front : goal.returns-in-Greatest-clause-front
returns-in-Greatest-clause-front c = c.most-front.ensures ∙ ap (λ (w : Which). end_of w (most_of Greatest c.args.points.now)) (sym c.in-Greatest.is)

pub returns-in-Greatest-clause-deepest : goal.returns-in-Greatest-clause-deepest
returns-in-Greatest-clause-deepest c = c.most-deepest.ensures ∙ ap (λ (w : Which). end_of w (most_of Least c.args.points.now)) (sym c.in-Greatest.is)
