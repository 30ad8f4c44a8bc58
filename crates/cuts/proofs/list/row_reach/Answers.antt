-- `cuts::list::row_reach` meets its contract. Assumes nothing.
use mathlib.Core.Path.{ap, ◌∙◌}
use Rattle.reach.specs.declared.Swept.{Swept}
use Rattle.reach.specs.Reach.{reach_from}
use Rattle.cuts.proofs.list.row_reach.Goals as goal

pub returns : goal.returns
returns c = c.reach_from.ensures ∙ ap (λ (f : Swept). reach_from c.args.side f.low f.high) c.row_at-swept.ensures
