-- `cuts::polygon_rows::kept` meets its contract. Assumes nothing.
use mathlib.Core.Path.{◌∙◌}
use borrow.Author.Rules.{rules}
use Rattle.polygon.proofs.Reaches.{same-sample}
use Rattle.cuts.proofs.polygon_rows.kept.Goals as goal

pub returns-then-held-z : goal.returns-then-held-z
returns-then-held-z c = c.requires ∙ same-sample c.args.points.now c.args.side c.args.held.at c.args.z (search rules) (search rules) c.if-held-z.true

pub returns : goal.returns
returns c = c.lowest.ensures
