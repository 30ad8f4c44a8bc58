-- `cuts::single::drill_at` meets its contract. Assumes nothing.
use mathlib.Core.Path.{sym, ◌∙◌}
use borrow.Author.Rules.{rules}
use Rattle.floats.specs.Pick.{picks}
use Rattle.cuts.specs.Cut.{drill_at}
use Rattle.cuts.proofs.Drills.{drill-past}
use Rattle.cuts.proofs.single.drill_at.Goals as goal

pub returns-then-z-tip : goal.returns-then-z-tip
unfolding drill_at
returns-then-z-tip c = search picks

pub returns-then-cone : goal.returns-then-cone
unfolding drill_at
returns-then-cone c = search picks

pub returns-then-is_past : goal.returns-then-is_past
returns-then-is_past c = let a = c.args in
    let g = c.well_formed.0 in
    drill-past a.z a.tip a.radius a.cone (search (rules, g)) (search (rules, g)) c.if-z-tip.false c.if-cone.false (sym c.is_past.ensures ∙ c.if-is_past.true)

pub returns : goal.returns
unfolding drill_at
returns c = search (picks, ← c.least.ensures, ← c.greatest.ensures)
