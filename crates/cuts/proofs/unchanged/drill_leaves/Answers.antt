-- `cuts::unchanged::drill_leaves` meets its contract. Assumes nothing.
use mathlib.Core.Bool.{false≢true}
use borrow.Author.Rules.{rules}
use Rattle.cuts.proofs.Left.{drill-told}
use Rattle.cuts.proofs.unchanged.drill_leaves.Goals as goal

pub returns-then-c-most : goal.returns-then-c-most
returns-then-c-most c t = absurd (false≢true t)

pub returns : goal.returns
returns c t = let g = c.well_formed.0 in
    drill-told c.args.radius c.args.c _ (search (rules, g)) (record { outer-lower = search rules; outer-upper = search rules; inner-lower = search rules; inner-upper = search rules }) c.least-most.ensures t
