-- `stock::cell_passes` meets its contract. Assumes nothing.
use Rattle.std.proofs.Common.{◌≡◌, true, sym, ◌∙◌, rules}
use Rattle.stock.specs.Cell.{between}
use Rattle.stock.proofs.Passes.{Clear, clear, fits-unsigned, no-fit}
use Rattle.stock.proofs.cell_passes.Goals as goal
use Rattle.stock.proofs.cell_passes.Goals.{Start}

-- none of the bounds is below zero where the comparisons hold
passed : (c : Start) → between c.args.s c.args.c ≡ true → Clear c.args.c
passed c t =
    let g = c.well_formed in
    clear c.args.s c.args.c (search (rules, g)) (record { outer-lower = search (rules, g); outer-upper = search (rules, g); inner-lower = search (rules, g); inner-upper = search (rules, g) }) (search rules) t

pub has_sign-requires : goal.has_sign-requires
has_sign-requires c = (passed c.before.before (sym c.is_between.ensures ∙ c.if-is_between.true)).outer-lower

pub has_sign-requires-then-is_between : goal.has_sign-requires-then-is_between
has_sign-requires-then-is_between c = (passed c.before.before.before (sym c.is_between.ensures ∙ c.if-is_between.true)).outer-upper

pub has_sign-requires-then-is_between-2 : goal.has_sign-requires-then-is_between-2
has_sign-requires-then-is_between-2 c = (passed c.before.before.before.before (sym c.is_between.ensures ∙ c.if-is_between.true)).inner-lower

pub has_sign-requires-then-is_between-3 : goal.has_sign-requires-then-is_between-3
has_sign-requires-then-is_between-3 c = (passed c.before.before.before.before.before (sym c.is_between.ensures ∙ c.if-is_between.true)).inner-upper

pub returns-then-is_between : goal.returns-then-is_between
returns-then-is_between c = rw (c.has_sign-then-is_between-3.ensures, c.has_sign-then-is_between-2.ensures, c.has_sign-then-is_between.ensures, c.has_sign.ensures)
    (fits-unsigned c.args.s c.args.c (sym c.is_between.ensures ∙ c.if-is_between.true))

pub returns : goal.returns
returns c = no-fit c.args.s c.args.c (sym c.is_between.ensures ∙ c.if-is_between.false)
