-- `side_by_side::compare` meets its contract. Assumes nothing.
use mathlib.Core.Path.{sym, ◌∙◌}
use borrow.Author.Tests.{not-true, not-false}
use Rattle.side_by_side.proofs.Texts.{by_count}
use Rattle.side_by_side.proofs.Decided.{unequal, over-room, counted}
use Rattle.side_by_side.proofs.compare.Goals as goal

pub returns-then-not-same_bar : goal.returns-then-not-same_bar
returns-then-not-same_bar c = unequal _ _ _ _ (sym c.same_bar.ensures ∙ not-true _ c.if-not-same_bar.true-raw)

pub returns-then-not-both_in_hand : goal.returns-then-not-both_in_hand
returns-then-not-both_in_hand c = over-room _ _ _ _ (sym c.same_bar.ensures ∙ not-false _ c.if-not-same_bar.false-raw) (sym c.both_in_hand.ensures ∙ not-true _ c.if-not-both_in_hand.true-raw)

pub returns : goal.returns
returns c = let a = c.args in
    counted _ _ _ _ (sym c.same_bar.ensures ∙ not-false _ c.if-not-same_bar.false-raw) (sym c.both_in_hand.ensures ∙ not-false _ c.if-not-both_in_hand.false-raw) _
    (by_count a.cells1.now a.cells2.now a.rings1.now a.rings2.now a.count1 a.count2 _ _ _ 0 c.bin_count-n.ensures c.lent_of.ensures c.lent_of-2.ensures)
