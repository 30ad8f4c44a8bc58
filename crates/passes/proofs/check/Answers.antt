-- `passes::check` meets its contract. Assumes nothing.
use mathlib.Core.Path.{sym, ap, ◌∙◌}
use lib.ListN.{length}
use Rattle.refusals.specs.Number.{paper_of}
use Rattle.passes.specs.Cuts.{cuts_of}
use Rattle.passes.proofs.Verdicts.{asked, checks-refused, checks-decided}
use Rattle.passes.proofs.check.Goals as goal

pub decide_kept-requires : goal.decide_kept-requires
decide_kept-requires c = let a = c.args in
    let w = asked a.stock.spec a.cells.now a.blocks.now a.targets.now a.kinds.now (length a.after.now) (length a.after_blocks.now) c.in_ok-n.n (sym c.checkable.ensures ∙ ap paper_of c.in_ok-n.was) in
    (w.few, w.targets, w.room-is ∙ sym w.cells_are, w.cells_are, w.numbers-are)

pub returns-in_err-n : goal.returns-in_err-n
returns-in_err-n c = let a = c.args in
    checks-refused a.stock a.cells.now a.blocks.now a.targets.now (cuts_of a.kinds.now a.numbers.now a.parts.now a.lists.now) (length a.after.now) (length a.after_blocks.now) _ _ _ _ c.from_residual.ensures.1 (sym c.checkable.ensures ∙ ap paper_of c.in_err-n.was)

pub returns : goal.returns
returns c = let a = c.args in
    checks-decided a.stock a.cells.now a.blocks.now a.targets.now (cuts_of a.kinds.now a.numbers.now a.parts.now a.lists.now) (length a.after.now) (length a.after_blocks.now) c.in_ok-n.n _ _ _ _ _ (sym c.checkable.ensures ∙ ap paper_of c.in_ok-n.was) c.decide_kept.ensures
