-- `passes::propose::propose` meets its contract. Assumes nothing.
use mathlib.Core.Path.{sym, ap, ◌∙◌}
use borrow.Author.Tests.{not-true, not-false}
use Rattle.refusals.specs.Number.{paper_of}
use Rattle.refusals.proofs.Exits.{same_exit}
use Rattle.passes.proofs.Proposals.{left, left_at, proposed, targets-reach, nose-test, of-cells, of-targets, of-nose, of-all}
use Rattle.passes.proofs.propose.propose.Goals as goal

pub returns-then-not-are_good : goal.returns-then-not-are_good
returns-then-not-are_good c = left _ _ _ _ _ (of-targets _ _ _ _ _ c.in_ok-n.n (sym c.cells_fit.ensures ∙ ap paper_of c.in_ok-n.was) (sym c.are_good.ensures ∙ not-true _ c.if-not-are_good.true-raw))

pub returns-then-not-is_usable-nose : goal.returns-then-not-is_usable-nose
returns-then-not-is_usable-nose c = left _ _ _ _ _ (of-nose _ _ _ _ _ c.in_ok-n.n (sym c.cells_fit.ensures ∙ ap paper_of c.in_ok-n.was) (sym c.are_good.ensures ∙ not-false _ c.if-not-are_good.false-raw) (nose-test _ _ _ _ c.clean-nose.ensures c.is_usable.ensures (not-true _ c.if-not-is_usable-nose.true-raw)))

pub write_passes-requires : goal.write_passes-requires
write_passes-requires c = targets-reach c.args.targets.now c.in_ok-n.n (sym c.are_good.ensures ∙ not-false _ c.if-not-are_good.false-raw)

pub returns-in_err-n : goal.returns-in_err-n
returns-in_err-n c = left_at _ _ _ _ _ _ (same_exit _ _ c.from_residual.ensures.1) (of-cells _ _ _ _ _ _ (sym c.cells_fit.ensures ∙ ap paper_of c.in_err-n.was))

pub returns : goal.returns
returns c = proposed _ _ _ _ _ _ _ _ _
    (of-all _ _ _ _ _ c.in_ok-n.n (sym c.cells_fit.ensures ∙ ap paper_of c.in_ok-n.was) _ _ (sym c.are_good.ensures ∙ not-false _ c.if-not-are_good.false-raw) (nose-test _ _ _ _ c.clean-nose.ensures c.is_usable.ensures (not-false _ c.if-not-is_usable-nose.false-raw)) c.clean_spec-s.ensures c.clean-nose.ensures)
    c.write_passes.ensures
