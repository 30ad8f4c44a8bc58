-- `change_slices::flat::narrow` meets its contract. Assumes nothing.
use Rattle.std.proofs.lemmas.Result.{err_from_is_err_and}
use Rattle.std.specs.Prelude.{Err}
use mathlib.Core.Path.{sym, ap, ◌∙◌}
use borrow.Author.Tests.{lt-ltb, le-ltb}
use Rattle.floats.specs.Pick.{pick_true, pick-false}
use Rattle.change_slices.specs.Proposal.{narrow_answer}
use Rattle.change_slices.proofs.flat.narrow.Goals as goal

pub returns-in_err-list : goal.returns-in_err-list
unfolding narrow_answer
returns-in_err-list c = let r = err_from_is_err_and _ c.from_residual.ensures.1 in
    r.1 ∙ ap Err r.2 ∙ sym (ap (narrow_answer c.args.room) c.in_err-list.was)

pub returns-then-room-list : goal.returns-then-room-list
unfolding narrow_answer
returns-then-room-list c = sym (ap (narrow_answer c.args.room) c.in_ok-list.was ∙ pick_true _ _ _ (lt-ltb _ _ c.if-room-list.true))

pub returns : goal.returns
unfolding narrow_answer
returns c = sym (ap (narrow_answer c.args.room) c.in_ok-list.was ∙ pick-false _ _ _ (le-ltb _ _ c.if-room-list.false))
