-- `job_run::line::make_cut` meets its contract. Assumes nothing.
use Rattle.refusals.proofs.Exits.{plain_exit}
use Rattle.job_run.proofs.Made.{made_none, made_all, made-lists}
use Rattle.job_run.proofs.line.make_cut.Goals as goal

pub returns-in_err-list : goal.returns-in_err-list
returns-in_err-list c = let a = c.args in record {
  applies = made_none a.stock a.cells.now a.cut _ _ _ _ _ _ _ c.preview_of.ensures c.in_err-list.was (plain_exit _ _ c.from_residual.ensures.1);
  lists_lent = made-lists _ _ _ _ _ _ _ c.preview_of.ensures;
}

pub returns : goal.returns
returns c = let a = c.args in record {
  applies = made_all a.stock a.cells.now a.cut _ _ _ _ _ _ _ _ c.preview_of.ensures c.in_ok-list.was c.commit_unasked.ensures;
  lists_lent = made-lists _ _ _ _ _ _ _ c.preview_of.ensures;
}
