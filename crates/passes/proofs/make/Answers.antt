-- `passes::make` meets its contract. Assumes nothing.
use Rattle.refusals.proofs.Exits.{plain_exit}
use Rattle.passes.proofs.Made.{made_none, made_all}
use Rattle.passes.proofs.make.Goals as goal

pub returns-in_err-list : goal.returns-in_err-list
returns-in_err-list c = let a = c.args in
    made_none a.stock a.after.now a.tool a.beside.now _ _ _ _ _ _ _ c.requires c.preview_tool.ensures c.in_err-list.was (plain_exit _ _ c.from_residual.ensures.1)

pub returns : goal.returns
returns c = let a = c.args in
    made_all a.stock a.after.now a.tool a.beside.now _ _ _ _ _ _ _ _ c.requires c.preview_tool.ensures c.in_ok-list.was c.commit_unasked.ensures
