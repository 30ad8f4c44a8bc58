-- `turning::cuts_c::turning_apply` meets its contract. Assumes nothing.
use Rattle.turning.proofs.Given.{gives-stock, same-commit, same-stock}
use Rattle.turning.proofs.cuts_c.turning_apply.Goals as goal

pub returns : goal.returns
returns c = gives-stock _ _ _ _ _ _ _ _ _ _ _ _ c.give_generation.ensures
    (same-commit _ _ _ _ _ _ _ _ _ _ _ (same-stock _ _ _ _ _ _ c.stock_of-stock.ensures c.spec_of-spec.ensures) c.list_of-list.ensures c.apply-answer.ensures)
