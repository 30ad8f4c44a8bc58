-- `turning::cuts_c::turning_drill` meets its contract. Assumes nothing.
use Rattle.turning.proofs.Given.{gives-changes, same-preview, same-stock}
use Rattle.turning.proofs.cuts_c.turning_drill.Goals as goal

pub returns : goal.returns
returns c = gives-changes _ _ _ _ _ _ _ _ _ _ _ _ _ _ c.give_changes.ensures (same-preview _ _ _ _ _ _ _ _ _ _ (same-stock _ _ _ _ _ _ c.stock_of-stock.ensures c.spec_of-spec.ensures) c.drill-answer.ensures)
