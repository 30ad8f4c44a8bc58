-- `turning::cuts_c::turning_changes_to` meets its contract. Assumes nothing.
use Rattle.turning.proofs.Given.{gives-changes, same-difference, same-stock}
use Rattle.turning.proofs.cuts_c.turning_changes_to.Goals as goal

pub returns : goal.returns
returns c = gives-changes _ _ _ _ _ _ _ _ _ _ _ _ _ _ c.give_changes.ensures (same-difference _ _ _ _ _ _ _ _ _ _ (same-stock _ _ _ _ _ _ c.stock_of-first.ensures c.spec_of-spec.ensures) c.changes_to-answer.ensures)
