-- `turning::rings_c::turning_from_parts` meets its contract. Assumes nothing.
use Rattle.turning.proofs.Given.{gives-store, same_store}
use Rattle.turning.proofs.rings_c.turning_from_parts.Goals as goal

pub returns : goal.returns
returns c = gives-store _ _ _ _ _ _ _ _ _ _ c.args.given.now _ _ _ _ _ _ _ _ c.give_stock.ensures (same_store _ _ _ c.args.cells.now c.args.given.now _ _ _ _ _ _ _ c.spec_of-spec.ensures c.from_parts-answer.ensures)
