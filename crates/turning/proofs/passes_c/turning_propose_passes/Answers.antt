-- `turning::passes_c::turning_propose_passes` meets its contract. Assumes nothing.
use lib.ListN.{length}
use Rattle.stock.specs.declared.TurnStockSpec.{TurnStockSpec}
use Rattle.passes.specs.Propose.{pass_room, propose_of}
use Rattle.turning.proofs.Passing.{gives-passes, same-passes}
use Rattle.turning.proofs.passes_c.turning_propose_passes.Goals as goal

pub returns : goal.returns
returns c = let a = c.args in
    gives-passes _ _ _ _ _ _ _ _ _ _ _ c.give.ensures
    (same-passes _ _ (λ (x : TurnStockSpec). propose_of x a.cells.now a.targets.now a.rn (pass_room (length a.kinds.now) (length a.numbers.now) (length a.parts.now))) _ _ _ _ _ _ _ c.spec_of-spec.ensures c.propose-answer.ensures)
