-- `turning::passes_c::turning_check_passes` meets its contract. Assumes nothing.
use lib.ListN.{length}
use Rattle.stock.specs.declared.TurnStock.{TurnStock}
use Rattle.passes.specs.Cuts.{cuts_of}
use Rattle.passes.specs.Check.{check_of}
use Rattle.turning.proofs.Given.{same-stock}
use Rattle.turning.proofs.Passing.{gives-checked, same_check}
use Rattle.turning.proofs.passes_c.turning_check_passes.Goals as goal

pub returns : goal.returns
returns c = let a = c.args in
    gives-checked _ _ _ _ _ _ _ _ _ _ _ _ _ _ _ _ _ c.give_checked.ensures
    (same_check _ _ _ (λ (k : TurnStock). check_of k a.cells.now a.blocks.now a.targets.now (cuts_of a.kinds.now a.numbers.now a.parts.now a.lists.now) (length a.after.now) (length a.after_blocks.now)) _ _ _ _ _ (same-stock _ _ _ _ _ _ c.stock_of-stock.ensures c.spec_of-spec.ensures) c.check-answer.ensures)
