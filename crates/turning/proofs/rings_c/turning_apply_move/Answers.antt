-- `turning::rings_c::turning_apply_move` meets its contract. Assumes nothing.
use Rattle.stock.specs.declared.TurnStock.{TurnStock}
use Rattle.changes.specs.declared.ChangeList.{ChangeList}
use Rattle.moves.specs.Move.{move_of}
use Rattle.turning.proofs.Given.{gives_move, same_move, same-stock}
use Rattle.turning.proofs.rings_c.turning_apply_move.Goals as goal

pub returns : goal.returns
returns c = let a = c.args in
    gives_move _ _ _ _ _ _ _ _ _ _ a.removed.now _ _ _ _ _ _ _ _ c.give_stock.ensures
    (same_move _ _ _ _ (λ (x : TurnStock) (l : ChangeList). move_of x a.cells.now a.blocks.now a.rings.now l a.indices.now a.records.now a.removed.now) a.removed.now _ _ _ _ _ _ _ _ _ (same-stock _ _ _ _ _ _ c.stock_of-stock.ensures c.spec_of-spec.ensures) c.list_of-list.ensures c.apply_move-answer.ensures)
