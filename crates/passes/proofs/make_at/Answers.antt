-- `passes::make_at` meets its contract. Assumes nothing.
use Rattle.passes.proofs.InTurn.{made_at}
use Rattle.passes.proofs.make_at.Goals as goal

pub returns : goal.returns
returns c = let a = c.args in
    made_at a.stock a.kinds.now a.numbers.now a.parts.now a.lists.now a.k _ _ _ _ _ _ c.tool_at-tool.ensures c.beside_at-beside.ensures c.make.ensures
