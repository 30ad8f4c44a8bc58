-- `turning::stock_c::room_for` meets its contract. Assumes nothing.
use mathlib.Core.Path.{sym, ap, ◌∙◌}
use native.Mathlib.Omega.{arith}
use Rattle.refusals.proofs.Exits.{same_exit}
use Rattle.refusals.specs.Number.{paper_of}
use Rattle.refusals.specs.Paper.{papers}
use Rattle.stock.specs.Cell.{new_of}
use Rattle.stock.proofs.Count.{checked}
use Rattle.turning.specs.Boundary.{new_kept}
use Rattle.turning.proofs.Blocks.{room-cells, room-blocks, room-held}
use Rattle.turning.proofs.stock_c.room_for.Goals as goal

pub overflow_mul-n : goal.overflow_mul-n
overflow_mul-n c = omega (arith, (checked _ _ (sym c.validate.ensures ∙ ap paper_of c.in_ok-n.was)).few)

pub returns-in_err-n : goal.returns-in_err-n
unfolding new_kept new_of
returns-in_err-n c = search (papers, same_exit _ _ c.from_residual.ensures.1, c.in_err-n.was, ← c.validate.ensures)

pub returns-then-cells_len-n : goal.returns-then-cells_len-n
returns-then-cells_len-n c = room-cells _ _ _ _ (sym c.validate.ensures ∙ ap paper_of c.in_ok-n.was) c.if-cells_len-n.true

pub returns-then-blocks_len-blocks_in : goal.returns-then-blocks_len-blocks_in
returns-then-blocks_len-blocks_in c = room-blocks _ _ _ _ _ (sym c.validate.ensures ∙ ap paper_of c.in_ok-n.was) c.if-cells_len-n.false c.blocks_in.ensures c.if-blocks_len-blocks_in.true

pub returns : goal.returns
returns c = room-held _ _ _ _ _ (sym c.validate.ensures ∙ ap paper_of c.in_ok-n.was) c.if-cells_len-n.false c.blocks_in.ensures c.if-blocks_len-blocks_in.false
