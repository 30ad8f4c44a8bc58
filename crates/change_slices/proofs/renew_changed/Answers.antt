-- `change_slices::renew_changed` meets its contract. Assumes nothing.
use Rattle.change_slices.proofs.Renewed.{closed_all}
use Rattle.change_slices.proofs.renew_changed.Goals as goal

pub loop-change-init : goal.loop-change-init
loop-change-init c = closed_all c.args.s c.args.n c.args.cells.now c.args.blocks.now c.args.changes.now c.open-block.result c.open-block.new.blocks c.open-block.ensures
