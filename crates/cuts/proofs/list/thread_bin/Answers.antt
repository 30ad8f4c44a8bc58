-- `cuts::list::thread_bin` meets its contract. Assumes nothing.
use mathlib.Core.Path.{ap, ◌∙◌}
use Rattle.stock.specs.Cell.{same_cell}
use Rattle.reach.specs.declared.Reach.TheVariants.{Low}
use Rattle.reach.specs.Reach.{cut_cell}
use Rattle.changes.proofs.Placed.{list_same}
use Rattle.cuts.proofs.EachBin.{listed-put}
use Rattle.cuts.proofs.list.thread_bin.Goals as goal

pub returns-then-thread_leaves : goal.returns-then-thread_leaves
returns-then-thread_leaves c = list_same _ _ _ _ (ap (same_cell c.args.before) (c.thread_leaves.ensures.stays c.if-thread_leaves.true) ∙ c.requires.1)

pub returns : goal.returns
returns c = let a = c.args in
    listed-put a.k a.i a.before _ (cut_cell a.side a.before (Low a.radius)) c.cut_cell-after.ensures (c.thread_leaves.ensures.moves c.if-thread_leaves.false) c.requires.0 c.put.ensures
