-- `blocks::Cells::kept_between` meets its contract. Assumes nothing.
use native.Mathlib.Omega.{arith}
use borrow.Author.Tests.{not-true, not-false}
use Rattle.blocks.proofs.Ranges.{over-room, kept-none, kept-some}
use Rattle.blocks.proofs.Cells.kept_between.Goals as goal

pub returns-then-not-lo-hi : goal.returns-then-not-lo-hi
returns-then-not-lo-hi c = kept-none _ _ _ _ _ _ (not-true _ c.if-not-lo-hi.true-raw)

pub overflow_add-last : goal.overflow_add-last
overflow_add-last c = omega (arith, over-room _ _ _ _ _ c.bins_over-bins.ensures)

pub returns : goal.returns
returns c = kept-some _ _ _ _ _ _ _ _ _ _ _ (not-false _ c.if-not-lo-hi.false-raw) c.greatest-from.ensures c.least-to.ensures c.bins_over-bins.ensures c.most_kept.ensures c.shown.ensures
