-- `nose::clean_at` meets its contract: 0 / 0 is no number. Assumes nothing.
use mathlib.Core.Path.{sym}
use lib.Ieee.{div, of_bits}
use Rattle.nose.specs.Nose.{clean_at}
use Rattle.nose.proofs.Segments.{past_end}
use Rattle.nose.proofs.clean_at.Goals as goal

pub returns-then-k-list : goal.returns-then-k-list
unfolding clean_at
returns-then-k-list c = c.clean.ensures

pub returns : goal.returns
unfolding div of_bits
returns c = sym (past_end c.args.list.now _ c.if-k-list.false)
