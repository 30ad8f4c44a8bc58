-- `profile::clean_at` meets its contract. Assumes nothing.
use mathlib.Core.Path.{sym}
use lib.Ieee.{div, of_bits}
use Rattle.profile.specs.Profile.{clean_at}
use Rattle.profile.proofs.Points.{past_end}
use Rattle.profile.proofs.clean_at.Goals as goal

pub returns-then-k-list : goal.returns-then-k-list
unfolding clean_at
returns-then-k-list c = c.clean.ensures

pub returns : goal.returns
unfolding div of_bits
returns c = sym (past_end c.args.list.now _ c.if-k-list.false)
