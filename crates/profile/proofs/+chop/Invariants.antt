-- The cycle of calls of `profile::chop`. The measure is the levels left. Assumes nothing.
use Rattle.profile.proofs.+chop.Given as goal

abbrev pub decreases-chop : goal.decreases-chop
decreases-chop l = l.levels
