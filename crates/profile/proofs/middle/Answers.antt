-- `profile::middle` meets its contract. Assumes nothing.
use Rattle.profile.specs.Chords.{middle_of}
use Rattle.profile.proofs.middle.Goals as goal

pub returns : goal.returns
unfolding middle_of
returns c = simp (c.clean-2.ensures, c.clean.ensures)
