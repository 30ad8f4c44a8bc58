-- `profile::half_bulge` meets its contract. Assumes nothing.
use Rattle.profile.specs.Chords.{half_of}
use Rattle.floats.specs.Pick.{picks}
use lib.Ieee.{div, of_bits}
use Rattle.profile.proofs.half_bulge.Goals as goal

pub returns-in_default : goal.returns-in_default
unfolding half_of div of_bits
returns-in_default c = search (picks, c.in_default.is, ← c.root.ensures)

pub returns : goal.returns
unfolding half_of
returns c = search (picks, c.in-Ok.is, ← c.root.ensures)
