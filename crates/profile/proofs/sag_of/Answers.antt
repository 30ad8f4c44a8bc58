-- `profile::sag_of` meets its contract. Assumes nothing.
use Rattle.profile.specs.Chords.{sag_of}
use Rattle.floats.specs.Pick.{picks}
use lib.Ieee.{div, of_bits}
use Rattle.profile.proofs.sag_of.Goals as goal

pub returns-in_default : goal.returns-in_default
unfolding sag_of div of_bits
returns-in_default c = search (picks, c.in_default.is, ← c.length.ensures)

pub returns : goal.returns
unfolding sag_of
returns c = search (picks, ← c.abs.ensures, ← c.clean.ensures, c.in-Ok.is, ← c.length.ensures)
