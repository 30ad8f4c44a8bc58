-- `profile::is_apart` meets its contract. Assumes nothing.
use Rattle.profile.specs.Profile.{apart}
use Rattle.floats.specs.Pick.{picks}
use Rattle.profile.proofs.is_apart.Goals as goal

pub returns-in_default : goal.returns-in_default
unfolding apart
returns-in_default c = search (picks, c.in_default.is, ← c.length.ensures)

pub returns : goal.returns
unfolding apart
returns c = search (picks, c.in-Ok.is, ← c.length.ensures)
