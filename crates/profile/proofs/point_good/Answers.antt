-- `profile::point_good` meets its contract. Assumes nothing.
use Rattle.profile.specs.Profile.{point_good}
use Rattle.floats.specs.Pick.{picks}
use Rattle.profile.proofs.point_good.Goals as goal

pub returns : goal.returns
unfolding point_good
returns c = search (picks, ← c.is_usable-3.ensures, ← c.is_usable-2.ensures, ← c.is_usable.ensures)
