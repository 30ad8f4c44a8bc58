-- `profile::point_at` meets its contract. Assumes nothing.
use Rattle.profile.specs.Profile.{point_at}
use Rattle.profile.proofs.point_at.Goals as goal

pub returns : goal.returns
unfolding point_at
returns c = simp (c.clean_at-2.ensures, c.clean_at.ensures)
