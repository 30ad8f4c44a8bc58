-- `profile::bulge_at` meets its contract. Assumes nothing.
use Rattle.profile.specs.Profile.{bulge_at}
use Rattle.profile.proofs.bulge_at.Goals as goal

pub returns : goal.returns
unfolding bulge_at
returns c = c.clean_at.ensures
