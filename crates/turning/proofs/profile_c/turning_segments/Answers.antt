-- `turning::profile_c::turning_segments` meets its contract. Assumes nothing.
use Rattle.turning.proofs.Given.{gives-chords}
use Rattle.turning.proofs.profile_c.turning_segments.Goals as goal

pub returns : goal.returns
returns c = gives-chords _ _ _ _ _ _ _ _ c.give.ensures c.segments-answer.ensures
