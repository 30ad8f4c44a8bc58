-- `profile::chop` meets its contract, return by return. Assumes nothing.
use Rattle.profile.proofs.Halves.{last-over, first-over, both_say, one-over, one-put}
use Rattle.profile.proofs.+chop.Goals as goal

pub returns-then-room-at : goal.returns-then-room-at
returns-then-room-at t c = one-over _ _ _ _ _ _ c.sag_of-sag.ensures c.if-sag-tolerance.true c.if-room-at.true

pub returns-then-sag-tolerance : goal.returns-then-sag-tolerance
returns-then-sag-tolerance t c = one-put _ _ _ _ _ _ c.sag_of-sag.ensures c.if-sag-tolerance.true c.if-room-at.false c.put_chord.ensures

pub returns-then-levels-eq0 : goal.returns-then-levels-eq0
returns-then-levels-eq0 t c = last-over _ _ _ _ _ _ c.sag_of-sag.ensures c.if-sag-tolerance.false c.if-levels-eq0.true

pub returns-in_err-next : goal.returns-in_err-next
returns-in_err-next t c = rw c.from_residual.ensures (first-over _ _ _ _ _ _ _ _ c.sag_of-sag.ensures c.if-sag-tolerance.false c.if-levels-eq0.false c.middle-m.ensures c.half_bulge-half.ensures c.in_err-next.was c.chop.ensures)

pub returns : goal.returns
returns t c = both_say _ _ _ _ _ _ _ _ c.sag_of-sag.ensures c.if-sag-tolerance.false c.if-levels-eq0.false c.middle-m.ensures c.half_bulge-half.ensures c.in_ok-next.was c.chop.ensures c.chop-2.ensures
