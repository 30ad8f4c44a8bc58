-- `profile::profile_good` meets its contract. Assumes nothing.
use borrow.Author.Tests.{eq-eqb, ne_eqb, le-leb, lt-leb}
use Rattle.profile.specs.Profile.{profile_good}
use Rattle.profile.proofs.profile_good.Goals as goal

pub returns-then-m-len : goal.returns-then-m-len
unfolding profile_good
returns-then-m-len c = simp (ne_eqb _ _ c.if-m-len.true)

pub returns-then-m-lt2 : goal.returns-then-m-lt2
unfolding profile_good
returns-then-m-lt2 c = simp (eq-eqb _ _ c.if-m-len.false, lt-leb _ _ c.if-m-lt2.true)

pub returns-then-m-gt-PROFILE_LIMIT : goal.returns-then-m-gt-PROFILE_LIMIT
unfolding profile_good
returns-then-m-gt-PROFILE_LIMIT c = simp (eq-eqb _ _ c.if-m-len.false, le-leb _ _ c.if-m-lt2.false, lt-leb _ _ c.if-m-gt-PROFILE_LIMIT.true)

pub returns : goal.returns
unfolding profile_good
returns c = simp (eq-eqb _ _ c.if-m-len.false, le-leb _ _ c.if-m-lt2.false, le-leb _ _ c.if-m-gt-PROFILE_LIMIT.false, c.is_usable.ensures, c.good_to.ensures, c.apart_to.ensures)
