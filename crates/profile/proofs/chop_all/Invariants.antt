-- `profile::chop_all` meets its contract. The loop's invariant: the chords of the segments passed are put. Assumes nothing.
use Rattle.std.specs.Prelude.{Some}
use Rattle.profile.specs.Chords.{chords_to, Chops}
use Rattle.profile.proofs.chop_all.Given as goal

abbrev pub invariant-loop-k : goal.invariant-loop-k
invariant-loop-k l = Chops (chords_to l.points l.tolerance l.k) l.room 0 (Some l.at) l.initial.out l.out
