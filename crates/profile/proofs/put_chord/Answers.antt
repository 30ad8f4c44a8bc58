use mathlib.Core.Path.{sym}
use Prim.Native.Nat.{◌/◌}
use native.Mathlib.Omega.{arith}
use borrow.Author.Tests.{le-leb, lt-leb}
use lib.ListN.{length, length-set}
use Rattle.profile.specs.Chords.{put_chord}
use Rattle.floats.specs.Pick.{pick_true, pick-false}
use Rattle.profile.proofs.put_chord.Goals as goal

pub returns-then-out-k : goal.returns-then-out-k
unfolding put_chord
returns-then-out-k c = sym (pick_true _ _ _ (le-leb (length c.args.out.now / 5) c.args.k c.if-out-k.true))

pub bounds-out-at-2 : goal.bounds-out-at-2
bounds-out-at-2 c = simp length-set (omega arith)

pub bounds-out-at-3 : goal.bounds-out-at-3
bounds-out-at-3 c = simp length-set (omega arith)

pub bounds-out-at-4 : goal.bounds-out-at-4
bounds-out-at-4 c = simp length-set (omega arith)

pub bounds-out-at-5 : goal.bounds-out-at-5
bounds-out-at-5 c = simp length-set (omega arith)

pub returns : goal.returns
unfolding put_chord
returns c = sym (pick-false _ _ _ (lt-leb (length c.args.out.now / 5) c.args.k c.if-out-k.false))
