-- `envelope::straight` meets its contract. Assumes nothing.
use mathlib.Core.Path.{sym}
use borrow.Author.Tests.{le-leb, lt-leb}
use Rattle.floats.specs.Pick.{pick_true, pick-false}
use Rattle.envelope.specs.Halving.{straight}
use Rattle.envelope.proofs.straight.Goals as goal

pub returns-then-s : goal.returns-then-s
unfolding straight
returns-then-s c = sym (pick_true _ _ _ (le-leb _ _ c.if-s.true))

pub returns : goal.returns
unfolding straight
returns c = sym (pick-false _ _ _ (lt-leb _ _ c.if-s.false))
