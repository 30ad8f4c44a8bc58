-- `nose::hidden` meets its contract. Assumes nothing.
use mathlib.Core.Path.{sym}
use mathlib.Core.Bool.{true≢false}
use Rattle.nose.proofs.Overs.{hides}
use Rattle.nose.proofs.hidden.Goals as goal

pub returns-in_default : goal.returns-in_default
returns-in_default c e = absurd (true≢false (sym e))

pub returns : goal.returns
returns c e rn = hides _ _ _ c.in-Some.is (c.over.ensures e rn)
