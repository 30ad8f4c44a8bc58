-- `insert::samples::first` meets its contract. Assumes nothing.
use native.Mathlib.Omega.{arith}
use mathlib.Core.Path.{sym}
use lib.Seq.{length-take-le, take_all}
use Rattle.insert.proofs.samples.first.Goals as goal

pub returns-then-held-k : goal.returns-then-held-k
returns-then-held-k c = let a = c.args in sym (take_all a.k a.held.now (omega arith))

pub slice_bounds-result-end : goal.slice_bounds-result-end
slice_bounds-result-end c = sym (length-take-le _ _ (omega arith))
