-- `stock_file::front` meets its contract. Assumes nothing.
use native.Mathlib.Omega.{arith}
use mathlib.Core.Path.{sym}
use lib.Seq.{length-take-le}
use Rattle.stock_file.proofs.Ends.{front-short, front_long}
use Rattle.stock_file.proofs.front.Goals as goal

pub returns-then-xs-n : goal.returns-then-xs-n
returns-then-xs-n c = let a = c.args in front-short a.n a.xs.now c.if-xs-n.true

pub slice_bounds-result-end-2 : goal.slice_bounds-result-end-2
slice_bounds-result-end-2 c = sym (length-take-le _ _ (omega arith))

pub returns : goal.returns
returns c = let a = c.args in front_long a.n a.xs.now c.if-xs-n.false
