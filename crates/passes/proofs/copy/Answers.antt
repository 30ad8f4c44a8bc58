-- `passes::copy` meets its contract. Assumes nothing.
use mathlib.Core.Path.{refl}
use native.Mathlib.Omega.{arith}
use Rattle.passes.proofs.Loops.{copied_more, copied_all}
use borrow.Author.Rules.{rules}
use Rattle.passes.proofs.copy.Goals as goal

pub loop-i-init : goal.loop-i-init
loop-i-init c = (search rules, refl)

pub loop-i-preserved : goal.loop-i-preserved
loop-i-preserved c = (search rules, copied_more c.loop-i.to c.args.from.now c.loop-i.i (omega arith) c.loop-i.invariant.0 c.loop-i.invariant.1)

pub returns : goal.returns
returns c = copied_all c.loop-i.to c.args.from.now c.loop-i.i (omega arith) c.loop-i.invariant.0 c.loop-i.invariant.1
