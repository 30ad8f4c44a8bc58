-- `passes::targets::targets_to` meets its contract. The loop's invariant: what is found so far is said of the bins passed. Assumes nothing.
use mathlib.Core.Path.{◌≡◌, refl}
use native.Mathlib.Omega.{arith}
use borrow.Author.Rules.{rules}
use Rattle.passes.specs.Check.{targets_to}
use Rattle.passes.proofs.Runs.{targets-more}
use Rattle.passes.proofs.targets.targets_to.Goals as goal

pub loop-i-init : goal.loop-i-init
unfolding targets_to
loop-i-init c = (search rules, refl)

pub loop-i-preserved : goal.loop-i-preserved
loop-i-preserved c = (search rules, simp (targets-more, c.target_good-ok.ensures, c.loop-i.invariant.1))

pub returns : goal.returns
returns c = let e : c.loop-i.i ≡ c.args.n = omega arith in
    rw (← e) c.loop-i.invariant.1
