-- `passes::targets::are_good` meets its contract. Assumes nothing.
use native.Mathlib.Omega.{arith}
use Rattle.passes.proofs.Runs.{targets-not, targets-are}
use Rattle.passes.proofs.targets.are_good.Goals as goal

pub returns-then-pairs-n : goal.returns-then-pairs-n
returns-then-pairs-n c = let e = c.args.targets.now in targets-not e c.args.n (λ h. omega arith)

pub returns-then-targets-pairs : goal.returns-then-targets-pairs
returns-then-targets-pairs c = let e = c.args.targets.now in targets-not e c.args.n (λ h. omega arith)

pub returns : goal.returns
returns c = targets-are _ _ _ _ (omega arith) (omega arith) c.targets_to.ensures
