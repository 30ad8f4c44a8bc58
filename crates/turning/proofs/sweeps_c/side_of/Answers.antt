-- `turning::sweeps_c::side_of` meets its contract. Assumes nothing.
use Rattle.std.proofs.Common.{◌≡◌, refl, arith}
use borrow.Author.Tests.{ne_eqb}
use Rattle.floats.specs.Pick.{pick}
use Rattle.turning.proofs.sweeps_c.side_of.Goals as goal

pub returns-in-0 : goal.returns-in-0
unfolding pick
returns-in-0 c = rw c.in-0.is refl

pub returns-in-1 : goal.returns-in-1
unfolding pick
returns-in-1 c = rw c.in-1.is refl

pub returns-in_default : goal.returns-in_default
unfolding pick
returns-in_default c =
    let a : c.args.side ≡ 0 → ⊥ = λ e. omega arith in
    let b : c.args.side ≡ 1 → ⊥ = λ e. omega arith in
    simp (ne_eqb c.args.side 0 a, ne_eqb c.args.side 1 b)
