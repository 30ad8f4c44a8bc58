-- `cuts::nose_rows::pass` meets its contract. Assumes nothing.
use native.Mathlib.Omega.{arith}
use Rattle.cuts.proofs.Sweeps.{none-reached, all-passed, idle-more}
use Rattle.cuts.proofs.nose_rows.pass.Goals as goal

pub returns-then-last-first : goal.returns-then-last-first
returns-then-last-first c = (
  none-reached _ _ _ _ _ c.find-first.ensures c.find-last.ensures c.if-last-first.true _,
  c.requires.2,
)

pub swept-requires : goal.swept-requires
swept-requires c = let p = c.requires in
    let w = c.find-last.ensures.within in
    let few = p.0.few in
    (omega arith, omega arith, record { numbers = omega (arith, p.1.numbers); flags = omega (arith, p.1.flags) })

pub returns : goal.returns
returns c = let p = c.requires in (
  all-passed _ _ _ _ _ c.find-first.ensures c.find-last.ensures c.swept.ensures,
  idle-more _ _ c.find-last.ensures.within p.2 c.swept.ensures c.wider.ensures.0 c.wider.ensures.1,
)
