-- `cuts::nose_rows::rested` meets its contract. Assumes nothing.
use mathlib.Core.Path.{◌≡◌}
use native.Mathlib.Omega.{arith}
use borrow.Author.Tests.{not-false}
use Rattle.cuts.proofs.Rests.{rested-none, rested-more}
use Rattle.cuts.proofs.nose_rows.rested.Goals as goal

pub loop-i-init : goal.loop-i-init
loop-i-init c = (omega arith, omega arith, rested-none _ _ _ _)

pub returns-then-not-rests : goal.returns-then-not-rests
returns-then-not-rests c = let l = c.loop-i in (l.invariant.1, l.invariant.2)

pub loop-i-preserved : goal.loop-i-preserved
loop-i-preserved c = let l = c.loop-i in (
  omega arith,
  omega arith,
  rested-more _ _ c.bin_of.ensures c.row_at.ensures (c.rests.ensures (not-false _ c.if-not-rests.false-raw)) l.invariant.2,
)

pub returns : goal.returns
returns c = let l = c.loop-i in
    let e : l.i ≡ c.args.last = omega arith in
    (omega arith, rw (← e) l.invariant.2)
