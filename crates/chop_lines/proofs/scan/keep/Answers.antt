-- `chop_lines::scan::keep` meets its contract. Assumes nothing.
use Rattle.std.proofs.Common.{arith, length-set}
use Rattle.chop_lines.proofs.Reading.{kept_more, kept_full}
use Rattle.chop_lines.proofs.scan.keep.Goals as goal

pub bounds-numbers-at : goal.bounds-numbers-at
bounds-numbers-at c = omega (arith, c.requires)

pub bounds-numbers-at-then-n-lt-MOST : goal.bounds-numbers-at-then-n-lt-MOST
bounds-numbers-at-then-n-lt-MOST c = simp length-set (omega (arith, c.requires))

pub bounds-numbers-at-then-n-lt-MOST-2 : goal.bounds-numbers-at-then-n-lt-MOST-2
bounds-numbers-at-then-n-lt-MOST-2 c = simp length-set (omega (arith, c.requires))

pub returns-then-n-lt-MOST : goal.returns-then-n-lt-MOST
returns-then-n-lt-MOST c = let a = c.args in kept_more a.numbers.now a.n a.r a.z a.bulge c.requires (omega arith)

pub returns : goal.returns
returns c = let a = c.args in kept_full a.numbers.now a.n a.r a.z a.bulge c.requires (omega arith)
