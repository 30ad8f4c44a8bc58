-- `chop_lines::first` meets its contract. Assumes nothing.
use Rattle.std.proofs.Common.{◌*◌, sym, arith, length-take-le, take_all}
use Rattle.chop_lines.proofs.first.Goals as goal

pub returns-then-numbers-n : goal.returns-then-numbers-n
returns-then-numbers-n c = let a = c.args in sym (take_all (3 * a.n) a.numbers.now (omega arith))

pub slice_bounds-result-end : goal.slice_bounds-result-end
slice_bounds-result-end c = sym (length-take-le _ _ (omega arith))
