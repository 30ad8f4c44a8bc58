-- `text::plain::front` meets its contract. Assumes nothing.
use Rattle.std.proofs.Common.{sym, arith, length-take-le, take_all}
use Rattle.text.proofs.plain.front.Goals as goal

pub returns-then-bytes-n : goal.returns-then-bytes-n
returns-then-bytes-n c = sym (take_all c.args.n c.args.bytes.now (omega arith))

pub slice_bounds-result-end : goal.slice_bounds-result-end
slice_bounds-result-end c = sym (length-take-le _ _ (omega arith))
