-- `chop_lines::spell::put_front` meets its contract. Assumes nothing.
use Rattle.std.proofs.Common.{◌≤◌, length, sym, arith, length-take-le, rules}
use Rattle.text.proofs.Sets.{room}
use Rattle.chop_lines.proofs.Putting.{puts-text}
use Rattle.chop_lines.proofs.spell.put_front.Goals as goal

pub slice_bounds-line-end : goal.slice_bounds-line-end
slice_bounds-line-end g c = omega (arith, room c.front_text-end.ensures.wrote)

pub slice_bounds-put-end : goal.slice_bounds-put-end
slice_bounds-put-end g c = let o = c.front_text-end in
    let h : o.result ≤ length o.new.out = omega (arith, room o.ensures.wrote) in
    sym (length-take-le o.result o.new.out h)

pub returns : goal.returns
returns g c = puts-text (search rules) c.front_text-end.ensures.wrote c.put.ensures
