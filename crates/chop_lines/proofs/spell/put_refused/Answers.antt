-- `chop_lines::spell::put_refused` meets its contract. Assumes nothing.
use Rattle.std.proofs.Common.{◌≤◌, length, sym, arith, length-take-le, rules}
use Rattle.text.proofs.Sets.{room}
use Rattle.chop_lines.proofs.Putting.{puts-text, put-none, put_on}
use Rattle.chop_lines.proofs.spell.put_refused.Goals as goal

pub slice_bounds-own-end : goal.slice_bounds-own-end
slice_bounds-own-end g c = omega (arith, room c.refused_line-end.ensures.wrote)

pub slice_bounds-put-end : goal.slice_bounds-put-end
slice_bounds-put-end g c = let o = c.refused_line-end in
    let h : o.result ≤ length o.new.out = omega (arith, room o.ensures.wrote) in
    sym (length-take-le o.result o.new.out h)

pub returns : goal.returns
returns g c = put_on (put-none _ _ c.fresh.ensures.0) (puts-text (search rules) c.refused_line-end.ensures.wrote c.put.ensures)
