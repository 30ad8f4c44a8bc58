-- `side_by_side::spelled::put_ring` meets its contract. Assumes nothing.
use native.Mathlib.Omega.{arith}
use mathlib.Core.Path.{sym}
use Rattle.text.proofs.Sets.{room}
use Rattle.side_by_side.proofs.Texts.{ring_long, line-put, line-length}
use borrow.Author.Rules.{rules}
use Rattle.side_by_side.proofs.spelled.put_ring.Goals as goal

pub slice_bounds-front-end : goal.slice_bounds-front-end
slice_bounds-front-end c = sym (room c.ring_line-n.ensures.wrote)

pub put_bytes-requires : goal.put_bytes-requires
put_bytes-requires c = let q = c.args.q in
    let l = line-length (search rules) c.ring_line-n.ensures c.front.ensures in
    omega (arith, l, ring_long q.z0 q.z1 q.r0 q.r1)

pub returns : goal.returns
returns c = line-put (search rules) c.ring_line-n.ensures c.front.ensures c.put_bytes.ensures
