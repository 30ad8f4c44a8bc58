-- `job_streams::put_line` meets its contract. Assumes nothing.
use mathlib.Core.Path.{sym}
use native.Mathlib.Omega.{arith}
use Prim.Native.Nat.{◌≤◌}
use lib.ListN.{length}
use lib.Seq.{length-take-le}
use Rattle.text.proofs.Sets.{room}
use Rattle.job_streams.proofs.Putting.{put-line}
use borrow.Author.Rules.{rules}
use Rattle.job_streams.proofs.put_line.Goals as goal

pub slice_bounds-line-end : goal.slice_bounds-line-end
slice_bounds-line-end g c = omega (arith, room c.output_line-end.ensures.writes_line.wrote)

pub slice_bounds-put-end : goal.slice_bounds-put-end
slice_bounds-put-end g c = let o = c.output_line-end in
    let h : o.result ≤ length o.new.out = omega (arith, room o.ensures.writes_line.wrote) in
    sym (length-take-le o.result o.new.out h)

pub returns : goal.returns
returns g c = let o = c.output_line-end.ensures in put-line o.rings_len_bound (search rules) o.writes_line c.put.ensures
