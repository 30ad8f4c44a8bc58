-- `stock_streams::take_some` meets its contract. Assumes nothing.
use mathlib.Core.Path.{sym}
use native.Mathlib.Omega.{arith}
use lib.ListN.{take}
use lib.Seq.{length-take-le}
use Rattle.streams.specs.Brought.{brought_by}
use Rattle.stock_streams.proofs.take_some.Goals as goal

pub slice_bounds-take_once-end : goal.slice_bounds-take_once-end
slice_bounds-take_once-end g c = sym (length-take-le _ _ (omega arith))

pub returns : goal.returns
returns g c = let t = c.take_once.ensures in
    record { bytes = take (brought_by c.take_once.result.got) c.take_once.new.part; takes = record { room = t.room; reads = t.reads; holds = t.holds; keeps = t.keeps } }
