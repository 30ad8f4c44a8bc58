-- `stock_file::take_part` meets its contract. Assumes nothing.
use mathlib.Core.Path.{◌≡◌, refl, sym}
use lib.ListN.{length}
use Rattle.text.specs.Wrote.{line_room}
use Rattle.text.proofs.Sets.{put-room}
use Rattle.stock_lines.specs.Reading.{state}
use Rattle.stock_file.proofs.Held.{few-held, part-taken}
use borrow.Author.Rules.{rules}
use Rattle.stock_file.proofs.take_part.Goals as goal

pub slice_bounds-take_bytes-end : goal.slice_bounds-take_bytes-end
slice_bounds-take_bytes-end c = sym (put-room c.put.ensures)

pub take_bytes-taken-requires : goal.take_bytes-taken-requires
take_bytes-taken-requires c = (few-held _ _ c.lesser-n.ensures, put-room c.put.ensures)

pub returns : goal.returns
returns c = let a = c.args in
    let b = c.take_bytes-taken.ensures in
    let room : length a.line.now ≡ line_room = search rules in
    let w = part-taken (state a.reading a.cells.now a.rings.now) _ a.len _ _ a.bytes.now a.line.now _ _ _ c.lesser-n.ensures room refl c.front.ensures c.put.ensures b.same b.few b.room c.front-2.ensures c.put-2.ensures in
    record { room = room; reads = w.reads; holds = w.holds; keeps = w.keeps }
