-- `text::plain::put_count` meets its contract. Assumes nothing.
use Rattle.std.proofs.Common.{sym}
use Rattle.text.proofs.Sets.{put-room}
use Rattle.text.proofs.plain.put_count.Goals as goal

pub slice_bounds-front-end : goal.slice_bounds-front-end
slice_bounds-front-end c = sym (put-room c.put_decimal-k.ensures)
