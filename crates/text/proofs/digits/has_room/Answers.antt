-- `text::digits::has_room` meets its contract. Assumes nothing.
use Rattle.text.proofs.Sets.{room_in, room-past}
use Rattle.text.proofs.digits.has_room.Goals as goal

pub returns-then-at-gt-LINE_ROOM : goal.returns-then-at-gt-LINE_ROOM
returns-then-at-gt-LINE_ROOM c = room-past _ _ c.if-at-gt-LINE_ROOM.true

pub returns : goal.returns
returns c = room_in _ _ c.if-at-gt-LINE_ROOM.false
