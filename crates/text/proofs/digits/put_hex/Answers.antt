-- `text::digits::put_hex` meets its contract. Assumes nothing.
use Rattle.std.proofs.Common.{sym, ap, ◌∙◌, arith}
use borrow.Author.Tests.{not-true, not-false}
use Rattle.text.specs.Digits.{digits, hex_of}
use Rattle.text.proofs.Sets.{room-found, retext, byte-then, put_whole, put-none}
use Rattle.text.proofs.Spelling.{field-long}
use Rattle.text.proofs.digits.put_hex.Goals as goal

pub returns-then-not-has_room : goal.returns-then-not-has_room
returns-then-not-has_room c = put-none 17 (field-long c.args.x) (sym c.has_room.ensures ∙ not-true _ c.if-not-has_room.true-raw)

pub bounds-out-at : goal.bounds-out-at
bounds-out-at c = omega (arith, room-found c.args.at 17 c.has_room.ensures (not-false _ c.if-not-has_room.false-raw))

pub overflow_add-at : goal.overflow_add-at
overflow_add-at c = omega (arith, room-found c.args.at 17 c.has_room.ensures (not-false _ c.if-not-has_room.false-raw))

pub spell-requires : goal.spell-requires
spell-requires c = omega (arith, room-found c.args.at 17 c.has_room.ensures (not-false _ c.if-not-has_room.false-raw))

pub returns : goal.returns
unfolding hex_of
returns c = put_whole 17 (field-long c.args.x) (sym c.has_room.ensures ∙ not-false _ c.if-not-has_room.false-raw)
    (byte-then (retext (ap (digits 16 16) c.bits.ensures) c.spell.ensures))
