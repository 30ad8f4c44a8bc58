-- `text::digits::put_based` meets its contract. Assumes nothing.
use Rattle.std.proofs.Common.{sym, ◌∙◌, arith}
use Rattle.text.proofs.Sets.{room-found, put_whole, put-none}
use Rattle.text.proofs.Spelling.{digits-length}
use Rattle.text.proofs.digits.put_based.Goals as goal

pub spell-requires : goal.spell-requires
spell-requires c = let a = c.args in
    omega (arith, room-found a.at a.k c.has_room.ensures c.if-has_room.true)

pub returns-then-has_room : goal.returns-then-has_room
returns-then-has_room c = let a = c.args in
    put_whole a.k (digits-length a.base a.k a.n) (sym c.has_room.ensures ∙ c.if-has_room.true) c.spell.ensures

pub returns : goal.returns
returns c = let a = c.args in
    put-none a.k (digits-length a.base a.k a.n) (sym c.has_room.ensures ∙ c.if-has_room.false)
