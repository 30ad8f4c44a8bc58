-- `text::digits::put_four` meets its contract. Assumes nothing.
use Rattle.std.proofs.Common.{sym, ◌∙◌}
use borrow.Author.Tests.{not-true, not-false}
use Rattle.text.proofs.Sets.{put-none}
use Rattle.text.proofs.Spelling.{four-long}
use Rattle.text.proofs.Chain.{four-put}
use Rattle.text.proofs.digits.put_four.Goals as goal

pub returns-then-not-has_room : goal.returns-then-not-has_room
returns-then-not-has_room c = let s = c.args in
    put-none 69 (four-long s.a s.b s.c s.d) (sym c.has_room.ensures ∙ not-true _ c.if-not-has_room.true-raw)

pub returns : goal.returns
returns c = let s = c.args in
    four-put s.a s.b s.c s.d (sym c.has_room.ensures ∙ not-false _ c.if-not-has_room.false-raw)
    c.put_hex-e0.ensures c.put_hex-e1.ensures c.put_hex-e2.ensures c.put_hex-e3.ensures c.put.ensures
