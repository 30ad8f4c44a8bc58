-- `text::digits::put` meets its contract. Assumes nothing.
use Rattle.std.proofs.Common.{◌+◌, ◌-◌, length, sym, refl, ap, ◌∙◌, arith, leb-true}
use borrow.Rule.Slice.PartMut.{put_mid}
use borrow.Author.Tests.{not-true, not-false}
use Rattle.text.proofs.Sets.{put_over, put_whole, put-none}
use Rattle.text.proofs.digits.put.Goals as goal

pub returns-then-not-has_room : goal.returns-then-not-has_room
returns-then-not-has_room c = put-none _ refl (sym c.has_room.ensures ∙ not-true _ c.if-not-has_room.true-raw)

pub returns : goal.returns
returns c = let h = sym c.has_room.ensures ∙ not-false _ c.if-not-has_room.false-raw in
    put_whole _ refl h (record {
      text = ap (put_mid c.args.at (c.args.at + length c.args.s.now - c.args.at) c.args.out.now) c.copy_from_slice.ensures.after
          ∙ put_over c.args.out.now c.args.s.now c.args.at (omega (arith, leb-true _ _ h));
      end = refl;
    })
