-- `side_by_side::spelled::put_bytes` meets its contract. Assumes nothing.
use Rattle.std.proofs.Common.{◌+◌, ◌-◌, length, refl, ap, ◌∙◌, arith}
use borrow.Rule.Slice.PartMut.{put_mid}
use Rattle.text.proofs.Sets.{put_over}
use Rattle.side_by_side.proofs.spelled.put_bytes.Goals as goal

pub returns : goal.returns
returns c = record {
  text = ap (put_mid c.args.at (c.args.at + length c.args.s.now - c.args.at) c.args.out.now) c.copy_from_slice.ensures.after
      ∙ put_over c.args.out.now c.args.s.now c.args.at (omega arith);
  end = refl;
}
