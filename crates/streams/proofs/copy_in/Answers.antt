-- `streams::copy_in` meets its contract. Assumes nothing.
use Rattle.std.proofs.Common.{arith}
use Rattle.std.proofs.lemmas.Slice.{take-put_mid}
use Rattle.streams.proofs.copy_in.Goals as goal

pub returns : goal.returns
returns c = let e = c.copy_from_slice.ensures.after in
    rw e (take-put_mid c.args.at _ c.args.gathered.now c.args.bytes.now _ (omega arith) (omega arith))
