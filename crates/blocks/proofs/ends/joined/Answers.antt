-- `blocks::ends::joined` meets its contract. Assumes nothing.
use Rattle.blocks.proofs.Lots.{ends-made}
use Rattle.blocks.proofs.ends.joined.Goals as goal

pub returns : goal.returns
returns c = ends-made c.args.a c.args.b _ _ _ _ c.greatest.ensures c.greatest-2.ensures c.least.ensures c.least-2.ensures
