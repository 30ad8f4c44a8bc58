-- `rings::remove_rings` meets its contract. Assumes nothing.
use Rattle.rings.proofs.Removing.{all_of}
use Rattle.rings.proofs.remove_rings.Goals as goal

pub returns : goal.returns
returns c = let extent = c.extent in
    all_of c.args.spec extent.result _ _ _ extent.ensures c.remove_all_in.ensures
