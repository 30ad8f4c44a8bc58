-- `insert::excess` meets its contract. Assumes nothing.
use Rattle.insert.proofs.excess.Goals as goal

pub returns : goal.returns
returns c = c.touching.ensures
