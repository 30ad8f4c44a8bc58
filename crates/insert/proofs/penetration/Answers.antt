-- `insert::penetration` meets its contract. Assumes nothing.
use Rattle.insert.proofs.penetration.Goals as goal

pub returns : goal.returns
returns c = c.touching.ensures
