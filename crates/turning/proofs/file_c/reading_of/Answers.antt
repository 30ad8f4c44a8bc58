-- `turning::file_c::reading_of` meets its contract. Assumes nothing.
use Rattle.turning.proofs.Filing.{reading-is}
use Rattle.turning.proofs.file_c.reading_of.Goals as goal

pub returns : goal.returns
returns c = let a = c.args in reading-is a.words.now a.bar.now _ _ c.refused_in-refused.ensures c.edition_in-edition.ensures
