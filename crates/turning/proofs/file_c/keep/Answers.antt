-- `turning::file_c::keep` meets its contract. Assumes nothing.
use Rattle.turning.proofs.Filing.{kept-reading}
use Rattle.turning.proofs.file_c.keep.Goals as goal

pub returns : goal.returns
returns c = let a = c.args in kept-reading a.reading a.held a.words.now a.bar.now _ c.code_of.ensures
