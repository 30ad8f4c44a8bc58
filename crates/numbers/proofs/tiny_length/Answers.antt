-- `numbers::tiny_length` meets its contract. Assumes nothing.
use Rattle.std.proofs.Common.{rules}
use Rattle.refusals.specs.Paper.{papers}
use Rattle.refusals.proofs.Exits.{same_exit}
use Rattle.numbers.specs.Length.{plain_length, scaled_back}
use Rattle.numbers.proofs.tiny_length.Goals as goal

pub returns-in_err-scaled : goal.returns-in_err-scaled
unfolding scaled_back plain_length
returns-in_err-scaled c = search (papers, same_exit _ _ c.from_residual.ensures.1, c.in_err-scaled.was, ← c.root.ensures)

pub returns : goal.returns
unfolding scaled_back plain_length
returns c = search (papers, c.in_ok-scaled.was, ← c.root.ensures)
