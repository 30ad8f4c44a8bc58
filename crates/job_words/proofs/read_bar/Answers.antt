-- `job_words::read_bar` meets its contract. Assumes nothing.
use Rattle.std.proofs.Common.{sym, ap, ◌∙◌, is_some}
use Rattle.job_words.proofs.All.{bar-is}
use Rattle.floats.specs.Pick.{picks}
use Rattle.job_words.specs.Kind.{bar_of}
use Rattle.job_words.proofs.read_bar.Goals as goal

pub returns-in_default : goal.returns-in_default
unfolding bar_of
returns-in_default c = search (picks, sym c.read_numbers.ensures.are ∙ ap is_some c.in_default.is)

pub returns : goal.returns
returns c = let o = c.read_numbers.ensures in bar-is _ _ (sym o.are ∙ ap is_some c.in-Some.is) (o.each _ c.in-Some.is)
