-- `job_words::read_thread_inner` meets its contract. Assumes nothing.
use Rattle.std.proofs.Common.{sym, ap, ◌∙◌, arith, is_some}
use Rattle.floats.specs.Pick.{picks}
use Rattle.job_words.specs.Kind.{thread_inner_of}
use Rattle.job_words.proofs.read_thread_inner.Goals as goal

pub returns-in_default : goal.returns-in_default
unfolding thread_inner_of
returns-in_default c = search (picks, sym c.read_numbers.ensures.are ∙ ap is_some c.in_default.is)

pub returns : goal.returns
unfolding thread_inner_of
returns c = let o = c.read_numbers.ensures in
    let e = o.each _ c.in-Some.is in
    search (picks, e 0 (omega arith), e 1 (omega arith), e 2 (omega arith), sym o.are ∙ ap is_some c.in-Some.is)
