-- `turning::job_c::end_of` meets its contract. Assumes nothing.
use Rattle.turning.proofs.Keeping.{end_is}
use Rattle.turning.proofs.job_c.end_of.Goals as goal

pub returns : goal.returns
returns c = end_is c.args.words.now _ _ _ c.run_of.ensures c.held_in.ensures c.finish.ensures
