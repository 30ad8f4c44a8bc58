-- `turning::job_c::run_of` meets its contract. Assumes nothing.
use Rattle.turning.proofs.Keeping.{run_is}
use Rattle.turning.proofs.job_c.run_of.Goals as goal

pub returns : goal.returns
returns c = let a = c.args in run_is a.words.now a.bar.now _ _ _ c.spec_of-spec.ensures c.edition_in-edition.ensures c.stock_of-stock.ensures
