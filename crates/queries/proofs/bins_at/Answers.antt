-- `queries::bins_at` meets its contract. Assumes nothing.
use Rattle.queries.proofs.Walks.{same_span}
use Rattle.queries.proofs.bins_at.Goals as goal

pub returns : goal.returns
returns c = same_span c.first_at.ensures c.last_at.ensures
