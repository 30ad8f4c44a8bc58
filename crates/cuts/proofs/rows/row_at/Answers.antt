-- `cuts::rows::row_at` meets its contract. Assumes nothing.
use Rattle.cuts.proofs.rows.row_at.Goals as goal

pub returns : goal.returns
returns c = λ d. record { low = c.low_at.ensures d; high = c.low_at-2.ensures d }
