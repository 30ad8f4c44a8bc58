-- `queries::first_at` meets its contract. Assumes nothing.
use mathlib.Core.Path.{sym, ◌∙◌}
use Rattle.queries.proofs.Walks.{first-start, first-before, first_alone}
use Rattle.queries.proofs.first_at.Goals as goal

pub returns-then-i-eq0 : goal.returns-then-i-eq0
returns-then-i-eq0 c = first-start _ _ _ _ c.bin_at-i.ensures c.if-i-eq0.true

pub returns-then-holds_z : goal.returns-then-holds_z
returns-then-holds_z c = first-before _ _ _ _ c.bin_at-i.ensures c.if-i-eq0.false (sym c.holds_z.ensures ∙ c.if-holds_z.true)

pub returns : goal.returns
returns c = first_alone _ _ _ _ c.bin_at-i.ensures (sym c.holds_z.ensures ∙ c.if-holds_z.false)
