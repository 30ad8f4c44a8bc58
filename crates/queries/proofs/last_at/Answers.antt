-- `queries::last_at` meets its contract. Assumes nothing.
use mathlib.Core.Path.{sym, ◌∙◌}
use native.Mathlib.Omega.{arith}
use Rattle.queries.proofs.Walks.{last_end, last-behind, last-alone}
use Rattle.queries.proofs.last_at.Goals as goal

pub returns-then-n-i : goal.returns-then-n-i
returns-then-n-i c = last_end _ _ _ _ c.bin_at-i.ensures (omega arith)

pub returns-then-n-next : goal.returns-then-n-next
returns-then-n-next c = last_end _ _ _ _ c.bin_at-i.ensures (omega arith)

pub returns-then-holds_z : goal.returns-then-holds_z
returns-then-holds_z c = last-behind _ _ _ _ c.bin_at-i.ensures (omega arith) (sym c.holds_z.ensures ∙ c.if-holds_z.true)

pub returns : goal.returns
returns c = last-alone _ _ _ _ c.bin_at-i.ensures (sym c.holds_z.ensures ∙ c.if-holds_z.false)
