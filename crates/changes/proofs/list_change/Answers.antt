-- `changes::list_change` meets its contract. Assumes nothing.
use mathlib.Core.Path.{sym, ◌∙◌, subst}
use Prim.Native.Nat.{ℕ, ◌<◌, ◌≤◌}
use Rattle.changes.proofs.Placed.{list_same, list-none, list_put}
use Rattle.changes.proofs.list_change.Goals as goal

pub returns-then-same_cell : goal.returns-then-same_cell
returns-then-same_cell c = list_same c.args.k c.args.change _ _ (sym c.same_cell.ensures ∙ c.if-same_cell.true)

pub returns-then-room-k : goal.returns-then-room-k
returns-then-room-k c = list-none c.args.k c.args.change _ _ (subst (λ (n : ℕ). n ≤ c.args.k) c.room.ensures c.if-room-k.true)

pub returns : goal.returns
returns c = list_put c.args.k c.args.change _ _ _ _
    (sym c.same_cell.ensures ∙ c.if-same_cell.false)
    (subst (λ (n : ℕ). c.args.k < n) c.room.ensures c.if-room-k.false)
    c.put_change.ensures
