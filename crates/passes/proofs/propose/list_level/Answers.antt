-- `passes::propose::list_level` meets its contract. Assumes nothing.
use mathlib.Core.Path.{subst}
use Prim.Native.Nat.{ℕ, ◌<◌, ◌≤◌}
use borrow.Author.Tests.{not-true, not-false}
use Rattle.passes.proofs.Levels.{list-none, list_full, list_put}
use Rattle.passes.proofs.propose.list_level.Goals as goal

pub returns-then-not-due-p : goal.returns-then-not-due-p
returns-then-not-due-p c = list-none c.args.due c.args.p c.args.k _ _ _ (not-true _ c.if-not-due-p.true-raw)

pub returns-then-room-k : goal.returns-then-room-k
returns-then-room-k c = list_full c.args.due c.args.p c.args.k _ _ _ (subst (λ (n : ℕ). n ≤ c.args.k) c.room.ensures c.if-room-k.true)

pub returns : goal.returns
returns c = list_put c.args.due c.args.p c.args.k _ _ _ _ _ _ (not-false _ c.if-not-due-p.false-raw) (subst (λ (n : ℕ). c.args.k < n) c.room.ensures c.if-room-k.false) c.put_level.ensures
