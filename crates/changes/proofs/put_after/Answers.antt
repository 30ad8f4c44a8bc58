-- `changes::put_after` meets its contract. The loop's invariant: the after-cells of the changes passed are in the cells. Assumes nothing.
use mathlib.Core.Path.{◌≡◌, refl, sym, ap, ◌∙◌}
use Prim.Native.Nat.{ℕ, min}
use native.Mathlib.Omega.{arith}
use borrow.Author.Rules.{rules}
use lib.ListN.{length}
use Rattle.stock.specs.Cell.{cell_from}
use Rattle.changes.specs.Change.{changes_from, room_of}
use Rattle.changes.specs.Commit.{put_all}
use Rattle.changes.proofs.Passed.{after-at, put_next, put-length}
use Rattle.changes.proofs.put_after.Goals as goal

pub loop-i-init : goal.loop-i-init
unfolding changes_from
loop-i-init c = (search rules, search rules, refl)

pub loop-i-preserved : goal.loop-i-preserved
loop-i-preserved c = (
  omega arith,
  c.loop-i.invariant.1,
  c.put_cell.ensures ∙ (simp (c.cell_from-after.ensures ∙ ap (cell_from c.args.records.now) (after-at c.loop-i.i), c.loop-i.invariant.2)) ∙ sym (put_next c.args.cells.now c.args.indices.now c.args.records.now c.loop-i.i),
)

pub shape_of-cells : goal.shape_of-cells
shape_of-cells c = ap length c.loop-i.invariant.2 ∙ put-length (changes_from c.args.indices.now c.args.records.now c.loop-i.i) c.args.cells.now

pub returns : goal.returns
returns c = let e : c.loop-i.i ≡ min c.args.k (room_of (length c.args.indices.now) (length c.args.records.now)) = omega arith in
    c.loop-i.invariant.2 ∙ ap (λ (j : ℕ). put_all c.args.cells.now (changes_from c.args.indices.now c.args.records.now j)) e
