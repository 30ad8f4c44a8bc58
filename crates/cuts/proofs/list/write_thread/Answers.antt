-- `cuts::list::write_thread` meets its contract. The loop's invariant: the changes of the cells passed are over the fronts of the lists. Assumes nothing.
use mathlib.Core.Path.{◌≡◌, sym, ap, ◌∙◌, subst}
use mathlib.Core.Bool.{true}
use Prim.Native.Nat.{ℕ, ◌<◌}
use native.Mathlib.Omega.{arith}
use borrow.Author.Rules.{rules}
use Rattle.stock.specs.declared.TurnCell.{TurnCell}
use Rattle.stock.specs.Cell.{same_cell}
use Rattle.changes.specs.Change.{Listing}
use Rattle.changes.proofs.Placed.{listing-next, listing-lengths}
use Rattle.reach.specs.Reach.{act_cell}
use Rattle.cuts.specs.Source.{low_act, span_act, thread_change}
use Rattle.cuts.proofs.Spans.{none_before, span-room, span-next, change-of-in, all_held, listing_start}
use Rattle.cuts.proofs.list.write_thread.Goals as goal

pub loop-i-init : goal.loop-i-init
loop-i-init c = let a = c.args in
    let p = c.requires in
    let h = all_held a.cells.now a.last p.1 in (
      search rules,
      p.0,
      omega (arith, h, c.lesser-top.ensures),
      span-room a.first a.last (low_act a.side a.radius) a.cells.now a.indices.now a.indices.now a.records.now a.records.now p.0 p.1 p.2,
      listing_start _ _ _ _ _ (none_before _ _ _ _ (λ j l. p.1 j (omega (arith, p.0)))),
    )

pub thread_bin-k-requires : goal.thread_bin-k-requires
thread_bin-k-requires c = let a = c.args in
    let p = c.requires in
    let inv = c.loop-i.invariant in
    let w : c.loop-i.i < a.last = omega (arith, inv.2, c.loop-i-test.true) in (
      span-next a.first a.last (low_act a.side a.radius) a.cells.now a.indices.now _ a.records.now _ p.0 p.1 p.2 c.loop-i.i c.loop-i.k inv.0 w inv.4,
      subst (λ (x : TurnCell). same_cell x x ≡ true) (sym c.cell_at-before.ensures) (p.1 c.loop-i.i w),
    )

pub loop-i-preserved : goal.loop-i-preserved
loop-i-preserved c = let a = c.args in
    let inv = c.loop-i.invariant in
    let w : c.loop-i.i < a.last = omega (arith, inv.2, c.loop-i-test.true) in (
      omega (arith, inv.0),
      omega (arith, w),
      inv.2,
      inv.3,
      listing-next _ _ c.loop-i.i _ _ _ _ _ _ _ _ _ inv.3 w inv.4 _
          (ap (λ (x : TurnCell). thread_change a.side a.radius x c.loop-i.i) c.cell_at-before.ensures ∙ change-of-in a.first a.last (low_act a.side a.radius) a.cells.now c.loop-i.i inv.0 w)
          c.thread_bin-k.ensures,
    )

pub shape_of-indices : goal.shape_of-indices
shape_of-indices c = (listing-lengths _ _ _ _ _ _ _ _ _ c.loop-i.invariant.3 c.loop-i.invariant.1 c.loop-i.invariant.4).0

pub shape_of-records : goal.shape_of-records
shape_of-records c = (listing-lengths _ _ _ _ _ _ _ _ _ c.loop-i.invariant.3 c.loop-i.invariant.1 c.loop-i.invariant.4).1

pub returns : goal.returns
returns c = let a = c.args in
    let e : c.loop-i.i ≡ a.last = omega (arith, c.loop-i.invariant.1, c.loop-i.invariant.2, c.loop-i-test.false) in
    subst (λ (j : ℕ). Listing (act_cell (span_act a.first a.last (low_act a.side a.radius))) a.cells.now j c.loop-i.k a.indices.now c.loop-i.indices a.records.now c.loop-i.records) e c.loop-i.invariant.4
