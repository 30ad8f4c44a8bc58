-- `cuts::list::write` meets its contract. The loop's invariant: the changes of the cells passed are over the fronts of the lists. Assumes nothing.
use mathlib.Core.Path.{◌≡◌, subst}
use Prim.Native.Nat.{ℕ}
use native.Mathlib.Omega.{arith}
use borrow.Author.Rules.{rules}
use Rattle.changes.specs.Change.{Listing}
use Rattle.changes.proofs.Placed.{listing-next, listing-lengths}
use Rattle.reach.specs.Reach.{act_cell}
use Rattle.cuts.specs.Source.{source_act, span_act}
use Rattle.cuts.proofs.Spans.{none_before, change-of-in, listing_start}
use Rattle.cuts.proofs.list.write.Goals as goal

pub loop-i-init : goal.loop-i-init
loop-i-init c = let p = c.requires in
    (search rules, p.0, p.3, listing_start _ _ _ _ _ (none_before _ _ _ _ (λ j h. p.2 j (omega (arith, p.0)))))

pub write_bin-k-requires : goal.write_bin-k-requires
write_bin-k-requires c = let p = c.requires in
    (omega (arith, p.1), p.2 c.loop-i.i c.loop-i-test.true)

pub loop-i-preserved : goal.loop-i-preserved
loop-i-preserved c = let a = c.args in
    let inv = c.loop-i.invariant in (
      omega (arith, inv.0),
      omega (arith, c.loop-i-test.true),
      inv.2,
      listing-next _ _ c.loop-i.i _ _ _ _ _ _ _ _ _ inv.2 c.loop-i-test.true inv.3 _ (change-of-in a.first a.last (source_act a.s a.source a.values.now a.there.now) a.cells.now c.loop-i.i inv.0 c.loop-i-test.true) c.write_bin-k.ensures,
    )

pub shape_of-indices : goal.shape_of-indices
shape_of-indices c = (listing-lengths _ _ _ _ _ _ _ _ _ c.loop-i.invariant.2 c.loop-i.invariant.1 c.loop-i.invariant.3).0

pub shape_of-records : goal.shape_of-records
shape_of-records c = (listing-lengths _ _ _ _ _ _ _ _ _ c.loop-i.invariant.2 c.loop-i.invariant.1 c.loop-i.invariant.3).1

pub returns : goal.returns
returns c = let a = c.args in
    let e : c.loop-i.i ≡ a.last = omega arith in
    subst (λ (j : ℕ). Listing (act_cell (span_act a.first a.last (source_act a.s a.source a.values.now a.there.now))) a.cells.now j c.loop-i.k a.indices.now c.loop-i.indices a.records.now c.loop-i.records) e c.loop-i.invariant.3
