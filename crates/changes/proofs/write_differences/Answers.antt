-- `changes::write_differences` meets its contract. The loop's invariant: the differing cells passed are over the fronts of the lists. Assumes nothing.
use mathlib.Core.Path.{◌≡◌, subst}
use Prim.Native.Nat.{ℕ, ◌<◌}
use native.Mathlib.Omega.{arith}
use borrow.Author.Rules.{rules}
use Rattle.changes.specs.Change.{Listing}
use Rattle.changes.proofs.Placed.{listing_none, listing-next, listing-lengths}
use Rattle.changes.specs.Difference.{other_cell}
use Rattle.changes.proofs.write_differences.Goals as goal

pub loop-i-init : goal.loop-i-init
loop-i-init c = let p = c.requires in
    (search rules, omega (arith, p.0, p.1, c.lesser-top.ensures, c.lesser-held.ensures), p.2, listing_none _ _ _ _)

pub loop-i-smaller : goal.loop-i-smaller
loop-i-smaller c = omega (arith, c.loop-i.invariant.1)

pub loop-i-preserved : goal.loop-i-preserved
loop-i-preserved c = let inv = c.loop-i.invariant in
    let w : c.loop-i.i < c.args.n = omega (arith, inv.1, c.loop-i-test.true) in (
      omega (arith, w),
      inv.1,
      inv.2,
      listing-next _ _ c.loop-i.i c.args.n _ _ _ _ _ _ _ _ inv.2 w inv.3 _
          (λ j. record { index = c.loop-i.i; before = c.cell_at.ensures j; after = c.cell_at-in-loop-i.ensures j })
          c.list_change-k.ensures,
    )

pub shape_of-indices : goal.shape_of-indices
shape_of-indices c = (listing-lengths _ _ _ _ _ _ _ _ _ c.loop-i.invariant.2 c.loop-i.invariant.0 c.loop-i.invariant.3).0

pub shape_of-records : goal.shape_of-records
shape_of-records c = (listing-lengths _ _ _ _ _ _ _ _ _ c.loop-i.invariant.2 c.loop-i.invariant.0 c.loop-i.invariant.3).1

pub returns : goal.returns
returns c = let e : c.loop-i.i ≡ c.args.n = omega (arith, c.loop-i.invariant.0, c.loop-i.invariant.1, c.loop-i-test.false) in
    subst (λ (j : ℕ). Listing (other_cell c.args.after.now) c.args.cells.now j c.loop-i.k c.args.indices.now c.loop-i.indices c.args.records.now c.loop-i.records) e c.loop-i.invariant.3
