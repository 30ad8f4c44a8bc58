-- `cuts::list::put` meets its contract. Assumes nothing.
use mathlib.Core.Path.{◌≡◌, sym}
use mathlib.Core.Bool.{true}
use Prim.Native.Nat.{suc, ◌+◌, ◌*◌}
use native.Mathlib.Omega.{arith}
use borrow.Author.Tests.{lt-ltb}
use lib.Dec.{ltb}
use lib.ListN.{length, length-set}
use Rattle.floats.specs.Pick.{picks, pick_true}
use Rattle.changes.specs.Change.{room_of}
use Rattle.cuts.proofs.list.put.Goals as goal

pub bounds-records-at-2 : goal.bounds-records-at-2
bounds-records-at-2 c = simp length-set (omega arith)

pub bounds-records-at-3 : goal.bounds-records-at-3
bounds-records-at-3 c = simp length-set (omega arith)

pub bounds-records-at-4 : goal.bounds-records-at-4
bounds-records-at-4 c = simp length-set (omega arith)

pub bounds-records-at-5 : goal.bounds-records-at-5
bounds-records-at-5 c = simp length-set (omega arith)

pub bounds-records-at-6 : goal.bounds-records-at-6
bounds-records-at-6 c = simp length-set (omega arith)

pub bounds-records-at-7 : goal.bounds-records-at-7
bounds-records-at-7 c = simp length-set (omega arith)

pub bounds-records-at-8 : goal.bounds-records-at-8
bounds-records-at-8 c = simp length-set (omega arith)

pub shape_of-records : goal.shape_of-records
shape_of-records c = simp length-set

pub returns : goal.returns
returns c = let at = 8 * c.args.k in
    let e1 : at + 1 ≡ suc at = omega arith in
    let e2 : at + 2 ≡ suc (suc at) = omega arith in
    let e3 : at + 3 ≡ suc (suc (suc at)) = omega arith in
    let e4 : at + 4 ≡ suc (suc (suc (suc at))) = omega arith in
    let e5 : at + 5 ≡ suc (suc (suc (suc (suc at)))) = omega arith in
    let e6 : at + 6 ≡ suc (suc (suc (suc (suc (suc at))))) = omega arith in
    let e7 : at + 7 ≡ suc (suc (suc (suc (suc (suc (suc at)))))) = omega arith in
    let w : ltb c.args.k (room_of (length c.args.indices.now) (length c.args.records.now)) ≡ true = lt-ltb _ _ c.requires in
    record { indices = sym (pick_true _ _ _ w); numbers = simp (picks, w, e1, e2, e3, e4, e5, e6, e7) }
