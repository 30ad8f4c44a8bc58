-- `changes::change_at` meets its contract. Assumes nothing.
use mathlib.Core.Path.{sym, ap, ◌∙◌}
use Prim.Native.Nat.{◌*◌, ◌≤◌, ◌<◌}
use native.Mathlib.Omega.{arith}
use borrow.Author.Tests.{lt-ltb, le-ltb}
use lib.ListN.{length, get_or}
use Rattle.floats.specs.Pick.{pick_true, pick-false}
use Rattle.stock.specs.declared.TurnCell.{TurnCell}
use Rattle.stock.specs.declared.TurnChange.{TurnChange}
use Rattle.stock.specs.Cell.{cell_from}
use Rattle.stock.proofs.Cells.{no_cell}
use Rattle.changes.specs.Change.{room_of}
use Rattle.changes.proofs.Passed.{before_at, after-at}
use Rattle.changes.proofs.change_at.Goals as goal

abbrev alike : TurnCell → TurnChange
alike x = record { index = 0; before = x; after = x }

pub returns-then-room-j : goal.returns-then-room-j
returns-then-room-j c = let a = c.args in
    let xs = a.records.now in
    let r = c.room.ensures in
    let h : room_of (length a.indices.now) (length xs) ≤ a.j = omega arith in
    ap alike (c.cell_at-none.ensures ∙ no_cell xs (4 * length xs) (omega arith)) ∙ sym (pick-false _ _ _ (le-ltb _ _ h))

pub offset_bounds-indices-j : goal.offset_bounds-indices-j
offset_bounds-indices-j c = omega (arith, c.room.ensures)

pub bounds-indices-j : goal.bounds-indices-j
bounds-indices-j c = omega (arith, c.room.ensures)

pub overflow_mul-j : goal.overflow_mul-j
overflow_mul-j c = omega (arith, c.room.ensures)

pub cell_from-before-requires : goal.cell_from-before-requires
cell_from-before-requires c = omega (arith, c.room.ensures)

pub overflow_mul-j-2 : goal.overflow_mul-j-2
overflow_mul-j-2 c = omega (arith, c.room.ensures)

pub overflow_add-j : goal.overflow_add-j
overflow_add-j c = omega (arith, c.room.ensures)

pub cell_from-after-requires : goal.cell_from-after-requires
cell_from-after-requires c = omega (arith, c.room.ensures)

pub returns : goal.returns
returns c = let a = c.args in
    let xs = a.records.now in
    let r = c.room.ensures in
    let h : a.j < room_of (length a.indices.now) (length xs) = omega arith in
    let before = c.cell_from-before.ensures ∙ ap (cell_from xs) (before_at a.j) in
    let after = c.cell_from-after.ensures ∙ ap (cell_from xs) (after-at a.j) in
    (λ k. record { index = get_or a.indices.now a.j 0; before = before k; after = after k }) ∙ sym (pick_true _ _ _ (lt-ltb _ _ h))
