-- `cuts::list::list` meets its contract. Assumes nothing.
use mathlib.Core.Path.{ap}
use native.Mathlib.Omega.{arith}
use lib.ListN.{length}
use Rattle.changes.proofs.Proposals.{settled-listed, settled-full}
use Rattle.cuts.specs.Source.{source_act}
use Rattle.cuts.proofs.Spans.{none-behind, span-most, listing-end}
use Rattle.cuts.proofs.list.list.Goals as goal

-- there is room for every bin that is visited
pub write_each-requires : goal.write_each-requires
write_each-requires c = let p = c.requires in
    (p.0, omega (arith, p.1, p.2), λ j h. p.3 j (omega (arith, p.1)), omega (arith, c.room-room.ensures))

pub returns-then-last-first : goal.returns-then-last-first
returns-then-last-first c = let a = c.args in
    let p = c.requires in
    let u = source_act a.s a.source a.values.now a.there.now in
    let e = none-behind a.first a.last u a.cells.now a.n p.1 p.3 in
    let most = span-most a.first a.last u a.cells.now p.0 (λ j h. p.3 j (omega (arith, p.0, p.1))) in
    settled-listed _ _ _ _ _ _ _ _ _ (omega (arith, ap length e, most, c.room-room.ensures)) (listing-end _ _ _ _ _ _ _ _ _ e c.write_each.ensures)

pub count-requires : goal.count-requires
count-requires c = let p = c.requires in
    (p.0, omega (arith, p.1, p.2), λ j h. p.3 j (omega (arith, p.1)))

-- there is room for those that change
pub write-requires : goal.write-requires
write-requires c = let p = c.requires in
    (p.0, omega (arith, p.1, p.2), λ j h. p.3 j (omega (arith, p.1)), omega (arith, c.count.ensures, c.room-room.ensures))

pub returns-then-count-room : goal.returns-then-count-room
returns-then-count-room c = let a = c.args in
    let p = c.requires in
    let e = none-behind a.first a.last (source_act a.s a.source a.values.now a.there.now) a.cells.now a.n p.1 p.3 in
    settled-listed _ _ _ _ _ _ _ _ _ (omega (arith, ap length e, c.count.ensures, c.room-room.ensures)) (listing-end _ _ _ _ _ _ _ _ _ e c.write.ensures)

pub returns : goal.returns
returns c = let a = c.args in
    let p = c.requires in
    let e = none-behind a.first a.last (source_act a.s a.source a.values.now a.there.now) a.cells.now a.n p.1 p.3 in
    settled-full _ _ _ _ _ _ (omega (arith, ap length e, c.count.ensures, c.room-room.ensures))
