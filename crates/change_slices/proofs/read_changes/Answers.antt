-- `change_slices::read_changes` meets its contract. Assumes nothing.
use Rattle.std.proofs.Common.{◌<◌, ◌∙◌, ap, List, length, set, arith}
use Rattle.refusals.specs.Lent.{over}
use Rattle.stock.specs.declared.TurnChange.{TurnChange}
use Rattle.changes.specs.Change.{room_of, changes_from}
use Rattle.change_slices.proofs.Reading.{held-records, held-room, change-held, read_none, read_next}
use Rattle.change_slices.proofs.read_changes.Goals as goal

pub loop-i-init : goal.loop-i-init
loop-i-init c = read_none _ _ _

pub loop-i-preserved : goal.loop-i-preserved
loop-i-preserved c = let a = c.args in
    let room : c.loop-i.i < room_of (length a.indices.now) (length a.records.now) = omega (arith, held-room (length a.indices.now) (length a.records.now) a.k (length a.changes.now), c.held_in-held.ensures) in
    let in_list : c.loop-i.i < length a.changes.now = omega (arith, held-records (length a.indices.now) (length a.records.now) a.k (length a.changes.now), c.held_in-held.ensures) in
    ap (λ (l : List TurnChange). set l c.loop-i.i c.change_at-c.result) c.loop-i.invariant
    ∙ (ap (set (over (changes_from a.indices.now a.records.now c.loop-i.i) a.changes.now) c.loop-i.i) (c.change_at-c.ensures ∙ change-held a.indices.now a.records.now c.loop-i.i room)
    ∙ read_next a.indices.now a.records.now a.changes.now c.loop-i.i in_list)
