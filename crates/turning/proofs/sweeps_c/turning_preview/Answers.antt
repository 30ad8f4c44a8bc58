-- `turning::sweeps_c::turning_preview` meets its contract. Assumes nothing.
use lib.ListN.{length}
use Rattle.stock.specs.declared.TurnSide.{TurnSide}
use Rattle.changes.specs.Change.{room_of}
use Rattle.cuts.specs.Preview.{preview_nose}
use Rattle.turning.specs.Boundary.{by_side}
use Rattle.turning.proofs.Given.{gives-changes, same_by, same-stock}
use Rattle.turning.proofs.sweeps_c.turning_preview.Goals as goal

pub returns : goal.returns
returns c = let a = c.args in
    gives-changes _ _ _ _ _ _ _ _ _ _ _ _ _ _ c.give_changes.ensures
    (same_by _ _ (λ x. by_side x a.cells.now a.side (λ (t : TurnSide). preview_nose x a.cells.now t a.rn a.segments.now (room_of (length a.indices.now) (length a.records.now)))) _ _ _ _ _ (same-stock _ _ _ _ _ _ c.stock_of-stock.ensures c.spec_of-spec.ensures) c.nose_by-answer.ensures)
