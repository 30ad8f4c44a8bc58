-- `turning::sweeps_c::turning_preview_polygon` meets its contract. Assumes nothing.
use lib.ListN.{length}
use Rattle.stock.specs.declared.TurnSide.{TurnSide}
use Rattle.changes.specs.Change.{room_of}
use Rattle.cuts.specs.Preview.{preview_polygon}
use Rattle.turning.specs.Boundary.{by_side}
use Rattle.turning.proofs.Given.{gives-changes, same_by, same-stock}
use Rattle.turning.proofs.sweeps_c.turning_preview_polygon.Goals as goal

pub returns : goal.returns
returns c = let a = c.args in
    gives-changes _ _ _ _ _ _ _ _ _ _ _ _ _ _ c.give_changes.ensures
    (same_by _ _ (λ x. by_side x a.cells.now a.side (λ (t : TurnSide). preview_polygon x a.cells.now t a.excess a.points.now (room_of (length a.indices.now) (length a.records.now)))) _ _ _ _ _ (same-stock _ _ _ _ _ _ c.stock_of-stock.ensures c.spec_of-spec.ensures) c.polygon_by-answer.ensures)
