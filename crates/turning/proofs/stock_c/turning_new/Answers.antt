-- `turning::stock_c::turning_new` meets its contract. Assumes nothing.
use mathlib.Core.Path.{sym, ap, ◌∙◌}
use Rattle.refusals.specs.Number.{paper_of}
use Rattle.turning.proofs.Blocks.{no_cells, gives-cells, same_new}
use Rattle.turning.proofs.stock_c.turning_new.Goals as goal

pub returns-in-Err : goal.returns-in-Err
returns-in-Err c = same_new _ _ _ _ _ _ _ _ _ c.spec_of-spec.ensures (no_cells _ c.in-Err.r _ _ _ _ (sym c.room_for-counted.ensures ∙ ap paper_of c.in-Err.is) c.number.ensures)

pub returns-in-Ok : goal.returns-in-Ok
returns-in-Ok c = same_new _ _ _ _ _ _ _ _ _ c.spec_of-spec.ensures
    (gives-cells _ _ _ c.in-Ok.n _ _ _ _ _ _ _ _ (sym c.room_for-counted.ensures ∙ ap paper_of c.in-Ok.is) c.fill-made.ensures c.clean_spec.ensures c.renew_all.ensures c.give_new.ensures)
