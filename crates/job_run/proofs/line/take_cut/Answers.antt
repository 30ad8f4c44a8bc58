-- `job_run::line::take_cut` meets its contract. Assumes nothing.
use Rattle.std.proofs.Common.{sym, refl, ap, arith, length-take-le}
use Rattle.refusals.specs.Number.{reason_in, placed_of}
use Rattle.job_run.proofs.Carrying.{cut-refused, cut-went, lists_of}
use Rattle.job_run.proofs.line.take_cut.Goals as goal

pub slice_bounds-make_cut-end-2 : goal.slice_bounds-make_cut-end-2
slice_bounds-make_cut-end-2 c = sym (length-take-le _ _ (omega arith))

pub returns-in-Err : goal.returns-in-Err
returns-in-Err c = let j = c.args.job in
    record {
      cells_lent = cut-refused _ _ _ _ _ c.places-end.ensures _ _ c.make_cut-applied.ensures.applies c.in-Err.e.why (reason_in c.in-Err.e) refl (ap placed_of c.in-Err.is);
      lists_lent = lists_of j _ _ _ _ c.places-end.ensures _ _ _ _ c.make_cut-applied.ensures.lists_lent;
    }

pub returns-in-Ok : goal.returns-in-Ok
returns-in-Ok c = let j = c.args.job in
    record {
      cells_lent = cut-went _ _ _ _ _ c.places-end.ensures _ _ c.make_cut-applied.ensures.applies _ c.in-Ok.is c.make_cut-applied.auto.cells;
      lists_lent = lists_of j _ _ _ _ c.places-end.ensures _ _ _ _ c.make_cut-applied.ensures.lists_lent;
    }
