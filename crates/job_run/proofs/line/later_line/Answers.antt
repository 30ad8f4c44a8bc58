-- `job_run::line::later_line` meets its contract. Assumes nothing.
use Rattle.std.proofs.Common.{length, ap}
use Rattle.job_words.specs.declared.Line.{Line}
use Rattle.refusals.specs.declared.Refusal.TheVariants.{Arc, LineMalformed}
use Rattle.changes.specs.Change.{room_of}
use Rattle.job_run.specs.Job.{later_line, line_changes}
use Rattle.job_run.proofs.Carrying.{later-cut, later-lists, later-ring, refused, unlisted}
use Rattle.job_run.proofs.line.later_line.Goals as goal

pub returns-in-Cutting : goal.returns-in-Cutting
returns-in-Cutting c = record {
  carries_lent = later-cut _ _ _ _ _ _ _ _ c.in-Cutting.is c.take_cut.ensures.cells_lent;
  lists_lent = later-lists _ _ _ _ _ _ _ _ _ c.in-Cutting.is c.take_cut.ensures.lists_lent;
}

pub returns-in-Removing : goal.returns-in-Removing
unfolding line_changes
returns-in-Removing c = let a = c.args in
    let room = room_of (length a.indices.now) (length a.records.now) in record {
      carries_lent = later-ring _ _ _ _ _ _ _ _ c.in-Removing.is c.take_ring.ensures;
      lists_lent = unlisted _ _ _ (ap (λ (x : Line). line_changes a.job x room a.cells.now) c.in-Removing.is);
    }

pub returns-in-Arc : goal.returns-in-Arc
unfolding later_line line_changes
returns-in-Arc c = let a = c.args in
    let room = room_of (length a.indices.now) (length a.records.now) in record {
      carries_lent = refused _ Arc _ _ (ap (λ (l : Line). later_line a.job l room a.cells.now a.rings.now) c.in-Arc.is);
      lists_lent = unlisted _ _ _ (ap (λ (l : Line). line_changes a.job l room a.cells.now) c.in-Arc.is);
    }

pub returns-in-Bar : goal.returns-in-Bar
unfolding later_line line_changes
returns-in-Bar c = let a = c.args in
    let room = room_of (length a.indices.now) (length a.records.now) in record {
      carries_lent = refused _ LineMalformed _ _ (ap (λ (l : Line). later_line a.job l room a.cells.now a.rings.now) c.in-Bar.is);
      lists_lent = unlisted _ _ _ (ap (λ (l : Line). line_changes a.job l room a.cells.now) c.in-Bar.is);
    }

pub returns-in-Bad : goal.returns-in-Bad
unfolding later_line line_changes
returns-in-Bad c = let a = c.args in
    let room = room_of (length a.indices.now) (length a.records.now) in record {
      carries_lent = refused _ LineMalformed _ _ (ap (λ (l : Line). later_line a.job l room a.cells.now a.rings.now) c.in-Bad.is);
      lists_lent = unlisted _ _ _ (ap (λ (l : Line). line_changes a.job l room a.cells.now) c.in-Bad.is);
    }
