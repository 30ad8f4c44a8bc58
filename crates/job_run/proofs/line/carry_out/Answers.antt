-- `job_run::line::carry_out` meets its contract. Assumes nothing.
use Rattle.refusals.specs.declared.Refusal.TheVariants.{LineMalformed}
use Rattle.job_run.proofs.Carrying.{refused, unlisted, same_outcome, line-long, line_first, line-later, changes-long, changes-first, changes-later}
use Rattle.job_run.proofs.line.carry_out.Goals as goal

pub returns-then-line-ge-LINE_LIMIT : goal.returns-then-line-ge-LINE_LIMIT
returns-then-line-ge-LINE_LIMIT c = record {
  carries_lent = refused _ LineMalformed _ _ (line-long _ _ _ _ _ c.if-line-ge-LINE_LIMIT.true);
  lists_lent = unlisted _ _ _ (changes-long _ _ _ _ c.if-line-ge-LINE_LIMIT.true);
}

pub returns-then-job-eq0 : goal.returns-then-job-eq0
returns-then-job-eq0 c = let a = c.args in record {
  carries_lent = same_outcome _ _ _ _ _ _ _ (line_first a.job a.line.now _ a.cells.now a.rings.now _ c.if-line-ge-LINE_LIMIT.false c.read_line-read.ensures c.if-job-eq0.true) (c.first_line.ensures _);
  lists_lent = unlisted _ _ _ (changes-first _ _ _ _ c.if-line-ge-LINE_LIMIT.false c.if-job-eq0.true);
}

pub returns : goal.returns
returns c = let a = c.args in record {
  carries_lent = same_outcome _ _ _ _ _ _ _ (line-later a.job a.line.now _ a.cells.now a.rings.now _ c.if-line-ge-LINE_LIMIT.false c.read_line-read.ensures c.if-job-eq0.false) c.later_line.ensures.carries_lent;
  lists_lent = changes-later a.job a.line.now _ a.cells.now _ c.if-line-ge-LINE_LIMIT.false c.read_line-read.ensures c.if-job-eq0.false _ _ _ _ c.later_line.ensures.lists_lent;
}
