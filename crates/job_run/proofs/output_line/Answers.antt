-- `job_run::output_line` meets its contract. Assumes nothing.
use Rattle.job_run.proofs.Lines.{output-is, output-most}
use Rattle.job_answer.proofs.Nth.{reline}
use Rattle.std.proofs.Common.{rules}
use Rattle.job_run.proofs.output_line.Goals as goal

pub returns : goal.returns
returns c = let a = c.args in record {
  writes_line = reline (output-is a.run a.cells.now a.rings.now _ _ a.k c.front.ensures c.front-2.ensures) c.answer_line.ensures;
  rings_len_bound = output-most a.run a.cells.now a.rings.now (search rules) (search rules);
}
