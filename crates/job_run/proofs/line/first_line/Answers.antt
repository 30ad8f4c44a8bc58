-- `job_run::line::first_line` meets its contract. Assumes nothing.
use Rattle.job_words.specs.declared.Line.{Line}
use Rattle.refusals.specs.declared.Refusal.TheVariants.{LineMalformed}
use Rattle.job_run.specs.Job.{first_line}
use Rattle.std.proofs.Common.{ap}
use Rattle.job_run.proofs.Carrying.{first-bar, refused}
use Rattle.job_run.proofs.line.first_line.Goals as goal

pub returns-in-Bar : goal.returns-in-Bar
returns-in-Bar c = first-bar _ _ _ _ _ _ c.in-Bar.is c.take_bar.ensures

pub returns-in-Cutting : goal.returns-in-Cutting
unfolding first_line
returns-in-Cutting c = λ rs. refused _ LineMalformed _ rs (ap (λ (l : Line). first_line c.args.edition l c.args.cells.now rs) c.in-Cutting.is)

pub returns-in-Removing : goal.returns-in-Removing
unfolding first_line
returns-in-Removing c = λ rs. refused _ LineMalformed _ rs (ap (λ (l : Line). first_line c.args.edition l c.args.cells.now rs) c.in-Removing.is)

pub returns-in-Arc : goal.returns-in-Arc
unfolding first_line
returns-in-Arc c = λ rs. refused _ LineMalformed _ rs (ap (λ (l : Line). first_line c.args.edition l c.args.cells.now rs) c.in-Arc.is)

pub returns-in-Bad : goal.returns-in-Bad
unfolding first_line
returns-in-Bad c = λ rs. refused _ LineMalformed _ rs (ap (λ (l : Line). first_line c.args.edition l c.args.cells.now rs) c.in-Bad.is)
