-- `cuts::nose_rows::touch` meets its contract. Assumes nothing.
use mathlib.Core.Path.{ap, ◌∙◌}
use Rattle.reach.specs.declared.Swept.{Swept}
use Rattle.nose.specs.Track.{step_of}
use Rattle.cuts.proofs.nose_rows.touch.Goals as goal

pub returns : goal.returns
returns c = let a = c.args in
    record {
      here = c.put_row.ensures.here ∙ c.step-swept.ensures ∙ ap (λ (f : Swept). step_of f a.low a.shy a.bin a.a a.b) c.row_at-acc.ensures;
      others = c.put_row.ensures.others;
    }
