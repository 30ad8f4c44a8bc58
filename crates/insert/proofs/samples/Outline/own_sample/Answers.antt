-- `insert::samples::Outline::own_sample` meets its contract. Assumes nothing.
use mathlib.Core.Path.{sym, ap, ◌∙◌}
use Rattle.insert.specs.Insert.{sample_at}
use Rattle.insert.proofs.samples.Outline.own_sample.Goals as goal

pub returns-then-i-self : goal.returns-then-i-self
returns-then-i-self c = let a = c.args in
    sym (ap (sample_at a.self.now.w a.self.now.points.now) c.requires ∙ a.self.now.keeps a.i c.if-i-self.true)

pub returns : goal.returns
returns c = c.sample_at.ensures
