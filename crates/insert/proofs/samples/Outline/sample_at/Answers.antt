-- `insert::samples::Outline::sample_at` meets its contract. Assumes nothing.
use mathlib.Core.Path.{sym, ap, ◌∙◌}
use mir.Syntax.{w8}
use mir.Facts.{to_z-of_z}
use native.Mathlib.Omega.{arith}
use Rattle.insert.specs.declared.Which.{Which}
use Rattle.insert.specs.Insert.{sample_at}
use Rattle.insert.proofs.samples.Outline.sample_at.Goals as goal

pub returns-in-Least : goal.returns-in-Least
unfolding sample_at
returns-in-Least c = let o = c.args.self.now in
    c.highest.ensures.ruled o.looks.good (to_z-of_z {w = w8} (record { sfits = omega arith }) ∙ o.looks.order)
    ∙ sym (ap (λ (w : Which). sample_at w o.points.now c.args.u) c.in-Least.is)

pub returns-in-Greatest : goal.returns-in-Greatest
unfolding sample_at
returns-in-Greatest c = c.bore_at.ensures ∙ sym (ap (λ (w : Which). sample_at w c.args.self.now.points.now c.args.u) c.in-Greatest.is)
