-- `insert::candidates::Attempt::touch_at` meets its contract. Assumes nothing.
use Rattle.std.specs.Prelude.{Option}
use mathlib.Core.Path.{sym, ap, ap₂, ◌∙◌}
use lib.Ieee.{Float}
use Rattle.insert.specs.Insert.{beyond, edges_of, touch_at}
use Rattle.insert.proofs.candidates.Attempt.touch_at.Goals as goal

pub returns-in_err-o : goal.returns-in_err-o
unfolding touch_at beyond
returns-in_err-o c = let a = c.args in
    rw c.from_residual.ensures (sym (ap (λ (o : Option Float). beyond a.self.now.outline.w o (edges_of a.self.now.outline.w a.self.now.polygon.now a.u)) (sym c.offset.ensures ∙ c.in_err-o.was)))

pub returns-in_err-e : goal.returns-in_err-e
unfolding touch_at beyond
returns-in_err-e c = let a = c.args in
    rw c.from_residual-in_err-e.ensures (sym (ap₂ (beyond a.self.now.outline.w) (sym c.offset.ensures ∙ c.in_ok-o.was) (sym c.edges_at.ensures ∙ c.in_err-e.was)))

pub returns : goal.returns
unfolding touch_at
returns c = let a = c.args in
    c.beyond.ensures ∙ sym (ap₂ (beyond a.self.now.outline.w) (sym c.offset.ensures ∙ c.in_ok-o.was) (sym c.edges_at.ensures ∙ c.in_ok-e.was))
