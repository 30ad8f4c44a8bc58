-- `insert::samples::Outline::offset` meets its contract. Assumes nothing.
use Rattle.std.specs.Prelude.{Some}
use mathlib.Core.Path.{sym, ap, ◌∙◌}
use Rattle.insert.specs.Insert.{moved_of, offset_of}
use Rattle.insert.proofs.samples.Outline.offset.Goals as goal

pub returns-in_err-sampled : goal.returns-in_err-sampled
unfolding offset_of moved_of
returns-in_err-sampled c = let a = c.args in
    rw c.from_residual.ensures (sym (ap (moved_of a.self.now.w a.t) (sym c.sampled.ensures ∙ c.in_err-sampled.was)))

pub returns : goal.returns
unfolding offset_of moved_of
returns c = let a = c.args in
    ap Some c.moved.ensures ∙ sym (ap (moved_of a.self.now.w a.t) (sym c.sampled.ensures ∙ c.in_ok-sampled.was))
