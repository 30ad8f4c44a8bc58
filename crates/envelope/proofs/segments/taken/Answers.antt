-- `envelope::segments::taken` meets its contract. Assumes nothing.
use Rattle.std.specs.Prelude.{Option, Some}
use mathlib.Core.Path.{sym, ap, ap₂, ◌∙◌}
use Rattle.envelope.specs.declared.Radii.{Radii}
use Rattle.envelope.specs.Envelope.{taken}
use Rattle.envelope.proofs.Aside.{found-one, found_none, found_some}
use Rattle.envelope.proofs.segments.taken.Goals as goal

pub returns-then-r-eq0 : goal.returns-then-r-eq0
unfolding taken
returns-then-r-eq0 c = let a = c.args in
    found-one _ _ ∙ ap (λ (o : Option Radii). taken o a.v) (sym (found_none a.r c.if-r-eq0.true))

pub returns : goal.returns
unfolding taken
returns c = let a = c.args in
    found-one _ _ ∙ ap₂ (λ x y. Some (record { lowest = x; highest = y })) c.least.ensures c.greatest.ensures ∙ ap (λ (o : Option Radii). taken o a.v) (sym (found_some a.r c.if-r-eq0.false))
