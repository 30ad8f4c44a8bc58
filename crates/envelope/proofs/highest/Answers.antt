-- `envelope::highest` meets its contract. Assumes nothing.
use mathlib.Core.Path.{ap, ◌∙◌}
use mir.Facts.{to_z-of_z}
use Rattle.envelope.specs.Halving.{halved_at}
use Rattle.floats.proofs.Bools.{so}
use Rattle.envelope.proofs.Rules.{at-ruled}
use Rattle.envelope.proofs.highest.Goals as goal

pub returns : goal.returns
returns c = let a = c.args in
    at-ruled a.points.now c.shared_slice_known-1.given a.order a.u (so c.well_formed.1.1.0.1) _
    (c.highest_at.ensures ∙ ap (λ z. halved_at a.points.now z a.u) (to_z-of_z c.ranges.order))
