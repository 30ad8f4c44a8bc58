-- `rings::shape::clipped` meets its contract. Assumes nothing.
use mathlib.Core.Path.{◌∙◌, ap}
use Rattle.rings.specs.Ring.{common, clip}
use Rattle.rings.specs.declared.Ring.{Ring}
use Rattle.rings.proofs.Flat.{same-ring}
use Rattle.rings.proofs.shape.clipped.Goals as goal

pub returns : goal.returns
unfolding clip
returns c = c.overlap.ensures ∙ ap (λ (q : Ring). common q c.args.e) (same-ring c.clean.ensures c.clean-2.ensures c.clean-3.ensures c.clean-4.ensures)
