-- `rings::rings_fit` meets its contract. Assumes nothing.
use mathlib.Core.Path.{ap, ◌∙◌}
use Rattle.rings.specs.declared.Ring.{Ring}
use Rattle.rings.specs.Store.{count_fits}
use Rattle.rings.proofs.rings_fit.Goals as goal

pub returns : goal.returns
returns c = c.count_fits.ensures ∙ ap (λ (e : Ring). count_fits e c.args.rings.now c.args.count) c.extent.ensures
