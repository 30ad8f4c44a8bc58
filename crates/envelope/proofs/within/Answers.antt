-- `envelope::within` meets its contract. Assumes nothing.
use mathlib.Core.Path.{◌∙◌}
use mir.Syntax.{w8}
use mir.Facts.{to_z-of_z}
use Rattle.envelope.proofs.within.Goals as goal

pub returns : goal.returns
returns c = c.within_kept.ensures.ruled (to_z-of_z {w = w8} (record { sfits = c.number_of.type_inv }) ∙ c.number_of.ensures)
