-- `stock::fits_tube` meets its contract. Assumes nothing.
use Rattle.std.proofs.Common.{◌∙◌, rules}
use Rattle.stock.proofs.Passes.{HeldCell}
use Rattle.stock.proofs.Signs.{tube-fits}
use Rattle.stock.proofs.fits_tube.Goals as goal
use Rattle.stock.proofs.fits_tube.Goals.{Start}

held : (c : Start) → HeldCell c.args.c
held c = let g = c.well_formed in record { outer-lower = search (rules, g); outer-upper = search (rules, g); inner-lower = search (rules, g); inner-upper = search (rules, g) }

pub returns : goal.returns
returns c = c.is_between.ensures ∙ tube-fits c.args.s c.args.c (held c.before) (search rules)
