-- `picture::decimals::put_units` meets its contract. Assumes nothing.
use Rattle.picture.proofs.Texts.{decimal-end, units-put}
use Rattle.picture.proofs.decimals.put_units.Goals as goal

pub put_fraction-requires : goal.put_fraction-requires
put_fraction-requires c = decimal-end _ c.put_decimal-a.ensures

pub returns : goal.returns
returns c = units-put _ c.put_decimal-a.ensures c.put_fraction.ensures
