-- `picture::band_of` meets its contract. Assumes nothing.
use Rattle.picture.specs.Drawn.{band_of}
use Rattle.picture.proofs.Drawing.{band-at, common-of}
use Rattle.picture.proofs.band_of.Goals as goal

pub returns-in-Metal : goal.returns-in-Metal
unfolding band_of
returns-in-Metal c = band-at _ _ c.in-Metal.is (common-of c.sure.ensures c.sure-in-Metal.ensures c.common.ensures)

pub returns-in-May : goal.returns-in-May
unfolding band_of
returns-in-May c = band-at _ _ c.in-May.is (common-of c.most.ensures c.most-in-May.ensures c.common-in-May.ensures)

pub returns-in-Gone : goal.returns-in-Gone
unfolding band_of
returns-in-Gone c = band-at _ _ c.in-Gone.is (common-of c.most-in-Gone.ensures c.most-in-Gone-2.ensures c.common-in-Gone.ensures)

pub returns-in-Unlike : goal.returns-in-Unlike
unfolding band_of
returns-in-Unlike c = band-at _ _ c.in-Unlike.is (common-of c.most-in-Unlike.ensures c.most-in-Unlike-2.ensures c.common-in-Unlike.ensures)
