-- `picture::is_so` meets its contract. Assumes nothing.
use mathlib.Core.Path.{ap}
use mathlib.Core.Bool.{not}
use Rattle.picture.specs.Drawn.{looks_so}
use Rattle.picture.proofs.Drawing.{band-known, metal-at, gone-in, looks-so}
use Rattle.picture.proofs.is_so.Goals as goal

pub returns-in-Metal : goal.returns-in-Metal
unfolding looks_so
returns-in-Metal c = looks-so _ _ _ c.in-Metal.is (metal-at _ (band-known _ _ c.in-Metal.is c.band_of-band.ensures) c.has.ensures)

pub returns-in-May : goal.returns-in-May
unfolding looks_so
returns-in-May c = looks-so _ _ _ c.in-May.is (metal-at _ (band-known _ _ c.in-May.is c.band_of-band.ensures) c.has-in-May.ensures)

pub returns-in-Gone : goal.returns-in-Gone
unfolding looks_so
returns-in-Gone c = looks-so _ _ _ c.in-Gone.is (gone-in (band-known _ _ c.in-Gone.is c.band_of-band.ensures))

pub returns-in-Unlike : goal.returns-in-Unlike
unfolding looks_so
returns-in-Unlike c = looks-so _ _ _ c.in-Unlike.is (ap not c.same_cell.ensures)
