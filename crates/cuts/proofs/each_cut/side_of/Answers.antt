-- `cuts::each_cut::side_of` meets its contract. Assumes nothing.
use Rattle.floats.specs.Pick.{picks}
use Rattle.cuts.specs.Tool.{sweep_side}
use Rattle.cuts.proofs.each_cut.side_of.Goals as goal

pub returns-in-Nose : goal.returns-in-Nose
unfolding sweep_side
returns-in-Nose c = search (picks, c.in-Nose.is)

pub returns-in-Polygon : goal.returns-in-Polygon
unfolding sweep_side
returns-in-Polygon c = search (picks, c.in-Polygon.is)
