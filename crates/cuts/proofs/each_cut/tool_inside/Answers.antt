-- `cuts::each_cut::tool_inside` meets its contract. Assumes nothing.
use Rattle.floats.specs.Pick.{picks}
use Rattle.cuts.specs.Tool.{tool_inside}
use Rattle.cuts.proofs.each_cut.tool_inside.Goals as goal

pub returns-in-Single : goal.returns-in-Single
unfolding tool_inside
returns-in-Single c = search (picks, ← c.clean_cut.ensures, ← c.cut_good.ensures, c.in-Single.is)

pub returns-in-Nose : goal.returns-in-Nose
unfolding tool_inside
returns-in-Nose c = search (picks, ← c.segments_good.ensures, c.in-Nose.is)

pub returns-in-Polygon : goal.returns-in-Polygon
unfolding tool_inside
returns-in-Polygon c = search (picks, ← c.polygon_good.ensures, c.in-Polygon.is)
