-- The material of a cell, from its bore to its outer surface: what certainly remains, and what may remain. Assumes nothing.
use Rattle.std.specs.Prelude.{Float}
use Rattle.stock.specs.declared.TurnCell.{TurnCell}
use Rattle.queries.specs.declared.Band.{Band}

abbrev pub band : Float → Float → Band
band b o = record { bore = b; outer = o }

-- the least that remains: from the upper bound of the bore to the lower bound of the outer surface
abbrev pub sure_of : TurnCell → Band
sure_of c = band c.inner.upper_mm c.outer.lower_mm

-- the most that may remain: from the lower bound of the bore to the upper bound of the outer surface
abbrev pub most_of : TurnCell → Band
most_of c = band c.inner.lower_mm c.outer.upper_mm
