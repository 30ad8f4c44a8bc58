-- `cuts::each_cut::tool_in` meets its contract. Assumes nothing.
use native.Mathlib.Omega.{arith}
use Rattle.changes.proofs.Proposals.{same-proposal}
use Rattle.cuts.proofs.Tools.{in-single, in-nose, in-polygon}
use Rattle.cuts.proofs.each_cut.tool_in.Goals as goal

pub swept-requires : goal.swept-requires
swept-requires c = (c.requires, omega arith)

pub returns-then-n-le-MANY_BINS : goal.returns-then-n-le-MANY_BINS
returns-then-n-le-MANY_BINS c = same-proposal _ _ _ _ _ _ _ (in-nose _ _ _ _ _ _ c.in-Nose.is) c.swept.ensures

pub swept-requires-then-n-le-MANY_BINS-2 : goal.swept-requires-then-n-le-MANY_BINS-2
swept-requires-then-n-le-MANY_BINS-2 c = (c.requires, omega arith)

pub returns-then-n-le-MANY_BINS-2 : goal.returns-then-n-le-MANY_BINS-2
returns-then-n-le-MANY_BINS-2 c = same-proposal _ _ _ _ _ _ _ (in-polygon _ _ _ _ _ _ c.in-Polygon.is) c.swept-then-n-le-MANY_BINS-2.ensures

pub returns-in-Single : goal.returns-in-Single
returns-in-Single c = same-proposal _ _ _ _ _ _ _ (in-single _ _ _ _ _ _ _ c.in-Single.is c.clean_cut.ensures) c.cut_in.ensures

pub returns-else-n-le-MANY_BINS : goal.returns-else-n-le-MANY_BINS
returns-else-n-le-MANY_BINS c = same-proposal _ _ _ _ _ _ _ (in-nose _ _ _ _ _ _ c.in-Nose.is) c.swept_long.ensures

pub returns-else-n-le-MANY_BINS-2 : goal.returns-else-n-le-MANY_BINS-2
returns-else-n-le-MANY_BINS-2 c = same-proposal _ _ _ _ _ _ _ (in-polygon _ _ _ _ _ _ c.in-Polygon.is) c.swept_long-in-Polygon.ensures
