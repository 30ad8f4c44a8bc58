-- `cuts::each_cut::swept_long` meets its contract. Assumes nothing.
use native.Mathlib.Omega.{arith}
use Prim.Native.Nat.{◌*◌}
use Rattle.refusals.specs.Limits.{cell_limit}
use Rattle.changes.proofs.Proposals.{same-proposal}
use Rattle.cuts.proofs.Places.{fresh-room, fresh-empty}
use Rattle.cuts.proofs.Tools.{says-clean-nose, says-polygon-sweep, nose-side, polygon-side, sweep-proposes}
use Rattle.cuts.proofs.each_cut.swept_long.Goals as goal

pub fill-bins-requires : goal.fill-bins-requires
fill-bins-requires c = let p = c.requires in
    let few = p.0.few in
    (p.0, fresh-room (2 * cell_limit) _ _ (omega arith), fresh-empty (2 * cell_limit) _ _ (omega arith))

pub list-requires : goal.list-requires
list-requires c = let p = c.requires in
    let f = c.fill-bins.ensures in
    (f.2, f.1.within, p.0.few, p.1)

pub fill-bins-requires-in-Polygon : goal.fill-bins-requires-in-Polygon
fill-bins-requires-in-Polygon c = let p = c.requires in
    let few = p.0.few in
    (few, fresh-room (2 * cell_limit) _ _ (omega arith), fresh-empty (2 * cell_limit) _ _ (omega arith))

pub list-requires-in-Polygon : goal.list-requires-in-Polygon
list-requires-in-Polygon c = let p = c.requires in
    let f = c.fill-bins-in-Polygon.ensures in
    (f.ordered, f.within, p.0.few, p.1)

pub returns-in-Nose : goal.returns-in-Nose
returns-in-Nose c = same-proposal _ _ _ _ _ _ _ (sweep-proposes _ _ _ _ _ _ _ _ _ _ _ (nose-side _ c.in-Nose.is) (says-clean-nose _ _ _ _ _ _ c.in-Nose.is c.clean-r.ensures c.fill-bins.ensures)) c.list.ensures

pub returns-in-Polygon : goal.returns-in-Polygon
returns-in-Polygon c = same-proposal _ _ _ _ _ _ _ (sweep-proposes _ _ _ _ _ _ _ _ _ _ _ (polygon-side _ c.in-Polygon.is) (says-polygon-sweep _ _ _ _ _ _ _ c.in-Polygon.is c.fill-bins-in-Polygon.ensures)) c.list-in-Polygon.ensures
