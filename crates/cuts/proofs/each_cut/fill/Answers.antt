-- `cuts::each_cut::fill` meets its contract. Assumes nothing.
use mathlib.Core.Path.{subst}
use lib.Ieee.{Float}
use Rattle.floats.specs.Numbers.{clean_of}
use Rattle.nose.specs.Nose.{segment_count}
use Rattle.cuts.specs.Rows.{row_at, RowFilled}
use Rattle.cuts.proofs.Sweeps.{says-nose}
use Rattle.cuts.proofs.Tools.{says-nose-sweep, says-polygon-sweep}
use Rattle.cuts.proofs.each_cut.fill.Goals as goal

pub returns-in-Nose : goal.returns-in-Nose
returns-in-Nose c = let a = c.args in
    let side = c.in-Nose.side in
    let rn = c.in-Nose.rn in
    let w : RowFilled a.s a.n side (clean_of rn) a.beside.now (segment_count a.beside.now) (row_at c.fill.new.values c.fill.new.there) = subst (λ (x : Float). RowFilled a.s a.n side x a.beside.now (segment_count a.beside.now) (row_at c.fill.new.values c.fill.new.there)) c.clean.ensures c.fill.ensures.0 in
    says-nose-sweep _ _ _ _ _ _ _ c.in-Nose.is (says-nose a.s a.n side rn a.beside.now (row_at c.fill.new.values c.fill.new.there) c.fill.result w c.fill.ensures.1 c.fill.ensures.2)

pub returns-in-Polygon : goal.returns-in-Polygon
returns-in-Polygon c = says-polygon-sweep _ _ _ _ _ _ _ c.in-Polygon.is c.fill-in-Polygon.ensures
