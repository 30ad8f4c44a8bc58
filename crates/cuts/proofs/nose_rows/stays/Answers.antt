-- `cuts::nose_rows::stays` meets its contract. Assumes nothing.
use mathlib.Core.Path.{sym}
use mathlib.Core.Bool.{true≢false}
use Rattle.nose.proofs.Overs.{both, capsule-over}
use Rattle.cuts.proofs.nose_rows.stays.Goals as goal

pub returns-then-over : goal.returns-then-over
returns-then-over c e = let a = c.args in
    let x = both _ _ c.if-over.true in
    let y = both _ _ x.0 in
    let z = both _ _ y.0 in
    let s = both _ _ e in (
      capsule-over a.w a.bin.za a.top (c.over.ensures z.0 a.w.rn) (c.over-2.ensures z.1 a.w.rn) (c.beside.ensures s.0),
      capsule-over a.w a.bin.zb a.top (c.over-3.ensures y.1 a.w.rn) (c.over-4.ensures x.1 a.w.rn) (c.beside-then-over.ensures s.1),
    )

pub returns : goal.returns
returns c e = absurd (true≢false (sym e))
