-- `cuts::nose_rows::rests` meets its contract. Assumes nothing.
use mathlib.Core.Path.{sym}
use mathlib.Core.Bool.{true≢false}
use borrow.Author.Tests.{not-false}
use Rattle.cuts.proofs.Rests.{found-top, rests-same, rests-other}
use Rattle.cuts.proofs.nose_rows.rests.Goals as goal

pub returns-then-bin-t : goal.returns-then-bin-t
returns-then-bin-t c e = absurd (true≢false (sym e))

pub returns-in_default : goal.returns-in_default
returns-in_default c e = absurd (true≢false (sym e))

pub returns-then-not-stays : goal.returns-then-not-stays
returns-then-not-stays c e = absurd (true≢false (sym e))

pub returns-then-t : goal.returns-then-t
returns-then-t c e = let a = c.args in
    let top = found-top a.row _ _ c.in-Some.is c.top_of-found.ensures in
    rests-same a.row a.t a.bin _ c.if-bin-t.false top (c.stays.ensures (not-false _ c.if-not-stays.false-raw)) c.if-t.true

pub returns : goal.returns
returns c e = let a = c.args in
    let top = found-top a.row _ _ c.in-Some.is c.top_of-found.ensures in
    rests-other a.row a.t a.bin _ c.if-bin-t.false top (c.stays.ensures (not-false _ c.if-not-stays.false-raw)) c.if-t.false (c.stays-2.ensures e)
