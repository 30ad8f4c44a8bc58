-- `cuts::each_cut::swept` meets its contract. Assumes nothing.
use native.Mathlib.Omega.{arith}
use Rattle.cuts.proofs.Places.{fresh-room, fresh-empty}
use Rattle.cuts.proofs.each_cut.swept.Goals as goal

pub swept_over-requires : goal.swept_over-requires
swept_over-requires c = let p = c.requires in
    (p.0, fresh-room 128 _ _ (omega arith), fresh-empty 128 _ _ (omega arith))

pub returns-then-n-le-SHORT_BINS : goal.returns-then-n-le-SHORT_BINS
returns-then-n-le-SHORT_BINS c = c.swept_over.ensures

pub swept_over-requires-then-n-le-FEW_BINS : goal.swept_over-requires-then-n-le-FEW_BINS
swept_over-requires-then-n-le-FEW_BINS c = let p = c.requires in
    (p.0, fresh-room 1024 _ _ (omega arith), fresh-empty 1024 _ _ (omega arith))

pub returns-then-n-le-FEW_BINS : goal.returns-then-n-le-FEW_BINS
returns-then-n-le-FEW_BINS c = c.swept_over-then-n-le-FEW_BINS.ensures

pub swept_over-requires-2 : goal.swept_over-requires-2
swept_over-requires-2 c = let p = c.requires in
    let many = p.1 in
    (p.0, fresh-room 8192 _ _ (omega arith), fresh-empty 8192 _ _ (omega arith))

pub returns : goal.returns
returns c = c.swept_over-2.ensures
