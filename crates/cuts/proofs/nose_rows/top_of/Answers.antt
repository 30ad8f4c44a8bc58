-- `cuts::nose_rows::top_of` meets its contract. Assumes nothing.
use Rattle.floats.proofs.Bools.{so}
use Rattle.floats.proofs.Anywhere.{le-number-r}
use Rattle.floats.proofs.Bounding.{le_same}
use Rattle.cuts.proofs.Rests.{topped}
use Rattle.cuts.proofs.nose_rows.top_of.Goals as goal

pub returns-then-low-high : goal.returns-then-low-high
returns-then-low-high c = let l = c.in_ok-low.was in
    let h = c.in_ok-high.was in
    topped _ _ _ _ _ l h (so c.if-low-high.true) (le_same _ (le-number-r _ _ (so c.if-low-high.true)))

pub returns-then-high-low : goal.returns-then-high-low
returns-then-high-low c = let l = c.in_ok-low.was in
    let h = c.in_ok-high.was in
    topped _ _ _ _ _ l h (le_same _ (le-number-r _ _ (so c.if-high-low.true))) (so c.if-high-low.true)

pub returns : goal.returns
returns c = tt
