-- `changes::step` meets its contract. Assumes nothing.
use mathlib.Core.Bool.{true, not, ◌&&◌, ◌||◌}
use lib.Dec.{ltb}
use Rattle.changes.proofs.step.Goals as goal

pub returns : goal.returns
returns c = let a = c.args in
    λ i. record {
      spec = a.st.s;
      n = a.st.n;
      any = true;
      last = a.change.index;
      rises = a.st.rises && (not a.st.any || ltb a.st.last a.change.index);
      count = c.place_after-count.ensures i;
      fall = c.fall_at-fall.ensures i;
      found = c.found_next-found.ensures i;
    }
