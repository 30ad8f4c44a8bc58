-- `rings::fit::apart_blocks` meets its contract. The loop's invariant: what is found so far is said of the blocks passed. Assumes nothing.
use mathlib.Core.Path.{◌≡◌}
use Prim.Native.Nat.{◌*◌, min}
use Rattle.rings.specs.Store.{rings_of, apart_all}
use Rattle.rings.specs.Block.{Boxed}
use Rattle.rings.proofs.fit.apart_blocks.Given as goal

abbrev pub invariant-loop-at : goal.invariant-loop-at
invariant-loop-at l = Boxed l.boxes l.rings l.n → l.ok ≡ apart_all (rings_of (min (16 * l.at) l.n) l.rings) l.k
