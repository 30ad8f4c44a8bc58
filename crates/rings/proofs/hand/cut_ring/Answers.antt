-- `rings::hand::cut_ring` meets its contract. Assumes nothing.
use borrow.Author.Rules.{rules}
use native.Mathlib.Omega.{arith}
use mathlib.Core.List.{[]}
use Prim.Native.Nat.{◌/◌}
use Rattle.rings.proofs.InHand.{holds-none, one-few, one-cut}
use Rattle.rings.proofs.hand.cut_ring.Goals as goal

pub subtract_all-requires : goal.subtract_all-requires
subtract_all-requires g c = let few = one-few _ (omega arith) c.args.c _ _ (c.put-n.ensures.onto (g.row.N / 4) [] (holds-none _ _ (omega arith))) in
    search rules

pub returns : goal.returns
returns g c = one-cut (g.row.N / 4) (omega arith) _ _ _ (c.put-n.ensures.onto (g.row.N / 4) [] (holds-none _ _ (omega arith))) _ _ _ c.subtract_all.ensures
