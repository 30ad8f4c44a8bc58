-- `rings::hand::cut_by` meets its contract. Assumes nothing.
use native.Mathlib.Omega.{arith}
use mathlib.Core.Path.{◌∙◌, sym}
use mathlib.Core.List.{[]}
use Prim.Native.Nat.{◌/◌}
use Rattle.rings.proofs.InHand.{holds-none, cut_apart, cut-copied, cut-over}
use Rattle.rings.proofs.hand.cut_by.Goals as goal

pub returns-then-apart_from : goal.returns-then-apart_from
returns-then-apart_from g c = cut_apart _ _ _ _ (omega arith) (omega arith) (sym c.apart_from.ensures ∙ c.if-apart_from.true)

pub returns-then-m : goal.returns-then-m
returns-then-m g c = let subtract-one = c.subtract_one-m in
    cut-over _ _ _ subtract-one.result _ (omega arith) (subtract-one.ensures.onto (g.row.N / 4) [] (holds-none _ _ (omega arith))) c.if-m.true

pub copy_rings-requires : goal.copy_rings-requires
copy_rings-requires g c = let h = c.subtract_one-m.ensures.onto (g.row.N / 4) [] (holds-none _ _ (omega arith)) in
    let s = h.size in
    (omega arith, omega arith)

pub returns : goal.returns
returns g c = let subtract-one = c.subtract_one-m in
    cut-copied _ _ _ _ subtract-one.result _ (omega arith) (subtract-one.ensures.onto (g.row.N / 4) [] (holds-none _ _ (omega arith))) c.if-m.false c.copy_rings.ensures
