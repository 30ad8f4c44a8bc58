-- `side_by_side::each_in_hand` meets its contract. Assumes nothing.
use native.Mathlib.Omega.{arith}
use mathlib.Core.Path.{◌≡◌, ap, ◌∙◌}
use Prim.Native.Nat.{ℕ}
use Rattle.rings.specs.Store.{rings_of}
use Rattle.rings.specs.Remove.{lent_rings}
use Rattle.side_by_side.specs.Compared.{each_in_hand}
use Rattle.side_by_side.proofs.Texts.{each_start, each_next}
use Rattle.side_by_side.proofs.each_in_hand.Goals as goal

pub loop-i-init : goal.loop-i-init
loop-i-init c = each_start _ _

pub loop-i-preserved : goal.loop-i-preserved
loop-i-preserved c = let loop = c.loop-i in
    each_next _ _ _ _ _ _ loop.invariant c.ring_at.ensures c.in_hand-ok.ensures

pub returns : goal.returns
returns c = let a = c.args in
    let n = c.lent_of-n in
    let e : c.loop-i.i ≡ n.result = omega (arith, c.loop-i.auto.i-end, c.loop-i-test.false) in
    c.loop-i.invariant ∙ ap (λ (i : ℕ). each_in_hand (lent_rings a.rings.now a.count) (rings_of i a.others.now)) (e ∙ n.ensures)
