-- `rings::lent::apart_on` meets its contract. The loop's invariant: what is found so far is said of the rings passed. Assumes nothing.
use native.Mathlib.Omega.{arith}
use mathlib.Core.Path.{◌≡◌, ap, ◌∙◌}
use Prim.Native.Nat.{ℕ}
use Rattle.rings.specs.Ring.{apart}
use Rattle.rings.specs.Store.{rings_of, apart_all}
use Rattle.rings.proofs.Prefix.{goes_on, apart_all-snoc}
use Rattle.rings.proofs.lent.apart_on.Goals as goal

pub loop-j-init : goal.loop-j-init
loop-j-init c = λ e. e

pub loop-j-preserved : goal.loop-j-preserved
loop-j-preserved c = let loop = c.loop-j in
    let ring-at = c.ring_at in
    λ e. goes_on (λ l. apart_all l c.args.k) (λ l p. apart p c.args.k) (apart_all-snoc c.args.k)
    c.args.rings.now loop.j ring-at.result loop.ok c.is_apart-ok.result (loop.invariant e) ring-at.ensures c.is_apart-ok.ensures

pub returns : goal.returns
returns c = let e : c.loop-j.j ≡ c.args.to = omega arith in
    λ f. c.loop-j.invariant f ∙ ap (λ (j : ℕ). apart_all (rings_of j c.args.rings.now) c.args.k) e
