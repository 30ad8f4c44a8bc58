-- `rings::fit::apart_blocks` meets its contract. The loop's invariant: what is found so far is said of the blocks passed. Assumes nothing.
use native.Mathlib.Omega.{arith}
use mathlib.Core.Path.{◌≡◌, refl, ap, ◌∙◌}
use Prim.Native.Nat.{ℕ, ◌+◌, ◌*◌, min}
use Rattle.rings.specs.Store.{rings_of, apart_all}
use Rattle.rings.proofs.Boxes.{block-box}
use Rattle.rings.proofs.fit.apart_blocks.Goals as goal

pub loop-at-init : goal.loop-at-init
unfolding rings_of apart_all
loop-at-init c = let e : 0 ≡ min (16 * 0) c.args.n = omega arith in
    λ x. ap (λ (j : ℕ). apart_all (rings_of j c.args.rings.now) c.args.k) e

pub apart_block-ok-requires : goal.apart_block-ok-requires
apart_block-ok-requires c = let l = c.lesser-to.ensures in
    (omega arith, omega arith)

pub loop-at-preserved : goal.loop-at-preserved
loop-at-preserved c = let lesser = c.lesser-to in
    let loop = c.loop-at in
    let ring-at = c.ring_at in
    let rings = c.args.rings.now in
    let k = c.args.k in
    let n = c.args.n in
    let l = lesser.ensures in
    let e : min (16 * loop.at) n ≡ 16 * loop.at = omega arith in
    let f : lesser.result ≡ min (16 * (loop.at + 1)) n = omega arith in
    λ x. c.apart_block-ok.ensures (loop.invariant x ∙ ap (λ (j : ℕ). apart_all (rings_of j rings) k) e) (block-box c.args.boxes.now rings n loop.at ring-at.result _ _ x ring-at.ensures refl l)
    ∙ ap (λ (j : ℕ). apart_all (rings_of j rings) k) f

pub returns : goal.returns
returns c = let e : min (16 * c.loop-at.at) c.args.n ≡ c.args.n = omega arith in
    λ x. c.loop-at.invariant x ∙ ap (λ (j : ℕ). apart_all (rings_of j c.args.rings.now) c.args.k) e
