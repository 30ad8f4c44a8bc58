-- `rings::all_good` meets its contract. The loop's invariant: what is found so far is said of the rings passed. Assumes nothing.
use native.Mathlib.Omega.{arith}
use mathlib.Core.Path.{◌≡◌, refl, ap, ap₂, ◌∙◌}
use mathlib.Core.Bool.{◌&&◌, and_assoc}
use Prim.Native.Nat.{ℕ, ◌/◌}
use lib.ListN.{length}
use Rattle.rings.specs.Ring.{filled}
use Rattle.rings.specs.Store.{rings_of, finite_ring, all_good}
use Rattle.rings.proofs.Prefix.{goes_on, all_good-snoc}
use Rattle.rings.proofs.all_good.Goals as goal

pub loop-i-init : goal.loop-i-init
unfolding all_good rings_of
loop-i-init c = refl

pub loop-i-preserved : goal.loop-i-preserved
loop-i-preserved c = let loop = c.loop-i in
    let is-finite-ring = c.is_finite_ring in
    let ring-at = c.ring_at-q in
    and_assoc loop.ok is-finite-ring.result c.is_filled.result ∙ goes_on all_good (λ l q. finite_ring q && filled q) all_good-snoc
    c.args.rings.now loop.i ring-at.result loop.ok (is-finite-ring.result && c.is_filled.result) loop.invariant ring-at.ensures (ap₂ ◌&&◌ is-finite-ring.ensures c.is_filled.ensures)

pub returns : goal.returns
returns c = let e : c.loop-i.i ≡ (length c.args.rings.now / 4) = omega arith in
    c.loop-i.invariant ∙ ap (λ (i : ℕ). all_good (rings_of i c.args.rings.now)) e
