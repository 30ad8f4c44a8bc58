-- `insert::edges::edges_at` meets its contract. Assumes nothing.
use mathlib.Core.Path.{◌≡◌, refl}
use Prim.Native.Nat.{◌+◌, ◌-◌, ◌/◌, ◌<◌}
use native.Mathlib.Omega.{arith}
use lib.ListN.{length}
use Rattle.insert.specs.Insert.{edges_to, edges_of}
use Rattle.insert.proofs.Steps.{edges_more, edges-closed}
use Rattle.insert.proofs.edges.edges_at.Goals as goal

pub returns-then-n-eq0 : goal.returns-then-n-eq0
unfolding edges_of edges_to
returns-then-n-eq0 c = rw c.if-n-eq0.true

pub loop-i-init : goal.loop-i-init
unfolding edges_to
loop-i-init c = refl

pub loop-i-preserved : goal.loop-i-preserved
loop-i-preserved c = let l = c.loop-i in
    let h : l.i + 1 < length c.args.polygon.now / 2 = omega arith in
    rw (edges_more _ _ _ _ l.i h, ← l.invariant, ← c.edge_at.ensures) c.further-found.ensures

pub returns : goal.returns
unfolding edges_of
returns c = let l = c.loop-i in
    let e : l.i ≡ length c.args.polygon.now / 2 - 1 = omega arith in
    let h : length c.args.polygon.now / 2 - 1 + 1 ≡ length c.args.polygon.now / 2 = omega arith in
    rw (edges-closed _ _ _ _ (length c.args.polygon.now / 2 - 1) h, ← c.edge_at-2.ensures, ← e, ← l.invariant) c.further.ensures
