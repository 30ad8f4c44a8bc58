-- `blocks::matching::met_over` meets its contract. The loop's invariant: what is met is said of the bins passed. Assumes nothing.
use mathlib.Core.Path.{◌≡◌, ap, ◌∙◌}
use Prim.Native.Nat.{ℕ, ◌-◌}
use native.Mathlib.Omega.{arith}
use Rattle.blocks.specs.Tested.{met_from}
use Rattle.blocks.proofs.Tested.{met-more, met_start}
use Rattle.blocks.proofs.matching.met_over.Goals as goal

pub loop-i-init : goal.loop-i-init
loop-i-init c = (omega arith, met_start _ _ _ _ _ (omega arith))

pub loop-i-preserved : goal.loop-i-preserved
loop-i-preserved c = let args = c.args in
    let loop = c.loop-i in
    (omega arith, met-more args.kept args.m args.bins.now.cells.now args.bins.now.a loop.i loop.met c.met_with-met.result c.most_at.result loop.auto.i loop.invariant.1 c.most_at.ensures c.met_with-met.ensures)

pub returns : goal.returns
returns c = let args = c.args in
    let loop = c.loop-i in
    let e : loop.i - args.bins.now.a ≡ args.bins.now.e - args.bins.now.a = omega arith in
    loop.invariant.1 ∙ ap (λ (x : ℕ). met_from args.kept args.m args.bins.now.cells.now args.bins.now.a x) e
