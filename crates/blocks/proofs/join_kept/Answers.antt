-- `blocks::join_kept` meets its contract. The loop's invariant: what is found is said of the blocks passed. Assumes nothing.
use mathlib.Core.Path.{◌≡◌, ap, ◌∙◌}
use Prim.Native.Nat.{ℕ, ◌-◌}
use native.Mathlib.Omega.{arith}
use Rattle.blocks.specs.Way.{join_from}
use Rattle.blocks.proofs.Steps.{join_more, join-none}
use Rattle.blocks.proofs.join_kept.Goals as goal

pub loop-j-init : goal.loop-j-init
loop-j-init c = (omega arith, join-none _ _ _ _ (omega arith))

pub loop-j-preserved : goal.loop-j-preserved
loop-j-preserved c = let args = c.args in
    let loop = c.loop-j in
    (omega arith, join_more args.k args.blocks.now args.a loop.j loop.found c.join-found.result c.block_at.result loop.auto.j loop.invariant.1 c.block_at.ensures c.join-found.ensures)

pub returns : goal.returns
returns c = let args = c.args in
    let loop = c.loop-j in
    let e : loop.j - args.a ≡ args.e - args.a = omega arith in
    loop.invariant.1 ∙ ap (λ (m : ℕ). join_from args.k args.blocks.now args.a m) e
