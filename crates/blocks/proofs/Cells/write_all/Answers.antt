-- `blocks::Cells::write_all` meets its contract. The loop's invariant: the blocks passed are those of the cells, the rest as they were. Assumes nothing.
use mathlib.Core.Path.{◌≡◌, sym, ap, ◌∙◌}
use Prim.Native.Nat.{ℕ}
use native.Mathlib.Omega.{arith}
use lib.ListN.{length}
use Rattle.refusals.specs.Lent.{over}
use Rattle.refusals.proofs.Written.{over_none, over-all, length_over}
use Rattle.blocks.specs.Block.{blocks_to, blocks_in}
use Rattle.blocks.proofs.Steps.{length-blocks, blocks_more}
use Rattle.blocks.proofs.Cells.write_all.Goals as goal

pub loop-j-init : goal.loop-j-init
unfolding blocks_to
loop-j-init c = (omega arith, omega arith, sym (over_none _))

pub loop-j-preserved : goal.loop-j-preserved
loop-j-preserved c = (
  c.loop-j.invariant.0,
  c.loop-j.invariant.1,
  c.put_block.ensures ∙ blocks_more c.args.self.now.s c.args.self.now.n c.args.self.now.cells.now c.loop-j.blocks c.args.blocks.now c.loop-j.j _ c.loop-j.invariant.2 c.band.ensures (omega arith),
)

pub shape_of-blocks : goal.shape_of-blocks
shape_of-blocks c = ap length c.loop-j.invariant.2 ∙ length_over (blocks_to c.args.self.now.s c.args.self.now.n c.args.self.now.cells.now c.loop-j.j) c.args.blocks.now (omega (arith, length-blocks c.args.self.now.s c.args.self.now.n c.args.self.now.cells.now c.loop-j.j))

pub returns : goal.returns
returns c = let e : c.loop-j.j ≡ blocks_in c.args.self.now.n = omega arith in
    let l = length-blocks c.args.self.now.s c.args.self.now.n c.args.self.now.cells.now (blocks_in c.args.self.now.n) in
    c.loop-j.invariant.2
    ∙ ap (λ (k : ℕ). over (blocks_to c.args.self.now.s c.args.self.now.n c.args.self.now.cells.now k) c.args.blocks.now) e
    ∙ over-all (blocks_to c.args.self.now.s c.args.self.now.n c.args.self.now.cells.now (blocks_in c.args.self.now.n)) c.args.blocks.now (omega arith)
