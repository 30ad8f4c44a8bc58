-- `blocks::Cells::renew_over` meets its contract. The loop's invariant: the bins passed are gone through. Assumes nothing.
use mathlib.Core.Path.{◌≡◌, refl, ap, ◌∙◌}
use Prim.Native.Nat.{ℕ}
use native.Mathlib.Omega.{arith}
use lib.ListN.{length, take}
use Rattle.blocks.specs.Renew.{Open, open_after}
use Rattle.blocks.proofs.Steps.{open_more, over_done, leave-length, at_length}
use Rattle.blocks.proofs.Cells.renew_over.Goals as goal

pub loop-i-init : goal.loop-i-init
loop-i-init c = (omega arith, refl, refl, c.blocks_in-block.ensures)

pub loop-i-preserved : goal.loop-i-preserved
loop-i-preserved c = let l = c.leave_block-block.ensures in
    let m = open_more c.args.self.now.s c.args.self.now.n c.args.self.now.cells.now c.args.blocks.now c.args.indices.now c.loop-i.i c.loop-i.blocks _ c.loop-i.block _ (omega arith) c.loop-i.invariant.2 c.loop-i.invariant.3 l in (
      c.loop-i.invariant.0,
      ap length l.numbers ∙ leave-length c.args.self.now.s c.args.self.now.n c.args.self.now.cells.now _ _ ∙ c.loop-i.invariant.1,
      m.0,
      m.1,
    )

pub shape_of-blocks : goal.shape_of-blocks
shape_of-blocks c = ap length c.renew_block.ensures ∙ at_length c.args.self.now.s c.args.self.now.n c.args.self.now.cells.now c.loop-i.blocks c.loop-i.block ∙ c.loop-i.invariant.1

pub returns : goal.returns
returns c = let e : c.loop-i.i ≡ c.args.k = omega arith in
    let o : ℕ → Open = λ (m : ℕ). open_after c.args.self.now.s c.args.self.now.n c.args.self.now.cells.now c.args.blocks.now (take m c.args.indices.now) in
    over_done c.args.self.now.s c.args.self.now.n c.args.self.now.cells.now c.args.blocks.now (take c.args.k c.args.indices.now) c.loop-i.blocks _ c.loop-i.block
    (c.loop-i.invariant.2 ∙ ap (λ (m : ℕ). (o m).numbers) e)
    (c.loop-i.invariant.3 ∙ ap (λ (m : ℕ). (o m).block) e)
    c.renew_block.ensures
