-- `blocks::clear` meets its contract. Assumes nothing.
use mathlib.Core.Path.{◌≡◌, sym, ap, ◌∙◌}
use mathlib.Core.List.{map}
use Prim.Native.Nat.{ℕ}
use native.Mathlib.Omega.{arith}
use lib.ListN.{length}
use lib.Seq.{take-length}
use Rattle.floats.specs.Numbers.{clean_of}
use Rattle.refusals.specs.Lent.{over}
use Rattle.refusals.proofs.Written.{over_none, over-all}
use Rattle.blocks.proofs.Steps.{clear_to, length-clear, clear-more}
use Rattle.blocks.proofs.clear.Goals as goal

pub loop-x-init : goal.loop-x-init
loop-x-init c = sym (over_none _)

pub loop-x-preserved : goal.loop-x-preserved
loop-x-preserved c = clear-more c.loop-x.blocks c.args.blocks.now c.loop-x.x-index c.clean.result c.loop-x.invariant c.clean.ensures (omega arith)

pub returns : goal.returns
returns c = let e : c.loop-x.x-index ≡ length c.args.blocks.now = omega arith in
    c.loop-x.invariant
    ∙ ap (λ (m : ℕ). over (clear_to c.args.blocks.now m) c.args.blocks.now) e
    ∙ over-all (clear_to c.args.blocks.now (length c.args.blocks.now)) c.args.blocks.now (length-clear c.args.blocks.now (length c.args.blocks.now) (omega arith))
    ∙ ap (map clean_of) (take-length c.args.blocks.now)
