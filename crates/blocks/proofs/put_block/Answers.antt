-- `blocks::put_block` meets its contract. Assumes nothing.
use mathlib.Core.Path.{◌≡◌, sym}
use Prim.Native.Nat.{suc, ◌+◌, ◌*◌}
use native.Mathlib.Omega.{arith}
use lib.ListN.{length-set}
use Rattle.blocks.proofs.Steps.{put-room, put-none}
use Rattle.blocks.proofs.put_block.Goals as goal

pub returns-then-blocks-j : goal.returns-then-blocks-j
returns-then-blocks-j c = sym (put-none c.args.blocks.now c.args.j c.args.b (omega arith))

pub bounds-blocks-at-2 : goal.bounds-blocks-at-2
bounds-blocks-at-2 c = simp length-set (omega arith)

pub returns : goal.returns
returns c = let at = 2 * c.args.j in
    let e1 : at + 1 ≡ suc at = omega arith in
    simp (e1, put-room c.args.blocks.now c.args.j c.args.b (omega arith))
