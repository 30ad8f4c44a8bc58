-- `blocks::whole_matches` meets its contract. Assumes nothing.
use mathlib.Core.Path.{◌≡◌, ap, ◌∙◌}
use Prim.Native.Nat.{ℕ, ◌+◌, ◌-◌}
use native.Mathlib.Omega.{arith}
use Rattle.blocks.specs.Block.{block_to, same_block}
use Rattle.blocks.proofs.Lots.{whole-found}
use Rattle.blocks.proofs.whole_matches.Goals as goal

pub returns-then-all_held : goal.returns-then-all_held
returns-then-all_held c = let args = c.args in
    whole-found args.s args.cells.now args.a args.kept _ _ _ _ _ c.of_block-found.ensures c.all_held.ensures c.if-all_held.true c.no_material.ensures c.span.ensures c.join-b.ensures

pub returns : goal.returns
returns c = let args = c.args in
    let e : args.a + 64 - args.a ≡ 64 = omega arith in
    c.bins_match.ensures ∙ ap (λ (m : ℕ). same_block args.kept (block_to args.s args.cells.now args.a m)) e
