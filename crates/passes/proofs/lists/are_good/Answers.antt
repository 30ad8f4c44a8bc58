-- `passes::lists::are_good` meets its contract. Assumes nothing.
use mathlib.Core.Path.{◌≡◌, refl, sym, ap, ap₂, ◌∙◌}
use mathlib.Core.Bool.{Bool, not, ◌&&◌}
use native.Mathlib.Omega.{arith}
use borrow.Author.Tests.{lt-leb, le-leb}
use lib.ListN.{length}
use Rattle.passes.specs.Cuts.{pass_limit}
use Rattle.passes.specs.Check.{outside_to}
use Rattle.passes.proofs.Loops.{outside-more}
use Rattle.passes.proofs.lists.are_good.Goals as goal

pub returns-then-kinds-gt-PASS_LIMIT : goal.returns-then-kinds-gt-PASS_LIMIT
returns-then-kinds-gt-PASS_LIMIT c = let kinds = c.args.kinds.now in
    sym (ap (λ (t : Bool). t && outside_to kinds (length kinds)) (lt-leb (length kinds) pass_limit c.if-kinds-gt-PASS_LIMIT.true))

pub loop-k-init : goal.loop-k-init
unfolding outside_to
loop-k-init c = (omega arith, omega arith, refl)

pub loop-k-preserved : goal.loop-k-preserved
loop-k-preserved c = (omega arith, omega arith, ap₂ (λ (a b : Bool). a && not b) c.loop-k.invariant.2 c.is_inside.ensures ∙ sym (outside-more c.args.kinds.now c.loop-k.k))

pub returns : goal.returns
returns c = let kinds = c.args.kinds.now in
    let e : c.loop-k.k ≡ length kinds = omega arith in
    c.loop-k.invariant.2 ∙ ap (outside_to kinds) e ∙ sym (ap (λ (t : Bool). t && outside_to kinds (length kinds)) (le-leb (length kinds) pass_limit c.loop-k.invariant.1))
