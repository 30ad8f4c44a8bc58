-- `blocks::Cells::match_to` meets its contract. The loop's invariant: what is found so far is said of the blocks passed. Assumes nothing.
use mathlib.Core.Path.{◌≡◌, refl}
use native.Mathlib.Omega.{arith}
use borrow.Author.Rules.{rules}
use Rattle.blocks.specs.Block.{match_to}
use Rattle.blocks.proofs.Steps.{match-more}
use Rattle.blocks.proofs.Cells.match_to.Goals as goal

pub loop-j-init : goal.loop-j-init
unfolding match_to
loop-j-init c = (search rules, refl)

pub loop-j-preserved : goal.loop-j-preserved
loop-j-preserved c = let loop = c.loop-j in
    (loop.invariant.0, simp (match-more, c.block_at.ensures, c.matches-ok.ensures, loop.invariant.1))

pub returns : goal.returns
returns c = let e : c.loop-j.j ≡ c.args.count = omega arith in
    rw (← e) c.loop-j.invariant.1
