-- `passes::propose::write_passes` meets its contract. The loop's invariant: the passes of the runs that ended are over the fronts of the lists, and of the open run its first bin is known and whether some bin stands over its target. Assumes nothing.
use mathlib.Core.Path.{◌≡◌, subst, ap}
use mathlib.Core.Bool.{Bool, ◌||◌}
use Prim.Native.Nat.{ℕ}
use native.Mathlib.Omega.{arith}
use borrow.Author.Rules.{rules}
use lib.ListN.{take}
use Rattle.passes.specs.Propose.{open_to, room_in, Listing}
use Rattle.passes.proofs.Runs.{reached-none, reached-next}
use Rattle.passes.proofs.Levels.{taken-lengths}
use Rattle.passes.proofs.Writing.{written_none, written_next}
use Rattle.passes.proofs.propose.write_passes.Goals as goal

pub loop-i-init : goal.loop-i-init
loop-i-init c = (search rules, reached-none _ _ _ _ _, written_none _ _ _ _ _ _ _ _)

pub loop-i-preserved : goal.loop-i-preserved
loop-i-preserved c = let i = c.loop-i.i in
    let g = c.loop-i.invariant.1 in
    let eo = ap (λ (t : Bool). c.loop-i.high || t) c.stands_over.ensures in (
      omega arith,
      reached-next c.args.s c.args.n c.args.targets.now c.args.rn c.args.cells.now i _ _ _ _ g eo c.last_of_run-ends.ensures _ c.first_from-first.ensures,
      written_next c.args.s c.args.n c.args.targets.now c.args.rn c.args.cells.now i _ _ _ _ _ _ _ _ _ _ _ _ _ _ _ _ g eo c.last_of_run-ends.ensures c.level_over-p.ensures c.loop-i.invariant.2 c.list_level-k.ensures,
    )

pub shape_of-kinds : goal.shape_of-kinds
shape_of-kinds c = (taken-lengths _ _ _ _ _ _ _ _ c.loop-i.invariant.2).kinds

pub shape_of-numbers : goal.shape_of-numbers
shape_of-numbers c = (taken-lengths _ _ _ _ _ _ _ _ c.loop-i.invariant.2).numbers

pub shape_of-parts : goal.shape_of-parts
shape_of-parts c = (taken-lengths _ _ _ _ _ _ _ _ c.loop-i.invariant.2).parts

pub returns : goal.returns
returns c = let e : c.loop-i.i ≡ c.args.n = omega arith in
    subst (λ (j : ℕ). Listing (take (room_in c.args.kinds.now c.args.numbers.now c.args.parts.now) (open_to c.args.s c.args.n c.args.targets.now c.args.rn c.args.cells.now j).passes) c.loop-i.k c.args.kinds.now c.loop-i.kinds c.args.numbers.now c.loop-i.numbers c.args.parts.now c.loop-i.parts) e c.loop-i.invariant.2
