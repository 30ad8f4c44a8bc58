-- `stock::put_all` meets its contract. The loop's invariant: the cells passed are like c, the rest as they were. Assumes nothing.
use Rattle.std.proofs.Common.{◌≡◌, ℕ, length, sym, ap, ◌∙◌, arith, rules}
use Rattle.refusals.specs.Lent.{over}
use Rattle.refusals.proofs.Written.{over_none, over-all}
use Rattle.stock.specs.Cell.{cells_like}
use Rattle.stock.proofs.Cells.{length-like, length-liked, like-more}
use Rattle.stock.proofs.put_all.Goals as goal

pub loop-i-init : goal.loop-i-init
unfolding cells_like
loop-i-init c = (search rules, sym (over_none _))

pub put_from-requires : goal.put_from-requires
put_from-requires c = let h : length c.loop-i.cells ≡ length c.args.cells.now = length-liked c.args.c c.loop-i.cells c.args.cells.now c.loop-i.i c.loop-i.invariant.1 (omega arith) in
    omega arith

pub loop-i-preserved : goal.loop-i-preserved
loop-i-preserved c = (
  search rules,
  c.put_from.ensures ∙ like-more c.args.c c.loop-i.cells c.args.cells.now c.loop-i.i c.loop-i.invariant.1 (omega arith),
)

pub shape_of-cells : goal.shape_of-cells
shape_of-cells c = length-liked c.args.c c.loop-i.cells c.args.cells.now c.loop-i.i c.loop-i.invariant.1 (omega arith)

pub returns : goal.returns
returns c = let e : c.loop-i.i ≡ c.args.n = omega arith in
    c.loop-i.invariant.1
    ∙ ap (λ (k : ℕ). over (cells_like c.args.c k) c.args.cells.now) e
    ∙ over-all (cells_like c.args.c c.args.n) c.args.cells.now (length-like c.args.c c.args.n ∙ sym c.loop-i.invariant.0)
