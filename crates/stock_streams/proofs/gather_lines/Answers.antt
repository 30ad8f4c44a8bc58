-- `stock_streams::gather_lines` meets its contract. Assumes nothing.
use Rattle.std.proofs.Common.{◌≡◌, ℕ, subst, arith}
use Rattle.stock_file.specs.Write.{line_for, lines_to}
use Rattle.stock_streams.specs.Write.{text_in, AllPut}
use Rattle.stock_streams.proofs.Putting.{put-none, put-more}
use Rattle.stock_streams.proofs.gather_lines.Goals as goal

pub loop-k-init : goal.loop-k-init
loop-k-init g c = put-none _ _ _ c.fresh-out.ensures.0

pub loop-k-preserved : goal.loop-k-preserved
loop-k-preserved g c = let l = c.loop-k in
    let a = c.args in
    put-more (λ i. text_in (line_for a.stock a.cells.now a.rings.now i)) l.k l.invariant c.put_line-out.ensures

pub returns : goal.returns
returns g c = let l = c.loop-k in
    let a = c.args in
    let e : l.k ≡ a.n = omega (arith, l.auto.k-end, c.loop-k-test.false) in
    subst (λ (i : ℕ). AllPut (lines_to (λ j. text_in (line_for a.stock a.cells.now a.rings.now j)) i) l.out l.gathered) e l.invariant
