-- `side_streams::gather_chunks` meets its contract. Assumes nothing.
use Prim.Native.Nat.{ℕ}
use native.Mathlib.Omega.{arith}
use mathlib.Core.Path.{◌≡◌, sym, ◌∙◌, subst}
use Rattle.text.proofs.Sets.{room}
use Rattle.stock_file.specs.Write.{lines_to}
use Rattle.stock_streams.specs.Write.{AllPut}
use Rattle.stock_streams.proofs.Putting.{put-none}
use Rattle.side_by_side.specs.Compared.{side, chunk_of}
use Rattle.side_streams.proofs.Gathered.{chunk-put}
use borrow.Author.Rules.{rules}
use Rattle.side_streams.proofs.gather_chunks.Goals as goal

pub loop-c-init : goal.loop-c-init
loop-c-init g c = (search rules, put-none _ _ _ c.fresh-out.ensures.0)

pub slice_bounds-front-end : goal.slice_bounds-front-end
slice_bounds-front-end g c = sym (room c.chunk-n.ensures ∙ c.loop-c.invariant.0)

pub loop-c-preserved : goal.loop-c-preserved
loop-c-preserved g c = let l = c.loop-c in
    (room c.chunk-n.ensures ∙ l.invariant.0, chunk-put _ _ l.c l.invariant.0 l.invariant.1 c.chunk-n.ensures c.front.ensures c.put-out.ensures)

pub returns : goal.returns
returns g c = let l = c.loop-c in
    let a = c.args in
    let e : l.c ≡ a.chunks = omega (arith, l.auto.c-end, c.loop-c-test.false) in
    subst (λ (i : ℕ). AllPut (lines_to (chunk_of (side a.cells1.now a.rings1.now a.count1) (side a.cells2.now a.rings2.now a.count2)) i) l.out l.gathered) e l.invariant.1
