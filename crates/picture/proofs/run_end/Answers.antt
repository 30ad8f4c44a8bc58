-- `picture::run_end` meets its contract. The loop's invariant: all bins passed are at k's radius. Assumes nothing.
use Rattle.std.proofs.Common.{◌≡◌, subst, arith}
use borrow.Author.Tests.{not-true, not-false}
use Rattle.picture.specs.Steps.{edge_of}
use Rattle.picture.proofs.Runs.{Level, told, level-none, level-more, run_none, run-found, run-full}
use Rattle.picture.proofs.run_end.Goals as goal

pub bins-n-requires : goal.bins-n-requires
bins-n-requires c = tt

pub returns-then-n-k : goal.returns-then-n-k
returns-then-n-k c = run_none _ _ _ (omega (arith, c.if-n-k.true, c.bins-n.ensures))

pub edge-r-requires : goal.edge-r-requires
edge-r-requires c = tt

pub loop-j-init : goal.loop-j-init
loop-j-init c = level-none _ _

pub edge-requires : goal.edge-requires
edge-requires c = tt

pub returns-then-not-edge-r : goal.returns-then-not-edge-r
returns-then-not-edge-r c = let a = c.args in
    let loop = c.loop-j in
    let e = c.bins-n.ensures in
    run-found _ _ _ _ (omega (arith, loop.auto.j)) (omega (arith, c.loop-j-test.true, e)) loop.invariant (told (edge_of a.look a.side a.cells1.now a.cells2.now a.s) a.k loop.j c.edge.ensures c.edge-r.ensures (not-true _ c.if-not-edge-r.true-raw))

pub loop-j-preserved : goal.loop-j-preserved
loop-j-preserved c = let a = c.args in
    let loop = c.loop-j in
    level-more _ _ _ loop.invariant (told (edge_of a.look a.side a.cells1.now a.cells2.now a.s) a.k loop.j c.edge.ensures c.edge-r.ensures (not-false _ c.if-not-edge-r.false-raw))

pub returns : goal.returns
returns c = let loop = c.loop-j in
    let e = c.bins-n.ensures in
    let q : loop.j ≡ c.bins-n.result = omega (arith, loop.auto.j-end (omega (arith, c.if-n-k.false)), c.loop-j-test.false) in
    run-full _ _ _ _ (omega (arith, c.if-n-k.false)) (omega (arith, e)) (omega (arith, e)) (subst (Level (edge_of c.args.look c.args.side c.args.cells1.now c.args.cells2.now c.args.s) c.args.k) q loop.invariant)
