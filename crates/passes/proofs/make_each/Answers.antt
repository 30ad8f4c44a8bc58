-- `passes::make_each` meets its contract. Assumes nothing.
use mathlib.Core.Path.{◌≡◌, refl, ap}
use native.Mathlib.Omega.{arith}
use lib.ListN.{length}
use Rattle.refusals.specs.Number.{reason_in, placed_of}
use Rattle.passes.specs.Cuts.{cuts_of}
use Rattle.passes.proofs.InTurn.{stands, stands_on, stands-no-more, stands-last}
use borrow.Author.Rules.{rules}
use Rattle.passes.proofs.make_each.Goals as goal

pub loop-k-init : goal.loop-k-init
loop-k-init c = let p = c.requires in
    (omega arith, p.0, refl, refl, refl, p.1, stands _ _ _)

pub make_at-applied-requires : goal.make_at-applied-requires
make_at-applied-requires c = let l = c.loop-k in
    (c.loop-k-test.true, omega arith, l.invariant.5)

pub returns-in-Err : goal.returns-in-Err
returns-in-Err c = let a = c.args in
    let l = c.loop-k in
    stands-no-more _ (cuts_of a.kinds.now a.numbers.now a.parts.now a.lists.now) a.after.now l.k l.s l.after l.invariant.6 _ (reason_in c.in-Err.e) c.in-Err.e.why _ (length a.kinds.now) _ c.at.ensures c.loop-k-test.true c.make_at-applied.ensures (ap placed_of c.in-Err.is) refl

pub loop-k-preserved : goal.loop-k-preserved
loop-k-preserved c = let a = c.args in
    let l = c.loop-k in
    (search rules, search rules, search rules, search rules, search rules, search rules, stands_on _ (cuts_of a.kinds.now a.numbers.now a.parts.now a.lists.now) a.after.now l.k l.s l.after l.invariant.6 _ _ _ c.make_at-applied.ensures c.in-Ok.is)

pub returns : goal.returns
returns c = let a = c.args in
    let e : c.loop-k.k ≡ length a.kinds.now = omega arith in
    stands-last _ (cuts_of a.kinds.now a.numbers.now a.parts.now a.lists.now) a.after.now c.loop-k.k c.loop-k.s c.loop-k.after c.loop-k.invariant.6 (length a.kinds.now) e
