-- `rings::hand::subtract_all` meets its contract. The loop's invariant: what the rings passed leave is in hand, and their tests are counted. Assumes nothing.
use borrow.Author.Rules.{rules}
use native.Mathlib.Omega.{arith}
use mathlib.Core.Path.{◌≡◌, sym, ◌∙◌, ap, subst}
use Prim.Native.Nat.{ℕ, ◌/◌, min}
use Rattle.rings.specs.Store.{rings_of}
use Rattle.rings.specs.Hand.{Subtracted}
use Rattle.rings.specs.Tests.{tests_of}
use Rattle.rings.proofs.InHand.{going_start, going_step, going-over, going_end}
use Rattle.rings.proofs.Tested.{counted_start, counted_next}
use Rattle.rings.proofs.hand.subtract_all.Goals as goal

pub loop-j-init : goal.loop-j-init
loop-j-init g c = (going_start _ _ _ _ (omega arith) (omega arith), counted_start _ c.args.rings.now)

pub overflow_add-tests : goal.overflow_add-tests
overflow_add-tests g c = let f = c.loop-j.invariant.0.few in
    let t = c.loop-j.invariant.1 in
    omega arith

pub cut_by-m-requires : goal.cut_by-m-requires
cut_by-m-requires g c = let f = c.loop-j.invariant.0.few in
    search rules

pub returns-then-m : goal.returns-then-m
returns-then-m g c = let loop = c.loop-j in
    let ring-at = c.ring_at in
    let cut_by = c.cut_by-m in
    record {
      pieces = going-over (g.row.N / 4) (rings_of c.args.n c.args.hand.now) c.args.rings.now loop.j loop.hand loop.m loop.invariant.0 ring-at.result ring-at.ensures
          _ cut_by.result cut_by.ensures c.args.count c.if-m.true c.loop-j-test.true;
      tests = λ b. absurd (omega (arith, c.if-m.true));
    }

pub loop-j-preserved : goal.loop-j-preserved
loop-j-preserved g c = let cut_by = c.cut_by-m in
    let loop = c.loop-j in
    let ring-at = c.ring_at in
    let ps = rings_of c.args.n c.args.hand.now in (
      going_step (g.row.N / 4) ps c.args.rings.now loop.j loop.hand loop.m loop.invariant.0 ring-at.result ring-at.ensures _ cut_by.result cut_by.ensures c.if-m.false,
      counted_next (g.row.N / 4) ps c.args.rings.now loop.j loop.hand loop.m loop.invariant.0 loop.tests c.lesser-tests.result loop.invariant.1 c.lesser-tests.ensures,
    )

pub returns : goal.returns
returns g c = let loop = c.loop-j in
    let ps = rings_of c.args.n c.args.hand.now in
    let e : loop.j ≡ c.args.count = omega arith in
    record {
      pieces = subst (λ (j : ℕ). Subtracted (g.row.N / 4) ps (rings_of j c.args.rings.now) loop.hand loop.m) e (going_end _ _ _ _ _ _ loop.invariant.0);
      tests = λ _. loop.invariant.1 ∙ ap (λ (j : ℕ). min (tests_of ps (rings_of j c.args.rings.now)) 65536) e;
    }
