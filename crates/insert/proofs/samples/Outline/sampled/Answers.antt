-- `insert::samples::Outline::sampled` meets its contract. Assumes nothing.
use borrow.Author.Rules.{rules}
use mathlib.Core.Path.{◌≡◌, ap, ap₂, ◌∙◌}
use Prim.Native.Nat.{◌-◌}
use native.Mathlib.Omega.{arith}
use Rattle.insert.specs.Insert.{both, sampled_to, sampled_in}
use Rattle.insert.proofs.Steps.{sampled-more}
use Rattle.insert.proofs.samples.Outline.sampled.Goals as goal

pub loop-i-init : goal.loop-i-init
unfolding sampled_to
loop-i-init c = let a = c.args in
    let s = c.span-s.result in
    let g : s.start - s.start ≡ 0 = omega arith in
    (search rules, rw g (c.both-found.ensures ∙ ap₂ (both a.self.now.w) c.sample_at-a.ensures c.sample_at-b.ensures))

pub loop-i-preserved : goal.loop-i-preserved
loop-i-preserved c = let a = c.args in
    let l = c.loop-i in
    (search rules, rw (sampled-more a.self.now.w a.self.now.points.now a.lo a.hi c.span-s.result.start l.i l.auto.i, ← l.invariant.1) c.with_inside-found.ensures)

pub returns : goal.returns
returns c = let a = c.args in
    let l = c.loop-i in
    let p = c.span-s.result in
    let e : l.i - p.start ≡ p.end - p.start = omega arith in
    l.invariant.1 ∙ (ap (sampled_to a.self.now.w a.self.now.points.now a.lo a.hi p.start) e
    ∙ ap (sampled_in a.self.now.w a.self.now.points.now a.lo a.hi) c.span-s.ensures.ruled)
