-- `changes::first_fall` meets its contract. Assumes nothing.
use Rattle.std.specs.Prelude.{None, Some}
use mathlib.Core.Path.{◌≡◌, sym, ap, ap₂, ◌∙◌}
use Prim.Native.Nat.{ℕ, ◌+◌}
use native.Mathlib.Omega.{arith}
use borrow.Author.Tests.{lt-ltb, le-ltb}
use Rattle.refusals.specs.Paper.{first_of, place_or}
use Rattle.floats.specs.Pick.{pick_true, pick-false}
use Rattle.changes.specs.Change.{changes_from}
use Rattle.changes.specs.Commit.{first_fall}
use Rattle.changes.proofs.Falls.{fall-one, fall-next, fall-stops}
use Rattle.changes.proofs.first_fall.Goals as goal

pub returns-then-k-lt2 : goal.returns-then-k-lt2
returns-then-k-lt2 c = let a = c.args in
    sym (ap (place_or a.k) (fall-one a.indices.now a.records.now a.k (omega arith)))

pub loop-i-init : goal.loop-i-init
loop-i-init c = let a = c.args in
    (omega arith, omega arith, omega arith, fall-one a.indices.now a.records.now 1 (omega arith))

pub returns-then-indices-i : goal.returns-then-indices-i
returns-then-indices-i c = let a = c.args in
    let i = c.loop-i.i in
    sym
    (ap (place_or a.k)
    (fall-stops a.indices.now a.records.now (i + 1) a.k i (omega arith)
    (fall-next a.indices.now a.records.now i (omega arith)
    ∙ ap₂ first_of c.loop-i.invariant.3 (pick-false _ None (Some i) (le-ltb _ _ c.if-indices-i.true)))))

pub loop-i-preserved : goal.loop-i-preserved
loop-i-preserved c = let a = c.args in
    let i = c.loop-i.i in (
      omega arith,
      omega arith,
      omega arith,
      fall-next a.indices.now a.records.now i (omega arith)
          ∙ ap₂ first_of c.loop-i.invariant.3 (pick_true _ None (Some i) (lt-ltb _ _ c.if-indices-i.false)),
    )

pub returns : goal.returns
returns c = let a = c.args in
    let e : c.loop-i.i ≡ a.k = omega arith in
    sym (ap (place_or a.k) (ap (λ (j : ℕ). first_fall (changes_from a.indices.now a.records.now j)) (sym e) ∙ c.loop-i.invariant.3))
