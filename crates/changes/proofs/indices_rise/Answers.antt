-- `changes::indices_rise` meets its contract. The loop's invariant: what is found so far is said of the changes passed. Assumes nothing.
use mathlib.Core.Path.{◌≡◌, sym, ap, ◌∙◌}
use mathlib.Core.Bool.{Bool, ◌&&◌}
use Prim.Native.Nat.{ℕ, ◌-◌}
use native.Mathlib.Omega.{arith}
use lib.Dec.{ltb}
use lib.ListN.{get_or}
use Rattle.changes.specs.Change.{changes_from}
use Rattle.changes.specs.Decide.{rises}
use Rattle.changes.proofs.Passed.{rises-one, rises_next}
use Rattle.changes.proofs.indices_rise.Goals as goal

pub returns-then-k-lt2 : goal.returns-then-k-lt2
returns-then-k-lt2 c = sym (rises-one c.args.indices.now c.args.records.now c.args.k (omega arith))

pub loop-i-init : goal.loop-i-init
loop-i-init c = (omega arith, omega arith, omega arith, sym (rises-one c.args.indices.now c.args.records.now 1 (omega arith)))

pub loop-i-preserved : goal.loop-i-preserved
loop-i-preserved c = (
  omega arith,
  omega arith,
  omega arith,
  ap (λ (t : Bool). t && ltb (get_or c.args.indices.now (c.loop-i.i - 1) 0) (get_or c.args.indices.now c.loop-i.i 0)) c.loop-i.invariant.3
      ∙ sym (rises_next c.args.indices.now c.args.records.now c.loop-i.i (omega arith)),
)

pub returns : goal.returns
returns c = let e : c.loop-i.i ≡ c.args.k = omega arith in
    c.loop-i.invariant.3 ∙ ap (λ (j : ℕ). rises (changes_from c.args.indices.now c.args.records.now j)) e
