-- What a call that proposes passes answers and leaves, by what its rule says. Assumes nothing.
use Rattle.std.specs.Prelude.{Err, Ok, Result}
use mathlib.Core.Path.{◌≡◌, refl, sym, ap, ◌∙◌}
use mathlib.Core.Bool.{Bool, true, false, ◌&&◌}
use mathlib.Core.List.{List}
use Prim.Native.Nat.{ℕ, ◌*◌, ◌≤◌, min}
use native.Mathlib.Nat.{le_of_eq}
use lib.Dec.{eqb}
use lib.ListN.{length, take}
use lib.Ieee.{Float, le}
use borrow.Author.Tests.{eqb-true}
use Rattle.refusals.specs.declared.Refusal.{Refusal}
use Rattle.refusals.specs.Number.{reason_of, paper_of}
use Rattle.refusals.specs.Paper.{Paper, Reason, answers, refuses, only, demand-true, demand-false, onward-answers, onward-refuses}
use Rattle.refusals.specs.Lent.{over}
use Rattle.floats.specs.Numbers.{zero64, clean_of, usable}
use Rattle.stock.specs.declared.TurnStockSpec.{TurnStockSpec}
use Rattle.stock.specs.Spec.{clean_spec}
use Rattle.stock.specs.Cell.{stock_of}
use Rattle.passes.specs.Cuts.{pass_limit}
use Rattle.passes.specs.Check.{targets_to, targets_good}
use Rattle.passes.specs.declared.propose.Level.{Level}
use Rattle.passes.specs.Propose.{open_to, nose_good, propose_of, sixes, Proposes, Listing}

-- refused: the three lists stay
pub left : (p : Paper (List Level)) (r : Refusal) (ks : List ℕ) (xs : List Float) (ps : List ℕ) → p ≡ refuses (reason_of r) → Proposes p (Err r) ks ks xs xs ps ps
unfolding over sixes
left p r ks xs ps e = rw e (record { answer = refl; kinds = refl; numbers = refl; parts = refl })

-- the same of a refusal that another call handed on
pub left_at : (p : Paper (List Level)) (r : Result ℕ Refusal) (x : Reason) (ks : List ℕ) (xs : List Float) (ps : List ℕ) → paper_of r ≡ refuses x → p ≡ refuses x → Proposes p r ks ks xs xs ps ps
unfolding over sixes
left_at p r x ks xs ps a e = rw e (record { answer = a; kinds = refl; numbers = refl; parts = refl })

-- accepted: the passes over the fronts
pub proposed : (p : Paper (List Level)) (l : List Level) (k : ℕ) (ks ks' : List ℕ) (xs xs' : List Float) (ps ps' : List ℕ) → p ≡ answers l → Listing l k ks ks' xs xs' ps ps' → Proposes p (Ok k) ks ks' xs xs' ps ps'
proposed p l k ks ks' xs xs' ps ps' e g = rw e (record { answer = ap answers g.count; kinds = g.kinds; numbers = g.numbers; parts = g.parts })

and_first : (a b : Bool) → (a && b) ≡ true → a ≡ true
and_first true b h = refl
and_first false b h = h

-- good targets are two a bin
pub targets-reach : (ts : List Float) (n : ℕ) → targets_good ts n ≡ true → 2 * n ≤ length ts
targets-reach ts n h = le_of_eq (sym (eqb-true (length ts) (2 * n) (and_first (eqb (length ts) (2 * n)) (targets_to ts n) h)))

-- the test of the nose's radius, part by part
pub nose-test : (rn nose : Float) (u t : Bool) → nose ≡ clean_of rn → u ≡ usable nose → (u && le zero64 nose) ≡ t → nose_good (clean_of rn) ≡ t
nose-test rn nose u t en eu h = ap nose_good (sym en) ∙ ap (λ (v : Bool). v && le zero64 nose) (sym eu) ∙ h

-- ---- in its order
module _ (spec : TurnStockSpec) (cs ts : List Float) (rn : Float) (room : ℕ) where
  -- 1, 2, 3
  pub of-cells : (q : Reason) → stock_of spec cs ≡ refuses q → propose_of spec cs ts rn room ≡ refuses q
  unfolding propose_of
  of-cells q e = rw e (onward-refuses q _)

  module _ (n : ℕ) (e : stock_of spec cs ≡ answers n) where
    -- 25
    pub of-targets : targets_good ts n ≡ false → propose_of spec cs ts rn room ≡ refuses (only 25)
    unfolding propose_of
    of-targets h = rw e (onward-answers n _ ∙ demand-false _ _ _ h)

    -- 5
    pub of-nose : targets_good ts n ≡ true → nose_good (clean_of rn) ≡ false → propose_of spec cs ts rn room ≡ refuses (only 5)
    unfolding propose_of
    of-nose h f = rw e (onward-answers n _ ∙ (demand-true _ _ _ h ∙ demand-false _ _ _ f))

    -- the passes, of the clean spec and nose
    pub of-all : (s : TurnStockSpec) (nose : Float) → targets_good ts n ≡ true → nose_good (clean_of rn) ≡ true → s ≡ clean_spec spec → nose ≡ clean_of rn → propose_of spec cs ts rn room ≡ answers (take (min pass_limit room) (open_to s n ts nose cs n).passes)
    unfolding propose_of
    of-all s nose h f es en = rw (e, es, en) (onward-answers n _ ∙ (demand-true _ _ _ h ∙ demand-true _ _ _ f))
