-- From the answer of a check of passes, or of the proposer, to a call's number and out-parameters. Assumes nothing.
use Rattle.std.specs.Prelude.{Result}
use mathlib.Core.Path.{◌≡◌, refl, ap, ◌∙◌, subst}
use mathlib.Core.List.{List}
use Prim.Native.Nat.{ℕ}
use lib.ListN.{length}
use lib.Ieee.{Float}
use Rattle.refusals.specs.declared.Refusal.{Refusal}
use Rattle.refusals.specs.Number.{paper_of}
use Rattle.refusals.specs.Paper.{Paper, answers, refuses}
use Rattle.stock.specs.declared.TurnStockSpec.{TurnStockSpec}
use Rattle.stock.specs.declared.TurnStock.{TurnStock}
use Rattle.passes.specs.declared.Verdict as verdict
use Rattle.passes.specs.declared.propose.Level.{Level}
use Rattle.passes.specs.Check.{Verdict, Said, checked_paper, Checks}
use Rattle.passes.specs.Propose.{pass_count, Proposes}
use Rattle.turning.specs.Boundary.{code_of, out_of, Gives}
use Rattle.turning.specs.Passes.{GivesSaid, GivesChecked, GivesPasses}

-- an answer that says what the check says, with the cells and the kept numbers that it leaves
pub gives-checked : (k : TurnStock) (cs : List Float) (p : Paper Verdict) (a : Result verdict.Verdict Refusal) (r : ℕ) (es es' bs bs' : List Float) (v v' x x' q q' g g' : ℕ) → GivesSaid k.stamp.generation (checked_paper a) r v v' x x' q q' g g' → Checks k cs p a es es' bs bs' → GivesChecked k cs p r es es' bs bs' v v' x x' q q' g g'
gives-checked k cs p a r es es' bs bs' v v' x x' q q' g g' h c = record {
  said = subst (λ (z : Paper Said). GivesSaid k.stamp.generation z r v v' x x' q q' g g') c.answer h;
  cells = c.cells;
  kept = c.kept;
}

-- what is said of one stock is said of the same
pub same_check : (k k' : TurnStock) (cs : List Float) (f : TurnStock → Paper Verdict) (a : Result verdict.Verdict Refusal) (es es' bs bs' : List Float) → k ≡ k' → Checks k cs (f k) a es es' bs bs' → Checks k' cs (f k') a es es' bs bs'
same_check k k' cs f a es es' bs bs' e c = subst (λ (z : TurnStock). Checks z cs (f z) a es es' bs bs') e c

-- ---- the proposer: its count, and the three lists that it leaves
pub gives-passes : (p : Paper (List Level)) (a : Result ℕ Refusal) (r : ℕ) (ks ks' : List ℕ) (xs xs' : List Float) (ps ps' : List ℕ) (c c' : ℕ) → Gives (paper_of a) r c c' → Proposes p a ks ks' xs xs' ps ps' → GivesPasses p r ks ks' xs xs' ps ps' c c'
gives-passes p a r ks ks' xs xs' ps ps' c c' h q = record {
  code = h.code ∙ ap code_of q.answer ∙ same_code p;
  kinds = q.kinds;
  numbers = q.numbers;
  parts = q.parts;
  count = h.out ∙ ap (λ (z : Paper ℕ). out_of (λ (n : ℕ). n) z c) q.answer ∙ same_count p;
}
  where
    same_code : (p : Paper (List Level)) → code_of (pass_count p) ≡ code_of p
    same_code (answers l) = refl
    same_code (refuses n) = refl

    same_count : (p : Paper (List Level)) → out_of (λ (n : ℕ). n) (pass_count p) c ≡ out_of (λ (l : List Level). length l) p c
    same_count (answers l) = refl
    same_count (refuses n) = refl

pub same-passes : (s s' : TurnStockSpec) (f : TurnStockSpec → Paper (List Level)) (a : Result ℕ Refusal) (ks ks' : List ℕ) (xs xs' : List Float) (ps ps' : List ℕ) → s ≡ s' → Proposes (f s) a ks ks' xs xs' ps ps' → Proposes (f s') a ks ks' xs xs' ps ps'
same-passes s s' f a ks ks' xs xs' ps ps' e q = subst (λ (z : TurnStockSpec). Proposes (f z) a ks ks' xs xs' ps ps') e q
