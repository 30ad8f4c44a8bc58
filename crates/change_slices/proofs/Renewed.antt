-- The kept numbers of a list of records, and what a commit of them leaves: where it is accepted, those of the cells afterwards. Assumes nothing.
use Rattle.std.specs.Prelude.{Result, Err, Ok}
use Rattle.std.proofs.Common.{IsErrAnd}
use Rattle.std.proofs.lemmas.Result.{err_from_is_err_and}
use mathlib.Core.Path.{◌≡◌, refl, sym, ap, ◌∙◌, subst}
use mathlib.Core.Bool.{Bool, true, false, false≢true}
use mathlib.Core.List.{List, ◌∷◌, foldl, map}
use Prim.Native.Nat.{ℕ, ◌/◌}
use Rattle.refusals.specs.Number.{placed_of}
use Rattle.refusals.specs.declared.Refused.{Refused}
use native.Mathlib.Omega.{arith}
use lib.ListN.{length}
use lib.Seq.{take-length}
use lib.Ieee.{Float}
use Rattle.refusals.specs.Paper.{Paper, Reason, answers, refuses, onward}
use Rattle.floats.specs.Pick.{pick, pick_true, pick-false}
use Rattle.floats.specs.Numbers.{clean_of}
use Rattle.stock.specs.declared.TurnStockSpec.{TurnStockSpec}
use Rattle.stock.specs.declared.TurnChange.{TurnChange}
use Rattle.stock.specs.declared.TurnStock.{TurnStock}
use Rattle.stock.specs.declared.Stamp.{Stamp}
use Rattle.stock.specs.Spec.{clean_spec}
use Rattle.stock.specs.Cell.{stock_of}
use Rattle.stock.proofs.Bins.{HeldSpec, HeldList}
use Rattle.stock.proofs.Count.{stock-length}
use Rattle.blocks.specs.Block.{matches_of}
use Rattle.blocks.specs.Renew.{renew_at, Open, leave_for, renew_over, LeavesBlocks}
use Rattle.blocks.proofs.Touched.{bins_of}
use Rattle.changes.specs.Commit.{pass_all, put_all, commit_in, asked_stock, commit_of, generation_of, stock_at, Applies, numbers_kept, AppliesKept}
use Rattle.changes.specs.Decide.{raised_of, is_accepted}
use Rattle.changes.proofs.Decided.{raised-in, puts-all, answering, accepted-as, written, refused}
use Rattle.changes.proofs.Kept.{asked, renewed-all, kept_by}
use Rattle.change_slices.specs.Kept.{renewed_over, Opens, WrittenKept, Renewable, raised_for, Answers}

-- ---- what is written
module _ {t : Bool} (s : TurnStockSpec) (n : ℕ) (l : List TurnChange) where
  pub unwritten : (cs bs : List Float) → t ≡ false → WrittenKept t s n l cs cs bs bs
  unwritten cs bs e = record { cells = sym (pick-false _ _ _ e); kept = sym (pick-false _ _ _ e) }

  pub written_all : (cs cs' bs bs' : List Float) → t ≡ true → cs' ≡ put_all cs l → bs' ≡ renewed_over s n cs' bs l → WrittenKept t s n l cs cs' bs bs'
  written_all cs cs' bs bs' e ec eb = record { cells = ec ∙ sym (pick_true _ _ _ e); kept = eb ∙ ap (λ (x : List Float). renewed_over s n x bs l) ec ∙ sym (pick_true _ _ _ e) }

-- ---- record by record
module _ (s : TurnStockSpec) (n : ℕ) (cs : List Float) where
  -- the records that are left, from an open block on, and then the last open block
  abbrev pub closed : Open → List TurnChange → List Float
  closed o l = renew_at s n cs (foldl (leave_for s n cs) o (bins_of l)).numbers (foldl (leave_for s n cs) o (bins_of l)).block

  pub closed_all : (bs : List Float) (l : List TurnChange) (r : ℕ) (bs' : List Float) → Opens n r bs bs' → closed (record { numbers = bs'; block = r }) l ≡ renewed_over s n cs bs l
  unfolding renew_over
  closed_all bs l r bs' w = (λ i. closed (record { numbers = w.numbers i; block = w.block i }) l)

  pub closed_on : (bs bs' : List Float) (o r : ℕ) (c : TurnChange) (l : List TurnChange) {i : ℕ} → i ≡ c.index → LeavesBlocks s n cs (record { numbers = bs; block = o }) i r bs'
      → closed (record { numbers = bs'; block = r }) l ≡ closed (record { numbers = bs; block = o }) (c ∷ l)
  closed_on bs bs' o r c l e w = (λ j. closed (record { numbers = w.numbers j; block = w.block j }) l) ∙ ap (λ (i : ℕ). closed (leave_for s n cs (record { numbers = bs; block = o }) i) l) e

-- ---- numbers that match are renewed by the blocks of any changes
pub cells_in : (k : TurnStock) (cs : List Float) (n : ℕ) → stock_of k.spec cs ≡ answers n → n ≡ length cs / 4
cells_in k cs n e = omega (arith, stock-length k.spec cs n e)

pub renewable : (k : TurnStock) (cs bs : List Float) (n : ℕ) → HeldSpec k.spec → HeldList cs → HeldList bs → stock_of k.spec cs ≡ answers n → matches_of (clean_spec k.spec) n cs bs ≡ true → Renewable k cs bs
renewable k cs bs n hs hc hb e m l =
    ap (λ (j : ℕ). renewed_over (clean_spec k.spec) j (put_all cs l) bs l) (sym (cells_in k cs n e))
    ∙ ap (renew_over (clean_spec k.spec) n (put_all cs l) (map clean_of bs)) (sym (take-length (bins_of l)))
    ∙ renewed-all k.spec cs n hs hc e bs hb m l (bins_of l) (length (bins_of l)) (sym (take-length (bins_of l)))

-- ---- the answer of a commit
module _ (k : TurnStock) (cs bs : List Float) (st : Stamp) where
  -- refused before its changes are looked at
  pub answer-refused : (p : Paper (Unit {0})) (r : Reason) (a : Result TurnStock Refused) → asked_stock k cs bs st ≡ refuses r → placed_of a ≡ refuses r → is_accepted a ≡ false → Answers k cs bs st p a
  unfolding raised_for onward
  answer-refused p r a e ea f = record { answer = ea ∙ ap (λ (q : Paper ℕ). stock_at k (onward q (λ _. raised_of p k.stamp.generation))) (sym e); keeps = λ y. absurd (false≢true (sym f ∙ y)) }

  pub answer-raised : (p : Paper (Unit {0})) (n : ℕ) (a : Result TurnStock Refused) → HeldSpec k.spec → HeldList cs → HeldList bs → asked_stock k cs bs st ≡ answers n → placed_of a ≡ stock_at k (raised_of p k.stamp.generation) → Answers k cs bs st p a
  unfolding raised_for onward
  answer-raised p n a hs hc hb e ea =
      let f = asked k cs bs st n e in
      record { answer = ea ∙ ap (λ (q : Paper ℕ). stock_at k (onward q (λ _. raised_of p k.stamp.generation))) (sym e); keeps = λ _. renewable k cs bs n hs hc hb f.stock f.matched }

  -- where a `?` stands behind it: a refusal of it is the answer, and past it the changes are accepted
  pub answers-on : (p : Paper (Unit {0})) (a : Result TurnStock Refused) → Answers k cs bs st p a → (r : Result TurnStock Refused) (x : Refused) → a ≡ Err x → IsErrAnd r (λ c. c ≡ x) → Answers k cs bs st p r × (false ≡ is_accepted r)
  answers-on p a s r x e h =
      let c = err_from_is_err_and r h in
      let v : r ≡ Err x = c.1 ∙ ap Err c.2 in
      (subst (λ (b : Result TurnStock Refused). Answers k cs bs st p b) (e ∙ sym v) s, sym (ap is_accepted v))

  pub answers-past : (p : Paper (Unit {0})) (a : Result TurnStock Refused) → Answers k cs bs st p a → (m : TurnStock) → a ≡ Ok m → Answers k cs bs st p (Ok m)
  answers-past p a s m e = subst (λ (b : Result TurnStock Refused). Answers k cs bs st p b) e s

  module _ (l : List TurnChange) where
    -- with what the records say it is that of the rule
    raised_all : raised_for k cs bs st (pass_all (clean_spec k.spec) (length cs / 4) cs l) ≡ generation_of (commit_of k cs bs st l)
    unfolding raised_for commit_of onward
    raised_all = go (asked_stock k cs bs st) refl
      where
        go : (q : Paper ℕ) → asked_stock k cs bs st ≡ q → onward q (λ _. raised_of (pass_all (clean_spec k.spec) (length cs / 4) cs l) k.stamp.generation) ≡ generation_of (onward q (λ n. commit_in (clean_spec k.spec) n cs k.stamp.generation l))
        go (answers n) e =
            raised-in (clean_spec k.spec) (length cs / 4) cs k.stamp.generation l
            ∙ ap (λ (j : ℕ). generation_of (commit_in (clean_spec k.spec) j cs k.stamp.generation l)) (sym (cells_in k cs n (asked k cs bs st n e).stock))
        go (refuses r) e = refl

    pub commit-done : (s : TurnStockSpec) (p : Paper (Unit {0})) (r : Result TurnStock Refused) (t : Bool) (cs' bs' : List Float) → s ≡ clean_spec k.spec → p ≡ pass_all s (length cs / 4) cs l → Answers k cs bs st p r → t ≡ is_accepted r → WrittenKept t s (length cs / 4) l cs cs' bs bs' → AppliesKept k (commit_of k cs bs st l) r cs cs' bs bs'
    commit-done s p r t cs' bs' es ep a et w = kept_by k cs bs l k.stamp.generation (commit_of k cs bs st l) (puts-all k cs bs st l) fresh all r cs' bs' (left (is_accepted r) refl) (w.kept ∙ ap (λ (x : Bool). pick x fresh bs) et)
      where
        fresh : List Float
        fresh = renewed_over s (length cs / 4) (put_all cs l) bs l

        says : placed_of r ≡ stock_at k (generation_of (commit_of k cs bs st l))
        says = a.answer ∙ ap (λ (q : Paper (Unit {0})). stock_at k (raised_for k cs bs st q)) (ep ∙ ap (λ (x : TurnStockSpec). pass_all x (length cs / 4) cs l) es) ∙ ap (stock_at k) raised_all

        all : answering (commit_of k cs bs st l) ≡ true → fresh ≡ numbers_kept k.spec (put_all cs l)
        all y = ap (λ (x : TurnStockSpec). renewed_over x (length cs / 4) (put_all cs l) bs l) es ∙ a.keeps (accepted-as k (commit_of k cs bs st l) cs r says ∙ y) l

        left : (b : Bool) → is_accepted r ≡ b → Applies k (commit_of k cs bs st l) r cs cs'
        left true y = written k (commit_of k cs bs st l) cs r says k.stamp.generation l (puts-all k cs bs st l) y cs' (w.cells ∙ pick_true _ _ _ (et ∙ y))
        left false y = subst (λ (x : List Float). Applies k (commit_of k cs bs st l) r cs x) (sym (w.cells ∙ pick-false _ _ _ (et ∙ y))) (refused k (commit_of k cs bs st l) cs r says y)
