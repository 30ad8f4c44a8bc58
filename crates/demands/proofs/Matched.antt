-- Kept numbers that match the cells of a stock (Req 09): a commit that was accepted had such numbers, and left those of the cells then. Assumes nothing.
use Rattle.std.specs.Prelude.{Ok}
use mathlib.Core.Path.{◌≡◌, refl, sym, ap, ◌∙◌, subst}
use mathlib.Core.Bool.{true}
use mathlib.Core.List.{List}
use Prim.Native.Nat.{ℕ, ◌/◌}
use native.Mathlib.Omega.{arith}
use lib.ListN.{length}
use lib.Ieee.{Float}
use Rattle.refusals.specs.Paper.{Paper, answers, refuses}
use Rattle.stock.specs.declared.TurnStockSpec.{TurnStockSpec}
use Rattle.stock.specs.declared.TurnStock.{TurnStock}
use Rattle.stock.specs.declared.TurnChange.{TurnChange}
use Rattle.stock.specs.declared.Stamp.{Stamp}
use Rattle.stock.specs.Spec.{clean_spec}
use Rattle.stock.proofs.Bins.{HeldSpec, bar-of}
use Rattle.stock.proofs.Count.{no_answer, same_answer, checked}
use Rattle.blocks.specs.Block.{blocks_of, matches_of}
use Rattle.blocks.proofs.Kept.{own-match}
use Rattle.changes.specs.declared.ChangeList.{ChangeList}
use Rattle.changes.specs.Commit.{Committed, asked_stock, commit_of, apply_of, Applies, numbers_kept, AppliesKept}
use Rattle.changes.proofs.Stamped.{Matching}
use Rattle.changes.proofs.Stocks.{Good, good-stock}
use Rattle.changes.proofs.Kept.{asked}
use Rattle.moves.proofs.Answered.{answered}

-- ---- a commit that was accepted

-- it answered by its rule
pub accepted-as : (k k' : TurnStock) (p : Paper Committed) (cs cs' : List Float) → Applies k p (Ok k') cs cs' → (m : Committed) × (p ≡ answers m)
accepted-as k k' (answers m) cs cs' a = (m, refl)
accepted-as k k' (refuses r) cs cs' a = absurd (no_answer r k' (sym a.answer))

-- a stock that was asked had numbers that match
pub asked-matching : (k : TurnStock) (cs bs : List Float) (st : Stamp) (n : ℕ) → asked_stock k cs bs st ≡ answers n → Matching k.spec cs bs
asked-matching k cs bs st n e =
    let f = asked k cs bs st n e in
    λ m h. subst (λ (x : ℕ). matches_of (clean_spec k.spec) x cs bs ≡ true) (same_answer (sym f.stock ∙ h)) f.matched

pub apply-matching : (k k' : TurnStock) (cs cs' bs : List Float) (list : ChangeList) (is : List ℕ) (xs : List Float) → Applies k (apply_of k cs bs list is xs) (Ok k') cs cs' → Matching k.spec cs bs
unfolding apply_of
apply-matching k k' cs cs' bs list is xs a =
    let m = accepted-as k k' (apply_of k cs bs list is xs) cs cs' a in
    let s = answered (asked_stock k cs bs list.stamp) _ m.0 m.1 in
    asked-matching k cs bs list.stamp s.value s.first

pub commit-matching : (k k' : TurnStock) (cs cs' bs : List Float) (st : Stamp) (l : List TurnChange) → Applies k (commit_of k cs bs st l) (Ok k') cs cs' → Matching k.spec cs bs
unfolding commit_of
commit-matching k k' cs cs' bs st l a =
    let m = accepted-as k k' (commit_of k cs bs st l) cs cs' a in
    let s = answered (asked_stock k cs bs st) _ m.0 m.1 in
    asked-matching k cs bs st s.value s.first

-- and it left those of the cells afterwards
pub kept-own : (k k' : TurnStock) (p : Paper Committed) (cs cs' bs bs' : List Float) → AppliesKept k p (Ok k') cs cs' bs bs' → bs' ≡ numbers_kept k.spec cs'
kept-own k k' (answers m) cs cs' bs bs' a = a.kept ∙ ap (numbers_kept k.spec) (sym a.left.cells)
kept-own k k' (refuses r) cs cs' bs bs' a = absurd (no_answer r k' (sym a.left.answer))

-- ---- the numbers of the cells match them
pub own-matching : {spec : TurnStockSpec} {n : ℕ} {cs : List Float} → HeldSpec spec → Good spec n cs → Matching spec cs (numbers_kept spec cs)
own-matching {spec} {n} {cs} hs g m h =
    let e : n ≡ m = same_answer (sym (good-stock g) ∙ h) in
    let bins : n ≡ length cs / 4 = omega (arith, g.long) in
    let bar = bar-of {n = n} hs (checked spec n g.count) in
    let own : matches_of (clean_spec spec) n cs (blocks_of (clean_spec spec) n cs) ≡ true = own-match (clean_spec spec) (record { bore = bar.bore.plain; outer = bar.outer.plain }) n cs g.fit in
    subst (λ (x : ℕ). matches_of (clean_spec spec) x cs (numbers_kept spec cs) ≡ true) e (subst (λ (x : ℕ). matches_of (clean_spec spec) n cs (blocks_of (clean_spec spec) x cs) ≡ true) bins own)
