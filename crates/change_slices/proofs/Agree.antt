-- The two forms agree: what a call answers and leaves of a list of records, the flat call answers and leaves of the flat lists that hold them. Assumes nothing.
use Rattle.std.specs.Prelude.{Err, Ok, Result}
use mathlib.Core.Path.{◌≡◌, refl, sym, ap, ◌∙◌, subst}
use mathlib.Core.List.{List}
use Prim.Native.Nat.{ℕ, ◌≤◌}
use lib.Dec.{leb}
use lib.ListN.{length}
use lib.Ieee.{Float}
use Rattle.refusals.specs.declared.Refused.{Refused}
use Rattle.refusals.specs.declared.Refusal.{Refusal}
use borrow.Author.Tests.{le-leb}
use Rattle.refusals.specs.Number.{reason_of}
use Rattle.refusals.specs.Paper.{Paper, answers, refuses, demand, onward, demand-true}
use Rattle.refusals.specs.Lent.{over}
use Rattle.stock.specs.declared.TurnChange.{TurnChange}
use Rattle.stock.specs.declared.Stamp.{Stamp}
use Rattle.stock.specs.declared.TurnStock.{TurnStock}
use Rattle.stock.specs.Spec.{clean_spec}
use Rattle.stock.specs.Cell.{stock_of}
use Rattle.stock.proofs.Count.{no_answer, same_answer}
use Rattle.changes.specs.declared.ChangeList.{ChangeList}
use Rattle.changes.specs.Change.{room_of, changes_from, written_of, Proposed}
use Rattle.changes.proofs.Proposals.{same-previewed}
use Rattle.changes.specs.Commit.{commit_in, asked_stock, commit_of, apply_of, Committed, AppliesKept}
use Rattle.moves.specs.Move.{Left, move_in, move_of, MovesKept}
use Rattle.moves.proofs.Once.{moved-once}
use Rattle.change_slices.specs.Proposal.{Written, count_in}
use Rattle.change_slices.specs.Move.{move_list_of}
use Rattle.change_slices.proofs.Once.{applied-once}
use Rattle.change_slices.proofs.Rooms.{from-over}

-- where the room is enough, the refusal 6 of the flat call does not arise
no-6 : {A : Type 0} (p : Paper ℕ) (t : ℕ → Paper A) (room k : ℕ) → k ≤ room → onward p (λ n. demand (leb k room) 6 (t n)) ≡ onward p t
unfolding onward
no-6 (answers n) t room k h = demand-true (leb k room) 6 (t n) (le-leb k room h)
no-6 (refuses r) t room k h = refl

module _ (list : ChangeList) (is : List ℕ) (ys : List Float) (room : list.count ≤ room_of (length is) (length ys)) (l : List TurnChange) (same : changes_from is ys list.count ≡ l) where
  -- ---- a commit
  pub apply-is : (k : TurnStock) (cs bs : List Float) → apply_of k cs bs list is ys ≡ commit_of k cs bs list.stamp l
  unfolding apply_of commit_of
  apply-is k cs bs =
      no-6 (asked_stock k cs bs list.stamp) (λ n. commit_in (clean_spec k.spec) n cs k.stamp.generation (changes_from is ys list.count)) (room_of (length is) (length ys)) list.count room
      ∙ ap (λ (x : List TurnChange). onward (asked_stock k cs bs list.stamp) (λ n. commit_in (clean_spec k.spec) n cs k.stamp.generation x)) same

  pub apply-agrees : (k : TurnStock) (cs cs₁ cs₂ bs bs₁ bs₂ : List Float) (r r' : Result TurnStock Refused) → AppliesKept k (apply_of k cs bs list is ys) r cs cs₁ bs bs₁ → AppliesKept k (commit_of k cs bs list.stamp l) r' cs cs₂ bs bs₂ → (r ≡ r') × (cs₁ ≡ cs₂) × (bs₁ ≡ bs₂)
  apply-agrees k cs cs₁ cs₂ bs bs₁ bs₂ r r' a b = applied-once k (commit_of k cs bs list.stamp l) r r' cs cs₁ cs₂ bs bs₁ bs₂ (subst (λ (p : Paper Committed). AppliesKept k p r cs cs₁ bs bs₁) (apply-is k cs bs) a) b

  -- ---- a move
  pub move-is : (k : TurnStock) (cs bs xs removed : List Float) → move_of k cs bs xs list is ys removed ≡ move_list_of k cs bs xs list.stamp l removed
  unfolding move_of move_list_of
  move-is k cs bs xs removed =
      no-6 (stock_of k.spec cs) (λ n. move_in k n cs bs xs list.stamp (changes_from is ys list.count) removed) (room_of (length is) (length ys)) list.count room
      ∙ ap (λ (x : List TurnChange). onward (stock_of k.spec cs) (λ n. move_in k n cs bs xs list.stamp x removed)) same

  pub move-agrees : (k : TurnStock) (cs cs₁ cs₂ bs bs₁ bs₂ xs xs₁ xs₂ removed : List Float) (r r' : Result TurnStock Refused) → MovesKept k (move_of k cs bs xs list is ys removed) r cs cs₁ bs bs₁ xs xs₁ → MovesKept k (move_list_of k cs bs xs list.stamp l removed) r' cs cs₂ bs bs₂ xs xs₂ → (r ≡ r') × (cs₁ ≡ cs₂) × (bs₁ ≡ bs₂) × (xs₁ ≡ xs₂)
  move-agrees k cs cs₁ cs₂ bs bs₁ bs₂ xs xs₁ xs₂ removed r r' a b =
      moved-once k (move_list_of k cs bs xs list.stamp l removed) r r' cs cs₁ cs₂ bs bs₁ bs₂ xs xs₁ xs₂ (subst (λ (p : Paper Left). MovesKept k p r cs cs₁ bs bs₁ xs xs₁) (move-is k cs bs xs removed) a) b

-- ---- a preview or a difference
flat-holds : (st : Stamp) (p : Paper (List TurnChange)) (r : Result ChangeList Refusal) (is is' : List ℕ) (xs xs' : List Float) → Proposed st p r is is' xs xs' → changes_from is' xs' (count_in r) ≡ written_of p
unfolding changes_from
flat-holds st (answers l) (Ok k) is is' xs xs' a = from-over l k.count is is' xs xs' (ap (λ (x : ChangeList). x.count) (same_answer a.answer)) a.indices a.numbers
flat-holds st (answers l) (Err c) is is' xs xs' a = absurd (no_answer (reason_of c) _ a.answer)
flat-holds st (refuses n) (Ok k) is is' xs xs' a = absurd (no_answer n k (sym a.answer))
flat-holds st (refuses n) (Err c) is is' xs xs' a = refl

-- of one rule and one stamp, with as many records as the flat lists have room for changes: the answers are the same, and the records that were written are those that the flat lists hold. The rule is that of a single cut, a nose, a polygon or a difference
module _ (st : Stamp) (rule : ℕ → Paper (List TurnChange)) (is is' : List ℕ) (xs xs' : List Float) (l l' : List TurnChange) (room : room_of (length is) (length xs) ≡ length l) where
  pub previews-agree : (r r' : Result ChangeList Refusal) → Proposed st (rule (room_of (length is) (length xs))) r is is' xs xs' → Written st (rule (length l)) r' l l' → (r ≡ r') × (l' ≡ over (changes_from is' xs' (count_in r)) l)
  previews-agree r r' a b =
      let c = subst (λ (k : ℕ). Proposed st (rule k) r is is' xs xs') room a in
      (same-previewed r r' (c.answer ∙ sym b.answer), b.records ∙ ap (λ (x : List TurnChange). over x l) (sym (flat-holds st (rule (length l)) r is is' xs xs' c)))
