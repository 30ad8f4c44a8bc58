-- What a call that proposes changes answers and leaves, by what its rule says. Assumes nothing.
use Rattle.std.specs.Prelude.{Err, Ok, Result}
use mathlib.Core.Path.{◌≡◌, refl, sym, ap, ◌∙◌}
use mathlib.Core.List.{List}
use Prim.Native.Nat.{ℕ, ◌≤◌, ◌<◌}
use native.Mathlib.Omega.{arith}
use lib.ListN.{length}
use borrow.Author.Tests.{le-leb, lt-leb}
use lib.Ieee.{Float}
use Rattle.refusals.specs.declared.Refusal.{Refusal}
use Rattle.refusals.specs.declared.Refusal.TheVariants.{ChangesOverRoom}
use Rattle.refusals.specs.Number.{reason_of, paper_of}
use Rattle.refusals.specs.Paper.{Paper, Reason, answers, refuses, demand-true, demand-false}
use Rattle.refusals.specs.Lent.{over}
use Rattle.refusals.proofs.OneToOne.{one-reason}
use Rattle.stock.proofs.Count.{no_answer, same_answer}
use Rattle.stock.specs.declared.TurnCell.{TurnCell}
use Rattle.stock.specs.declared.TurnChange.{TurnChange}
use Rattle.stock.specs.declared.Stamp.{Stamp}
use Rattle.changes.specs.declared.ChangeList.{ChangeList}
use Rattle.changes.specs.Change.{changes_to, indices_of, numbers_of, Listing, settled, Tallied, stamped, Proposed}

-- refused: both lists stay
pub left : (p : Paper (List TurnChange)) (r : Refusal) (is : List ℕ) (xs : List Float) → p ≡ refuses (reason_of r) → Tallied p (Err r) is is xs xs
unfolding over numbers_of
left p r is xs e = rw e (record { answer = refl; indices = refl; numbers = refl })

-- the same of a refusal that another call handed on
pub left_at : (p : Paper (List TurnChange)) (r : Result ℕ Refusal) (x : Reason) (is : List ℕ) (xs : List Float) → paper_of r ≡ refuses x → p ≡ refuses x → Tallied p r is is xs xs
unfolding over numbers_of
left_at p r x is xs a e = rw e (record { answer = a; indices = refl; numbers = refl })

-- accepted: the changes over the fronts
pub written : (p : Paper (List TurnChange)) (l : List TurnChange) (k : ℕ) (is is' : List ℕ) (xs xs' : List Float) → p ≡ answers l → k ≡ length l → is' ≡ over (indices_of l) is → xs' ≡ over (numbers_of l) xs → Tallied p (Ok k) is is' xs xs'
written p l k is is' xs xs' e ek hi hx = rw e (record { answer = ap answers ek; indices = hi; numbers = hx })

-- ---- where the room decides
module _ (f : ℕ → TurnCell → TurnCell) (cs : List Float) (n room : ℕ) where
  pub settled-listed : (k : ℕ) (is is' : List ℕ) (xs xs' : List Float) → length (changes_to f cs n) ≤ room → Listing f cs n k is is' xs xs' → Tallied (settled room (changes_to f cs n)) (Ok k) is is' xs xs'
  settled-listed k is is' xs xs' h g = written (settled room (changes_to f cs n)) (changes_to f cs n) k is is' xs xs' (demand-true _ _ _ (le-leb (length (changes_to f cs n)) room h)) g.count g.indices g.numbers

  pub settled-full : (is : List ℕ) (xs : List Float) → room < length (changes_to f cs n) → Tallied (settled room (changes_to f cs n)) (Err ChangesOverRoom) is is xs xs
  settled-full is xs h = left (settled room (changes_to f cs n)) ChangesOverRoom is xs (demand-false _ _ _ (lt-leb (length (changes_to f cs n)) room h))

-- a rule that comes to another has its outcome
pub same-proposal : (p q : Paper (List TurnChange)) (r : Result ℕ Refusal) (is is' : List ℕ) (xs xs' : List Float) → p ≡ q → Tallied q r is is' xs xs' → Tallied p r is is' xs xs'
same-proposal p q r is is' xs xs' e a = rw e a

-- ---- as the list of a stock

-- what is counted, with the stock's stamp
pub as-list : {st : Stamp} {p : Paper (List TurnChange)} {t : (Result ℕ Refusal)} {r : (Result ChangeList Refusal)} {is is' : List ℕ} {xs xs' : List Float} → paper_of r ≡ stamped st (paper_of t) → Tallied p t is is' xs xs' → Proposed st p r is is' xs xs'
as-list {st} e a = record { answer = e ∙ ap (stamped st) a.answer; indices = a.indices; numbers = a.numbers }

-- accepted: the changes over the fronts
pub listed : (st : Stamp) (p : Paper (List TurnChange)) (l : List TurnChange) (is is' : List ℕ) (xs xs' : List Float) → p ≡ answers l → is' ≡ over (indices_of l) is → xs' ≡ over (numbers_of l) xs
    → Proposed st p (Ok (record { count = length l; stamp = st })) is is' xs xs'
listed st p l is is' xs xs' e hi hx = rw e (record { answer = refl; indices = hi; numbers = hx })

-- a rule that comes to another has its outcome
pub same-listing : (st : Stamp) (p q : Paper (List TurnChange)) (r : Result ChangeList Refusal) (is is' : List ℕ) (xs xs' : List Float) → p ≡ q → Proposed st q r is is' xs xs' → Proposed st p r is is' xs xs'
same-listing st p q r is is' xs xs' e a = rw e a

-- a list that is answered has the stamp of the stock that it is of, and counts its changes
pub record OfStock (st : Stamp) (p : Paper (List TurnChange)) (list : ChangeList) (is is' : List ℕ) (xs xs' : List Float) : Type 0 where
  pub stamp : list.stamp ≡ st
  pub tally : Tallied p (Ok list.count) is is' xs xs'

pub of-stock : (st : Stamp) (p : Paper (List TurnChange)) (list : ChangeList) (is is' : List ℕ) (xs xs' : List Float) → Proposed st p (Ok list) is is' xs xs' → OfStock st p list is is' xs xs'
of-stock st (answers l) list is is' xs xs' a =
    let e : list ≡ record { count = length l; stamp = st } = same_answer a.answer in
    record { stamp = ap (λ (x : ChangeList). x.stamp) e; tally = record { answer = ap (λ (x : ChangeList). answers x.count) e; indices = a.indices; numbers = a.numbers } }
of-stock st (refuses r) list is is' xs xs' a = absurd (no_answer r list (sym a.answer))

-- ---- two outcomes that meet the promise are the same
pub same-tally : (r r' : Result ℕ Refusal) → paper_of r ≡ paper_of r' → r ≡ r'
same-tally (Ok k) (Ok k') h = let e : k ≡ k' = cc in ap Ok e
same-tally (Ok k) (Err c) h = let z : ◌≡◌ {A = ℕ} 0 1 = cc in absurd (omega arith)
same-tally (Err c) (Ok k) h = let z : ◌≡◌ {A = ℕ} 0 1 = cc in absurd (omega arith)
same-tally (Err c) (Err c') h = let e : reason_of c ≡ reason_of c' = cc in ap Err (one-reason c c' e)

pub once : (p : Paper (List TurnChange)) (r r' : Result ℕ Refusal) (is is₁ is₂ : List ℕ) (xs xs₁ xs₂ : List Float) → Tallied p r is is₁ xs xs₁ → Tallied p r' is is₂ xs xs₂ → (r ≡ r') × (is₁ ≡ is₂) × (xs₁ ≡ xs₂)
once p r r' is is₁ is₂ xs xs₁ xs₂ a b = (same-tally r r' (a.answer ∙ sym b.answer), a.indices ∙ sym b.indices, a.numbers ∙ sym b.numbers)

pub same-previewed : (r r' : Result ChangeList Refusal) → paper_of r ≡ paper_of r' → r ≡ r'
same-previewed (Ok k) (Ok k') h = ap Ok (same_answer h)
same-previewed (Ok k) (Err c) h = absurd (no_answer (reason_of c) k (sym h))
same-previewed (Err c) (Ok k) h = absurd (no_answer (reason_of c) k h)
same-previewed (Err c) (Err c') h = let e : reason_of c ≡ reason_of c' = cc in ap Err (one-reason c c' e)

pub proposed-once : (st : Stamp) (p : Paper (List TurnChange)) (r r' : Result ChangeList Refusal) (is is₁ is₂ : List ℕ) (xs xs₁ xs₂ : List Float) → Proposed st p r is is₁ xs xs₁ → Proposed st p r' is is₂ xs xs₂ → (r ≡ r') × (is₁ ≡ is₂) × (xs₁ ≡ xs₂)
proposed-once st p r r' is is₁ is₂ xs xs₁ xs₂ a b = (same-previewed r r' (a.answer ∙ sym b.answer), a.indices ∙ sym b.indices, a.numbers ∙ sym b.numbers)
