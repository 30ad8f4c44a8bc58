-- A change written at its place in the two lent lists. Assumes nothing.
use mathlib.Core.Path.{◌≡◌, refl, sym, ap, ◌∙◌, subst}
use mathlib.Core.Bool.{Bool, true, false, not, ◌&&◌}
use mathlib.Core.List.{List, [], ◌∷◌, ◌++◌, map-append}
use Prim.Native.Nat.{ℕ, ◌+◌, ◌*◌, ◌≤◌, ◌<◌}
use native.Mathlib.Omega.{arith}
use lib.ListN.{length, length-map, length-append}
use lib.Ieee.{Float}
use borrow.Author.Tests.{lt-ltb, le-ltb}
use Rattle.refusals.specs.Lent.{over}
use Rattle.refusals.proofs.Written.{over-more, length_over}
use Rattle.floats.specs.Pick.{pick_true, pick-false}
use Rattle.stock.specs.declared.TurnCell.{TurnCell}
use Rattle.stock.specs.declared.TurnChange.{TurnChange}
use Rattle.stock.specs.Cell.{cell_at, same_cell}
use Rattle.changes.specs.Change.{change_of, changes_to, indices_of, row_of, numbers_of, room_of, PutChange, lists, ListedOne, Listing}
use Rattle.changes.proofs.Rising.{kept, made, grows, grown}

-- ---- one change more behind those written

pub length-numbers : (l : List TurnChange) → length (numbers_of l) ≡ 8 * length l
unfolding numbers_of
length-numbers [] = refl
length-numbers (c ∷ l) = let h = length-numbers l in omega arith

pub numbers_more : (l : List TurnChange) (c : TurnChange) → numbers_of (l ++ (c ∷ [])) ≡ numbers_of l ++ row_of c
unfolding numbers_of
numbers_more [] c = refl
numbers_more (d ∷ l) c = rw (numbers_more l c)

-- ---- the change, listed where it is one
-- the cells are the same: both lists stay
pub list_same : (k : ℕ) (c : TurnChange) (is : List ℕ) (xs : List Float) → same_cell c.before c.after ≡ true → ListedOne k k c is is xs xs
list_same k c is xs e =
    let n : lists (room_of (length is) (length xs)) k c ≡ false = simp e in
    record { count = sym (pick-false _ _ _ n); indices = sym (pick-false _ _ _ n); numbers = sym (pick-false _ _ _ n) }

and-false : (a : Bool) → (a && false) ≡ false
and-false true = refl
and-false false = refl

-- no room: both lists stay
pub list-none : (k : ℕ) (c : TurnChange) (is : List ℕ) (xs : List Float) → room_of (length is) (length xs) ≤ k → ListedOne k k c is is xs xs
list-none k c is xs h =
    let n : lists (room_of (length is) (length xs)) k c ≡ false = ap (λ (t : Bool). not (same_cell c.before c.after) && t) (le-ltb k (room_of (length is) (length xs)) h) ∙ and-false (not (same_cell c.before c.after)) in
    record { count = sym (pick-false _ _ _ n); indices = sym (pick-false _ _ _ n); numbers = sym (pick-false _ _ _ n) }

lists-is : (k : ℕ) (c : TurnChange) (room : ℕ) → same_cell c.before c.after ≡ false → k < room → lists room k c ≡ true
lists-is k c room e h = simp (e, lt-ltb k room h)

pub list_put : (k : ℕ) (c : TurnChange) (is is' : List ℕ) (xs xs' : List Float) → same_cell c.before c.after ≡ false → k < room_of (length is) (length xs) → PutChange k c is is' xs xs' → ListedOne k (k + 1) c is is' xs xs'
list_put k c is is' xs xs' e h p =
    let y = lists-is k c (room_of (length is) (length xs)) e h in
    record {
      count = sym (pick_true _ _ _ y);
      indices = p.indices ∙ pick_true _ _ _ (lt-ltb _ _ h) ∙ sym (pick_true _ _ _ y);
      numbers = p.numbers ∙ pick_true _ _ _ (lt-ltb _ _ h) ∙ sym (pick_true _ _ _ y);
    }

-- ---- the loop that lists the changes of the bins below n
pub listing_none : (f : ℕ → TurnCell → TurnCell) (cs : List Float) (is : List ℕ) (xs : List Float) → Listing f cs 0 0 is is xs xs
unfolding changes_to numbers_of over
listing_none f cs is xs = record { count = refl; indices = refl; numbers = refl }

module _ (f : ℕ → TurnCell → TurnCell) (cs : List Float) (i n k k' : ℕ) (is₀ is is' : List ℕ) (xs₀ xs xs' : List Float) (room : length (changes_to f cs n) ≤ room_of (length is₀) (length xs₀)) (below : i < n) (g : Listing f cs i k is₀ is xs₀ xs) where
  index-length : length (indices_of (changes_to f cs i)) ≡ length (changes_to f cs i)
  index-length = length-map (changes_to f cs i) (λ (x : TurnChange). x.index)

  -- one more where its cell becomes another
  next-made : ListedOne k k' (change_of f cs i) is is' xs xs' → same_cell (cell_at cs i) (f i (cell_at cs i)) ≡ false → Listing f cs (i + 1) k' is₀ is' xs₀ xs'
  next-made p e =
      let m = made f cs i e in
      let grow = grown f cs i n e below in
      let ln = length-numbers (changes_to f cs i) in
      let c = g.count in
      let ei = g.indices in
      let ex = g.numbers in
      let si : length is ≡ length is₀ = ap length ei ∙ length_over (indices_of (changes_to f cs i)) is₀ (omega (arith, index-length)) in
      let sx : length xs ≡ length xs₀ = ap length ex ∙ length_over (numbers_of (changes_to f cs i)) xs₀ (omega arith) in
      let y = lists-is k (change_of f cs i) (room_of (length is) (length xs)) e (omega arith) in
      let eli : k ≡ length (indices_of (changes_to f cs i)) = c ∙ sym index-length in
      let elx : 8 * k ≡ length (numbers_of (changes_to f cs i)) = omega arith in
      let fi : length (indices_of (changes_to f cs i)) + 1 ≤ length is₀ = omega (arith, index-length) in
      let fx : length (numbers_of (changes_to f cs i)) + 8 ≤ length xs₀ = omega arith in
      record {
        count = p.count ∙ pick_true _ _ _ y ∙ rw (m, length-append) (ap (λ (j : ℕ). j + 1) c);
        indices = p.indices ∙ pick_true _ _ _ y ∙ rw (m, ei, eli, map-append) (over-more (indices_of (changes_to f cs i)) (i ∷ []) is₀ fi);
        numbers = p.numbers ∙ pick_true _ _ _ y ∙ rw (m, ex, elx, numbers_more) (over-more (numbers_of (changes_to f cs i)) (row_of (change_of f cs i)) xs₀ fx);
      }

  -- none more where it stays
  next-kept : ListedOne k k' (change_of f cs i) is is' xs xs' → same_cell (cell_at cs i) (f i (cell_at cs i)) ≡ true → Listing f cs (i + 1) k' is₀ is' xs₀ xs'
  next-kept p e =
      let m = kept f cs i e in
      let y : lists (room_of (length is) (length xs)) k (change_of f cs i) ≡ false = simp e in
      record {
        count = p.count ∙ pick-false _ _ _ y ∙ rw m g.count;
        indices = p.indices ∙ pick-false _ _ _ y ∙ rw m g.indices;
        numbers = p.numbers ∙ pick-false _ _ _ y ∙ rw m g.numbers;
      }

  pub listing-next : (c : TurnChange) → c ≡ change_of f cs i → ListedOne k k' c is is' xs xs' → Listing f cs (i + 1) k' is₀ is' xs₀ xs'
  listing-next c ec p = go (same_cell (cell_at cs i) (f i (cell_at cs i))) refl (subst (λ (x : TurnChange). ListedOne k k' x is is' xs xs') ec p)
    where
      go : (t : Bool) → same_cell (cell_at cs i) (f i (cell_at cs i)) ≡ t → ListedOne k k' (change_of f cs i) is is' xs xs' → Listing f cs (i + 1) k' is₀ is' xs₀ xs'
      go true e q = next-kept q e
      go false e q = next-made q e

-- it keeps the lengths
pub listing-lengths : (f : ℕ → TurnCell → TurnCell) (cs : List Float) (i n k : ℕ) (is₀ is : List ℕ) (xs₀ xs : List Float) → length (changes_to f cs n) ≤ room_of (length is₀) (length xs₀) → i ≤ n → Listing f cs i k is₀ is xs₀ xs → (length is ≡ length is₀) × (length xs ≡ length xs₀)
listing-lengths f cs i n k is₀ is xs₀ xs room h g =
    let w = grows f cs i n h in
    let a = length-map (changes_to f cs i) (λ (x : TurnChange). x.index) in
    let b = length-numbers (changes_to f cs i) in (
      ap length g.indices ∙ length_over (indices_of (changes_to f cs i)) is₀ (omega arith),
      ap length g.numbers ∙ length_over (numbers_of (changes_to f cs i)) xs₀ (omega arith),
    )
