-- The records that are read after a preview are the changes that it proposed. Assumes nothing.
use Rattle.std.specs.Prelude.{Ok}
use mathlib.Core.Path.{◌≡◌, ◌∙◌, ap, ap₂}
use mathlib.Core.List.{List}
use Prim.Native.Nat.{ℕ, ◌≤◌}
use native.Mathlib.Omega.{arith}
use lib.ListN.{length}
use lib.Ieee.{Float}
use Rattle.refusals.specs.Lent.{over}
use Rattle.stock.specs.declared.TurnChange.{TurnChange}
use Rattle.stock.specs.declared.Stamp.{Stamp}
use Rattle.changes.specs.declared.ChangeList.{ChangeList}
use Rattle.changes.specs.Change.{room_of, indices_of, numbers_of, changes_from, settled, Proposed}
use Rattle.changes.proofs.ReadBack.{read_back}
use Rattle.changes.proofs.Proposal.{Wrote, wrote, room-kept}
use Rattle.changes.proofs.Proposals.{of-stock}
use Rattle.change_slices.specs.Read.{Reads}
use Rattle.change_slices.proofs.Reading.{held_all}

module _ (st : Stamp) (l : List TurnChange) (list : ChangeList) (is is' : List ℕ) (xs xs' : List Float) (p : Proposed st (settled (room_of (length is) (length xs)) l) (Ok list) is is' xs xs') where
  told : Wrote l list.count is is' xs xs'
  told = wrote l list.count is is' xs xs' (of-stock st (settled (room_of (length is) (length xs)) l) list is is' xs xs' p).tally

  back : changes_from is' xs' list.count ≡ l
  back = ap₂ (λ (a : List ℕ) (b : List Float). changes_from a b list.count) told.indices told.numbers ∙ ap (changes_from (over (indices_of l) is) (over (numbers_of l) xs)) told.count ∙ read_back l is xs

  room : list.count ≤ room_of (length is') (length xs')
  room =
      let a : length is' ≡ length (over (indices_of l) is) = ap length told.indices in
      let b : length xs' ≡ length (over (numbers_of l) xs) = ap length told.numbers in
      let h = room-kept l is xs told.room in
      let c = told.count in
      omega arith

  -- where there are records enough, they hold the changes over the front, and the rest as it was
  pub shown : (r : ℕ) (cs cs' : List TurnChange) → list.count ≤ length cs → Reads is' xs' list.count r cs cs' → (r ≡ list.count) × (cs' ≡ over l cs)
  shown r cs cs' g q =
      let e : r ≡ list.count = q.count ∙ held_all (length is') (length xs') list.count (length cs) room g in
      (e, q.records ∙ ap (λ (m : ℕ). over (changes_from is' xs' m) cs) e ∙ ap (λ (x : List TurnChange). over x cs) back)
