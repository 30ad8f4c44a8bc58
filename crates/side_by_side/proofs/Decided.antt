-- What `compare` answers: 24, 11, and how many chunks. Assumes nothing.
use Prim.Native.Nat.{ℕ}
use mathlib.Core.Path.{◌≡◌, sym, ap, ◌∙◌}
use mathlib.Core.Bool.{true, false}
use mathlib.Core.List.{List}
use lib.ListN.{length}
use Rattle.refusals.specs.Paper.{Paper, answers, refuses, only, demand, onward, demand-true, demand-false}
use Rattle.stock.specs.declared.TurnStockSpec.{TurnStockSpec}
use Rattle.side_by_side.specs.Compared.{Side, same_bar, both_in_hand, chunks_of, compared_of, chunk_count}

module _ (s t : TurnStockSpec) (a b : Side) where
  asked : Paper (List (List ℕ))
  asked = demand (both_in_hand a b) 11 (answers (chunks_of a b))

  pub unequal : same_bar s t ≡ false → refuses (only 24) ≡ chunk_count (compared_of s a t b)
  unfolding compared_of chunk_count onward asked
  unequal e = sym (ap chunk_count (demand-false (same_bar s t) 24 asked e))

  pub over-room : same_bar s t ≡ true → both_in_hand a b ≡ false → refuses (only 11) ≡ chunk_count (compared_of s a t b)
  unfolding compared_of chunk_count onward asked
  over-room e f = sym (ap chunk_count (demand-true (same_bar s t) 24 asked e ∙ demand-false (both_in_hand a b) 11 (answers (chunks_of a b)) f))

  pub accepted : same_bar s t ≡ true → both_in_hand a b ≡ true → compared_of s a t b ≡ answers (chunks_of a b)
  unfolding compared_of asked
  accepted e f = demand-true (same_bar s t) 24 asked e ∙ demand-true (both_in_hand a b) 11 (answers (chunks_of a b)) f

  pub counted : same_bar s t ≡ true → both_in_hand a b ≡ true → (n : ℕ) → n ≡ length (chunks_of a b) → answers n ≡ chunk_count (compared_of s a t b)
  unfolding chunk_count onward
  counted e f n h = ap answers h ∙ sym (ap chunk_count (accepted e f))
