-- Proved to come to `MovesKept` and to `Rebuilds` (proofs/Kept); need not be believed.
-- A move and a rebuild step by step: what is left where only the blocks of the changed bins are worked out. Assumes nothing.
use Rattle.std.specs.Prelude.{◌≡◌, Bool, true, false, List, ℕ, ◌/◌, length, Float, Err, Ok, Result}
use Rattle.refusals.specs.Number.{placed_of}
use Rattle.refusals.specs.declared.Refused.{Refused}
use Rattle.refusals.specs.Paper.{Paper}
use Rattle.refusals.specs.Lent.{Lent}
use Rattle.floats.specs.Pick.{pick}
use Rattle.stock.specs.declared.TurnStockSpec.{TurnStockSpec}
use Rattle.stock.specs.declared.TurnStock.{TurnStock}
use Rattle.stock.specs.Spec.{clean_spec}
use Rattle.blocks.specs.Renew.{renewed_all, renewed_for}
use Rattle.rings.specs.declared.RingCount.{RingCount}
use Rattle.moves.specs.Move.{Left, counts_of, moved_cells, moved_rings, moved_kept, is_moved}

-- the answer by counts, the lent cells and the lent rings after a move
pub record Shifts (p : Paper Left) (r : Result RingCount Refused) (cs cs' xs xs' : List Float) : Type 0 where
  pub answer : placed_of r ≡ counts_of p
  pub cells : cs' ≡ moved_cells p cs
  pub rings : xs' ≡ moved_rings p xs

-- the same with the kept numbers of n cells, where the first j bins of a list are changed
pub record ShiftsThen (k : TurnStock) (n : ℕ) (p : Paper Left) (r : Result RingCount Refused) (cs cs' bs bs' xs xs' : List Float) (is : List ℕ) (j : ℕ) : Type 0 where
  pub left : Shifts p r cs cs' xs xs'
  pub kept : bs' ≡ pick (is_moved r) (renewed_for (clean_spec k.spec) n cs' is j bs) bs

-- the same with the kept numbers
pub record ShiftsKept (k : TurnStock) (p : Paper Left) (r : Result RingCount Refused) (cs cs' bs bs' xs xs' : List Float) : Type 0 where
  pub left : Shifts p r cs cs' xs xs'
  pub kept : bs' ≡ moved_kept k p bs

-- of lent cells, kept numbers and rings, at both moments
abbrev pub ShiftsLent : TurnStock → Paper Left → Result RingCount Refused → Lent Float → Lent Float → Lent Float → Type 0
ShiftsLent k p r cells blocks rings = ShiftsKept k p r cells.entry.now cells.exit.now blocks.entry.now blocks.exit.now rings.entry.now rings.exit.now

-- ---- a rebuild: the kept numbers, where rings are stored
abbrev pub stored_kept : Result ℕ Refused → TurnStockSpec → List Float → List Float → List Float
stored_kept (Ok n) spec cs bs = renewed_all (clean_spec spec) (length cs / 4) cs bs
stored_kept (Err r) spec cs bs = bs

-- an answer that is no refusal
abbrev pub is_stored : Result ℕ Refused → Bool
is_stored (Ok n) = true
is_stored (Err r) = false
