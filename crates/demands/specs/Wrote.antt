-- What a preview lists and what a commit writes, in the words of the second demand. Assumes nothing.
use Rattle.std.specs.Prelude.{◌≡◌, false, ℕ, ◌^◌, ◌*◌, ◌<◌, T, ℤ, length, Float}
use mathlib.Core.List.{List, Memᴰ}
use Rattle.std.specs.Float.{binary64, fin}
use Rattle.std.specs.Float.Ieee.{fits}
use Rattle.refusals.specs.Paper.{answers}
use Rattle.refusals.specs.Lent.{over}
use Rattle.numbers.specs.Root.{root_of, units_of, Nearer}
use Rattle.stock.specs.declared.TurnStockSpec.{TurnStockSpec}
use Rattle.stock.specs.declared.TurnCell.{TurnCell}
use Rattle.stock.specs.declared.TurnChange.{TurnChange}
use Rattle.stock.specs.Cell.{cell_at, same_cell, stock_of}
use Rattle.reach.specs.Reach.{act_cell}
use Rattle.changes.specs.Change.{change_of, indices_of, numbers_of, changes_from}
use Rattle.changes.proofs.Rising.{RisingTo}
use Rattle.demands.specs.Tool.{Cutter, cutter_act}

-- The root of x is r, a value of binary64, and it is nearer to the exact root than any other value. All are in units of 2 ^ -1074, the least value.
pub record NearestRoot (x : Float) : Type 0 where
  pub root : Float
  pub answer : root_of x ≡ answers root
  pub held : T (fits binary64 root)
  pub nearest : (m : ℕ) (e : ℤ) → T (fits binary64 (fin false m e)) → Nearer (units_of x * 2 ^ 1074) (units_of root) (units_of (fin false m e))

-- Where f says what the cell of each of n bins becomes, the list has the change of each bin whose cell becomes another, and no other change, by rising index.
pub record Lists (f : ℕ → TurnCell → TurnCell) (cs : List Float) (n : ℕ) (l : List TurnChange) : Type 0 where
  pub each : (i : ℕ) → i < n → same_cell (cell_at cs i) (f i (cell_at cs i)) ≡ false → Memᴰ (change_of f cs i) l
  pub only : (c : TurnChange) → Memᴰ c l → (i : ℕ) × (i < n) × (same_cell (cell_at cs i) (f i (cell_at cs i)) ≡ false) × (c ≡ change_of f cs i)
  pub rising : RisingTo 0 n (indices_of l)

-- What a preview that answered `Changes k` left in the lists is', xs': the changes of the cut, k of them, that read back from the first k records; the rest as it was.
pub record Previews (spec : TurnStockSpec) (t : Cutter) (cs : List Float) (k : ℕ) (is is' : List ℕ) (xs xs' : List Float) : Type 0 where
  pub bins : ℕ
  pub stock : stock_of spec cs ≡ answers bins
  pub changes : List TurnChange
  pub lists : Lists (act_cell (cutter_act spec t)) cs bins changes
  pub count : k ≡ length changes
  pub records : changes_from is' xs' k ≡ changes
  pub indices : is' ≡ over (indices_of changes) is
  pub numbers : xs' ≡ over (numbers_of changes) xs

-- Every change of the list is written: its bin holds its after-cell. No other bin is touched.
pub record Writes (l : List TurnChange) (cs cs' : List Float) : Type 0 where
  pub long : length cs' ≡ length cs
  pub each : (c : TurnChange) → Memᴰ c l → cell_at cs' c.index ≡ c.after
  pub others : (i : ℕ) → ((c : TurnChange) → Memᴰ c l → c.index ≡ i → ⊥) → cell_at cs' i ≡ cell_at cs i
