-- Proved equal to `nose/specs/Nose` and `polygon/specs/Polygon` by the proofs of the previews; need not be believed.
-- Low and high of all bins in two lent rows, two places a bin: a number, and whether it is there. A pass over the bins fills them, cut by cut, and where the bins' ends fall tells it which bins to visit. Assumes nothing.
use Rattle.std.specs.Prelude.{◌≡◌, Bool, true, false, not, List, ℕ, zero, suc, ◌+◌, ◌*◌, ◌≤◌, ◌<◌, T, ltb, length, get_or, Float, Option, None, Some}
use Rattle.std.specs.Float.{binary64, nan}
use Rattle.std.specs.Float.Ieee.{le, lt}
use Rattle.refusals.specs.Limits.{cell_limit}
use Rattle.refusals.specs.Lent.{Lent}
use Rattle.floats.specs.Pick.{pick}
use Rattle.floats.specs.Kinds.{Number}
use Rattle.stock.specs.declared.TurnStockSpec.{TurnStockSpec}
use Rattle.stock.specs.declared.TurnSide.{TurnSide}
use Rattle.stock.specs.Bin.{bin_of}
use Rattle.reach.specs.declared.Swept.{Swept}
use Rattle.reach.specs.declared.Reach.{Reach}
use Rattle.reach.specs.declared.Reach.TheVariants as reached
use Rattle.reach.specs.Reach.{reach_from, Act}
use Rattle.nose.specs.declared.Track.{Track}
use Rattle.nose.specs.Nose.{nose_to}
use Rattle.nose.specs.Track.{sample_at, step_of, with_track}
use Rattle.stock.specs.declared.BinRange.{BinRange}
use Rattle.polygon.specs.Polygon.{lowest_of, extent_of, spans}
use Rattle.cuts.specs.declared.polygon_rows.Held.{Held}

-- ---- the rows
-- the radius at place k, or none
unfoldable pub low_at : List Float → List Bool → ℕ → Option Float
low_at values there k = pick (get_or there k false) (Some (get_or values k nan)) None

-- low and high of bin i
abbrev pub row_at : List Float → List Bool → ℕ → Swept
row_at values there i = record { low = low_at values there (2 * i); high = low_at values there (2 * i + 1) }

-- those of two lent rows, as a call finds them and as it leaves them
abbrev pub rows_found : Lent Float → Lent Bool → ℕ → Swept
rows_found values there = row_at values.entry.now there.entry.now

abbrev pub rows_left : Lent Float → Lent Bool → ℕ → Swept
rows_left values there = row_at values.exit.now there.exit.now

-- the cut that they say
abbrev pub rows_act : TurnSide → List Float → List Bool → Act
rows_act side values there = record { side = side; at = λ i. reach_from side (row_at values there i).low (row_at values there i).high }

-- they have n bins at least
pub record Room (n : ℕ) (values : List Float) (there : List Bool) : Type 0 where
  pub numbers : 2 * n ≤ length values
  pub flags : 2 * n ≤ length there

-- place k holds l, and the others what they held
pub record PutLow (xs : List Float) (is : List Bool) (ys : List Float) (js : List Bool) (k : ℕ) (l : Option Float) : Type 0 where
  pub here : low_at ys js k ≡ l
  pub others : (m : ℕ) → (m ≡ k → ⊥) → low_at ys js m ≡ low_at xs is m

-- bin i holds f, and the others what they held
pub record PutRow (old new : ℕ → Swept) (i : ℕ) (f : Swept) : Type 0 where
  pub here : new i ≡ f
  pub others : (j : ℕ) → (j ≡ i → ⊥) → new j ≡ old j

-- a bin without low and high
abbrev pub no_row : Swept
no_row = record { low = None; high = None }

-- the rows from i to before n are not filled
abbrev pub Unfilled : ℕ → ℕ → (ℕ → Swept) → Type 0
Unfilled i n old = (j : ℕ) → i ≤ j → j < n → old j ≡ no_row

-- ---- where a line falls among the bins
-- bin j ends before e; or it does not start after e. Where touching e is not reaching it, a bin that ends on e is passed, and one that starts on e is not
unfoldable pub passed_of : TurnStockSpec → Float → Bool → Bool → ℕ → Bool
passed_of s e ends touch j = pick ends (pick touch (lt (bin_of s j).zb e) (le (bin_of s j).zb e)) (not (pick touch (lt e (bin_of s j).za) (le e (bin_of s j).za)))

-- the bin before g is passed, if there is one
unfoldable pub before_of : TurnStockSpec → Float → Bool → Bool → ℕ → Bool
before_of s e ends touch zero = true
before_of s e ends touch (suc g) = passed_of s e ends touch g

-- bin g of n is one, and is passed
unfoldable pub onward_of : TurnStockSpec → Float → Bool → Bool → ℕ → ℕ → Bool
onward_of s e ends touch n g = pick (ltb g n) (passed_of s e ends touch g) false

-- both ends of the n bins are numbers, and rise with the bins
pub record Graded (s : TurnStockSpec) (n : ℕ) : Type 0 where
  pub few : n ≤ cell_limit
  pub starts : (i : ℕ) → i < n → Number binary64 (bin_of s i).za
  pub stops : (i : ℕ) → i < n → Number binary64 (bin_of s i).zb
  pub start_rises : (i j : ℕ) → i ≤ j → j < n → T (le (bin_of s i).za (bin_of s j).za)
  pub stop_rises : (i j : ℕ) → i ≤ j → j < n → T (le (bin_of s i).zb (bin_of s j).zb)

-- P holds of the first r of n numbers, and of no other
pub record Split (P : ℕ → Bool) (n r : ℕ) : Type 0 where
  pub within : r ≤ n
  pub below : (j : ℕ) → j < r → P j ≡ true
  pub above : (j : ℕ) → r ≤ j → j < n → P j ≡ false

-- P holds of the numbers below first, Q of those below last, of which there are n at most; and of no other
pub record Between (P Q : ℕ → Bool) (n first last : ℕ) : Type 0 where
  pub ordered : first ≤ last
  pub within : last ≤ n
  pub under : (j : ℕ) → j < first → P j ≡ true
  pub inside : (j : ℕ) → first ≤ j → j < last → (P j ≡ false) × (Q j ≡ true)
  pub over : (j : ℕ) → last ≤ j → j < n → Q j ≡ false

-- ---- a nose, segment by segment
-- one segment over one bin that it reaches
abbrev pub stepped : TurnStockSpec → Track → ℕ → Swept → Swept
stepped s t j acc = step_of acc t.low t.shy (bin_of s j) (sample_at t (bin_of s j).za) (sample_at t (bin_of s j).zb)

-- a radius that is there, and no more than top
abbrev pub AtMost : Float → Option Float → Type 0
AtMost top None = ⊥
AtMost top (Some x) = T (le x top)

-- low and high are there, and top is not less
abbrev pub Topped : Float → Swept → Type 0
Topped top f = AtMost top f.low × AtMost top f.high

-- one segment leaves the bins from first to before last as they are
pub record Rested (s : TurnStockSpec) (t : Track) (first last : ℕ) (old : ℕ → Swept) : Type 0 where
  pub ordered : first ≤ last
  pub inside : (j : ℕ) → first ≤ j → j < last → stepped s t j (old j) ≡ old j

-- one segment over the bins from first to before last
pub record Stepped (s : TurnStockSpec) (t : Track) (first last : ℕ) (old new : ℕ → Swept) : Type 0 where
  pub inside : (j : ℕ) → first ≤ j → j < last → new j ≡ stepped s t j (old j)
  pub under : (j : ℕ) → j < first → new j ≡ old j
  pub over : (j : ℕ) → last ≤ j → new j ≡ old j

-- one segment over all n bins
abbrev pub Passed : TurnStockSpec → ℕ → Track → (ℕ → Swept) → (ℕ → Swept) → Type 0
Passed s n t old new = (j : ℕ) → j < n → new j ≡ with_track (old j) t (bin_of s j)

-- every bin holds what the rule has of it, over the first k segments
abbrev pub RowFilled : TurnStockSpec → ℕ → TurnSide → Float → List Float → ℕ → (ℕ → Swept) → Type 0
RowFilled s n side rn xs k new = (j : ℕ) → j < n → new j ≡ nose_to side rn xs (bin_of s j) k

-- of n bins those before the first and from the last on are not filled
pub record Idle (n : ℕ) (bins : BinRange) (new : ℕ → Swept) : Type 0 where
  pub within : bins.to ≤ n
  pub under : (j : ℕ) → j < bins.from → j < n → new j ≡ no_row
  pub over : (j : ℕ) → bins.to ≤ j → j < n → new j ≡ no_row

-- ---- a polygon, bin by bin
-- its extent is from lo to hi
abbrev pub Extends : List Float → Float → Float → Type 0
Extends ps lo hi = extent_of ps ≡ Some (record { lo = lo; hi = hi })

-- the sample in hand is the lowest on its line
abbrev pub Sampled : List Float → TurnSide → Held → Type 0
Sampled ps side h = h.low ≡ lowest_of ps side h.at

-- bin i of its extent, which is not filled, with the sample in hand
abbrev pub ToCross : TurnStockSpec → List Float → TurnSide → Float → Float → Held → ℕ → List Float → List Bool → Type 0
ToCross s ps side lo hi held i values there =
    Extends ps lo hi × (spans s lo hi i ≡ true) × Sampled ps side held × Room (i + 1) values there × (i ≤ cell_limit) × (row_at values there i ≡ no_row)

-- the bins from first to before last of its extent, which are not filled
abbrev pub ToSweep : TurnStockSpec → List Float → Float → Float → ℕ → ℕ → List Float → List Bool → Type 0
ToSweep s ps lo hi first last values there =
    Extends ps lo hi × ((j : ℕ) → first ≤ j → j < last → spans s lo hi j ≡ true) × (first ≤ last) × (last ≤ cell_limit) × Room last values there × Unfilled first last (row_at values there)

-- the row of bin i says what is reached there, and the others what they said
pub record Crosses (side : TurnSide) (reach : ℕ → Reach) (old new : ℕ → Swept) (i : ℕ) : Type 0 where
  pub here : reach_from side (new i).low (new i).high ≡ reach i
  pub others : (j : ℕ) → (j ≡ i → ⊥) → new j ≡ old j

-- the same of the rows from first to before last
pub record Crossed (side : TurnSide) (reach : ℕ → Reach) (first last : ℕ) (old new : ℕ → Swept) : Type 0 where
  pub inside : (j : ℕ) → first ≤ j → j < last → reach_from side (new j).low (new j).high ≡ reach j
  pub under : (j : ℕ) → j < first → new j ≡ old j
  pub over : (j : ℕ) → last ≤ j → new j ≡ old j

-- ---- any cut
-- in the bins from first to before last the rows say what the cut reaches there, and it passes the others of n over
pub record Says (a : Act) (n first last : ℕ) (new : ℕ → Swept) : Type 0 where
  pub ordered : first ≤ last
  pub within : last ≤ n
  pub under : (j : ℕ) → j < first → j < n → a.at j ≡ reached.Passed
  pub inside : (j : ℕ) → first ≤ j → j < last → reach_from a.side (new j).low (new j).high ≡ a.at j
  pub over : (j : ℕ) → last ≤ j → j < n → a.at j ≡ reached.Passed
