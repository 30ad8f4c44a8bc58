-- One turn of each loop over points. Assumes nothing.
use Rattle.std.specs.Prelude.{Option, None, Some}
use mathlib.Core.Path.{◌≡◌, refl, sym, ap, ◌∙◌}
use mathlib.Core.Bool.{true, ◌&&◌}
use mathlib.Core.List.{List}
use Prim.Native.Nat.{ℕ, ◌+◌, ◌%◌, ◌<◌}
use native.Mathlib.Nat.{mod-eq_of_lt, mod_self}
use native.Mathlib.Numerals.{add-one}
use lib.Ieee.{Float}
use Rattle.floats.specs.Pick.{pick, pick_true}
use Rattle.floats.specs.Numbers.{usable, usable_to, all_to}
use Rattle.stock.specs.declared.TurnSide.{TurnSide}
use Rattle.stock.specs.declared.ZRange.{ZRange}
use Rattle.stock.specs.Cell.{number_at}
use Rattle.reach.specs.Low.{lower_of}
use Rattle.polygon.specs.Polygon.{height_at, point_at, beside_of, edge_at, lowest_to, lowest_of, widened, extent_to, inside, lows_to}

-- one number more is usable
pub usable-more : (ps : List Float) (i : ℕ) → usable_to ps (i + 1) ≡ (usable_to ps i && usable (number_at ps i))
unfolding usable_to all_to
usable-more ps i = ap (usable_to ps) (add-one i)

-- one point more of the extent
pub extent-more : (ps : List Float) (i : ℕ) → extent_to ps (i + 1) ≡ Some (widened (extent_to ps i) (height_at ps i))
unfolding extent_to
extent-more ps i = ap (extent_to ps) (add-one i)

-- one vertex more of a bin's samples
pub lows-more : (ps : List Float) (side : TurnSide) (b : ZRange) (start : Option Float) (i : ℕ) → lows_to ps side b start (i + 1) ≡ pick (inside b (height_at ps i)) (lower_of (lows_to ps side b start i) (lowest_of ps side (height_at ps i))) (lows_to ps side b start i)
unfolding lows_to
lows-more ps side b start i = ap (lows_to ps side b start) (add-one i)

-- with nothing beside it a low stays
lower-none : (a : Option Float) → lower_of a None ≡ a
unfolding lower_of
lower-none None = refl
lower-none (Some x) = refl

module _ (ps : List Float) (side : TurnSide) (n : ℕ) (z : Float) where
  -- the edge from point i to where it ends
  edge_to : (i j : ℕ) → (i + 1) % n ≡ j → lowest_to ps side n z (i + 1) ≡ lower_of (lowest_to ps side n z i) (edge_at (point_at ps side i) (point_at ps side j) z)
  unfolding lowest_to
  edge_to i j e = ap (lowest_to ps side n z) (add-one i) ∙ ap (λ (k : ℕ). lower_of (lowest_to ps side n z i) (edge_at (point_at ps side i) (point_at ps side k) z)) e

  -- one edge more: to the next point
  pub lowest-more : (i : ℕ) → i + 1 < n → lowest_to ps side n z (i + 1) ≡ lower_of (lowest_to ps side n z i) (edge_at (point_at ps side i) (point_at ps side (i + 1)) z)
  lowest-more i h = edge_to i (i + 1) (mod-eq_of_lt h)

  -- the last edge: back to point 0
  pub lowest-closed : (i : ℕ) → i + 1 ≡ n → lowest_to ps side n z n ≡ lower_of (lowest_to ps side n z i) (edge_at (point_at ps side i) (point_at ps side 0) z)
  lowest-closed i h = ap (lowest_to ps side n z) (sym h) ∙ edge_to i 0 (ap (λ (k : ℕ). k % n) h ∙ mod_self n)

  -- one edge more, between heights that z lies beside
  pub lowest-beside : (i : ℕ) {a b : Float} → i + 1 < n → a ≡ height_at ps i → b ≡ height_at ps (i + 1) → beside_of a b z ≡ true → lowest_to ps side n z (i + 1) ≡ lowest_to ps side n z i
  unfolding edge_at point_at
  lowest-beside i h ea eb e = lowest-more i h ∙ ap (lower_of (lowest_to ps side n z i)) (pick_true _ _ _ (rw (← ea, ← eb) e)) ∙ lower-none _
