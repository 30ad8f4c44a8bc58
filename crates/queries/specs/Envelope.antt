-- The most material that may remain at a height z: over the bin of z, and a neighbour on either side whose closed range holds z. Assumes nothing.
use Rattle.std.specs.Prelude.{ℕ, zero, suc, ◌+◌, ◌-◌, min, Bool, ◌&&◌, List, ltb, Float, Option, None, Some}
use Rattle.std.specs.Float.Ieee.{le, lt}
use Rattle.refusals.specs.Paper.{Paper, answers, onward}
use Rattle.floats.specs.Pick.{pick}
use Rattle.floats.specs.Numbers.{◌-₆₄◌, ◌/₆₄◌, least_of, greatest_of, clean_of}
use Rattle.numbers.specs.Whole.{whole_part}
use Rattle.stock.specs.declared.TurnStockSpec.{TurnStockSpec}
use Rattle.stock.specs.Spec.{clean_spec}
use Rattle.stock.specs.Bin.{bin_of}
use Rattle.stock.specs.Cell.{cell_at, stock_of}
use Rattle.queries.specs.declared.Band.{Band}
use Rattle.queries.specs.declared.BinSpan.{BinSpan}
use Rattle.queries.specs.Material.{band, most_of}

-- within z_min..z_max, both ends too; a NaN is not
abbrev pub in_range : TurnStockSpec → Float → Bool
in_range s z = le s.z_min_mm z && le z s.z_max_mm

-- ---- which bins are looked at

-- the bin of z: the whole part of (z - z_min) / cell, at most n - 1
abbrev pub bin_at : TurnStockSpec → ℕ → Float → ℕ
bin_at s n z = min (whole_part ((z -₆₄ s.z_min_mm) /₆₄ s.cell_mm)) (n - 1)

-- the closed range of bin j, as rounded, holds z
abbrev pub holds_z : TurnStockSpec → ℕ → Float → Bool
holds_z s j z = le (bin_of s j).za z && le z (bin_of s j).zb

-- the first: the bin before that of z, if there is one and it holds z, else the bin of z
unfoldable pub first_at : TurnStockSpec → ℕ → Float → ℕ
first_at s n z =
    let i = bin_at s n z in
    pick (ltb 0 i && holds_z s (i - 1) z) (i - 1) i

-- the last: the bin behind that of z, if there is one and it holds z, else the bin of z
unfoldable pub last_at : TurnStockSpec → ℕ → Float → ℕ
last_at s n z =
    let i = bin_at s n z in
    pick (ltb (i + 1) n && holds_z s (i + 1) z) (i + 1) i

-- both
abbrev pub bins_at : TurnStockSpec → ℕ → Float → BinSpan
bins_at s n z = record { first = first_at s n z; last = last_at s n z }

-- ---- what they show

-- a band, and nothing unless its outer radius is above its bore
unfoldable pub shown_of : Band → Option Band
shown_of b = pick (lt b.bore b.outer) (Some b) None

-- of two bands the least bore and the greatest outer radius
abbrev pub join_of : Band → Band → Band
join_of a b = band (least_of a.bore b.bore) (greatest_of a.outer b.outer)

-- of two, each there or not, the same of what is there
unfoldable pub together : Option Band → Option Band → Option Band
together None b = b
together (Some a) None = Some a
together (Some a) (Some b) = Some (join_of a b)

-- the most over k bins, from bin a on
unfoldable pub most_over : List Float → ℕ → ℕ → Option Band
most_over cs a zero = None
most_over cs a (suc k) = together (most_over cs a k) (shown_of (most_of (cell_at cs (a + k))))

-- what is seen of n cells at z: nothing outside the z range
unfoldable pub seen_at : TurnStockSpec → ℕ → List Float → Float → Option Band
seen_at s n cs z = pick (in_range s z) (most_over cs (first_at s n z) (last_at s n z - first_at s n z + 1)) None

-- the same in the bin of z alone: 01's rule, in whose place the one above has come
unfoldable pub seen_once : TurnStockSpec → ℕ → List Float → Float → Option Band
seen_once s n cs z = pick (in_range s z) (shown_of (most_of (cell_at cs (bin_at s n z)))) None

-- the same of a stock; 1, 2, 3
unfoldable pub envelope_at : TurnStockSpec → List Float → Float → Paper (Option Band)
envelope_at spec cs z = onward (stock_of spec cs) (λ n. answers (seen_at (clean_spec spec) n cs (clean_of z)))
