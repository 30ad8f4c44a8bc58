-- Proved equal to `volume_of` (proofs/Passes); need not be believed.
-- Both bounds of the volume in one pass, as the functions hand them on. Assumes nothing.
use Rattle.std.specs.Prelude.{ℕ, List, Float}
use Rattle.stock.specs.declared.TurnStockSpec.{TurnStockSpec}
use Rattle.stock.specs.Bin.{bin_of}
use Rattle.stock.specs.Cell.{cell_at}
use Rattle.rings.specs.declared.Ring.{Ring}
use Rattle.queries.specs.declared.Volumes.{Volumes}
use Rattle.queries.specs.Material.{sure_of, most_of}
use Rattle.queries.specs.Volume.{less_in, sum_of, less_ring, less_rings}

module _ (s : TurnStockSpec) (cs : List Float) where
  abbrev pub sums_of : ℕ → Volumes
  sums_of n = record { least = sum_of sure_of s cs n; greatest = sum_of most_of s cs n }

  abbrev pub less_bin : Ring → ℕ → Volumes → Volumes
  less_bin q i v =
      record {
        least = less_in (sure_of (cell_at cs i)) (bin_of s i) q v.least;
        greatest = less_in (most_of (cell_at cs i)) (bin_of s i) q v.greatest;
      }

  abbrev pub less_bins : Ring → Volumes → ℕ → Volumes
  less_bins q v n = record { least = less_ring sure_of s cs q v.least n; greatest = less_ring most_of s cs q v.greatest n }

  abbrev pub less_all : ℕ → List Float → Volumes → ℕ → Volumes
  less_all n xs v k = record { least = less_rings sure_of s cs n xs v.least k; greatest = less_rings most_of s cs n xs v.greatest k }
