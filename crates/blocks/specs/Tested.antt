-- Proved equal to `same_block` of the fold (proofs/Tested); need not be believed.
-- Whether kept numbers are those of some bins, by tests alone: no bin with material has more, and some has as much, or they are those of no material. Assumes nothing.
use Rattle.std.specs.Prelude.{Bool, not, ◌&&◌, ◌||◌, List, ℕ, zero, suc, ◌+◌, Float}
use Rattle.std.specs.Float.Ieee.{lt, le, eq}
use Rattle.stock.specs.declared.TurnStockSpec.{TurnStockSpec}
use Rattle.stock.specs.Cell.{cell_at}
use Rattle.queries.specs.declared.Band.{Band}
use Rattle.queries.specs.Material.{most_of}
use Rattle.blocks.specs.declared.matching.Met.{Met}

-- before the first bin
abbrev pub met_none : TurnStockSpec → Band → Met
met_none s k =
    record {
      under = le s.bore_radius_mm k.outer && le k.bore s.outer_radius_mm;
      outer = eq k.outer s.bore_radius_mm;
      bore = eq k.bore s.outer_radius_mm;
    }

-- the band of one bin more
abbrev pub met_with : Band → Met → Band → Met
met_with k m b =
    record {
      under = m.under && (not (lt b.bore b.outer) || (le b.outer k.outer && le k.bore b.bore));
      outer = m.outer || (lt b.bore b.outer && eq k.outer b.outer);
      bore = m.bore || (lt b.bore b.outer && eq k.bore b.bore);
    }

-- n bins from bin a on, onto what was met before
unfoldable pub met_from : Band → Met → List Float → ℕ → ℕ → Met
met_from k m cs a zero = m
met_from k m cs a (suc n) = met_with k (met_from k m cs a n) (most_of (cell_at cs (a + n)))

abbrev pub all_met : Met → Bool
all_met m = m.under && m.outer && m.bore
