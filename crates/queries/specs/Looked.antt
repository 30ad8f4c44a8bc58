-- What an answer over some bins says, bin by bin: in whose words the laws of the query are stated. Assumes nothing.
use Rattle.std.specs.Prelude.{◌≡◌, List, ℕ, ◌+◌, ◌≤◌, ◌<◌, T, Float, Some}
use Rattle.std.specs.Float.Ieee.{le}
use Rattle.stock.specs.Cell.{cell_at}
use Rattle.queries.specs.declared.Band.{Band}
use Rattle.queries.specs.Material.{most_of}
use Rattle.queries.specs.Envelope.{shown_of}

-- bin i is one of k from bin a on, and holds material, from c's bore to its outer radius
pub record Holds (cs : List Float) (a k i : ℕ) (c : Band) : Type 0 where
  pub from : a ≤ i
  pub to : i < a + k
  pub shown : shown_of (most_of (cell_at cs i)) ≡ Some c

-- the band c lies within the band b
pub record Nested (c b : Band) : Type 0 where
  pub bore : T (le b.bore c.bore)
  pub outer : T (le c.outer b.outer)

-- b is what these bins show together: some bin with material has its bore, some has its outer radius, and each such bin lies within it
pub record Most (cs : List Float) (a k : ℕ) (b : Band) : Type 0 where
  pub bore_bin : ℕ
  pub bore_band : Band
  pub bore_there : Holds cs a k bore_bin bore_band
  pub bore_same : bore_band.bore ≡ b.bore
  pub outer_bin : ℕ
  pub outer_band : Band
  pub outer_there : Holds cs a k outer_bin outer_band
  pub outer_same : outer_band.outer ≡ b.outer
  pub within : (i : ℕ) (c : Band) → Holds cs a k i c → Nested c b
