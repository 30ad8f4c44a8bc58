-- A stock file read from a reader. No contract can say which bytes come: a promise here says that there are some of which it is told what they tell. Assumes nothing.
use Rattle.std.specs.Prelude.{◌≡◌, List, take, ℕ, Float, Result}
use Rattle.refusals.specs.Lent.{Lent}
use Rattle.refusals.specs.Number.{placed_of}
use Rattle.refusals.specs.declared.Refused.{Refused}
use Rattle.streams.specs.declared.Got.{Got}
use Rattle.streams.specs.Brought.{brought_by}
use Rattle.stock_lines.specs.declared.Reading.{Reading}
use Rattle.stock_file.specs.declared.Kept.{Kept}
use Rattle.stock_file.specs.Read.{TakesPart, file_in, read_of}

-- a reading that reads on: some bytes are taken
pub record ReadsOn (reading : Reading) (len : ℕ) (cells rings : Lent Float) (line : Lent ℕ) (r : Reading) (n : ℕ) : Type 0 where
  pub bytes : List ℕ
  pub takes : TakesPart reading len cells rings line bytes (record { reading = r; len = n })

-- the same, by the bytes that a read brought to the front of what was lent to it
abbrev pub ReadsPart : Reading → ℕ → Lent Float → Lent Float → Lent ℕ → Got → List ℕ → Reading → ℕ → Type 0
ReadsPart reading len cells rings line g part r n = TakesPart reading len cells rings line (take (brought_by g) part) (record { reading = r; len = n })

-- what some bytes tell, and what they leave in the lent room
pub record StockOfSome (most : ℕ) (r : Result Kept Refused) (cs cs' rs rs' : List Float) : Type 0 where
  pub bytes : List ℕ
  pub told : placed_of r ≡ read_of most cs rs bytes
  pub cells : cs' ≡ (file_in cs rs bytes).cells
  pub rings : rs' ≡ (file_in cs rs bytes).rings

abbrev pub ReadsStock : ℕ → Result Kept Refused → Lent Float → Lent Float → Type 0
ReadsStock most r cells rings = StockOfSome most r cells.entry.now cells.exit.now rings.entry.now rings.exit.now
