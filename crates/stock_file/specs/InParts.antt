-- A file handed over in parts: a run of the calls, by their promises. Assumes nothing.
use Rattle.std.specs.Prelude.{◌≡◌, List, [], ◌∷◌, ℕ, length, Float, Result}
use Rattle.refusals.specs.Lent.{Lent}
use Rattle.refusals.specs.Number.{placed_of}
use Rattle.refusals.specs.declared.Refused.{Refused}
use Rattle.lines.specs.Hands.{Hand, hand}
use Rattle.stock_lines.specs.declared.Reading.{Reading}
use Rattle.stock_lines.specs.Reading.{State, state, state_found, state_left}
use Rattle.stock_file.specs.declared.Taken.{Taken}
use Rattle.stock_file.specs.declared.Kept.{Kept}
use Rattle.stock_file.specs.Read.{fresh_reading, held_in, TakesPart, ended, told_as}

-- From j by parts to k: each part was handed to `take_part`, which found what the call before it left, and answered and left by its promise.
pub data Took : Hand State → List (List ℕ) → Hand State → Type 0 where
  start : {j : Hand State} → Took j [] j
  part : {reading : Reading} {len : ℕ} {cells rings : Lent Float} {line : Lent ℕ} {p : List ℕ} {ps : List (List ℕ)} {r : Taken} {k : Hand State} → TakesPart reading len cells rings line p r
      → Took (hand (state_left r.reading cells rings) (held_in r.len line.exit.now)) ps k → Took (hand (state_found reading cells rings) (held_in len line.entry.now)) (p ∷ ps) k

-- From before the first byte, in a room with anything in it: parts taken one after the other, and `finish`, which answered r.
pub record Finished (most : ℕ) (cs rs : List Float) (ps : List (List ℕ)) (r : Result Kept Refused) : Type 0 where
  pub left : Hand State
  pub took : Took (hand (state fresh_reading cs rs) []) ps left
  pub told : placed_of r ≡ told_as (ended left.job.reading (length left.held)) most left.job.cells left.job.rings
