-- A run of `turning_read_part`, by its promise. Assumes nothing.
use Rattle.std.specs.Prelude.{List, [], ◌∷◌, ℕ}
use Rattle.turning.specs.JobCalls.{Flat}
use Rattle.turning.specs.Files.{TakesFile}

-- From f by parts to k: each part was handed to `turning_read_part`, which was lent what the call before it left, and left what its promise says.
pub data TookFile : Flat → List (List ℕ) → Flat → Type 0 where
  start : {f : Flat} → TookFile f [] f
  part : {f g k : Flat} {p : List ℕ} {ps : List (List ℕ)} {r : ℕ} → TakesFile f g p r → TookFile g ps k → TookFile f (p ∷ ps) k
