-- A run of the job calls of the C boundary, by their promises. Assumes nothing.
use mathlib.Core.List.{List, [], ◌∷◌, foldl}
use Rattle.std.specs.Prelude.{ℕ, Float}
use Rattle.job_run.specs.Run.{state, Hold, hold, byte_on}
use Rattle.turning.specs.Jobs.{run_from, held_in, TakesJob}

-- all that is lent for a job, or for the reading of a stock file
pub record Flat : Type 0 where
  pub words : List ℕ
  pub bar : List Float
  pub cells : List Float
  pub rings : List Float
  pub line : List ℕ

-- the job that it holds
abbrev pub in_hand : Flat → Hold
in_hand f = hold (state (run_from f.words f.bar) f.cells f.rings) f.line (held_in f.words)

-- From f by parts to k: each part was handed to `turning_job_take`, which was lent what the call before it left, and left what its promise says.
pub data TookFlat : Flat → List (List ℕ) → Flat → Type 0 where
  start : {f : Flat} → TookFlat f [] f
  part : {f g k : Flat} {p : List ℕ} {ps : List (List ℕ)} {r : ℕ} → TakesJob (foldl byte_on (in_hand f) p) r f.words g.words f.bar g.bar g.cells g.rings g.line → TookFlat g ps k → TookFlat f (p ∷ ps) k
