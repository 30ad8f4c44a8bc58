-- A job handed over in parts: a run of the calls, by their promises. Assumes nothing.
use Rattle.std.specs.Prelude.{◌≡◌, ℕ, suc, ◌<◌, List, [], ◌∷◌, ◌++◌, length, take, slice_index_or, Float}
use Rattle.refusals.specs.Lent.{Lent}
use Rattle.text.specs.Wrote.{line_room, WroteLine}
use Rattle.job_run.specs.declared.Run.{Run}
use Rattle.job_run.specs.declared.Taken.{Taken}
use Rattle.job_run.specs.Run.{State, state, fresh_run, Hold, hold, JobRoom, as_found, as_left, TakesPart, finish_of, output_of}

-- From h by parts to k: each part was handed to `take_part`, which found what the call before it left, and answered and left by its promise.
pub data Took : Hold → List (List ℕ) → Hold → Type 0 where
  start : {h : Hold} → Took h [] h
  part : {run : Run} {len : ℕ} {cells rings : Lent Float} {line : Lent ℕ} {p : List ℕ} {ps : List (List ℕ)} {t : Taken} {k : Hold} → TakesPart run len cells rings line p t
      → Took (as_left t.run t.len cells rings line) ps k → Took (as_found run len cells rings line) (p ∷ ps) k

-- The bytes that `output_line` put for line k of a run and those behind it, to the first that is empty. Each call was lent a line's room, and put j bytes into it by its promise.
pub data Told (st : State) : ℕ → List ℕ → Type 0 where
  last : {k : ℕ} {l m : List ℕ} → length l ≡ line_room → WroteLine l (slice_index_or (output_of st) k []) m 0 → Told st k []
  line : {k j : ℕ} {l m s : List ℕ} → length l ≡ line_room → WroteLine l (slice_index_or (output_of st) k []) m j → 0 < j → Told st (suc k) s → Told st k (take j m ++ s)

-- From before the first byte, in a job's room with anything in it: parts taken one after the other, `finish`, and the lines from the first on, which are the bytes s.
pub record Answered (edition : ℕ) (ps : List (List ℕ)) (s : List ℕ) : Type 0 where
  pub cells : List Float
  pub rings : List Float
  pub held : List ℕ
  pub room : JobRoom cells rings held
  pub left : Hold
  pub took : Took (hold (state (fresh_run edition) cells rings) held 0) ps left
  pub end : Run
  pub finished : end ≡ finish_of left.state.run left.len
  pub told : Told (state end left.state.cells left.state.rings) 0 s
