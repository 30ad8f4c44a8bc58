-- Bytes taken one after the other. Assumes nothing.
use Rattle.std.proofs.Common.{◌≡◌, ℕ, ◌+◌, ◌<◌, ◌≤◌, List, length, get_or, drop, add-one, drop_of_length-le, drop-cons}
use mathlib.Core.List.{foldl}
use Rattle.job_run.specs.Run.{Hold, byte_on}

pub bytes-step : (s : List ℕ) (i : ℕ) (h k : Hold) → i < length s → k ≡ byte_on h (get_or s i 0) → foldl byte_on h (drop i s) ≡ foldl byte_on k (drop (i + 1) s)
bytes-step s i h k l e = rw (add-one i, drop-cons s i 0 l, e)

pub bytes-end : (s : List ℕ) (i : ℕ) (h : Hold) → length s ≤ i → foldl byte_on h (drop i s) ≡ h
bytes-end s i h l = rw (drop_of_length-le s l)
