-- `job_run::take_bytes` meets its contract. Assumes nothing.
use Rattle.job_run.specs.Run.{state, hold, byte_on}
use Rattle.std.proofs.Common.{◌≡◌, length, drop}
use mathlib.Core.List.{foldl}
use Rattle.job_run.proofs.take_bytes.Given as goal

abbrev pub invariant-loop-i : goal.invariant-loop-i
invariant-loop-i l = (length l.cells ≡ length l.initial.cells) × (length l.rings ≡ length l.initial.rings) × (length l.line ≡ length l.initial.line) × (length l.indices ≡ 512) × (length l.records ≡ 4096) × (foldl byte_on (hold (state l.initial.k l.initial.cells l.initial.rings) l.initial.line l.len) l.bytes ≡ foldl byte_on (hold (state l.k l.cells l.rings) l.line l.n) (drop l.i l.bytes))
