-- Jobs longer than memory (Req 01), said of the calls of `job_run`. A run of them is `Answered` there: parts handed to `take_part` one after the other, then `finish`, then the lines of `output_line` joined. Crate
-- `job_run` has the laws (`proofs/Streamed`): `calls-however-cut`, the run is the job of the whole file and the bytes are its answer; `fresh-room`, neither what the room held before nor the edition shows; `held-at-most`, 127 bytes
-- of the unfinished line at most; `refused-stays`, after a refusal no byte changes anything. What `turning_job_take` and its like do is the same: `job-in-c` (`turning`, `proofs/JobCut`). Assumes nothing.
use mathlib.Core.Path.{◌≡◌, sym, ap, ◌∙◌}
use mathlib.Core.List.{List}
use Prim.Native.Nat.{ℕ, ◌*◌, ◌≤◌}
use native.Mathlib.Omega.{arith}
use lib.ListN.{length}
use lib.Ieee.{Float}
use Rattle.lines.specs.File.{joined}
use Rattle.job_words.specs.Kind.{most_cells}
use Rattle.job_run.specs.Run.{state, fresh_run, Hold, max_rings, output_of, job_of}
use Rattle.job_run.specs.InParts.{Took, Answered}
use Rattle.job_run.proofs.Streamed as calls
use Rattle.job_run.proofs.Editions.{calls-keep}

-- THE ANSWER AFTER THE LAST BYTE IS THE ONE FOR THE WHOLE FILE, however it was cut, whatever the lent room held and whatever edition the stock has: that of the file in any other room, of any edition.
pub whole-answer : {d : ℕ} {ps : List (List ℕ)} {s : List ℕ} → Answered d ps s → (e : ℕ) (cs rs : List Float) → length cs ≡ 4 * most_cells → length rs ≡ 4 * max_rings → s ≡ joined (output_of (job_of (state (fresh_run e) cs rs) (joined ps)))
whole-answer {d} {ps} {s} a e cs rs hc hr =
    (calls.calls-however-cut a).1 ∙ ap joined (calls.fresh-room d e a.cells cs a.rings rs (joined ps) (a.room.cells ∙ sym hc) (a.room.rings ∙ sym hr))

-- THE SAME BYTES IN OTHER PARTS, also with nothing in some of them, are answered with the same bytes.
pub same_answer : {d e : ℕ} {ps qs : List (List ℕ)} {s t : List ℕ} → Answered d ps s → Answered e qs t → joined ps ≡ joined qs → s ≡ t
same_answer a b h = calls.same-file-same-answer a b h

-- THE STOCK OF A JOB HAS THE EDITION THAT THE JOB WAS GIVEN, from before its first byte to its end.
pub edition-kept : {e : ℕ} {ps : List (List ℕ)} {s : List ℕ} (a : Answered e ps s) → a.end.job.stock.stamp.edition ≡ e
edition-kept a = calls-keep a

-- ONLY THE UNFINISHED LINE IS HELD OVER: 127 bytes at most, which with its newline are the 128 of a line.
pub held-over : {e : ℕ} {ps : List (List ℕ)} {s : List ℕ} (a : Answered e ps s) → a.left.len ≤ 127
held-over a = calls.held-at-most a.took (omega arith)

-- A REFUSED LINE IS THE LAST: whatever parts `take_part` is handed after a refusal, the run with its number and line, the cells, the rings and the lent line stay as it left them.
pub refused-stays : {h k : Hold} {ps : List (List ℕ)} → Took h ps k → (h.state.run.refused ≡ 0 → ⊥) → k ≡ h
refused-stays t r = calls.refused-stays t r
