-- Bytes taken in turn, and the job that they are. Assumes nothing.
use mathlib.Core.Path.{◌≡◌, refl, sym, ap, ◌∙◌, subst}
use mathlib.Core.Bool.{Bool, true, false}
use mathlib.Core.List.{List, [], ◌∷◌, ◌++◌, append-nil, foldl}
use Prim.Native.Nat.{ℕ, ◌≤◌}
use lib.Dec.{eqb, ltb}
use lib.ListN.{length, take, length-set}
use lib.Ieee.{Float}
use Rattle.refusals.specs.Lent.{Lent}
use Rattle.text.proofs.Chosen.{yes, no}
use Rattle.streams.specs.declared.Got.{Got}
use Rattle.streams.specs.declared.Got.TheVariants as got
use Rattle.streams.specs.Brought.{brought_by}
use Rattle.job_run.specs.declared.Run.{Run}
use Rattle.job_run.specs.declared.Taken.{Taken}
use Rattle.lines.specs.File.{joined}
use Rattle.job_run.specs.Run.{State, state, stopped, Hold, hold, byte_on, as_found, as_left, TakesPart, finish_of, job_of}
use borrow.Author.Tests.{eqb-false}
use Rattle.job_run.proofs.Lines.{finish-stopped}
use Rattle.job_run.proofs.WholeFile.{end_of, end_cut_of, however-cut, cut-finish}
use Rattle.job_streams.specs.declared.End.{End}
use Rattle.job_streams.specs.declared.Ended.{Ended}
use Rattle.job_streams.specs.Read.{After, ReadsPart, end_at, whole_end, cut_at, cut_end, end_by, JobOfSome}

-- two parts in turn are their concatenation
on : (s t : List ℕ) (h : Hold) → foldl byte_on h (s ++ t) ≡ foldl byte_on (foldl byte_on h s) t
on [] t h = refl
on (b ∷ s) t h = on s t (byte_on h b)

-- the line stays as long as it is
byte-length : (h : Hold) (b : ℕ) → length (byte_on h b).line ≡ length h.line
unfolding byte_on
byte-length h b = by (stopped h.state) refl (eqb b 10) refl (ltb h.len 127) refl
  where
    by : (t : Bool) → stopped h.state ≡ t → (u : Bool) → eqb b 10 ≡ u → (v : Bool) → ltb h.len 127 ≡ v → length (byte_on h b).line ≡ length h.line
    by true e u f v g = simp (e, yes)
    by false e true f v g = simp (e, f, no, yes) (length-set h.line h.len b)
    by false e false f true g = simp (e, f, g, no, yes) (length-set h.line h.len b)
    by false e false f false g = simp (e, f, g, no) (length-set h.line h.len b)

bytes-length : (s : List ℕ) (h : Hold) → length (foldl byte_on h s).line ≡ length h.line
bytes-length [] h = refl
bytes-length (b ∷ s) h = bytes-length s (byte_on h b) ∙ byte-length h b

pub after-length : {h k : Hold} → After h k → length k.line ≡ length h.line
after-length {h} a = ap (λ (x : Hold). length x.line) a.same ∙ bytes-length a.bytes h

-- before the first byte
pub after_none : (h : Hold) → After h h
after_none h = record { bytes = []; same = refl }

-- and on from there
pub after_more : {h k m : Hold} → After h k → After k m → After h m
after_more {h} a b = record {
  bytes = a.bytes ++ b.bytes;
  same = b.same ∙ ap (λ (x : Hold). foldl byte_on x b.bytes) a.same ∙ sym (on a.bytes b.bytes h);
}

-- the bytes that a read brought, taken
pub read_once : {run : Run} {len : ℕ} {cells rings : Lent Float} {line : Lent ℕ} (g : Got) (part s : List ℕ) (k : ℕ) (r : Taken)
    → TakesPart run len cells rings line s r → s ≡ take k part → k ≡ brought_by g → ReadsPart run len cells rings line g part r.run r.len
read_once {run} {len} {cells} {rings} {line} g part s k r t e f = record {
  room = t.room;
  same = subst (λ (b : List ℕ). as_left r.run r.len cells rings line ≡ foldl byte_on (as_found run len cells rings line) b) (e ∙ ap (λ (n : ℕ). take n part) f) t.same;
}

-- the end after one
pub end_is : {g h : Got} (run : Run) (len : ℕ) {r : Ended} → g ≡ h → r ≡ end_by h run len → r ≡ end_by g run len
end_is run len eg er = er ∙ ap (λ (x : Got). end_by x run len) (sym eg)

pub whole-end : (run : Run) (len : ℕ) {r : Run} {e : End} → r ≡ finish_of run len → e ≡ end_at len → ◌≡◌ {A = Ended} (record { run = r; end = e }) (whole_end run len)
whole-end run len er ee = rw (er, ee)

pub cut-end : (run : Run) {r : Run} {e : End} → r ≡ finish_of run 1 → e ≡ cut_at run.refused → ◌≡◌ {A = Ended} (record { run = r; end = e }) (cut_end run)
cut-end run er ee = rw (er, ee)

-- a job was read so far, and its input is at its end
module _ {st : State} {line held : List ℕ} {r₁ : Run} {n₁ : ℕ} {cs rs : List Float} (r : Ended) (room : 127 ≤ length line)
    (t : After (hold st line 0) (hold (state r₁ cs rs) held n₁)) where
  abbrev ended : Run → State
  ended x = state x cs rs

  whole : ended (finish_of r₁ n₁) ≡ job_of st t.bytes
  unfolding joined
  whole = ap end_of t.same ∙ however-cut st line (t.bytes ∷ []) room ∙ ap (job_of st) (append-nil t.bytes)

  cut : (v : Bool) → eqb r₁.refused 0 ≡ v → JobOfSome (cut_at r₁.refused) st (ended (finish_of r₁ 1))
  cut true q = rw (q, yes) (record { bytes = t.bytes; same = ap end_cut_of t.same ∙ cut-finish st line t.bytes room })
  cut false q =
      let s : r₁.refused ≡ 0 → ⊥ = eqb-false _ _ q in
      rw (q, no) (record { bytes = t.bytes; same = ap ended (sym (finish-stopped r₁ 1 s) ∙ finish-stopped r₁ n₁ s) ∙ whole })

  pub done : (g : Got) → r ≡ end_by g r₁ n₁ → JobOfSome r.end st (ended r.run)
  done got.End e = rw e (by (eqb n₁ 0) refl)
    where
      by : (v : Bool) → eqb n₁ 0 ≡ v → JobOfSome (end_at n₁) st (ended (finish_of r₁ n₁))
      by true q = rw (q, yes) (record { bytes = t.bytes; same = whole })
      by false q = rw (q, no) (record { bytes = t.bytes; same = whole })
  done got.Cut e = rw e (cut (eqb r₁.refused 0) refl)
  done (got.Bytes k) e = rw e (cut (eqb r₁.refused 0) refl)
