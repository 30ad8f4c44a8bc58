-- A job's stock keeps its edition: a bar takes the job's own, a cut and a ring leave it. Assumes nothing.
use Rattle.std.proofs.Common.{◌≡◌, ℕ, ◌-◌, Bool, true, false, eqb, ltb, List, [], ◌∷◌, take, sym, refl, ap, ◌∙◌}
use mathlib.Core.List.{foldl}
use lib.Ieee.{Float}
use Rattle.refusals.specs.Paper.{Paper, answers, refuses, only, demand, onward}
use Rattle.floats.specs.Pick.{pick}
use Rattle.text.proofs.Chosen.{yes, no}
use Rattle.stock.proofs.Count.{no_answer, same_answer}
use Rattle.lines.specs.File.{pieces_of}
use Rattle.lines.proofs.Alike.{alike-file}
use Rattle.job_words.specs.declared.Line.{Line}
use Rattle.job_words.specs.declared.Line.TheVariants.{Bar, Cutting, Removing, Arc, Bad}
use Rattle.job_words.specs.Kind.{line_of}
use Rattle.job_run.specs.declared.line.Job.{Job}
use Rattle.job_run.specs.Job.{Stand, line_limit, full_room, bar_line, cut_line, removing_line, first_line, later_line, job_line}
use Rattle.job_run.specs.Run.{State, refused_with, answered, on_line, on_long, on_end, stopped, Hold, byte_on, is_empty, job_of}
use Rattle.job_run.specs.InParts.{Answered}
use Rattle.job_run.proofs.Streamed.{calls-however-cut}

-- the edition of a job's stock
abbrev pub edition_of : Job → ℕ
edition_of j = j.stock.stamp.edition

-- a job that goes on from there has the edition e
abbrev pub Keeps : ℕ → Paper Stand → Type 0
Keeps e p = (s : Stand) → p ≡ answers s → edition_of s.job ≡ e

-- ---- a rule asked step by step

keeps-none : (e n : ℕ) → Keeps e (refuses (only n))
keeps-none e n s q = absurd (no_answer (only n) s q)

keeps-answer : {e : ℕ} (s : Stand) → edition_of s.job ≡ e → Keeps e (answers s)
keeps-answer s h t q = ap (λ (x : Stand). edition_of x.job) (sym (same_answer q)) ∙ h

keeps-demand : {e : ℕ} (t : Bool) (n : ℕ) (p : Paper Stand) → Keeps e p → Keeps e (demand t n p)
unfolding demand
keeps-demand true n p h = h
keeps-demand {e} false n p h = keeps-none e n

keeps-onward : {A : Type 0} {e : ℕ} (p : Paper A) (f : A → Paper Stand) → ((a : A) → Keeps e (f a)) → Keeps e (onward p f)
unfolding onward
keeps-onward (answers a) f h = h a
keeps-onward (refuses r) f h = λ s q. absurd (no_answer r s q)

-- ---- a line

first-keeps : (e : ℕ) (l : Line) (cs rs : List Float) → Keeps e (first_line e l cs rs)
unfolding first_line bar_line
first-keeps e (Bar spec) cs rs = keeps-onward _ _ (λ n. keeps-demand _ 3 _ (keeps-answer _ refl))
first-keeps e (Cutting cut) cs rs = keeps-none e 15
first-keeps e (Removing q) cs rs = keeps-none e 15
first-keeps e Arc cs rs = keeps-none e 15
first-keeps e Bad cs rs = keeps-none e 15

later-keeps : (j : Job) (l : Line) (room : ℕ) (cs rs : List Float) → Keeps (edition_of j) (later_line j l room cs rs)
unfolding later_line cut_line removing_line
later-keeps j (Bar spec) room cs rs = keeps-none (edition_of j) 15
later-keeps j (Cutting cut) room cs rs = keeps-onward _ _ (λ k. keeps-answer _ refl)
later-keeps j (Removing q) room cs rs = keeps-onward _ _ (λ s. keeps-answer _ refl)
later-keeps j Arc room cs rs = keeps-none (edition_of j) 13
later-keeps j Bad room cs rs = keeps-none (edition_of j) 15

-- EVERY LINE KEEPS THE EDITION: the stock of a bar has the job's own, and the stock after a cut or a ring the one before it.
pub line-keeps : (j : Job) (s : List ℕ) (room : ℕ) (cs rs : List Float) → Keeps (edition_of j) (job_line j s room cs rs)
unfolding job_line
line-keeps j s room cs rs = keeps-demand _ 15 _ (by (eqb j.cells 0) refl)
  where
    by : (t : Bool) → eqb j.cells 0 ≡ t → Keeps (edition_of j) (pick (eqb j.cells 0) (first_line (edition_of j) (line_of s) cs rs) (later_line j (line_of s) room cs rs))
    by true e = simp (e, yes) (first-keeps (edition_of j) (line_of s) cs rs)
    by false e = simp (e, no) (later-keeps j (line_of s) room cs rs)

-- ---- a run

-- the edition of a run's stock
abbrev edition : State → ℕ
edition st = edition_of st.run.job

answered-keeps : (st : State) (p : Paper Stand) → Keeps (edition st) p → edition (answered st p) ≡ edition st
unfolding answered refused_with
answered-keeps st (answers s) h = h s refl
answered-keeps st (refuses r) h = refl

on-keeps : (st : State) (l : List ℕ) → edition (on_line st l) ≡ edition st
unfolding on_line
on-keeps st l = answered-keeps st _ (line-keeps st.run.job l full_room st.cells st.rings)

long-keeps : (st : State) → edition (on_long st) ≡ edition st
unfolding refused_with
long-keeps st = refl

end-keeps : (st : State) → edition (on_end st) ≡ edition st
end-keeps st = by (is_empty st.run) refl
  where
    by : (t : Bool) → is_empty st.run ≡ t → edition (on_end st) ≡ edition st
    by true e = simp (e, yes) (long-keeps st)
    by false e = simp (e, no)

-- A BYTE KEEPS THE EDITION, and so do all that come.
byte-keeps : (h : Hold) (b : ℕ) → edition (byte_on h b).state ≡ edition h.state
unfolding byte_on
byte-keeps h b = by (stopped h.state) refl (eqb b 10) refl (ltb h.len (line_limit - 1)) refl
  where
    by : (t : Bool) → stopped h.state ≡ t → (u : Bool) → eqb b 10 ≡ u → (v : Bool) → ltb h.len (line_limit - 1) ≡ v → edition (byte_on h b).state ≡ edition h.state
    by true e u f v g = simp (e, yes)
    by false e true f v g = simp (e, f, no, yes) (on-keeps h.state (take h.len h.line))
    by false e false f true g = simp (e, f, g, no, yes)
    by false e false f false g = simp (e, f, g, no) (long-keeps h.state)

pub bytes-keep : (s : List ℕ) (h : Hold) → edition_of (foldl byte_on h s).state.run.job ≡ edition_of h.state.run.job
bytes-keep [] h = refl
bytes-keep (b ∷ s) h = bytes-keep s (byte_on h b) ∙ byte-keeps h b

-- a run that is another by name, whose stock has the edition e
record Of (e : ℕ) (a b : State) : Type 0 where
  same : a ≡ b
  of : edition a ≡ e

-- A FILE KEEPS THE EDITION, whatever its lines are.
pub job-keeps : (st : State) (s : List ℕ) → edition_of (job_of st s).run.job ≡ edition_of st.run.job
job-keeps st s = (alike-file stopped on_line on_long on_end (Of (edition st)) (λ a b h. ap stopped h.same) lines longs ends (pieces_of s) st st (record { same = refl; of = refl })).of
  where
    lines : (a b : State) (l : List ℕ) → Of (edition st) a b → Of (edition st) (on_line a l) (on_line b l)
    lines a b l h = record { same = ap (λ (x : State). on_line x l) h.same; of = on-keeps a l ∙ h.of }

    longs : (a b : State) → Of (edition st) a b → Of (edition st) (on_long a) (on_long b)
    longs a b h = record { same = ap on_long h.same; of = long-keeps a ∙ h.of }

    ends : (a b : State) → Of (edition st) a b → Of (edition st) (on_end a) (on_end b)
    ends a b h = record { same = ap on_end h.same; of = end-keeps a ∙ h.of }

-- A JOB ENDS WITH THE EDITION THAT IT WAS GIVEN, however its bytes are cut.
pub calls-keep : {e : ℕ} {ps : List (List ℕ)} {s : List ℕ} (a : Answered e ps s) → edition_of a.end.job ≡ e
calls-keep a = ap edition (calls-however-cut a).0 ∙ job-keeps _ _
