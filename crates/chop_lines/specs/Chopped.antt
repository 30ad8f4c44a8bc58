-- The bytes that a profile's bytes become: a line of a job for each of its chords, or the one refusal. Assumes nothing.
use Rattle.std.specs.Prelude.{◌≡◌, ℕ, false, List, [], length, take, ◌==◌}
use Rattle.refusals.specs.Paper.{Paper, answers, refuses}
use Rattle.floats.specs.Pick.{pick}
use Rattle.profile.specs.Chords.{Chord, flat_of, segments_of}
use Rattle.job_answer.specs.Lines.{refused_line}
use Rattle.streams.specs.declared.Out.{Out}
use Rattle.streams.specs.Moves.{Gathers}
use Rattle.chop_lines.specs.declared.scan.Scan.{Scan}
use Rattle.chop_lines.specs.Scan.{State, scan_of}
use Rattle.chop_lines.specs.Spelled.{chord_texts}

-- room for so many chords
abbrev pub most_chords : ℕ
most_chords = 4096

-- the chords, or 17 or 18 at the last line
unfoldable pub text_by : Scan → Paper (List Chord) → List ℕ
text_by s (answers l) = chord_texts s.side s.rn (flat_of l) (length l)
text_by s (refuses n) = refused_line s.lines n.number

-- 15 before that
unfoldable pub text_of : State → List ℕ
text_of st =
    pick (st.scan.refused == 0) (text_by st.scan (segments_of st.points st.scan.tolerance most_chords))
    (refused_line st.scan.lines st.scan.refused)

-- WHAT A FILE BECOMES
abbrev pub chopped_of : List ℕ → List ℕ
chopped_of s = text_of (scan_of s)

-- unless a write failed: what was handed on to be written, and behind it what is gathered
pub record AllPut (bytes : List ℕ) (out : Out) (buf : List ℕ) : Type 0 where
  pub all : out.failed ≡ false → Gathers [] bytes (take out.len buf)

-- No contract can say which bytes come. There are some, and what is put is what they become; input that is cut off ends inside its next line.
pub record ChopsSome (out : Out) (buf : List ℕ) : Type 0 where
  pub bytes : List ℕ
  pub put : AllPut (chopped_of bytes) out buf
