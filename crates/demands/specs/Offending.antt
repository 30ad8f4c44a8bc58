-- A job piece by piece: which line is the first that offends, and when none does. Assumes nothing.
use Rattle.std.specs.Prelude.{◌≡◌, false, not, List, [], ◌∷◌, ◌++◌, ℕ, eqb, length}
use Rattle.refusals.specs.Paper.{Paper, Reason, answers, refuses, demand, onward}
use Rattle.changes.specs.Commit.{Committed}
use Rattle.cuts.specs.declared.Cut.{Cut}
use Rattle.cuts.specs.declared.Cut.TheVariants as cut
use Rattle.job_words.specs.declared.Line.{Line}
use Rattle.job_words.specs.declared.Line.TheVariants as line
use Rattle.job_words.specs.declared.Line.TheVariants.{Bar, Cutting, Removing, Bad}
use Rattle.job_words.specs.Kind.{line_of}
use Rattle.job_run.specs.Job.{Stand, full_room, cells_of_job, job_line}
use Rattle.job_run.specs.Run.{State, next, answered, is_empty}
use Rattle.demands.specs.Tool.{Cutter, single}

-- a line on a run, as `carry_out` has it
abbrev pub line_in : State → List ℕ → Paper Stand
line_in st l = job_line st.run.job l full_room st.cells st.rings

-- lines in turn; the first refusal ends it and is the answer
unfoldable pub lines_on : State → List (List ℕ) → Paper State
lines_on st [] = answers st
lines_on st (l ∷ ls) = onward (line_in st l) (λ s. lines_on (answered st (answers s)) ls)

-- What is wrong with a piece of the input that has these behind it. A line has a newline behind it, and so a piece: it is refused as it is carried out, 13 and 15 among its
-- numbers. Behind the last newline nothing stands, and some line stands before it, where no bar is given before: else 15.
unfoldable pub wrong_with : State → List ℕ → List (List ℕ) → Paper (Unit {0})
wrong_with st l [] = demand (eqb (length l) 0) 15 (demand (not (is_empty st.run)) 15 (answers tt))
wrong_with st l (m ∷ ls) = onward (line_in st l) (λ _. answers tt)

-- Line m is the first that offends, with the number k: all lines before it are carried out, and it is refused with k.
pub record Offends (st : State) (ps : List (List ℕ)) (m k : ℕ) : Type 0 where
  pub before : List (List ℕ)
  pub line : List ℕ
  pub after : List (List ℕ)
  pub order : ps ≡ before ++ (line ∷ after)
  pub reached : State
  pub carried : lines_on st before ≡ answers reached
  pub number : m ≡ next reached.run
  pub why : Reason
  pub wrong : wrong_with reached line after ≡ refuses why
  pub refusal : k ≡ why.number

-- No line offends: all are carried out, there is one where no bar is given before, and nothing stands behind the last newline.
pub record NoneOffends (st : State) (ps : List (List ℕ)) (end : State) : Type 0 where
  pub lines : List (List ℕ)
  pub order : ps ≡ lines ++ ([] ∷ [])
  pub carried : lines_on st lines ≡ answers end
  pub some : is_empty end.run ≡ false

-- ---- lines that are cuts

-- the cut of a line; an arc where it is none
unfoldable pub cut_in : Line → Cut
cut_in (Cutting u) = u
cut_in (Bar spec) = cut.Arc
cut_in (Removing q) = cut.Arc
cut_in line.Arc = cut.Arc
cut_in Bad = cut.Arc

-- the line is a cut
abbrev pub IsCut : List ℕ → Type 0
IsCut l = line_of l ≡ Cutting (cut_in (line_of l))

-- as a tool
abbrev pub line_cutter : List ℕ → Cutter
line_cutter l = single (cut_in (line_of l))

-- the job's own cells and generation
abbrev pub own_of : State → Committed
own_of st = record { cells = cells_of_job st.run.job st.cells; generation = st.run.job.stock.stamp.generation }
