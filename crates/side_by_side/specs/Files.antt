-- What is written of two files, by what each tells: the first's refusal, else the second's, else 24 or 11, else the chunks. Assumes nothing.
use Rattle.std.specs.Prelude.{ℕ, ◌*◌, List, take, Float}
use Rattle.refusals.specs.Paper.{Paper, answers, refuses}
use Rattle.lines.specs.File.{joined}
use Rattle.stock_file.specs.declared.Kept.{Kept}
use Rattle.stock_file.specs.Read.{file_in, read_of}
use Rattle.side_by_side.specs.Compared.{Side, side, compared_of}
use Rattle.side_by_side.specs.Refused.{refused_with, reason_numbers, file_refused}

-- a file as it was read: what it tells, and the lent room
pub record Told : Type 0 where
  pub tells : Paper Kept
  pub cells : List Float
  pub rings : List Float

-- the stock's part of the room
abbrev pub side_of : Kept → Told → Side
side_of k f = side (take (4 * k.cells) f.cells) f.rings k.stock.rings

-- the chunks joined, or the line of the refusal
abbrev pub compared_text : Paper (List (List ℕ)) → List ℕ
compared_text (answers l) = joined l
compared_text (refuses r) = refused_with (reason_numbers r)

-- the second file, where the first tells the stock k
abbrev pub second_text : Kept → Told → Paper Kept → Told → List ℕ
second_text k f (refuses r) g = file_refused 2 (refuses r)
second_text k f (answers j) g = compared_text (compared_of k.stock.spec (side_of k f) j.stock.spec (side_of j g))

abbrev pub first_text : Paper Kept → Told → Told → List ℕ
first_text (refuses r) f g = file_refused 1 (refuses r)
first_text (answers k) f g = second_text k f g.tells g

-- all that is written
abbrev pub files_text : Told → Told → List ℕ
files_text f g = first_text f.tells f g

-- a whole file, read in a lent room
abbrev pub told_of : ℕ → List Float → List Float → List ℕ → Told
told_of most cs rs s = record { tells = read_of most cs rs s; cells = (file_in cs rs s).cells; rings = (file_in cs rs s).rings }
