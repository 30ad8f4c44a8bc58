-- A profile as its lines come: `profile` first, then points, to the first line that is refused. Assumes nothing.
use Rattle.std.specs.Prelude.{◌≡◌, ℕ, ◌+◌, ◌*◌, ◌%◌, ◌^◌, Bool, not, List, [], ◌∷◌, ◌++◌, length, take, ◌==◌, nat_lt, Float}
use Rattle.refusals.specs.Lent.{Lent}
use Rattle.floats.specs.Pick.{pick}
use Rattle.floats.specs.Numbers.{zero64}
use Rattle.stock.specs.declared.TurnSide.TheVariants.{Outer}
use Rattle.lines.specs.File.{over_pieces, pieces_of, ended}
use Rattle.lines.specs.Hands.{Hand, hand, byte_on, takes}
use Rattle.chop_lines.specs.declared.words.Words.{Words}
use Rattle.chop_lines.specs.declared.words.Words.TheVariants.{Head, Corner, Bad}
use Rattle.chop_lines.specs.declared.scan.Scan.{Scan}
use Rattle.chop_lines.specs.declared.scan.Taken.{Taken}
use Rattle.chop_lines.specs.Words.{words_of}

-- what was read: the first line's words, how many lines, the refusal or 0; and the numbers of the points, three each
pub record State : Type 0 where
  pub scan : Scan
  pub points : List Float

abbrev pub state : Scan → List Float → State
state s ps = record { scan = s; points = ps }

-- before the first line
abbrev pub fresh_scan : Scan
fresh_scan = record { side = Outer; rn = zero64; tolerance = zero64; lines = 0; refused = 0 }

abbrev pub fresh : State
fresh = state fresh_scan []

-- ---- a line

-- the number of the next line
abbrev pub next : Scan → ℕ
next s = (s.lines + 1) % 2 ^ 64

-- the next line is 15
abbrev pub refusing : Scan → Scan
refusing s = record { side = s.side; rn = s.rn; tolerance = s.tolerance; lines = next s; refused = 15 }

-- the next line is taken
abbrev pub onward : Scan → Scan
onward s = record { side = s.side; rn = s.rn; tolerance = s.tolerance; lines = next s; refused = 0 }

-- the first is `profile`
abbrev pub first_line : Scan → Words → Scan
first_line s (Head side rn tol) = record { side = side; rn = rn; tolerance = tol; lines = next s; refused = 0 }
first_line s (Corner r z b) = refusing s
first_line s Bad = refusing s

-- 257 points are kept, one more than a profile has at most
unfoldable pub kept : List Float → Float → Float → Float → List Float
kept ps r z b = pick (nat_lt (length ps) 771) (ps ++ (r ∷ z ∷ b ∷ [])) ps

-- the others are points
abbrev pub later_line : State → Words → State
later_line st (Corner r z b) = state (onward st.scan) (kept st.points r z b)
later_line st (Head side rn tol) = state (refusing st.scan) st.points
later_line st Bad = state (refusing st.scan) st.points

unfoldable pub on_line : State → List ℕ → State
on_line st s = pick (st.scan.lines == 0) (state (first_line st.scan (words_of s)) st.points) (later_line st (words_of s))

-- a line that is too long, or that the input's end cuts off
abbrev pub on_long : State → State
on_long st = state (refusing st.scan) st.points

-- no line
abbrev pub on_end : State → State
on_end st = pick (st.scan.lines == 0) (on_long st) st

-- a refused line is the last
abbrev pub stopped : State → Bool
stopped st = not (st.scan.refused == 0)

-- ---- a whole file
abbrev pub scan_of : List ℕ → State
scan_of s = over_pieces stopped on_line on_long on_end fresh (pieces_of s)

-- ---- the same as the bytes come, the points at the front of lent numbers and the unfinished line at that of lent bytes. No reader has to believe the rest: what is read is `scan_of` of the bytes.

-- room for 257 points, and for a line with its newline
pub record ScanRoom (xs : List Float) (l : List ℕ) : Type 0 where
  pub numbers : length xs ≡ 771
  pub line : length l ≡ 128

abbrev pub in_hand : Scan → List Float → ℕ → List ℕ → ℕ → Hand State
in_hand s xs n l len = hand (state s (take (3 * n) xs)) (take len l)

abbrev pub found : Taken → Lent Float → Lent ℕ → Hand State
found t numbers line = in_hand t.scan numbers.entry.now t.points line.entry.now t.len

abbrev pub left : Taken → Lent Float → Lent ℕ → Hand State
left t numbers line = in_hand t.scan numbers.exit.now t.points line.exit.now t.len

abbrev pub byte_to : Hand State → ℕ → Hand State
byte_to j b = byte_on stopped on_line on_long j b

abbrev pub bytes_to : Hand State → List ℕ → Hand State
bytes_to j s = takes stopped on_line on_long j s

abbrev pub is_at_end : Hand State → State
is_at_end j = ended stopped on_long on_end j.job j.held

-- the scan at the input's end, where so many bytes of an unfinished line are held
unfoldable pub finish_of : Scan → ℕ → Scan
finish_of s n =
    pick (not (s.refused == 0)) s
    (pick (not (n == 0)) (refusing s)
    (pick (s.lines == 0) (refusing s) s))
