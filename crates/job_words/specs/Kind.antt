-- What a job line says. Assumes nothing.
use Rattle.std.specs.Prelude.{◌≡◌, ℕ, ◌+◌, ◌<◌, Bool, true, false, List, [], ◌∷◌, length, drop, ◌==◌, from_bits, slice_index_or, Float, None, Option, Some, is_some}
use Rattle.std.specs.Float.{nan, binary64}
use Rattle.floats.specs.Pick.{pick}
use Rattle.text.specs.Parts.{parted_at}
use Rattle.text.specs.Same.{same_bytes}
use Rattle.job_words.specs.Number.{field_number}
use Rattle.stock.specs.declared.TurnSide.{TurnSide}
use Rattle.stock.specs.declared.TurnSide.TheVariants.{Outer, Inner}
use Rattle.cuts.specs.declared.Cut.TheVariants.{Line, Thread, ThreadInner, Drill}
use Rattle.rings.specs.Ring.{ring}
use Rattle.job_words.specs.declared.Line.{Line as JobLine}
use Rattle.job_words.specs.declared.Line.TheVariants.{Bar, Cutting, Removing, Arc, Bad}

-- a bar has 512 cells at most
abbrev pub most_cells : ℕ
most_cells = 512

-- a line parted by tabs
abbrev pub fields_of : List ℕ → List (List ℕ)
fields_of s = parted_at 9 s

abbrev pub is_mm : Option Float → Bool
is_mm (Some x) = true
is_mm None = false

abbrev pub mm_of : Option Float → Float
mm_of (Some x) = x
mm_of None = from_bits binary64 0

-- the field at i as millimetres; 0 where it is no number
unfoldable pub at : List (List ℕ) → ℕ → Float
at fs i = mm_of (field_number (slice_index_or fs i []))

-- every field is a number
unfoldable pub all_numbers : List (List ℕ) → Bool
all_numbers [] = true
all_numbers (f ∷ fs) = pick (is_mm (field_number f)) (all_numbers fs) false

-- from the field at k on, exactly n fields, every one a number
unfoldable pub numbers : List (List ℕ) → ℕ → ℕ → Bool
numbers fs k n = pick (length fs == k + n) (all_numbers (drop k fs)) false

-- the numbers of these fields, in order, where they are all numbers; else none
pub record NumbersRead (fs : List (List ℕ)) (k n : ℕ) (r : Option (List Float)) : Type 0 where
  pub are : is_some r ≡ numbers fs k n
  pub each : (xs : List Float) → r ≡ Some xs → (i : ℕ) → i < n → slice_index_or xs i nan ≡ at fs (k + i)

-- ---- the words of a line

abbrev pub word_bar : List ℕ
word_bar = 98 ∷ 97 ∷ 114 ∷ []

abbrev pub word_line : List ℕ
word_line = 108 ∷ 105 ∷ 110 ∷ 101 ∷ []

abbrev pub word_outer : List ℕ
word_outer = 111 ∷ 117 ∷ 116 ∷ 101 ∷ 114 ∷ []

abbrev pub word_inner : List ℕ
word_inner = 105 ∷ 110 ∷ 110 ∷ 101 ∷ 114 ∷ []

abbrev pub word_thread : List ℕ
word_thread = 116 ∷ 104 ∷ 114 ∷ 101 ∷ 97 ∷ 100 ∷ 95 ∷ 99 ∷ 117 ∷ 116 ∷ []

abbrev pub word_thread_inner : List ℕ
word_thread_inner = 116 ∷ 104 ∷ 114 ∷ 101 ∷ 97 ∷ 100 ∷ 95 ∷ 99 ∷ 117 ∷ 116 ∷ 95 ∷ 105 ∷ 110 ∷ 110 ∷ 101 ∷ 114 ∷ []

abbrev pub word_drill : List ℕ
word_drill = 100 ∷ 114 ∷ 105 ∷ 108 ∷ 108 ∷ []

abbrev pub word_ring : List ℕ
word_ring = 114 ∷ 105 ∷ 110 ∷ 103 ∷ []

abbrev pub word_arc : List ℕ
word_arc = 97 ∷ 114 ∷ 99 ∷ []

-- ---- the kinds of a line

-- `bar` z_min z_max outer bore cell
unfoldable pub bar_of : List (List ℕ) → JobLine
bar_of fs = pick (numbers fs 1 5) (Bar (record { z_min_mm = at fs 1; z_max_mm = at fs 2; outer_radius_mm = at fs 3; bore_radius_mm = at fs 4; cell_mm = at fs 5; max_cells = most_cells })) Bad

-- `line` side rn sag a_r a_z b_r b_z
unfoldable pub nose_on : List (List ℕ) → TurnSide → JobLine
nose_on fs side = pick (numbers fs 2 6) (Cutting (Line side (at fs 2) (at fs 3) (at fs 4) (at fs 5) (at fs 6) (at fs 7))) Bad

unfoldable pub nose_of : List (List ℕ) → JobLine
nose_of fs =
    pick (same_bytes (slice_index_or fs 1 []) word_outer) (nose_on fs Outer)
    (pick (same_bytes (slice_index_or fs 1 []) word_inner) (nose_on fs Inner) Bad)

-- `thread_cut` z0 z1 r
unfoldable pub thread_of : List (List ℕ) → JobLine
thread_of fs = pick (numbers fs 1 3) (Cutting (Thread (at fs 1) (at fs 2) (at fs 3))) Bad

-- `thread_cut_inner` z0 z1 r
unfoldable pub thread_inner_of : List (List ℕ) → JobLine
thread_inner_of fs = pick (numbers fs 1 3) (Cutting (ThreadInner (at fs 1) (at fs 2) (at fs 3))) Bad

-- `drill` tip r cone
unfoldable pub drill_of : List (List ℕ) → JobLine
drill_of fs = pick (numbers fs 1 3) (Cutting (Drill (at fs 1) (at fs 2) (at fs 3))) Bad

-- `ring` z0 z1 r0 r1
unfoldable pub ring_of : List (List ℕ) → JobLine
ring_of fs = pick (numbers fs 1 4) (Removing (ring (at fs 1) (at fs 2) (at fs 3) (at fs 4))) Bad

-- by the first field; `arc` with anything
unfoldable pub kind_of : List (List ℕ) → JobLine
kind_of fs =
    pick (same_bytes (slice_index_or fs 0 []) word_arc) Arc
    (pick (same_bytes (slice_index_or fs 0 []) word_bar) (bar_of fs)
    (pick (same_bytes (slice_index_or fs 0 []) word_line) (nose_of fs)
    (pick (same_bytes (slice_index_or fs 0 []) word_thread) (thread_of fs)
    (pick (same_bytes (slice_index_or fs 0 []) word_thread_inner) (thread_inner_of fs)
    (pick (same_bytes (slice_index_or fs 0 []) word_drill) (drill_of fs)
    (pick (same_bytes (slice_index_or fs 0 []) word_ring) (ring_of fs) Bad))))))

-- a job line without its newline
unfoldable pub line_of : List ℕ → JobLine
line_of s = kind_of (fields_of s)
