-- The form of a line of a stock file: the writer's own prefix, then exactly k times a tab and 16 digits; the first line goes on with its edition. Assumes nothing.
use Rattle.std.specs.Prelude.{ℕ, zero, suc, ◌+◌, ◌≤◌, Bool, false, List, [], ◌∷◌, ◌++◌, length, take, drop, ◌==◌, nat_le, slice_index_or, Float, None, Option, Some}
use Rattle.std.specs.Float.{nan}
use Rattle.floats.specs.Pick.{pick}
use Rattle.text.specs.Same.{same_bytes}
use Rattle.text.specs.Digits.{digits, decimal_of, hex_of}
use Rattle.text.specs.Lines.{newline}
use Rattle.text.specs.Hex.{field_of}
use Rattle.stock_lines.specs.declared.Bar.{Bar}
use Rattle.stock_lines.specs.declared.form.Form.{Form}
use Rattle.stock_lines.specs.declared.form.Four.{Four}

-- the numbers of a line, or that it is not of the form
pub data Line : Type 0 where
  holds : List Float → Line
  other : Line

-- a number before those of the rest
unfoldable pub with_first : Option Float → Line → Line
with_first (Some x) (holds xs) = holds (x ∷ xs)
with_first (Some x) other = other
with_first None l = other

-- exactly k times a tab and 16 digits
unfoldable pub fields_of : ℕ → List ℕ → Line
fields_of zero [] = holds []
fields_of zero (b ∷ s) = other
fields_of (suc k) s = with_first (field_of s) (fields_of k (drop 17 s))

-- a line without its newline: the prefix p, and then k numbers
unfoldable pub line_of : List ℕ → ℕ → List ℕ → Line
line_of p k s = pick (same_bytes (take (length p) s) p) (fields_of k (drop (length p) s)) other

-- the prefix p, and then so many bytes
unfoldable pub begins_with : List ℕ → ℕ → List ℕ → Bool
begins_with p n s = pick (length s == length p + n) (same_bytes (take (length p) s) p) false

-- numbers as they are written, each with its tab before it, and then t
unfoldable pub fields_text : List Float → List ℕ → List ℕ
fields_text [] t = t
fields_text (x ∷ xs) t = (9 ∷ hex_of x) ++ fields_text xs t

-- the cells that a file with four digits has at most
abbrev pub few_cells : ℕ
few_cells = 4096

-- The forms by their number: the digits of an index, how many cell lines there are at least and at most, and whether the first line has an edition. Form 1 has none; form 3 is that of more cells than the others have, as many as five digits count.
unfoldable pub form_of : ℕ → Form
form_of k = record { digits = pick (nat_le 3 k) 5 4; least = pick (nat_le 3 k) (few_cells + 1) 0; most = pick (nat_le 3 k) 100000 few_cells; edition = nat_le 2 k }

-- a file of form k can have n cell lines
pub record Counts (k n : ℕ) : Type 0 where
  pub least : (form_of k).least ≤ n
  pub most : n ≤ (form_of k).most

-- the form that a stock of n cells is written in
unfoldable pub written_form : ℕ → ℕ
written_form n = pick (nat_le n few_cells) 2 3

-- `stock` and the form's number, in one digit
abbrev pub stock_prefix : ℕ → List ℕ
stock_prefix k = 115 ∷ 116 ∷ 111 ∷ 99 ∷ 107 ∷ 9 ∷ digits 10 1 k

-- `cell` and the index, in the digits of form k
abbrev pub cell_prefix : ℕ → ℕ → List ℕ
cell_prefix k i = 99 ∷ 101 ∷ 108 ∷ 108 ∷ 9 ∷ digits 10 (form_of k).digits i

abbrev pub ring_prefix : List ℕ
ring_prefix = 114 ∷ 105 ∷ 110 ∷ 103 ∷ []

-- `end` and the count of the lines before it
abbrev pub end_text : ℕ → List ℕ
end_text n = 101 ∷ 110 ∷ 100 ∷ 9 ∷ decimal_of n

-- the numbers of a bar, in its order
abbrev pub bar_numbers : Bar → List Float
bar_numbers b = b.z_min_mm ∷ b.z_max_mm ∷ b.outer_radius_mm ∷ b.bore_radius_mm ∷ b.cell_mm ∷ []

-- the field of an edition, in a form that has one: a tab and 8 digits
unfoldable pub edition_text : ℕ → ℕ → List ℕ
edition_text k e = pick (form_of k).edition (9 ∷ digits 16 8 e) []

-- the first line in form k, without its newline
abbrev pub stock_text : ℕ → Bar → ℕ → List ℕ
stock_text k b e = stock_prefix k ++ fields_text (bar_numbers b) (edition_text k e)

-- the writer's lines, in form k
unfoldable pub stock_line : ℕ → Bar → ℕ → List ℕ
stock_line k b e = stock_text k b e ++ newline

unfoldable pub kept_cell_line : ℕ → ℕ → Float → Float → Float → Float → List ℕ
kept_cell_line k i a b c d = cell_prefix k i ++ fields_text (a ∷ b ∷ c ∷ d ∷ []) newline

unfoldable pub end_line : ℕ → List ℕ
end_line n = end_text n ++ newline

-- four numbers, as a line of a cell or of a ring holds them
abbrev pub four : Float → Float → Float → Float → Option Four
four a b c d = Some (record { a = a; b = b; c = c; d = d })

-- the numbers of a line of four
unfoldable pub four_of : Line → Option Four
four_of (holds xs) = four (slice_index_or xs 0 nan) (slice_index_or xs 1 nan) (slice_index_or xs 2 nan) (slice_index_or xs 3 nan)
four_of other = None

-- the bar of a line of five
unfoldable pub five_of : Line → Option Bar
five_of (holds xs) = Some (record { z_min_mm = slice_index_or xs 0 nan; z_max_mm = slice_index_or xs 1 nan; outer_radius_mm = slice_index_or xs 2 nan; bore_radius_mm = slice_index_or xs 3 nan; cell_mm = slice_index_or xs 4 nan })
five_of other = None
