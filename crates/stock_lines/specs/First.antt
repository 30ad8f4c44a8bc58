-- The first line of a stock file read: its form, its bar, and its edition. Assumes nothing.
use Rattle.std.specs.Prelude.{ℕ, ◌<◌, List, length, take, drop, ◌==◌, slice_index, None, Option, Some}
use Rattle.floats.specs.Pick.{pick}
use Rattle.text.specs.Hex.{eight_of}
use Rattle.stock_lines.specs.declared.Bar.{Bar}
use Rattle.stock_lines.specs.declared.form.First.{First}
use Rattle.stock_lines.specs.Form.{form_of, line_of, five_of, stock_prefix}

-- the form that a first line is to have: 2 or 3 where its seventh byte is `2` or `3`, and else 1
unfoldable pub form_in : List ℕ → ℕ
form_in s = pick (slice_index s 6 == 50) 2 (pick (slice_index s 6 == 51) 3 1)

-- a tab and 8 digits, and nothing else
unfoldable pub edition_field : List ℕ → Option ℕ
edition_field s = pick (slice_index s 0 == 9) (eight_of (drop 1 s)) None

-- the edition that stands behind the bar in form k; in a form that has none nothing stands there, which is edition 0
unfoldable pub edition_of : ℕ → List ℕ → Option ℕ
edition_of k s = pick (form_of k).edition (edition_field s) (pick (length s == 0) (Some 0) None)

-- what a first line says
abbrev pub first_says : ℕ → ℕ → Bar → Option First
first_says k e b = Some (record { form = k; edition = e; bar = b })

-- a first line of form k: its edition and its bar
unfoldable pub first_from : ℕ → Option ℕ → Option Bar → Option First
first_from k (Some e) (Some b) = first_says k e b
first_from k (Some e) None = None
first_from k None f = None

-- in form k: 92 bytes are `stock`, the form's number and the bar, and behind them stands the edition
unfoldable pub first_in : ℕ → List ℕ → Option First
first_in k s = first_from k (edition_of k (drop 92 s)) (five_of (line_of (stock_prefix k) 5 (take 92 s)))

-- a first line, without its newline
unfoldable pub first_of : List ℕ → Option First
first_of s = first_in (form_in s) s

-- the editions that a form can say: form 1 has 0 alone, and forms 2 and 3 any of 32 bits
pub data CanSay : ℕ → ℕ → Type 0 where
  one : CanSay 1 0
  two : {e : ℕ} → e < 4294967296 → CanSay 2 e
  three : {e : ℕ} → e < 4294967296 → CanSay 3 e
