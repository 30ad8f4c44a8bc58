-- Read after write: the file of numbers that can be kept leaves those numbers in a room that reaches. Assumes nothing.
use Prim.Native.Nat.{ℕ, zero, suc, ◌+◌, ◌-◌, ◌*◌, ◌/◌, ◌^◌, ◌≤◌, ◌<◌}
use native.Mathlib.Omega.{arith}
use mathlib.Core.Path.{◌≡◌, refl, sym, ap, ◌∙◌}
use mathlib.Core.List.{List, [], ◌∷◌, ◌++◌, append_assoc}
use lib.ListN.{length, get_or, length-append}
use lib.Seq.{sets}
use lib.Ieee.{Float, nan}
use Rattle.refusals.specs.Lent.{over}
use Rattle.refusals.proofs.Written.{over_none, over-more, length_over}
use Rattle.floats.specs.Pick.{pick_true, pick-false}
use Rattle.text.specs.Lines.{newline, ring_line}
use Rattle.text.proofs.Spelling.{decimal-short}
use Rattle.lines.specs.File as file
use Rattle.lines.specs.Hands.{Hand, hand, takes}
use Rattle.lines.proofs.Parts.{parts}
use Rattle.lines.proofs.OneFile.{whole-file}
use Rattle.stock_lines.specs.Form.{Counts, fields_text, bar_numbers, cell_prefix, ring_prefix, end_text, stock_text, stock_line, kept_cell_line, end_line}
use Rattle.stock_lines.specs.Reading.{State, state, on_line}
use Rattle.stock_lines.specs.First.{CanSay}
use Rattle.stock_lines.proofs.Forms.{Keeps, fields-then, fields-text-long}
use Rattle.stock_lines.proofs.Steps.{few-lines, cell-short}
use Rattle.stock_lines.proofs.Firsts.{first-few}
use Rattle.stock_file.specs.Read.{fresh_reading, stopped, on_long, on_end, file_in}
use Rattle.stock_file.specs.Write.{Opening, cell_at, ring_at, line_at, lines_to, file_of}
use Rattle.stock_file.proofs.Newlines.{ring-free, cell_free, end-free, first-free}
use Rattle.stock_file.proofs.LineSteps.{line_taken, most, reading, first_step, cell-step, ring-step, end_step}
use Rattle.stock_file.proofs.Lined.{first-line, cell-line, ring-line, last_line}
use Rattle.stock_file.proofs.Cut.{long-stops}

-- the four numbers at i
abbrev pub four_at : List Float → ℕ → List Float
four_at xs i = get_or xs (4 * i) nan ∷ get_or xs (4 * i + 1) nan ∷ get_or xs (4 * i + 2) nan ∷ get_or xs (4 * i + 3) nan ∷ []

-- the first fours
unfoldable pub fours_to : List Float → ℕ → List Float
fours_to xs zero = []
fours_to xs (suc i) = fours_to xs i ++ four_at xs i

pub fours-long : (xs : List Float) (i : ℕ) → length (fours_to xs i) ≡ 4 * i
unfolding fours_to
fours-long xs zero = refl
fours-long xs (suc i) = omega (arith, length-append (fours_to xs i) (four_at xs i), fours-long xs i)

-- one more four, put behind those that are there
fours-more : (xs b : List Float) (i : ℕ) → 4 * i + 4 ≤ length b → sets (over (fours_to xs i) b) (4 * i) (four_at xs i) ≡ over (fours_to xs (suc i)) b
unfolding fours_to
fours-more xs b i h =
    ap (λ (k : ℕ). sets (over (fours_to xs i) b) k (four_at xs i)) (sym (fours-long xs i))
    ∙ over-more (fours_to xs i) (four_at xs i) b (omega (arith, fours-long xs i))

fours-room : (xs b : List Float) (i : ℕ) → 4 * i + 4 ≤ length b → i < length (over (fours_to xs i) b) / 4
fours-room xs b i h = omega (arith, length_over (fours_to xs i) b (omega (arith, fours-long xs i)))

-- ---- the text of a line

pub with_newline : (p : List ℕ) (xs : List Float) → (p ++ fields_text xs []) ++ newline ≡ p ++ fields_text xs newline
with_newline p xs = append_assoc p (fields_text xs []) newline ∙ ap (λ (y : List ℕ). p ++ y) (fields-then xs newline)

-- ---- line by line

pub record Kept (b : Opening) (cs : List Float) (n : ℕ) (rs : List Float) (m : ℕ) : Type 0 where
  pub says : CanSay b.form b.edition
  pub bar : Keeps (bar_numbers b.bar)
  pub cells : (i : ℕ) → i < n → Keeps (four_at cs i)
  pub rings : (i : ℕ) → i < m → Keeps (four_at rs i)
  pub counts : Counts b.form n
  pub few-rings : m ≤ 256

module _ (b : Opening) (cs : List Float) (n : ℕ) (rs : List Float) (m : ℕ) (kept : Kept b cs n rs m) (C R : List Float) (room : 4 * n ≤ length C) (space : 4 * m ≤ length R) where
  abbrev took : ℕ → Hand State
  took k = takes stopped on_line on_long (hand (state fresh_reading C R) []) (lines_to (line_at b cs n rs m) k)

  -- one line more
  next : (k k' : ℕ) (st : State) (l : List ℕ) → k' ≡ suc k → took k ≡ hand st [] → takes stopped on_line on_long (hand st []) (line_at b cs n rs m k) ≡ hand (on_line st l) [] → took k' ≡ hand (on_line st l) []
  unfolding lines_to
  next k k' st l e h q =
      ap took e
      ∙ parts stopped on_line on_long (lines_to (line_at b cs n rs m) k) (line_at b cs n rs m k) (hand (state fresh_reading C R) [])
      ∙ ap (λ (j : Hand State). takes stopped on_line on_long j (line_at b cs n rs m k)) h
      ∙ q

  first : took 1 ≡ hand (state (reading b 1 0 0 1) C R) []
  unfolding lines_to stock_line
  first =
      let l : List ℕ = stock_text b.form b.bar b.edition in
      line_taken l (line_at b cs n rs m 0) (state fresh_reading C R) (first-free b.form b.edition b.bar) refl (first-few b.form b.edition b.bar) (first-line b cs n rs m 0 refl)
      ∙ ap (λ (st : State). hand st []) (first_step b C R l kept.says kept.bar refl)

  cells : (i k : ℕ) → i ≤ n → k ≡ i + 1 → took k ≡ hand (state (reading b 1 i 0 k) (over (fours_to cs i) C) R) []
  unfolding fours_to kept_cell_line
  cells zero k h e =
      let q : k ≡ 1 = omega arith in
      ap took q
      ∙ first
      ∙ ap (λ (x : ℕ). hand (state (reading b 1 0 0 x) C R) []) (sym q)
      ∙ ap (λ (x : List Float). hand (state (reading b 1 0 0 k) x R) []) (sym (over_none C))
  cells (suc i) k h e =
      let j : ℕ = i + 1 in
      let st : State = state (reading b 1 i 0 j) (over (fours_to cs i) C) R in
      let l : List ℕ = cell_prefix b.form i ++ fields_text (four_at cs i) [] in
      let w : l ++ newline ≡ cell_at b.form cs i = with_newline (cell_prefix b.form i) (four_at cs i) in
      let long : length l ≤ 127 = omega (arith, length-append (cell_prefix b.form i) (fields_text (four_at cs i) []), cell-short b.form i, fields-text-long (four_at cs i)) in
      let z : i ≡ j - 1 = omega arith in
      let y : j - 1 < n = omega arith in
      let few : j + 1 < 2 ^ 64 = omega (arith, kept.counts.most, few-lines b.form) in
      let lt : i < n = omega arith in
      let lots : i < (most b) = omega (arith, kept.counts.most) in
      let wide : 4 * i + 4 ≤ length C = omega arith in
      let q : takes stopped on_line on_long (hand st []) (line_at b cs n rs m j) ≡ hand (on_line st l) [] =
      line_taken l (line_at b cs n rs m j) st (cell_free b.form i (four_at cs i)) refl long (w ∙ ap (cell_at b.form cs) z ∙ cell-line b cs n rs m j (λ v. omega arith) y) in
      let o : k ≡ suc j = omega arith in
      let u : j + 1 ≡ k = omega arith in
      let v : i + 1 ≡ suc i = omega arith in
      next j k st l o (cells i j (omega arith) refl) q
      ∙ ap (λ (x : State). hand x []) (cell-step b i 0 j (over (fours_to cs i) C) R l few _ _ _ _ refl lots (fours-room cs C i wide) (kept.cells i lt) w)
      ∙ ap (λ (x : ℕ). hand (state (reading b 1 x 0 (j + 1)) (sets (over (fours_to cs i) C) (4 * i) (four_at cs i)) R) []) v
      ∙ ap (λ (x : ℕ). hand (state (reading b 1 (suc i) 0 x) (sets (over (fours_to cs i) C) (4 * i) (four_at cs i)) R) []) u
      ∙ ap (λ (x : List Float). hand (state (reading b 1 (suc i) 0 k) x R) []) (fours-more cs C i wide)

  rings : (i k : ℕ) → i ≤ m → k ≡ n + 1 + i → took k ≡ hand (state (reading b 1 n i k) (over (fours_to cs n) C) (over (fours_to rs i) R)) []
  unfolding fours_to ring_line fields_text
  rings zero k h e = cells n k (omega arith) (omega arith) ∙ ap (λ (x : List Float). hand (state (reading b 1 n 0 k) (over (fours_to cs n) C) x) []) (sym (over_none R))
  rings (suc i) k h e =
      let j : ℕ = n + 1 + i in
      let D : List Float = over (fours_to cs n) C in
      let st : State = state (reading b 1 n i j) D (over (fours_to rs i) R) in
      let l : List ℕ = ring_prefix ++ fields_text (four_at rs i) [] in
      let w : l ++ newline ≡ ring_at rs i = with_newline ring_prefix (four_at rs i) in
      let long : length l ≤ 127 = omega (arith, length-append ring_prefix (fields_text (four_at rs i) []), fields-text-long (four_at rs i)) in
      let z : i ≡ j - 1 - n = omega arith in
      let y : j - 1 - n < m = omega arith in
      let few : j + 1 < 2 ^ 64 = omega (arith, kept.counts.most, few-lines b.form, kept.few-rings) in
      let lt : i < m = omega arith in
      let lots : i < 256 = omega (arith, kept.few-rings) in
      let wide : 4 * i + 4 ≤ length R = omega arith in
      let q : takes stopped on_line on_long (hand st []) (line_at b cs n rs m j) ≡ hand (on_line st l) [] =
      line_taken l (line_at b cs n rs m j) st (ring-free (four_at rs i)) refl long (w ∙ ap (ring_at rs) z ∙ ring-line b cs n rs m j (λ v. omega arith) (omega arith) y) in
      let o : k ≡ suc j = omega arith in
      let u : j + 1 ≡ k = omega arith in
      let v : i + 1 ≡ suc i = omega arith in
      next j k st l o (rings i j (omega arith) refl) q
      ∙ ap (λ (x : State). hand x []) (ring-step b n i j D (over (fours_to rs i) R) l few _ _ _ _ kept.counts.least lots (fours-room rs R i wide) (kept.rings i lt) w (λ v. omega arith))
      ∙ ap (λ (x : ℕ). hand (state (reading b 1 n x (j + 1)) D (sets (over (fours_to rs i) R) (4 * i) (four_at rs i))) []) v
      ∙ ap (λ (x : ℕ). hand (state (reading b 1 n (suc i) x) D (sets (over (fours_to rs i) R) (4 * i) (four_at rs i))) []) u
      ∙ ap (λ (x : List Float). hand (state (reading b 1 n (suc i) k) D x) []) (fours-more rs R i wide)

  -- what is left behind `end`
  abbrev left : State
  left = state (reading b 2 n m (n + m + 2)) (over (fours_to cs n) C) (over (fours_to rs m) R)

  last : took (n + m + 2) ≡ hand left []
  unfolding end_line
  last =
      let j : ℕ = n + 1 + m in
      let D : List Float = over (fours_to cs n) C in
      let S : List Float = over (fours_to rs m) R in
      let st : State = state (reading b 1 n m j) D S in
      let l : List ℕ = end_text j in
      let h = decimal-short j in
      let long : length l ≤ 127 = omega arith in
      let few : j + 1 < 2 ^ 64 = omega (arith, kept.counts.most, few-lines b.form, kept.few-rings) in
      let y : j - 1 - n ≡ m = omega arith in
      let q : takes stopped on_line on_long (hand st []) (line_at b cs n rs m j) ≡ hand (on_line st l) [] =
      line_taken l (line_at b cs n rs m j) st (end-free j) refl long (last_line b cs n rs m j (λ v. omega arith) (omega arith) (omega arith) y) in
      let o : n + m + 2 ≡ suc j = omega arith in
      let u : j + 1 ≡ n + m + 2 = omega arith in
      next j (n + m + 2) st l o (rings m j (omega arith) refl) q
      ∙ ap (λ (x : State). hand x []) (end_step b n m j D S l few kept.counts.least refl (λ v. omega arith) (λ v. omega arith))
      ∙ ap (λ (x : ℕ). hand (state (reading b 2 n m x) D S) []) u

  -- READ AFTER WRITE: the file, read in a room that reaches, leaves its form, its edition, its bar, its counts and its numbers, and the rest of the room as it was
  pub reads-back : file_in C R (file_of b cs n rs m) ≡ left
  unfolding file_of file.ended
  reads-back =
      sym (whole-file stopped on_line on_long on_end long-stops (file_of b cs n rs m) (state fresh_reading C R))
      ∙ ap (λ (j : Hand State). file.ended stopped on_long on_end j.job j.held) last
      ∙ pick-false _ _ _ refl
      ∙ pick_true _ _ _ refl
      ∙ pick-false _ _ _ refl
