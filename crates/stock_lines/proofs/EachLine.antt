-- Each kind of line: read after write, write after read, and no two lines for the same numbers. Assumes nothing.
use Rattle.std.proofs.Common.{◌≡◌, ℕ, suc, ◌^◌, ◌<◌, true, List, [], ◌∷◌, ◌++◌, length, get_or, take, drop, sym, refl, ap, ◌∙◌, append_assoc, arith, length-append, Option, Some, None}
use lib.Ieee.{Float, nan}
use Rattle.std.proofs.lemmas.Option.{same_Some}
use Rattle.text.specs.Same.{same_bytes}
use Rattle.text.specs.Lines.{newline, ring_line}
use Rattle.text.proofs.Spelling.{digits-length}
use Rattle.text.proofs.Distinct.{cancel, digits-distinct, decimal-distinct}
use Rattle.stock_lines.specs.declared.Bar.{Bar}
use Rattle.stock_lines.specs.declared.form.Four.{Four}
use Rattle.stock_lines.specs.Form.{Line, holds, other, form_of, line_of, fields_text, cell_prefix, ring_prefix, end_text, kept_cell_line, end_line, four, four_of, five_of, bar_numbers}
use Rattle.text.proofs.Compare.{same_self, same_true}
use Rattle.stock_lines.proofs.Forms.{Keeps, NoNan, line-parted, line-back, line-spelled, fields-count, fields-then}

-- ---- a line and its newline

pub same-before : (x y : List ℕ) → x ++ newline ≡ y ++ newline → x ≡ y
same-before x y e =
    let n : length x ≡ length y = omega (arith, length-append x newline, length-append y newline, ap length e) in
    (cancel x y newline newline n e).left

-- the writer's line of some numbers, parted from its newline
written : (p s : List ℕ) (xs : List Float) → s ++ newline ≡ p ++ fields_text xs newline → s ≡ p ++ fields_text xs []
written p s xs e =
    let f : p ++ fields_text xs newline ≡ (p ++ fields_text xs []) ++ newline =
    ap (λ (y : List ℕ). p ++ y) (sym (fields-then xs newline)) ∙ sym (append_assoc p (fields_text xs []) newline) in
    same-before s (p ++ fields_text xs []) (e ∙ f)

writes : (p s : List ℕ) (xs : List Float) → s ≡ p ++ fields_text xs [] → s ++ newline ≡ p ++ fields_text xs newline
writes p s xs e =
    ap (λ (y : List ℕ). y ++ newline) e ∙ append_assoc p (fields_text xs []) newline ∙ ap (λ (y : List ℕ). p ++ y) (fields-then xs newline)

-- read after write, whatever the kind
pub reads : (p s : List ℕ) (xs : List Float) → Keeps xs → s ++ newline ≡ p ++ fields_text xs newline → line_of p (length xs) s ≡ holds xs
reads p s xs k e = ap (line_of p (length xs)) (written p s xs e) ∙ line-back p xs k

-- write after read, whatever the kind
pub spells : (p : List ℕ) (k : ℕ) (s : List ℕ) (xs : List Float) → NoNan xs → line_of p k s ≡ holds xs → s ++ newline ≡ p ++ fields_text xs newline
spells p k s xs n e = writes p s xs (line-spelled p k s xs e n)

-- ---- lines of four numbers, and of five

list-of-four : (xs : List Float) → length xs ≡ 4 → xs ≡ get_or xs 0 nan ∷ get_or xs 1 nan ∷ get_or xs 2 nan ∷ get_or xs 3 nan ∷ []
list-of-four [] e = absurd (omega arith)
list-of-four (a ∷ []) e = absurd (omega arith)
list-of-four (a ∷ b ∷ []) e = absurd (omega arith)
list-of-four (a ∷ b ∷ c ∷ []) e = absurd (omega arith)
list-of-four (a ∷ b ∷ c ∷ d ∷ []) e = refl
list-of-four (a ∷ b ∷ c ∷ d ∷ f ∷ xs) e = absurd (omega arith)

list-of-five : (xs : List Float) → length xs ≡ 5 → xs ≡ get_or xs 0 nan ∷ get_or xs 1 nan ∷ get_or xs 2 nan ∷ get_or xs 3 nan ∷ get_or xs 4 nan ∷ []
list-of-five [] e = absurd (omega arith)
list-of-five (a ∷ []) e = absurd (omega arith)
list-of-five (a ∷ b ∷ []) e = absurd (omega arith)
list-of-five (a ∷ b ∷ c ∷ []) e = absurd (omega arith)
list-of-five (a ∷ b ∷ c ∷ d ∷ []) e = absurd (omega arith)
list-of-five (a ∷ b ∷ c ∷ d ∷ f ∷ []) e = refl
list-of-five (a ∷ b ∷ c ∷ d ∷ f ∷ g ∷ xs) e = absurd (omega arith)

four-holds : (p s : List ℕ) (a b c d : Float) → four_of (line_of p 4 s) ≡ four a b c d → line_of p 4 s ≡ holds (a ∷ b ∷ c ∷ d ∷ [])
unfolding four_of
four-holds p s a b c d e = by (line_of p 4 s) refl
  where
    by : (l : Line) → line_of p 4 s ≡ l → line_of p 4 s ≡ holds (a ∷ b ∷ c ∷ d ∷ [])
    by other f =
        let g : ◌≡◌ {A = Option Four} None (four a b c d) = sym (ap four_of f) ∙ e in
        let z : ◌≡◌ {A = ℕ} 0 1 = cc in
        absurd (omega arith)
    by (holds xs) f =
        let g : ◌≡◌ {A = Four} (record { a = get_or xs 0 nan; b = get_or xs 1 nan; c = get_or xs 2 nan; d = get_or xs 3 nan }) (record { a = a; b = b; c = c; d = d }) = same_Some _ _ (sym (ap four_of f) ∙ e) in
        let n : length xs ≡ 4 = fields-count 4 _ xs (line-parted p 4 s xs f).fields in
        f ∙ ap holds (list-of-four xs n ∙ ap (λ (x : Four). x.a ∷ x.b ∷ x.c ∷ x.d ∷ []) g)

pub five-holds : (p s : List ℕ) (b : Bar) → five_of (line_of p 5 s) ≡ Some b → line_of p 5 s ≡ holds (bar_numbers b)
unfolding five_of
five-holds p s b e = by (line_of p 5 s) refl
  where
    by : (l : Line) → line_of p 5 s ≡ l → line_of p 5 s ≡ holds (bar_numbers b)
    by other f =
        let g : ◌≡◌ {A = Option Bar} None (Some b) = sym (ap five_of f) ∙ e in
        let z : ◌≡◌ {A = ℕ} 0 1 = cc in
        absurd (omega arith)
    by (holds xs) f =
        let g : ◌≡◌ {A = Bar} (record { z_min_mm = get_or xs 0 nan; z_max_mm = get_or xs 1 nan; outer_radius_mm = get_or xs 2 nan; bore_radius_mm = get_or xs 3 nan; cell_mm = get_or xs 4 nan }) b = same_Some _ _ (sym (ap five_of f) ∙ e) in
        let n : length xs ≡ 5 = fields-count 5 _ xs (line-parted p 5 s xs f).fields in
        f ∙ ap holds (list-of-five xs n ∙ ap bar_numbers g)

-- ---- a cell's line

module _ (form : ℕ) (a b c d : Float) where
  pub cell-reads : (i : ℕ) (s : List ℕ) → Keeps (a ∷ b ∷ c ∷ d ∷ []) → s ++ newline ≡ kept_cell_line form i a b c d → four_of (line_of (cell_prefix form i) 4 s) ≡ four a b c d
  unfolding kept_cell_line four_of
  cell-reads i s k e = ap four_of (reads (cell_prefix form i) s (a ∷ b ∷ c ∷ d ∷ []) k e)

  pub cell-spelled : (i : ℕ) (s : List ℕ) → NoNan (a ∷ b ∷ c ∷ d ∷ []) → four_of (line_of (cell_prefix form i) 4 s) ≡ four a b c d → s ++ newline ≡ kept_cell_line form i a b c d
  unfolding kept_cell_line
  cell-spelled i s n e = spells (cell_prefix form i) 4 s (a ∷ b ∷ c ∷ d ∷ []) n (four-holds (cell_prefix form i) s a b c d e)

  pub cell-unique : (i : ℕ) (s t : List ℕ) → NoNan (a ∷ b ∷ c ∷ d ∷ [])
      → four_of (line_of (cell_prefix form i) 4 s) ≡ four a b c d → four_of (line_of (cell_prefix form i) 4 t) ≡ four a b c d → s ≡ t
  cell-unique i s t n e f = same-before s t (cell-spelled i s n e ∙ sym (cell-spelled i t n f))

-- ---- a ring's line, which is a job's

module _ (a b c d : Float) where
  pub ring-reads : (s : List ℕ) → Keeps (a ∷ b ∷ c ∷ d ∷ []) → s ++ newline ≡ ring_line a b c d → four_of (line_of ring_prefix 4 s) ≡ four a b c d
  unfolding ring_line fields_text four_of
  ring-reads s k e = ap four_of (reads ring_prefix s (a ∷ b ∷ c ∷ d ∷ []) k e)

  pub ring-spelled : (s : List ℕ) → NoNan (a ∷ b ∷ c ∷ d ∷ []) → four_of (line_of ring_prefix 4 s) ≡ four a b c d → s ++ newline ≡ ring_line a b c d
  unfolding ring_line fields_text
  ring-spelled s n e = spells ring_prefix 4 s (a ∷ b ∷ c ∷ d ∷ []) n (four-holds ring_prefix s a b c d e)

  pub ring-unique : (s t : List ℕ) → NoNan (a ∷ b ∷ c ∷ d ∷ [])
      → four_of (line_of ring_prefix 4 s) ≡ four a b c d → four_of (line_of ring_prefix 4 t) ≡ four a b c d → s ≡ t
  ring-unique s t n e f = same-before s t (ring-spelled s n e ∙ sym (ring-spelled t n f))

-- ---- the last line

pub end_reads : (n : ℕ) (s : List ℕ) → s ++ newline ≡ end_line n → same_bytes s (end_text n) ≡ true
unfolding end_line
end_reads n s e = ap (λ (y : List ℕ). same_bytes y (end_text n)) (same-before s (end_text n) e) ∙ same_self (end_text n)

pub end-spelled : (n : ℕ) (s : List ℕ) → same_bytes s (end_text n) ≡ true → s ++ newline ≡ end_line n
unfolding end_line
end-spelled n s e = ap (λ (y : List ℕ). y ++ newline) (same_true s (end_text n) e)

-- an end line tells one count
pub end-count : (n m : ℕ) (s : List ℕ) → n < 18446744073709551616 → m < 18446744073709551616
    → same_bytes s (end_text n) ≡ true → same_bytes s (end_text m) ≡ true → n ≡ m
end-count n m s h k e f =
    decimal-distinct n m h k (ap (drop 4) (sym (same_true s (end_text n) e) ∙ same_true s (end_text m) f))

-- ---- what a line tells besides

-- a cell's line is of one index
pub cell-index : (form i j k l : ℕ) (s : List ℕ) (xs ys : List Float) → i < 10 ^ (form_of form).digits → j < 10 ^ (form_of form).digits
    → line_of (cell_prefix form i) k s ≡ holds xs → line_of (cell_prefix form j) l s ≡ holds ys → i ≡ j
cell-index form i j k l s xs ys h g e f =
    let u : take (length (cell_prefix form i)) s ≡ cell_prefix form i = (line-parted (cell_prefix form i) k s xs e).front in
    let v : take (length (cell_prefix form j)) s ≡ cell_prefix form j = (line-parted (cell_prefix form j) l s ys f).front in
    let n : length (cell_prefix form i) ≡ length (cell_prefix form j) = ap (λ (y : ℕ). suc (suc (suc (suc (suc y))))) (digits-length 10 (form_of form).digits i ∙ sym (digits-length 10 (form_of form).digits j)) in
    let w : cell_prefix form i ≡ cell_prefix form j = sym u ∙ ap (λ (y : ℕ). take y s) n ∙ v in
    digits-distinct 10 (form_of form).digits i j (omega arith) (omega arith) h g (ap (drop 5) w)

-- the first byte tells the kind: `s`, `c`, `r` and `e` are four
pub first_byte : (b : ℕ) (p : List ℕ) (k : ℕ) (s : List ℕ) (xs : List Float) → line_of (b ∷ p) k s ≡ holds xs → get_or s 0 0 ≡ b
first_byte b p k [] xs e = let w = (line-parted (b ∷ p) k [] xs e).front in ap (λ (y : List ℕ). get_or y 0 0) w
first_byte b p k (x ∷ s) xs e = let w = (line-parted (b ∷ p) k (x ∷ s) xs e).front in ap (λ (y : List ℕ). get_or y 0 0) w
