-- Every field from one on is a number. Assumes nothing.
use Rattle.std.proofs.Common.{◌≡◌, ℕ, ◌+◌, ◌<◌, ◌≤◌, true, false, List, [], length, get_or, drop, set, sym, ap, ◌∙◌, add-one, arith, drop_of_length-le, drop-cons, get_or-set_other, get_or-set_same, below_more, eq-eqb, ne_eqb, None, Some}
use lib.Ieee.{Float, nan}
use Rattle.text.proofs.Chosen.{yes, no}
use Rattle.job_words.specs.Number.{field_number}
use Rattle.floats.specs.Pick.{pick_true}
use Rattle.stock.specs.declared.TurnSide.{TurnSide}
use Rattle.cuts.specs.declared.Cut.TheVariants.{Line}
use Rattle.job_words.specs.declared.Line.TheVariants.{Bar, Cutting}
use Rattle.job_words.specs.Kind.{most_cells, mm_of, at, all_numbers, numbers, bar_of, nose_on}

pub numbers-other : (fs : List (List ℕ)) (k n m : ℕ) → m ≡ length fs → (m ≡ k + n → ⊥) → numbers fs k n ≡ false
unfolding numbers
numbers-other fs k n m q e = simp (← q, ne_eqb _ _ e, no)

pub numbers-start : (fs : List (List ℕ)) (k n m : ℕ) → m ≡ length fs → m ≡ k + n → numbers fs k n ≡ all_numbers (drop (k + 0) fs)
unfolding numbers
numbers-start fs k n m q e =
    let z : k ≡ k + 0 = omega arith in
    simp (← q, eq-eqb _ _ e, yes) (ap (λ (i : ℕ). all_numbers (drop i fs)) z)

-- the field at i is none
pub all-no : (fs : List (List ℕ)) (i : ℕ) → i < length fs → field_number (get_or fs i []) ≡ None → all_numbers (drop i fs) ≡ false
unfolding all_numbers
all-no fs i h e = rw (drop-cons fs i [] h) (simp (e, no))

-- it is one
pub all-step : (fs : List (List ℕ)) (k i : ℕ) {x : Float} → k + i < length fs → field_number (get_or fs (k + i) []) ≡ Some x
    → all_numbers (drop (k + i) fs) ≡ all_numbers (drop (k + (i + 1)) fs)
unfolding all_numbers
all-step fs k i h e =
    let z : k + i + 1 ≡ k + (i + 1) = omega arith in
    rw (← z, add-one (k + i), drop-cons fs (k + i) [] h) (simp (e, yes))

pub all_end : (fs : List (List ℕ)) (i : ℕ) → length fs ≤ i → all_numbers (drop i fs) ≡ true
unfolding all_numbers
all_end fs i h = rw (drop_of_length-le fs h)

-- one number more at the front of a list
pub each_more : (fs : List (List ℕ)) (xs : List Float) (k i : ℕ) {x : Float} → i < length xs → field_number (get_or fs (k + i) []) ≡ Some x
    → ((j : ℕ) → j < i → get_or xs j nan ≡ at fs (k + j)) → (j : ℕ) → j < i + 1 → get_or (set xs i x) j nan ≡ at fs (k + j)
unfolding at
each_more fs xs k i {x} h e f =
    below_more (λ (j : ℕ). get_or (set xs i x) j nan ≡ at fs (k + j)) i
    (λ j l. get_or-set_other xs i j x nan (λ q. omega arith) ∙ f j l)
    (get_or-set_same xs i x nan h ∙ sym (ap mm_of e))

-- ---- lines of five and of six numbers

pub bar-is : (fs : List (List ℕ)) (xs : List Float) → numbers fs 1 5 ≡ true → ((i : ℕ) → i < 5 → get_or xs i nan ≡ at fs (1 + i))
    → Bar (record { z_min_mm = get_or xs 0 nan; z_max_mm = get_or xs 1 nan; outer_radius_mm = get_or xs 2 nan; bore_radius_mm = get_or xs 3 nan; cell_mm = get_or xs 4 nan; max_cells = most_cells })
    ≡ bar_of fs
unfolding bar_of
bar-is fs xs t e = rw (e 0 (omega arith), e 1 (omega arith), e 2 (omega arith), e 3 (omega arith), e 4 (omega arith)) (sym (pick_true _ _ _ t))

pub nose-is : (fs : List (List ℕ)) (xs : List Float) (side : TurnSide) → numbers fs 2 6 ≡ true → ((i : ℕ) → i < 6 → get_or xs i nan ≡ at fs (2 + i))
    → Cutting (Line side (get_or xs 0 nan) (get_or xs 1 nan) (get_or xs 2 nan) (get_or xs 3 nan) (get_or xs 4 nan) (get_or xs 5 nan)) ≡ nose_on fs side
unfolding nose_on
nose-is fs xs side t e =
    rw (e 0 (omega arith), e 1 (omega arith), e 2 (omega arith), e 3 (omega arith), e 4 (omega arith), e 5 (omega arith)) (sym (pick_true _ _ _ t))
