-- Digits written from the last to the first; how many there are. Assumes nothing.
use Rattle.std.proofs.Common.{◌≡◌, ℕ, zero, suc, ◌+◌, ◌-◌, ◌/◌, ◌%◌, ◌<◌, ◌≤◌, Bool, true, false, eqb, List, [], ◌∷◌, length, set, refl, ap, ◌∙◌, arith, length-append, le-ltb, lt-ltb, eq-eqb, ne_eqb}
use lib.Ieee.{Float, binary64, to_bits}
use lib.Seq.{sets}
use Rattle.text.proofs.Chosen.{yes, no}
use Rattle.text.specs.Digits.{glyph_of, digits, more, decimal_of, hex_of}
use Rattle.text.specs.Lines.{field, four_fields}
use Rattle.text.proofs.Sets.{set-sets, sets-append}

pub digits-length : (b k n : ℕ) → length (digits b k n) ≡ k
unfolding digits
digits-length b zero n = refl
digits-length b (suc k) n = length-append (digits b k (n / b)) (glyph_of (n % b) ∷ []) ∙ (let e : length (digits b k (n / b)) ≡ k = digits-length b k (n / b) in omega arith)

pub glyph-low : (d : ℕ) → d < 10 → glyph_of d ≡ 48 + d
glyph-low d h = simp (lt-ltb _ _ h, yes)

pub glyph-high : (d : ℕ) → 10 ≤ d → glyph_of d ≡ 55 + d
glyph-high d h = simp (le-ltb _ _ h, no)

step : (b k n at : ℕ) (l : List ℕ) → sets l at (digits b (suc k) n) ≡ sets (set l (at + k) (glyph_of (n % b))) at (digits b k (n / b))
unfolding digits
step b k n at l =
    let w : length (digits b k (n / b)) ≡ k = digits-length b k (n / b) in
    sets-append (digits b k (n / b)) (glyph_of (n % b) ∷ []) l at
    ∙ ap (λ (x : ℕ). set (sets l at (digits b k (n / b))) (at + x) (glyph_of (n % b))) w
    ∙ set-sets (digits b k (n / b)) l at (at + k) (glyph_of (n % b)) (omega arith)

pub spell-step : (b i n at g : ℕ) (l : List ℕ) → 0 < i → g ≡ glyph_of (n % b)
    → sets l at (digits b i n) ≡ sets (set l (at + (i - 1)) g) at (digits b (i - 1) (n / b))
spell-step b zero n at g l h e = absurd (omega arith)
spell-step b (suc k) n at g l h e =
    let w : suc k - 1 ≡ k = omega arith in
    rw (w, e) (step b k n at l)

pub spell-end : (b i n at : ℕ) (l : List ℕ) → i ≤ 0 → sets l at (digits b i n) ≡ l
unfolding digits
spell-end b zero n at l h = refl
spell-end b (suc k) n at l h = absurd (omega arith)

pub more-none : (k n : ℕ) → n ≡ 0 → more k n ≡ 0
unfolding more
more-none zero n e = refl
more-none (suc k) n e = simp (eq-eqb _ _ e, yes)

pub more-step : (k n : ℕ) → 0 < k → (n ≡ 0 → ⊥) → more k n ≡ suc (more (k - 1) (n / 10))
unfolding more
more-step zero n h e = absurd (omega arith)
more-step (suc k) n h e = let w : suc k - 1 ≡ k = omega arith in rw w (simp (ne_eqb _ _ e, no))

pub more-end : (k n : ℕ) → k ≤ 0 → more k n ≡ 0
unfolding more
more-end zero n h = refl
more-end (suc k) n h = absurd (omega arith)

pub places-step : (k n : ℕ) → k < 19 → (n ≡ 0 → ⊥) → more (19 - k) n ≡ suc (more (19 - (k + 1)) (n / 10))
places-step k n h e =
    let w : 19 - k - 1 ≡ 19 - (k + 1) = omega arith in
    more-step (19 - k) n (omega arith) e ∙ ap (λ (x : ℕ). suc (more x (n / 10))) w

-- ---- how long a number is

more-le : (k n : ℕ) → more k n ≤ k
unfolding more
more-le zero n = omega arith
more-le (suc k) n = by (eqb n 0) refl (more-le k (n / 10))
  where
    by : (t : Bool) → eqb n 0 ≡ t → more k (n / 10) ≤ k → more (suc k) n ≤ suc k
    by true e h = simp (e, yes) (omega arith)
    by false e h = simp (e, no) (omega arith)

-- 20 digits at most
pub decimal-short : (n : ℕ) → length (decimal_of n) ≤ 20
unfolding decimal_of
decimal-short n = omega (arith, digits-length 10 (suc (more 19 (n / 10))) n, more-le 19 (n / 10))

pub hex-long : (x : Float) → length (hex_of x) ≡ 16
unfolding hex_of
hex-long x = digits-length 16 16 (to_bits binary64 x)

pub field-long : (x : Float) → length (field x) ≡ 17
field-long x = ap suc (hex-long x)

pub four-long : (a b c d : Float) → length (four_fields a b c d) ≡ 69
four-long a b c d = simp (length-append, hex-long)
