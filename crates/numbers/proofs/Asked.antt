-- Which lengths are refused: exactly those that 01's rule refuses, with the same number, for any two values: `length-refuses-as-before`. Assumes nothing.
use Rattle.std.proofs.Common.{◌≡◌, ℕ, ◌+◌, ◌*◌, ◌^◌, ◌<◌, ◌≤◌, Bool, true, false, not, T, ltb, ◌⊎◌, ◌↔◌, ℤ, negsuc, sym, refl, ap, ◌∙◌, subst, inl, inr, le_trans, le_of_eq, lt_of_lt_of_le, lt_of_le_of_lt, le_of_lt, mul-le-mul_right, mul_assoc, mul_comm, mul-le-mul, mul-le-mul_left, mul-pos, one-mul, zero-mul, mul-one, mul_right_comm, arith, lit<, lit≤, ltb→lt, nltb→le, pow_pos, pow-add}
use lib.Ieee.{Float, nan, inf, fin, binary64, up, down, neg, lt, le, round, mul, unlike, of_bits, of_fields, odd}
use lib.Ieee.Fits.{and_l, and_r, down_pos}
use Rattle.refusals.specs.Paper.{Paper, Reason, answers, refuses, onward-answers}
use Rattle.floats.specs.Pick.{pick, pick_true, pick-false}
use Rattle.floats.specs.Numbers.{◌+₆₄◌, ◌*₆₄◌, size_of}
use Rattle.floats.specs.Kinds.{Within}
use Rattle.floats.proofs.Keys.{top}
use Rattle.floats.proofs.Rounded.{rounded, number-round, mag-round, key-round, rounded-mono, snap-pow}
use Rattle.floats.proofs.Signed.{zero+, to-nonneg}
use Rattle.floats.proofs.Within.{finite-within, within, within-add}
use Rattle.numbers.specs.Length.{tiny_below, scale_up, scale_down, tiny_parts, plain_length, scaled_back, length_of}
use Rattle.numbers.proofs.Units.{add-nonneg}
use Rattle.numbers.proofs.Sizes.{root-answers}
use Rattle.numbers.proofs.Ruled.{within-squared, plain-answers, no-refusal}
use Rattle.numbers.proofs.Tiny.{up_is}

-- ---- a value below 2 ^ -400 in size, which the format need not hold
-- m * 2 ^ e is below it
abbrev Low : ℕ → ℤ → Type 0
Low m e = m * up e * 2 ^ 400 < down e

data Tiny : Float → Type 0 where
  tiny : (s : Bool) (m : ℕ) (e : ℤ) → Low m e → Tiny (fin s m e)

some-low : (a d : ℕ) → a * 2 ^ 400 < 1 * 1 * d → a * 2 ^ 400 < d
some-low a d h = lt_of_lt_of_le h (le_of_eq (ap (λ (n : ℕ). n * d) (mul-one 1) ∙ one-mul d))

no-low : (a d : ℕ) → 0 < d → a ≡ 0 → a * 2 ^ 400 < d
no-low a d p e = subst (λ (n : ℕ). n * 2 ^ 400 < d) (sym e) (lt_of_le_of_lt (le_of_eq (zero-mul (2 ^ 400))) p)

tiny-value : (x : Float) → T (lt (size_of x) tiny_below) → Tiny x
tiny-value nan h = absurd (unfold size_of pick lt neg in h)
tiny-value (inf true) h = absurd (unfold size_of pick lt neg of_bits of_fields odd in h)
tiny-value (inf false) h = absurd (unfold size_of pick lt neg of_bits of_fields odd in h)
tiny-value (fin true m e) h = tiny true m e (unfold size_of pick lt neg of_bits of_fields odd in go (ltb 0 (m * up e * 1 + 0 * 1 * down e)) refl h)
  where
    go : (b : Bool) → ltb 0 (m * up e * 1 + 0 * 1 * down e) ≡ b → T (lt (pick b (fin false m e) (fin true m e)) (fin false 1 (negsuc 399))) → Low m e
    go true q h = some-low (m * up e) (down e) (unfold pick lt in ltb→lt (m * up e * 2 ^ 400) (1 * 1 * down e) h)
    go false q h = no-low (m * up e) (down e) (down_pos e) (none (m * up e) (down e) (nltb→le 0 (m * up e * 1 + 0 * 1 * down e) (subst (λ (b : Bool). T (not b)) (sym q) tt)))
      where
        none : (a d : ℕ) → a * 1 + 0 * 1 * d ≤ 0 → a ≡ 0
        none a d h = omega arith
tiny-value (fin false m e) h = tiny false m e (unfold size_of pick lt neg of_bits of_fields odd in go (ltb (m * up e * 1) (0 * 1 * down e)) refl h)
  where
    go : (b : Bool) → ltb (m * up e * 1) (0 * 1 * down e) ≡ b → T (lt (pick b (fin true m e) (fin false m e)) (fin false 1 (negsuc 399))) → Low m e
    go true q h = absurd (over (m * up e) (down e) (ltb→lt (m * up e * 1) (0 * 1 * down e) (subst T (sym q) tt)))
      where
        over : (a d : ℕ) → a * 1 < 0 * 1 * d → ⊥
        over a d h = omega arith
    go false q h = some-low (m * up e) (down e) (unfold pick lt in ltb→lt (m * up e * 2 ^ 400) (1 * 1 * down e) h)

-- ---- what is rounded is as small
-- a / c is at most 2 ^ k
round-within : (k : ℕ) (s : Bool) (a c : ℕ) → k ≤ 1023 → 0 < c → a ≤ 2 ^ k * c → Within binary64 k (round binary64 s a c)
round-within k s a c r C h =
    within r (number-round binary64 s a c)
    (le_trans (le_of_eq (mag-round binary64 s a c))
    (le_trans (rounded-mono binary64 a c (2 ^ (k + 1074)) (2 ^ 1074) C (pow_pos 1074) (le_trans (mul-le-mul_right (2 ^ 1074) h) (le_of_eq (mul_right_comm (2 ^ k) c (2 ^ 1074) ∙ ap (λ (n : ℕ). n * c) (sym (pow-add 2 k 1074))))))
    (le_of_eq (snap-pow binary64 (k + 1074) (room k r)))))
  where
    room : (k : ℕ) → k ≤ 1023 → k + 1074 ≤ 2097
    room k h = omega arith

round-nonneg : (a c : ℕ) → T (le zero+ (round binary64 false a c))
round-nonneg a c = to-nonneg (number-round binary64 false a c) (above (top binary64) (rounded binary64 a c) (key-round binary64 false a c))
  where
    above : (o a : ℕ) {k : ℕ} → k ≡ o + a → o ≤ k
    above o a h = omega arith

low-most : (m : ℕ) (e : ℤ) → Low m e → m * up e ≤ down e
low-most m e h = le_trans (le_of_eq (sym (mul-one (m * up e)))) (le_trans (mul-le-mul_left (m * up e) (pow_pos 400)) (le_of_lt h))

-- the square of m * 2 ^ e, rounded
low-square : (m : ℕ) (e : ℤ) → Low m e → Within binary64 0 (round binary64 false (m * up e * (m * up e)) (down e * down e)) × T (le zero+ (round binary64 false (m * up e * (m * up e)) (down e * down e)))
low-square m e h =
    let most = low-most m e h in (
      round-within 0 false (m * up e * (m * up e)) (down e * down e) (lit≤ tt) (mul-pos (down_pos e) (down_pos e)) (le_trans (mul-le-mul most most) (le_of_eq (sym (one-mul (down e * down e))))),
      round-nonneg (m * up e * (m * up e)) (down e * down e),
    )

-- the square of a tiny value
tiny-square : {x : Float} → Tiny x → Within binary64 0 (x *₆₄ x) × T (le zero+ (x *₆₄ x))
unfolding mul
tiny-square (tiny true m e h) = low-square m e h
tiny-square (tiny false m e h) = low-square m e h

-- scaled up
tiny-scaled : {x : Float} → Tiny x → Within binary64 200 (x *₆₄ scale_up)
tiny-scaled (tiny s m e h) = subst (λ (z : Float). Within binary64 200 (fin s m e *₆₄ z)) (sym up_is) (unfold mul in round-within 200 (unlike s false) (m * up e * (1 * 2 ^ 600)) (down e * 1) (lit≤ tt) (mul-pos (down_pos e) (pow_pos 0)) (scaled (m * up e) (down e) h))
  where
    scaled : (a d : ℕ) → a * 2 ^ 400 < d → a * (1 * 2 ^ 600) ≤ 2 ^ 200 * (d * 1)
    scaled a d h =
        le_trans (le_of_eq (ap (λ (n : ℕ). a * n) (one-mul (2 ^ 600) ∙ pow-add 2 400 200) ∙ sym (mul_assoc a (2 ^ 400) (2 ^ 200))))
        (le_trans (mul-le-mul_right (2 ^ 200) (le_of_lt h)) (le_of_eq (mul_comm d (2 ^ 200) ∙ ap (λ (n : ℕ). 2 ^ 200 * n) (sym (mul-one d)))))

-- ---- the law
-- there is an answer
abbrev pub Answered : Paper Float → Type 0
Answered p = (l : Float) × (p ≡ answers l)

-- a length is 01's, or both rules answer
abbrev pub AsBefore : Float → Float → Type 0
AsBefore x y = (length_of x y ≡ plain_length x y) ⊎ (Answered (length_of x y) × Answered (plain_length x y))

module _ (x y : Float) where
  both-tiny : tiny_parts x y ≡ true → Tiny x × Tiny y
  unfolding tiny_parts
  both-tiny t =
      let a = lt (size_of x) tiny_below in
      let b = lt (size_of y) tiny_below in
      let u = subst T (sym t) tt in
      (tiny-value x (and_l a b u), tiny-value y (and_r a b u))

  plain-answered : tiny_parts x y ≡ true → Answered (plain_length x y)
  unfolding plain_length
  plain-answered t =
      let u = both-tiny t in
      let a = tiny-square u.0 in
      let b = tiny-square u.1 in
      root-answers (x *₆₄ x +₆₄ y *₆₄ y) (finite-within (within-add a.0 b.0 (lit< tt))) (add-nonneg (finite-within a.0) (finite-within b.0) a.1 b.1)

  answered : tiny_parts x y ≡ true → Answered (length_of x y)
  unfolding length_of scaled_back
  answered t =
      let u = both-tiny t in
      let a = plain-answers (within-squared (tiny-scaled u.0) (tiny-scaled u.1)) in
      (a.0 *₆₄ scale_down, pick_true (tiny_parts x y) (scaled_back (plain_length (x *₆₄ scale_up) (y *₆₄ scale_up))) (plain_length x y) t ∙ ap scaled_back a.1 ∙ onward-answers a.0 (λ l. answers (l *₆₄ scale_down)))

  pub length-as-before : AsBefore x y
  unfolding length_of
  length-as-before = go (tiny_parts x y) refl
    where
      go : (b : Bool) → tiny_parts x y ≡ b → AsBefore x y
      go true t = inr (answered t, plain-answered t)
      go false t = inl (pick-false (tiny_parts x y) (scaled_back (plain_length (x *₆₄ scale_up) (y *₆₄ scale_up))) (plain_length x y) t)

  -- a length is refused exactly where 01's rule refuses it, with the same number
  pub length-refuses-as-before : (n : Reason) → (length_of x y ≡ refuses n) ↔ (plain_length x y ≡ refuses n)
  length-refuses-as-before n = go length-as-before
    where
      go : AsBefore x y → (length_of x y ≡ refuses n) ↔ (plain_length x y ≡ refuses n)
      go (inl e) = (λ h. sym e ∙ h, λ h. e ∙ h)
      go (inr a) = (λ h. absurd (no-refusal n a.0.0 (sym a.0.1 ∙ h)), λ h. absurd (no-refusal n a.1.0 (sym a.1.1 ∙ h)))
