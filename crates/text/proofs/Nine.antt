-- A fraction's first nine decimals, one at a time. Assumes nothing.
use Rattle.std.proofs.Common.{◌≡◌, ℕ, ◌+◌, ◌*◌, ◌/◌, ◌%◌, ◌^◌, ◌<◌, ◌≤◌, Bool, true, false, ◌||◌, eqb, ltb, sym, refl, ap, ◌∙◌, mod-eq_of_lt, mul_assoc, pow-suc, add-one, arith, ltb-false, ltb-true, le-ltb, lt-ltb, eq-eqb, ne_eqb}
use native.Mathlib.Nat.{pow-le-pow_right, mul-add-div_right, mul-add-mod_self_right, div-eq_of_lt}
use Rattle.floats.specs.Pick.{pick, pick_true, pick-false}
use Rattle.text.specs.Nearest.{rounds_up, nearest_of}

-- so many of 2 ^ -42 are 1
abbrev U : ℕ
U = 2 ^ 42

-- one digit more
pub digit-on : (n d k : ℕ) → n < 10 ^ k → d < 10 → n * 10 + d < 10 ^ (k + 1)
digit-on n d k h e = rw (add-one, pow-suc) (omega arith)

-- of at most nine digits
pub nine-most : (n k : ℕ) → n < 10 ^ k → k ≤ 9 → n < 1000000000
nine-most n k h e =
    let p : 10 ^ k ≤ 10 ^ 9 = pow-le-pow_right (omega arith) e in
    omega arith

-- what ten times a fraction has before its point
pub digit-least : (h l : ℕ) → h < U → l < U → (h * 10 + l * 10 / U) / U < 10
digit-least h l e f =
    let g : l * 10 / U < 10 = omega arith in
    omega arith

pub nine-fits : (n d : ℕ) → n < 1000000000 → d < 10 → n * 10 + d < 18446744073709551616
nine-fits n d h e = omega arith

-- ten times a number that has n before its point and two halves behind it
above : (n h q : ℕ) → (n * 10 + (h * 10 + q) / U) * U + (h * 10 + q) % U ≡ (n * U + h) * 10 + q
above n h q = omega arith

below : (a l : ℕ) → (a * 10 + l * 10 / U) * U + l * 10 % U ≡ (a * U + l) * 10
below a l = omega arith

pub ten-times : (n h l : ℕ) → ((n * 10 + (h * 10 + l * 10 / U) / U) * U + (h * 10 + l * 10 / U) % U) * U + l * 10 % U ≡ ((n * U + h) * U + l) * 10
ten-times n h l = ap (λ (x : ℕ). x * U + l * 10 % U) (above n h (l * 10 / U)) ∙ below (n * U + h) l

pub power-on : (f k s : ℕ) → s ≡ f * 10 ^ k → s * 10 ≡ f * 10 ^ (k + 1)
power-on f k s e = rw (add-one, pow-suc) (ap (λ (x : ℕ). x * 10) e ∙ mul_assoc f (10 ^ k) 10)

-- half as many
abbrev H : ℕ
H = 2 ^ 41

abbrev up : ℕ → ℕ → ℕ → Bool
up h l n = rounds_up (h * U + l) (U * U) n

other_at : (h l n : ℕ) (t : Bool) → ltb H h ≡ t → l < U → (h ≡ H → ⊥) → t ≡ up h l n
unfolding rounds_up
other_at h l n true e f g =
    let p : H < h = ltb-true _ _ e in
    let q : U * U < (h * U + l) * 2 = omega arith in
    simp (lt-ltb (U * U) ((h * U + l) * 2) q)
other_at h l n false e f g =
    let p : h ≤ H = ltb-false _ _ e in
    let q : (h * U + l) * 2 < U * U = omega arith in
    simp (le-ltb (U * U) ((h * U + l) * 2) (omega arith), ne_eqb ((h * U + l) * 2) (U * U) (λ s. omega arith))

-- what the upper half tells
pub up-other : (h l n : ℕ) → l < U → (h ≡ H → ⊥) → ltb H h ≡ up h l n
up-other h l n f g = other_at h l n (ltb H h) refl f g

half_at : (h l n : ℕ) (t : Bool) → ltb 0 l ≡ t → h ≡ H → (t || eqb (n % 2) 1) ≡ up h l n
unfolding rounds_up
half_at h l n true e g =
    let p : 0 < l = ltb-true _ _ e in
    let q : U * U < (h * U + l) * 2 = omega arith in
    simp (lt-ltb (U * U) ((h * U + l) * 2) q)
half_at h l n false e g =
    let p : l ≤ 0 = ltb-false _ _ e in
    let q : (h * U + l) * 2 ≡ U * U = omega arith in
    simp (le-ltb (U * U) ((h * U + l) * 2) (omega arith), eq-eqb ((h * U + l) * 2) (U * U) q)

-- what the lower half tells
pub up-half : (h l n : ℕ) → h ≡ H → (ltb 0 l || eqb (n % 2) 1) ≡ up h l n
up-half h l n g = half_at h l n (ltb 0 l) refl g

-- nine digits, and what is left
module _ (f n h l : ℕ) (eh : h < U) (el : l < U) (e : (n * U + h) * U + l ≡ f * 10 ^ 9) where
  split : f * 10 ^ 9 ≡ n * (U * U) + (h * U + l)
  split = sym e ∙ omega arith

  small : h * U + l < U * U
  small = omega arith

  whole : f * 10 ^ 9 / (U * U) ≡ n
  whole =
      ap (λ (x : ℕ). x / (U * U)) split ∙ mul-add-div_right (omega arith) n (h * U + l) ∙ ap (λ (x : ℕ). n + x) (div-eq_of_lt small) ∙ omega arith

  left : f * 10 ^ 9 % (U * U) ≡ h * U + l
  left = ap (λ (x : ℕ). x % (U * U)) split ∙ mul-add-mod_self_right n (U * U) (h * U + l) ∙ mod-eq_of_lt small

  nearest : nearest_of (f * 10 ^ 9) (U * U) ≡ pick (up h l n) (n + 1) n
  unfolding nearest_of
  nearest = rw (whole, left)

  pub rounded-up : up h l n ≡ true → n + 1 ≡ nearest_of (f * 10 ^ 9) (U * U)
  rounded-up t = sym (nearest ∙ pick_true _ _ _ t)

  pub rounded-down : up h l n ≡ false → n ≡ nearest_of (f * 10 ^ 9) (U * U)
  rounded-down t = sym (nearest ∙ pick-false _ _ _ t)

-- the last turn's sum
pub nine-turns : (f k s : ℕ) → k ≤ 9 → 9 ≤ k → s ≡ f * 10 ^ k → s ≡ f * 10 ^ 9
nine-turns f k s h i e =
    let n : k ≡ 9 = omega arith in
    e ∙ ap (λ (x : ℕ). f * 10 ^ x) n
