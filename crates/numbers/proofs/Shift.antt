-- The shift that brings a number to 53 binary digits, and what `aligned_root` and `root_bits` make with it. Assumes nothing.
use Rattle.std.proofs.Common.{◌≡◌, ℕ, zero, suc, ◌+◌, ◌-◌, ◌*◌, ◌/◌, ◌%◌, ◌^◌, ◌<◌, ◌≤◌, Bool, true, false, cond, T, ltb, ◌⊎◌, sym, refl, ap, ◌∙◌, subst, ap₂, inl, inr, le_trans, le_of_eq, lt_of_lt_of_le, lt_of_le_of_lt, mul-le-mul_right, mod-lt, mod-eq_of_lt, zero-lt-suc, mul_assoc, lt_of_not-le, mul-one, not-le_of_lt, arith, lit<, lit≤, ltb→lt, pow_mono, pow-add, shl_lt}
use lib.Count.{count_leading_zeros, leading_top}
use lib.Ieee.{odd}
use Rattle.numbers.specs.Root.{whole_root, root_within}
use Rattle.numbers.specs.RootBits.{nearest_root, digits_of, aligned_root, sig_of, exp_of, Pattern}
use Rattle.numbers.proofs.Roots.{sq-le}
use Rattle.numbers.proofs.Pack.{root-low, root-high, root_in-is, read, no_nan}

pub full : (m : ℕ) → 0 < m → m < 2 ^ 53 → (11 ≤ count_leading_zeros 64 m) × ((count_leading_zeros 64 m - 11 ≤ 52) × (2 ^ 52 ≤ m * 2 ^ (count_leading_zeros 64 m - 11)) × (m * 2 ^ (count_leading_zeros 64 m - 11) < 2 ^ 53))
full m p h =
    let z = count_leading_zeros 64 m in
    let t = leading_top 64 m p (lt_of_lt_of_le h (lit≤ tt)) in
    let j = t.0 in
    let small : j < 53 = lt_of_not-le (λ (g : 53 ≤ j). not-le_of_lt h (le_trans (pow_mono g) t.2)) in
    let e : z + suc j ≡ 64 = t.1 in
    let down : j + (z - 11) ≡ 52 = omega arith in
    let up : suc j + (z - 11) ≡ 53 = omega arith in (
      omega arith,
      (
        omega arith,
        le_trans (le_of_eq (ap (λ (x : ℕ). 2 ^ x) (sym down) ∙ pow-add 2 j (z - 11))) (mul-le-mul_right (2 ^ (z - 11)) t.2),
        subst (λ (x : ℕ). m * 2 ^ (z - 11) < 2 ^ x) up (shl_lt (suc j) (z - 11) t.3),
      ),
    )

-- a shift by one bit or by none
bit : (p e : ℕ) → e < 2 → (p * 2 ^ e ≡ p) ⊎ (p * 2 ^ e ≡ p * 2)
bit p zero h = inl (mul-one p)
bit p (suc zero) h = inr refl
bit p (suc (suc e)) h = absurd (no e h)
  where
    no : (e : ℕ) → suc (suc e) < 2 → ⊥
    no e h = omega arith

-- the root of a number of 105 or 106 digits that ends in 53 zeros, if it is of 106, keeps 53 digits when it is rounded
near : (n : ℕ) → 2 ^ 104 ≤ n → n ≤ 2 ^ 106 - 2 ^ 53 → (2 ^ 52 ≤ nearest_root n) × (nearest_root n < 2 ^ 53)
unfolding nearest_root
near n lo hi = go (ltb (q * q + q) n) (ltb→lt (q * q + q) n)
  where
    q : ℕ
    q = whole_root n

    high : n < 2 ^ 106
    high = lt_of_le_of_lt hi (lit< tt)

    go : (b : Bool) → (T b → q * q + q < n) → (2 ^ 52 ≤ cond b (suc q) q) × (cond b (suc q) q < 2 ^ 53)
    go true h =
        let l : 2 ^ 52 ≤ q = root-low n lo high in
        let g : q < 2 ^ 53 - 1 = lt_of_not-le (λ (g : 2 ^ 53 - 1 ≤ q). not-le_of_lt (h tt) (le_trans hi (omega (arith, sq-le (2 ^ 53 - 1) q g)))) in
        (omega arith, omega arith)
    go false h = (root-low n lo high, root-high n lo high)

-- the root's exponent, the places that the significand is shifted by, and the significand so shifted
abbrev pub half : ℕ → ℕ → ℕ
half k z = (k + 1022 - z) / 2

abbrev pub places : ℕ → ℕ → ℕ
places k z = z + (k + 1022 - z) % 2

abbrev pub shifted : ℕ → ℕ → ℕ → ℕ
shifted b k z = (b - k * 2 ^ 52) * 2 ^ places k z

module _ (b k z : ℕ) (pos : 0 < b) (fin : b < 2047 * 2 ^ 52) (ek : k ≡ exp_of b) (ez : z ≤ 52) (lo : 2 ^ 52 ≤ (b - k * 2 ^ 52) * 2 ^ z) (hi : (b - k * 2 ^ 52) * 2 ^ z < 2 ^ 53) where
  shifted_in : (2 ^ 52 ≤ (shifted b k z)) × ((shifted b k z) ≤ 2 ^ 54 - 2)
  shifted_in =
      let m = b - k * 2 ^ 52 in
      let e : (shifted b k z) ≡ m * 2 ^ z * 2 ^ ((k + 1022 - z) % 2) = ap (λ (x : ℕ). m * x) (pow-add 2 z ((k + 1022 - z) % 2)) ∙ sym (mul_assoc m (2 ^ z) (2 ^ ((k + 1022 - z) % 2))) in
      elim (bit (m * 2 ^ z) ((k + 1022 - z) % 2) (mod-lt (k + 1022 - z) (zero-lt-suc 1))) [
        | inl f ↦ (omega arith, omega arith)
        | inr f ↦ (omega arith, omega arith)
      ]

  pub n-low : 2 ^ 104 ≤ ((shifted b k z) * 2 ^ 52)
  n-low = omega (arith, shifted_in)

  pub n-high : ((shifted b k z) * 2 ^ 52) ≤ 2 ^ 106 - 2 ^ 53
  n-high = omega (arith, shifted_in)

  pub units : (b - k * 2 ^ 52) * 2 ^ k * 2 ^ 1074 ≡ ((shifted b k z) * 2 ^ 52) * (2 ^ (half k z) * 2 ^ (half k z))
  units =
      let m = b - k * 2 ^ 52 in
      mul_assoc m (2 ^ k) (2 ^ 1074)
      ∙ ap (λ (x : ℕ). m * x) (sym (pow-add 2 k 1074) ∙ ap (λ (x : ℕ). 2 ^ x) exponents ∙ pow-add 2 ((places k z) + 52) ((half k z) + (half k z)) ∙ ap₂ (λ (x y : ℕ). x * y) (pow-add 2 (places k z) 52) (pow-add 2 (half k z) (half k z)))
      ∙ sym (mul_assoc m (2 ^ (places k z) * 2 ^ 52) (2 ^ (half k z) * 2 ^ (half k z)))
      ∙ ap (λ (x : ℕ). x * (2 ^ (half k z) * 2 ^ (half k z))) (sym (mul_assoc m (2 ^ (places k z)) (2 ^ 52)))
    where
      exponents : k + 1074 ≡ (places k z) + 52 + ((half k z) + (half k z))
      exponents = omega arith

  module _ (r : ℕ) (er : r ≡ nearest_root (shifted b k z * 2 ^ 52)) where
    r-in : (2 ^ 52 ≤ r) × (r < 2 ^ 53)
    r-in = rw er (near ((shifted b k z) * 2 ^ 52) n-low n-high)

    pub pattern_lt : (half k z) * 2 ^ 52 + r < 2047 * 2 ^ 52
    pattern_lt = omega (arith, r-in)

    pub pattern : Pattern b ((half k z) * 2 ^ 52 + r)
    pattern = record {
      number = no_nan ((half k z) * 2 ^ 52 + r) pattern_lt;
      value =
          read ((half k z) * 2 ^ 52 + r) pattern_lt
          ∙ ap₂ (λ (x y : ℕ). odd 53 false x y 1074) sig exp
          ∙ ap (λ (x : ℕ). odd 53 false x (half k z) 1074) er
          ∙ sym (root_in-is ((shifted b k z) * 2 ^ 52) n-low (lt_of_le_of_lt n-high (lit< tt)) ((b - k * 2 ^ 52) * 2 ^ k) (half k z) units)
          ∙ ap (λ (x : ℕ). root_within ((b - x * 2 ^ 52) * 2 ^ x)) ek;
    }
      where
        exp : exp_of ((half k z) * 2 ^ 52 + r) ≡ (half k z)
        exp = omega (arith, r-in)

        sig : sig_of ((half k z) * 2 ^ 52 + r) ≡ r
        sig = omega (arith, r-in, exp)

-- ---- the digits of t

module _ (t : ℕ) where
  digits_in : (2 ^ 52 ≤ digits_of t) × (digits_of t ≤ 2 ^ 54 - 2)
  digits_in = elim (bit (t % 2 ^ 52 + 2 ^ 52) (t / 2 ^ 52 % 2) (mod-lt (t / 2 ^ 52) (zero-lt-suc 1))) [
    | inl f ↦ (omega arith, omega arith)
    | inr f ↦ (omega arith, omega arith)
  ]

  -- the machine's shift loses nothing
  pub whole : digits_of t % 2 ^ 64 ≡ digits_of t
  whole = mod-eq_of_lt (lt_of_le_of_lt digits_in.1 (lit< tt))

  pub asked : digits_of t % 2 ^ 64 < 2 ^ 54
  asked = rw whole (lt_of_le_of_lt digits_in.1 (lit< tt))

  -- their root has 53 digits
  pub root_in : nearest_root (digits_of t * 2 ^ 52) < 2 ^ 53
  root_in = (near (digits_of t * 2 ^ 52) (omega (arith, digits_in)) (omega (arith, digits_in))).1

-- ---- t is b, its significand shifted by z, with 1021 added to the exponent's field

module _ (b t z : ℕ) (pos : 0 < b) (fin : b < 2047 * 2 ^ 52) (little : z ≤ 52) (digits : t % 2 ^ 52 + 2 ^ 52 ≡ sig_of b * 2 ^ z) (exponent : t / 2 ^ 52 ≡ exp_of b + 1022 - z) where
  same : digits_of t ≡ shifted b (exp_of b) z
  same =
      let o = (exp_of b + 1022 - z) % 2 in
      ap₂ (λ (x y : ℕ). x * 2 ^ (y % 2)) digits exponent
      ∙ mul_assoc (sig_of b) (2 ^ z) (2 ^ o)
      ∙ ap (λ (x : ℕ). sig_of b * x) (sym (pow-add 2 z o))

  halves : t / 2 ^ 53 ≡ half (exp_of b) z
  halves = omega (arith, exponent)

  pub aligned-pattern : Pattern b (aligned_root t)
  aligned-pattern =
      subst (Pattern b) (ap₂ (λ (x y : ℕ). x * 2 ^ 52 + nearest_root (y * 2 ^ 52)) (sym halves) (sym same))
      (pattern b (exp_of b) z pos fin refl little (omega (arith, digits)) (omega (arith, digits)) (nearest_root (shifted b (exp_of b) z * 2 ^ 52)) refl)

pub pattern-full : (b : ℕ) → b < 2047 * 2 ^ 52 → 2 ^ 52 ≤ b → Pattern b (aligned_root (b + 1021 * 2 ^ 52))
pattern-full b h l = aligned-pattern b (b + 1021 * 2 ^ 52) 0 (omega arith) h (omega arith) (omega arith) (omega arith)

pub pattern-least : (b z : ℕ) → 0 < b → b < 2 ^ 52 → z ≤ 52 → 2 ^ 52 ≤ b * 2 ^ z → b * 2 ^ z < 2 ^ 53 → Pattern b (aligned_root (b * 2 ^ z % 2 ^ 64 + (1021 - z) * 2 ^ 52))
pattern-least b z p h ez lo hi =
    let s : sig_of b ≡ b = omega arith in
    let d : sig_of b * 2 ^ z ≡ b * 2 ^ z = ap (λ (x : ℕ). x * 2 ^ z) s in
    aligned-pattern b (b * 2 ^ z % 2 ^ 64 + (1021 - z) * 2 ^ 52) z p (omega arith) ez (omega arith) (omega arith)
