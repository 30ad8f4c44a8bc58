-- A whole number u is nearest to √n where u * (u - 1) < n and n ≤ u * (u + 1). `is_nearest` asks both at once, of n = m * 2 ^ 52. Assumes nothing.
use Rattle.std.proofs.Common.{◌≡◌, ℕ, zero, suc, ◌+◌, ◌-◌, ◌*◌, ◌/◌, ◌%◌, ◌^◌, ◌<◌, ◌≤◌, true, not, T, refl, mul_assoc, suc-mul, mul_comm, add-mul, mul-le-mul, lt_of_not-le, mul-one, mul-suc, mul-add, mul_left_comm, add-one, arith}
use native.Mathlib.Decide.{dec_le}
use lib.Ieee.{Float, nan, inf, fin, lt, is_nan}
use Rattle.numbers.specs.RootBits.{nearest_root}
use Rattle.numbers.proofs.Roots.{sq-suc, nearest-up, nearest-stay}
use Rattle.numbers.proofs.Answer.{not-both}

-- ---- u in halves of 26 digits

times : (a b c d : ℕ) → a ≤ c → b ≤ d → a * b ≤ c * d
times a b c d g h = mul-le-mul g h

module _ (u : ℕ) (top : u ≤ 2 ^ 53) where
  high-in : u / 2 ^ 26 ≤ 2 ^ 27
  high-in = omega arith

  low-in : u % 2 ^ 26 ≤ 2 ^ 26 - 1
  low-in = omega arith

  pub high-square : u / 2 ^ 26 * (u / 2 ^ 26) ≤ 2 ^ 54
  high-square = mul-le-mul high-in high-in

  pub high-low : u / 2 ^ 26 * (2 * (u % 2 ^ 26) + 1) ≤ 2 ^ 54
  high-low = times (u / 2 ^ 26) (2 * (u % 2 ^ 26) + 1) (2 ^ 27) (2 ^ 27) high-in (omega (arith, low-in))

  pub low-square : u % 2 ^ 26 * (u % 2 ^ 26 + 1) ≤ 2 ^ 52
  low-square = times (u % 2 ^ 26) (u % 2 ^ 26 + 1) (2 ^ 26) (2 ^ 26) (omega (arith, low-in)) (omega (arith, low-in))

expand : (h l : ℕ) → (h * 2 ^ 26 + l) * (h * 2 ^ 26 + l + 1) ≡ h * h * 2 ^ 52 + h * (2 * l + 1) * 2 ^ 26 + l * (l + 1)
expand h l = simp (mul-add, add-mul, mul-one, mul_assoc, mul_comm, mul_left_comm) (omega arith)

parts-of : (u : ℕ) → u * (u + 1) ≡ u / 2 ^ 26 * (u / 2 ^ 26) * 2 ^ 52 + u / 2 ^ 26 * (2 * (u % 2 ^ 26) + 1) * 2 ^ 26 + u % 2 ^ 26 * (u % 2 ^ 26 + 1)
parts-of u =
    let e : u / 2 ^ 26 * 2 ^ 26 + u % 2 ^ 26 ≡ u = omega arith in
    rw e at (expand (u / 2 ^ 26) (u % 2 ^ 26))

-- ---- the quick test

nearest-is : (n v : ℕ) → v * suc v < n → n ≤ suc v * suc (suc v) → suc v ≡ nearest_root n
nearest-is n v lo hi = go (dec_le (suc v * suc v) n)
  where
    a : v * suc v ≡ v * v + v
    a = rw mul-suc (omega arith)

    b : suc v * suc (suc v) ≡ v * v + v * 2 + 1 + suc v
    b = rw mul-suc (omega (arith, sq-suc v))

    go : Dec (suc v * suc v ≤ n) → suc v ≡ nearest_root n
    go (yes h) = nearest-stay n (suc v) (n - suc v * suc v) (omega arith) (omega (arith, b, sq-suc v)) (omega (arith, b, sq-suc v))
    go (no f) =
        let h = lt_of_not-le f in
        nearest-up n v (n - v * v) (omega (arith, a)) (omega (arith, sq-suc v)) (omega (arith, a))

-- u * (u + 1) is at least n, and less than 2 * u above it
within : (n u : ℕ) → n ≤ u * (u + 1) → u * (u + 1) < n + 2 * u → u ≡ nearest_root n
within n zero hi lo = absurd (omega arith)
within n (suc v) hi lo = nearest-is n v (omega (arith, step, next)) (omega (arith, next))
  where
    next : suc v * (suc v + 1) ≡ suc v * suc (suc v)
    next = rw add-one refl

    step : suc v * suc (suc v) ≡ v * suc v + 2 * suc v
    step = rw mul-suc (rw suc-mul (omega arith))

-- what the quick test tells
pub quick-is : (m u d e : ℕ) → m < 2 ^ 54 → u ≤ 2 ^ 53 → (d + u / 2 ^ 26 * (u / 2 ^ 26)) % 2 ^ 64 ≡ m → d < 2 ^ 29
    → (e + d * 2 ^ 26) % 2 ^ 64 ≡ u / 2 ^ 26 * (2 * (u % 2 ^ 26) + 1) + u % 2 ^ 26 * (u % 2 ^ 26 + 1) / 2 ^ 26 → e < 2 * (u / 2 ^ 26) → u ≡ nearest_root (m * 2 ^ 52)
quick-is m u d e h t dm dl em el =
    let a = high-square u t in
    let p = parts-of u in
    within (m * 2 ^ 52) u (omega arith) (omega arith)

-- ---- the guess

-- what is below something is no NaN
pub below-number : (x y : Float) → lt x y ≡ true → T (not (is_nan x))
unfolding lt is_nan
below-number nan y h = absurd (not-both h)
below-number (inf s) y h = tt
below-number (fin s m e) y h = tt
