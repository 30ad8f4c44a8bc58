-- What `round` does to sizes. In units of the format's smallest value, the size of a / c rounded is `rounded f a c`: it keeps the order of fractions, keeps a power of two,
-- and is `top f` where the result is an infinity. The key of a rounded value is `rounded` to the side of its sign. Assumes nothing.
use mathlib.Core.Path.{◌≡◌, refl, sym, ap, ap₂, ◌∙◌, subst}
use Prim.Native.Nat.{ℕ, zero, suc, ◌+◌, ◌*◌, ◌^◌, ◌≤◌, ◌<◌, zero-le}
use native.Mathlib.Nat.{le_refl, le_of_lt, zero-mul, one-mul, eq_of_mul-eq-mul_right}
use native.Mathlib.Omega.{arith}
use mathlib.Core.Bool.{Bool, true, false, not, cond, true≢false}
use lib.IntN.{pos}
use lib.Dec.{T, ltb}
use lib.Pow.{pow_pos, pow-lt}
use lib.Ieee.{Float, nan, inf, fin, Format, prec, emax, low, down, odd, units, round, fits, is_nan}
use lib.Ieee.Fits.{round-fits, round_is, down_pos, two, two-le_pos}
use lib.Ieee.Exact.{HasValue, round_exact}
use lib.Ieee.Order.{kept, drop, round_mono}
use lib.Ieee.Scale.{round_same}
use Rattle.floats.specs.Kinds.{Number}
use Rattle.floats.proofs.Keys.{top, mag, key, minus?, offset, le-key, mag-exact, mag-lt}
use Rattle.floats.proofs.Exact.{round-held, zero-mag}

unfoldable pub rounded : Format → ℕ → ℕ → ℕ
rounded f a c = mag f (round f false a c)

-- a whole number of units, rounded
abbrev pub snap : Format → ℕ → ℕ
snap f n = rounded f n (2 ^ low f)

-- ---- a rounded value's sign, size and key, and that it is no NaN
module _ (f : Format) (s : Bool) where
  odd_is : (d q k l : ℕ) → (minus? (odd d s q k l) ≡ s) × (mag f (odd d s q k l) ≡ mag f (odd d false q k l))
  unfolding odd mag
  odd_is d zero k l = (refl, refl)
  odd_is d (suc q) k l = (refl, refl)

  units-is : (q k : ℕ) → (minus? (units f s q k) ≡ s) × (mag f (units f s q k) ≡ mag f (units f false q k))
  unfolding units
  units-is q k = go (ltb (q * 2 ^ k) (2 ^ (low f + suc (emax f))))
    where
      go : (b : Bool) → (minus? (cond b (odd (suc (prec f)) s q k (low f)) (inf s)) ≡ s) × (mag f (cond b (odd (suc (prec f)) s q k (low f)) (inf s)) ≡ mag f (cond b (odd (suc (prec f)) false q k (low f)) (inf false)))
      go true = odd_is (suc (prec f)) q k (low f)
      go false = (refl, unfold mag in refl)

  odd_number : (d q k l : ℕ) → T (not (is_nan (odd d s q k l)))
  unfolding odd is_nan
  odd_number d zero k l = tt
  odd_number d (suc q) k l = tt

  units_number : (q k : ℕ) → T (not (is_nan (units f s q k)))
  unfolding units
  units_number q k = go (ltb (q * 2 ^ k) (2 ^ (low f + suc (emax f))))
    where
      go : (b : Bool) → T (not (is_nan (cond b (odd (suc (prec f)) s q k (low f)) (inf s))))
      go true = odd_number (suc (prec f)) q k (low f)
      go false = unfold is_nan in tt

  pub minus-round : (a c : ℕ) → minus? (round f s a c) ≡ s
  minus-round a c = ap (λ (z : Float). minus? z) (round_is f s a c) ∙ (units-is (kept (prec f) (a * 2 ^ low f) c) (drop (prec f) (a * 2 ^ low f) c)).0

  pub mag-round : (a c : ℕ) → mag f (round f s a c) ≡ rounded f a c
  unfolding rounded
  mag-round a c = ap (λ (z : Float). mag f z) (round_is f s a c) ∙ (units-is (kept (prec f) (a * 2 ^ low f) c) (drop (prec f) (a * 2 ^ low f) c)).1 ∙ ap (λ (z : Float). mag f z) (sym (round_is f false a c))

  pub key-round : (a c : ℕ) → key f (round f s a c) ≡ offset (top f) s (rounded f a c)
  unfolding key
  key-round a c = ap₂ (λ (t : Bool) (n : ℕ). offset (top f) t n) (minus-round a c) (mag-round a c)

  pub number-round : (a c : ℕ) → Number f (round f s a c)
  number-round a c = record {
    held = round-fits f s a c;
    number = subst (λ (z : Float). T (not (is_nan z))) (sym (round_is f s a c)) (units_number (kept (prec f) (a * 2 ^ low f) c) (drop (prec f) (a * 2 ^ low f) c));
  }

-- ---- `rounded`
pub mag-le : (f : Format) (x : Float) → T (fits f x) → mag f x ≤ top f
unfolding mag
mag-le f nan t = zero-le
mag-le f (inf s) t = le_refl (top f)
mag-le f (fin s m e) t = le_of_lt (mag-lt f s m e t)

pub rounded-le : (f : Format) (a c : ℕ) → rounded f a c ≤ top f
unfolding rounded
rounded-le f a c = mag-le f (round f false a c) (round-fits f false a c)

pub rounded-mono : (f : Format) (a b c d : ℕ) → 0 < b → 0 < d → a * d ≤ c * b → rounded f a b ≤ rounded f c d
rounded-mono f a b c d B D h =
    let k = (le-key f (round f false a b) (round f false c d) (number-round f false a b) (number-round f false c d)).0 (round_mono f a b c d B D h) in
    omega (arith, key-round f false a b, key-round f false c d)

pub rounded-same : (f : Format) (a b c d : ℕ) → 0 < b → 0 < d → a * d ≡ c * b → rounded f a b ≡ rounded f c d
unfolding rounded
rounded-same f a b c d B D h = ap (λ (z : Float). mag f z) (round_same f false a b c d B D h)

zero_held : (f : Format) → T (fits f (fin false 0 (pos 0)))
unfolding fits
zero_held f = tt

pub rounded-zero : (f : Format) (c : ℕ) → 0 < c → rounded f 0 c ≡ 0
unfolding rounded
rounded-zero f c C = rounded-same f 0 c 0 1 C (pow_pos 0) (zero-mul 1 ∙ sym (zero-mul c)) ∙ at
  where
    at : rounded f 0 1 ≡ 0
    at = ap (λ (z : Float). mag f z) (round-held f false 0 (pos 0) (zero_held f)) ∙ zero-mag f false

value-mag : (f : Format) (x : Float) (a : ℕ) → T (fits f x) → HasValue x false a (2 ^ low f) → mag f x ≡ a
value-mag f nan a t v = absurd v
value-mag f (inf s) a t v = absurd v
value-mag f (fin true m e) a t v = absurd (true≢false v.0)
value-mag f (fin false m e) a t v = eq_of_mul-eq-mul_right (down e) (down_pos e) (mag f (fin false m e)) a (mag-exact f false m e t ∙ v.1)

-- a number of units with no more digits than the format keeps, times a power of two
pub snap-exact : (f : Format) (q j : ℕ) → q < 2 ^ prec f → q * 2 ^ j < top f → snap f (q * 2 ^ j) ≡ q * 2 ^ j
unfolding rounded top
snap-exact f q j a b =
    value-mag f (round f false (q * 2 ^ j) (2 ^ low f)) (q * 2 ^ j) (round-fits f false (q * 2 ^ j) (2 ^ low f)) (round_exact f false (q * 2 ^ j) (2 ^ low f) q j (pow_pos (low f)) a b refl)

pub snap-pow : (f : Format) (j : ℕ) → j ≤ low f + emax f → snap f (2 ^ j) ≡ 2 ^ j
unfolding top
snap-pow f j h =
    ap (λ (n : ℕ). snap f n) (sym (one-mul (2 ^ j))) ∙ snap-exact f 1 j (pow-lt (two-le_pos (prec f) (two f))) (subst (λ (n : ℕ). n < 2 ^ (low f + suc (emax f))) (sym (one-mul (2 ^ j))) (pow-lt (below (low f) (emax f) h))) ∙ one-mul (2 ^ j)
  where
    below : (l e : ℕ) → j ≤ l + e → j < l + suc e
    below l e k = omega arith
