-- Which results are finite, and how large they can be: `Within f k x` says that x is finite and at most 2 ^ k in size. Assumes nothing.
use mathlib.Core.Path.{◌≡◌, sym, ap, ◌∙◌}
use Prim.Native.Nat.{ℕ, suc, ◌+◌, ◌-◌, ◌*◌, ◌^◌, ◌≤◌, ◌<◌, max}
use native.Mathlib.Nat.{le_trans, le_of_eq, lt_of_le_of_lt, lt_of_lt_of_le, mul_comm, mul_assoc, mul_right_comm, mul-pos, mul-le-mul, mul-le-mul_right, le_of_mul-le-mul_right, one-mul, suc-mul, two-pow-succ, le-max_left, le-max_right}
use native.Mathlib.Omega.{arith}
use mathlib.Core.Bool.{Bool, true, false, not, ◌&&◌}
use lib.IntN.{pos}
use lib.Dec.{T, leb, leb→le}
use lib.Pow.{pow-add, pow_pos, pow_mono, pow-lt}
use lib.Ieee.{Float, nan, inf, fin, Format, binary32, binary64, prec, emax, low, down, unlike, neg, add, sub, mul, div, le, lt, eq, fits, is_nan}
use lib.Ieee.Fits.{and_l, and_r, down_pos}
use lib.Ieee.Scale.{finite}
use lib.Ieee.Positive.{num, den}
use Rattle.floats.specs.Numbers.{least_of, greatest_of}
use Rattle.floats.specs.Kinds.{Number, Finite, Within}
use Rattle.floats.proofs.Keys.{top, mag, key, offset, minus?, mag-exact, mag-lt, top_pos}
use Rattle.floats.proofs.Order.{of_le}
use Rattle.floats.proofs.Lattice.{least-keeps, greatest-keeps}
use Rattle.floats.proofs.Rounded.{rounded, snap, mag-le, rounded-mono, snap-exact, snap-pow}
use Rattle.floats.proofs.Signed.{number-finite, spread, snap-grows, key-is, key-add, add-number, neg-finite, sub_number, key-sub, product, key-mul, mul-number, key-div, div-number, zero+, one+}

pub finite-within : {f : Format} {k : ℕ} {x : Float} → Within f k x → Finite f x
finite-within w = record { held = w.held; finite = w.finite }

pub number-within : {f : Format} {k : ℕ} {x : Float} → Within f k x → Number f x
number-within w = number-finite (finite-within w)

-- ---- `Within` by the size in units
pub size-within : {f : Format} {k : ℕ} {x : Float} → Within f k x → mag f x ≤ 2 ^ (k + low f)
size-within {f} {k} {x} = go x
  where
    go : (x : Float) → Within f k x → mag f x ≤ 2 ^ (k + low f)
    go nan w = absurd w.finite
    go (inf s) w = absurd w.finite
    go (fin s m e) w =
        le_of_mul-le-mul_right
        (le_trans (le_of_eq (mag-exact f s m e w.held))
        (le_trans (mul-le-mul_right (2 ^ low f) w.small) (le_of_eq (mul_right_comm (2 ^ k) (down e) (2 ^ low f) ∙ ap (λ (n : ℕ). n * down e) (sym (pow-add 2 k (low f)))))))
        (down_pos e)

pub within-size : {f : Format} {k : ℕ} {x : Float} → Finite f x → mag f x ≤ 2 ^ (k + low f) → Within f k x
within-size {f} {k} {x} p h = record { held = p.held; finite = p.finite; small = go x p h }
  where
    go : (x : Float) → Finite f x → mag f x ≤ 2 ^ (k + low f) → num x ≤ 2 ^ k * den x
    go nan p h = absurd p.finite
    go (inf s) p h = absurd p.finite
    go (fin s m e) p h =
        le_of_mul-le-mul_right
        (le_trans (le_of_eq (sym (mag-exact f s m e p.held)))
        (le_trans (mul-le-mul_right (down e) h) (le_of_eq (ap (λ (n : ℕ). n * down e) (pow-add 2 k (low f)) ∙ mul_right_comm (2 ^ k) (2 ^ low f) (down e)))))
        (pow_pos (low f))

-- a number below the infinities in size is finite
pub finite-size : {f : Format} {x : Float} → Number f x → mag f x < top f → Finite f x
finite-size {f} {x} p h = record { held = p.held; finite = go x p.number h }
  where
    go : (x : Float) → T (not (is_nan x)) → mag f x < top f → T (finite x)
    go nan t h = absurd (unfold is_nan in t)
    go (inf s) t h = absurd (native.Mathlib.Nat.lt_irrefl (top f) (unfold mag in h))
    go (fin s m e) t h = tt

under_top : (f : Format) (k : ℕ) → k ≤ emax f → 2 ^ (k + low f) < top f
unfolding top
under_top f k h = pow-lt (room k (emax f) (low f) h)
  where
    room : (k e l : ℕ) → k ≤ e → k + l < l + suc e
    room k e l h = omega arith

-- a number that is at most 2 ^ k in size, for a k that the format reaches
pub within : {f : Format} {k : ℕ} {x : Float} → k ≤ emax f → Number f x → mag f x ≤ 2 ^ (k + low f) → Within f k x
within {f} {k} r p h = within-size (finite-size p (lt_of_le_of_lt h (under_top f k r))) h

pub within-weaken : {f : Format} {j k : ℕ} {x : Float} → j ≤ k → Within f j x → Within f k x
within-weaken {x = x} h w = record { held = w.held; finite = w.finite; small = le_trans w.small (mul-le-mul_right (den x) (pow_mono h)) }

-- ---- the size by the key
size-key : (o : ℕ) (s : Bool) (a n : ℕ) → a ≤ o → o ≤ offset o s a + n → offset o s a ≤ o + n → a ≤ n
size-key o true a n h p q = omega arith
size-key o false a n h p q = omega arith

key-size : (o : ℕ) (s : Bool) (a n : ℕ) → a ≤ n → (o ≤ offset o s a + n) × (offset o s a ≤ o + n)
key-size o true a n h = (omega arith, omega arith)
key-size o false a n h = (omega arith, omega arith)

pub size-of-key : {f : Format} {x : Float} (n : ℕ) → Number f x → top f ≤ key f x + n → key f x ≤ top f + n → mag f x ≤ n
unfolding key
size-of-key {f} {x} n p a b = size-key (top f) (minus? x) (mag f x) n (mag-le f x p.held) a b

pub key-within : {f : Format} {k : ℕ} {x : Float} → Within f k x → (top f ≤ key f x + 2 ^ (k + low f)) × (key f x ≤ top f + 2 ^ (k + low f))
unfolding key
key-within {f} {k} {x} w = key-size (top f) (minus? x) (mag f x) (2 ^ (k + low f)) (size-within w)

-- ---- sums and differences
spread-size : (f : Format) (n p q : ℕ) → n ≤ low f + emax f → p ≤ q + 2 ^ n → q ≤ p + 2 ^ n → (top f ≤ spread (top f) (snap f) p q + 2 ^ n) × (spread (top f) (snap f) p q ≤ top f + 2 ^ n)
spread-size f n p q r a b =
    let c : snap f (p - q) ≤ 2 ^ n = le_trans (snap-grows f (p - q) (2 ^ n) (omega arith)) (le_of_eq (snap-pow f n r)) in
    let d : snap f (q - p) ≤ 2 ^ n = le_trans (snap-grows f (q - p) (2 ^ n) (omega arith)) (le_of_eq (snap-pow f n r)) in
    (omega arith, omega arith)

twice : (m l : ℕ) → 2 ^ (m + l) + 2 ^ (m + l) ≡ 2 ^ (suc m + l)
twice m l = sym (two-pow-succ (m + l)) ∙ ap (λ (n : ℕ). 2 ^ n) (let e : suc (m + l) ≡ suc m + l = omega arith in e)

reaches : (f : Format) (k : ℕ) → k ≤ emax f → k + low f ≤ low f + emax f
reaches f k h = omega arith

module _ {f : Format} {k : ℕ} {x y : Float} (u : Within f k x) (v : Within f k y) (r : k < emax f) where
  pub add-within : Within f (suc k) (add f x y)
  add-within =
      let p = finite-within u in
      let q = finite-within v in
      let a = key-within u in
      let b = key-within v in
      let t = twice k (low f) in
      let c = spread-size f (suc k + low f) (key f x + key f y) (top f + top f) (reaches f (suc k) r) (omega arith) (omega arith) in
      let e = key-add p q in
      within r (add-number p q) (size-of-key (2 ^ (suc k + low f)) (add-number p q) (omega arith) (omega arith))

  pub sub_within : Within f (suc k) (sub f x y)
  sub_within =
      let p = finite-within u in
      let q = finite-within v in
      let a = key-within u in
      let b = key-within v in
      let t = twice k (low f) in
      let c = spread-size f (suc k + low f) (key f x) (key f y) (reaches f (suc k) r) (omega arith) (omega arith) in
      let e = key-sub p q in
      within r (sub_number p q) (size-of-key (2 ^ (suc k + low f)) (sub_number p q) (omega arith) (omega arith))

module _ {f : Format} {j k : ℕ} {x y : Float} (u : Within f j x) (v : Within f k y) (r : max j k < emax f) where
  pub within-add : Within f (suc (max j k)) (add f x y)
  within-add = add-within (within-weaken (le-max_left j k) u) (within-weaken (le-max_right j k) v) r

  pub within-sub : Within f (suc (max j k)) (sub f x y)
  within-sub = sub_within (within-weaken (le-max_left j k) u) (within-weaken (le-max_right j k) v) r

pub within-neg : {f : Format} {k : ℕ} {x : Float} → Within f k x → Within f k (neg x)
unfolding neg
within-neg {f} {k} {x} w = record { held = (neg-finite (finite-within w)).held; finite = (neg-finite (finite-within w)).finite; small = go x w.small }
  where
    go : (x : Float) → num x ≤ 2 ^ k * den x → num (neg x) ≤ 2 ^ k * den (neg x)
    go nan h = h
    go (inf s) h = h
    go (fin s m e) h = h

pub within-least : {f : Format} {j k : ℕ} {x y : Float} → Within f j x → Within f k y → Within f (max j k) (least_of x y)
within-least {f} {j} {k} u v = least-keeps (λ z. Within f (max j k) z) (within-weaken (le-max_left j k) u) (within-weaken (le-max_right j k) v)

pub within-greatest : {f : Format} {j k : ℕ} {x y : Float} → Within f j x → Within f k y → Within f (max j k) (greatest_of x y)
within-greatest {f} {j} {k} u v = greatest-keeps (λ z. Within f (max j k) z) (within-weaken (le-max_left j k) u) (within-weaken (le-max_right j k) v)

-- ---- products and quotients
size-of-side : {f : Format} {x : Float} → Number f x → (s : Bool) (a n : ℕ) → key f x ≡ offset (top f) s a → a ≤ n → mag f x ≤ n
size-of-side {f} {x} p s a n e h =
    let b = key-size (top f) s a n h in
    size-of-key n p (le_trans b.0 (le_of_eq (ap (λ (k : ℕ). k + n) (sym e)))) (le_trans (le_of_eq e) b.1)

pub within-mul : {f : Format} {j k : ℕ} {x y : Float} → Within f j x → Within f k y → j + k ≤ emax f → Within f (j + k) (mul f x y)
within-mul {f} {j} {k} {x} {y} u v r =
    let p = finite-within u in
    let q = finite-within v in
    let l = low f in
    let L = 2 ^ l in
    let N = 2 ^ (j + k + l) in
    let a : mag f x * mag f y ≤ N * L =
    le_trans (mul-le-mul (size-within u) (size-within v)) (le_of_eq (sym (pow-add 2 (j + l) (k + l)) ∙ ap (λ (n : ℕ). 2 ^ n) (let e : j + l + (k + l) ≡ j + k + l + l = omega arith in e) ∙ pow-add 2 (j + k + l) l)) in
    let b : product f (mag f x) (mag f y) ≤ N =
    le_trans (rounded-mono f (mag f x * mag f y) (L * L) N L (mul-pos (pow_pos l) (pow_pos l)) (pow_pos l) (le_trans (mul-le-mul_right L a) (le_of_eq (mul_assoc N L L)))) (le_of_eq (snap-pow f (j + k + l) (reaches f (j + k) r))) in
    within r (mul-number p q) (size-of-side (mul-number p q) (unlike (minus? x) (minus? y)) (product f (mag f x) (mag f y)) N (key-mul p q) b)

-- a divisor of 2 ^ -l in size at least
pub within-div : {f : Format} {j : ℕ} {x y : Float} (l : ℕ) → Within f j x → Finite f y → 2 ^ low f ≤ mag f y * 2 ^ l → j + l ≤ emax f → Within f (j + l) (div f x y)
within-div {f} {j} {x} {y} l u q h r =
    let p = finite-within u in
    let w = low f in
    let Y = mag f y in
    let N = 2 ^ (j + l + w) in
    let n : 0 < Y = some Y (2 ^ l) (lt_of_lt_of_le (pow_pos w) h) in
    let e : 2 ^ (j + w) * (Y * 2 ^ l) ≡ N * Y = ap (λ (z : ℕ). 2 ^ (j + w) * z) (mul_comm Y (2 ^ l)) ∙ sym (mul_assoc (2 ^ (j + w)) (2 ^ l) Y) ∙ ap (λ (z : ℕ). z * Y) (sym (pow-add 2 (j + w) l) ∙ ap (λ (z : ℕ). 2 ^ z) (let g : j + w + l ≡ j + l + w = omega arith in g)) in
    let b : rounded f (mag f x) Y ≤ N =
    le_trans (rounded-mono f (mag f x) Y N (2 ^ w) n (pow_pos w) (le_trans (mul-le-mul (size-within u) h) (le_of_eq e))) (le_of_eq (snap-pow f (j + l + w) (reaches f (j + l) r))) in
    within r (div-number p q n) (size-of-side (div-number p q n) (unlike (minus? x) (minus? y)) (rounded f (mag f x) Y) N (key-div p q n) b)
  where
    some : (a b : ℕ) → 0 < a * b → 0 < a
    some a b h = lib.Ieee.Positive.first_pos a b h

-- any value but zero is 2 ^ -low in size at least
pub far-low : (f : Format) (y : Float) → 0 < mag f y → 2 ^ low f ≤ mag f y * 2 ^ low f
far-low f y h = le_trans (le_of_eq (sym (one-mul (2 ^ low f)))) (mul-le-mul_right (2 ^ low f) h)

-- ---- long sums: m terms of 2 ^ k at most, and one more. The bound grows with the number of terms, where `within-add` would double it.
pub add-multiple : {f : Format} {k : ℕ} {x y : Float} (m : ℕ) → Finite f x → mag f x ≤ m * 2 ^ (k + low f) → Within f k y → suc m < 2 ^ prec f → suc m * 2 ^ (k + low f) < top f
    → Finite f (add f x y) × (mag f (add f x y) ≤ suc m * 2 ^ (k + low f))
add-multiple {f} {k} {x} {y} m p h v a b =
    let q = finite-within v in
    let j = k + low f in
    let n = suc m * 2 ^ j in
    let c = key-size (top f) (minus? x) (mag f x) (m * 2 ^ j) h in
    let d = key-within v in
    let e : m * 2 ^ j + 2 ^ j ≡ n = sym (suc-mul m (2 ^ j)) in
    let i = key-is f x in
    let o = top f + top f in
    let s = key f x + key f y in
    let u : snap f (s - o) ≤ n = le_trans (snap-grows f (s - o) n (omega arith)) (le_of_eq (snap-exact f (suc m) j a b)) in
    let w : snap f (o - s) ≤ n = le_trans (snap-grows f (o - s) n (omega arith)) (le_of_eq (snap-exact f (suc m) j a b)) in
    let t : mag f (add f x y) ≤ n = size-of-key n (add-number p q) (omega (arith, key-add p q)) (omega (arith, key-add p q)) in
    (finite-size (add-number p q) (lt_of_le_of_lt t b), t)

-- ---- what is tested
-- what `le` compares is no NaN
pub number-l : {f : Format} (x y : Float) → T (fits f x) → T (le x y) → Number f x
unfolding le lt eq is_nan
number-l nan y t h = absurd h
number-l (inf s) y t h = record { held = t; number = tt }
number-l (fin s m e) y t h = record { held = t; number = tt }

pub number-r : {f : Format} (x y : Float) → T (fits f y) → T (le x y) → Number f y
unfolding le lt eq is_nan
number-r nan nan t h = absurd h
number-r (inf s) nan t h = absurd h
number-r (fin s m e) nan t h = absurd h
number-r x (inf s) t h = record { held = t; number = tt }
number-r x (fin s m e) t h = record { held = t; number = tt }

size-between : {f : Format} {lo x hi : Float} (n : ℕ) → Number f lo → Number f x → Number f hi → mag f lo ≤ n → mag f hi ≤ n → T (le lo x) → T (le x hi) → mag f x ≤ n
unfolding key
size-between {f} {lo} {x} {hi} n p q r a b h k =
    let c = key-size (top f) (minus? lo) (mag f lo) n a in
    let d = key-size (top f) (minus? hi) (mag f hi) n b in
    let u = of_le p q h in
    let v = of_le q r k in
    size-of-key n q (omega arith) (omega arith)

pub size-finite : {f : Format} {x : Float} → Finite f x → mag f x < top f
size-finite {f} {x} = go x
  where
    go : (x : Float) → Finite f x → mag f x < top f
    go nan p = absurd p.finite
    go (inf s) p = absurd p.finite
    go (fin s m e) p = mag-lt f s m e p.held

-- what lies between two finite values is finite, and no larger than both
pub finite-between : {f : Format} {lo x hi : Float} → Finite f lo → Finite f hi → T (fits f x) → T (le lo x) → T (le x hi) → Finite f x
finite-between {f} {lo} {x} {hi} p r t h k =
    let q = number-r lo x t h in
    let a : mag f lo ≤ top f - 1 = close (mag f lo) (top f) (size-finite p) in
    let b : mag f hi ≤ top f - 1 = close (mag f hi) (top f) (size-finite r) in
    finite-size q (apart (mag f x) (top f) (top_pos f) (size-between (top f - 1) (number-finite p) q (number-finite r) a b h k))
  where
    close : (a o : ℕ) → a < o → a ≤ o - 1
    close a o h = omega arith

    apart : (a o : ℕ) → 0 < o → a ≤ o - 1 → a < o
    apart a o h k = omega arith

pub within-between : {f : Format} {k : ℕ} {lo x hi : Float} → Within f k lo → Within f k hi → T (fits f x) → T (le lo x) → T (le x hi) → Within f k x
within-between {f} {k} {lo} {x} u v t h i =
    let p = finite-between (finite-within u) (finite-within v) t h i in
    within-size p (size-between (2 ^ (k + low f)) (number-within u) (number-finite p) (number-within v) (size-within u) (size-within v) h i)

-- `-c <= x && x <= c`
pub within_both : {f : Format} {k : ℕ} {c x : Float} → Within f k c → T (fits f x) → T (le (neg c) x) → T (le x c) → Within f k x
within_both w t h i = within-between (within-neg w) w t h i

-- by computation, as at a literal
pub within-test : (f : Format) (k : ℕ) (x : Float) → T (fits f x && finite x && leb (num x) (2 ^ k * den x)) → Within f k x
within-test f k x t = record {
  held = and_l (fits f x) (finite x) (and_l (fits f x && finite x) (leb (num x) (2 ^ k * den x)) t);
  finite = and_r (fits f x) (finite x) (and_l (fits f x && finite x) (leb (num x) (2 ^ k * den x)) t);
  small = leb→le (num x) (2 ^ k * den x) (and_r (fits f x && finite x) (leb (num x) (2 ^ k * den x)) t);
}

-- 1e6
pub million : Within binary64 20 (fin false 15625 (pos 6))
unfolding fits
million = within-test binary64 20 (fin false 15625 (pos 6)) tt

pub within-zero : (f : Format) → Within f 0 zero+
unfolding fits
within-zero f = within-test f 0 zero+ tt

pub within-one : (f : Format) → Within f 0 one+
unfolding fits
within-one binary32 = within-test binary32 0 one+ tt
within-one binary64 = within-test binary64 0 one+ tt
