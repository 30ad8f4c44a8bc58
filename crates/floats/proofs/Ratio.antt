-- The expressions of a cut: the share of a way that a point between its ends has gone, a value at that share, what a root is taken of, and a drill's radius in its cone.
-- None is a NaN, and each is in its range. Assumes nothing.
use mathlib.Core.Path.{◌≡◌, refl, sym, ap, subst, ◌∙◌}
use Prim.Native.Nat.{ℕ, zero, suc, ◌+◌, ◌-◌, ◌*◌, ◌^◌, ◌≤◌, ◌<◌, max, zero-le}
use native.Mathlib.Nat.{le_trans, le_of_eq, one-mul}
use native.Mathlib.Omega.{arith}
use mathlib.Core.Bool.{Bool, true, false, not, cond}
use lib.IntN.{pos}
use lib.Dec.{T, T_not, eqb, eqb-suc-zero}
use lib.Ieee.{Float, nan, inf, fin, Format, emax, low, up, down, unlike, round, neg, add, sub, mul, div, le, lt, eq, fits, is_nan}
use lib.Ieee.Fits.{div-fits, sub-fits}
use lib.Ieee.Scale.{finite}
use Rattle.floats.specs.Pick.{pick}
use Rattle.floats.specs.Numbers.{least_of, greatest_of, minus_zero}
use Rattle.floats.specs.Kinds.{Number, Plain, Finite, Within, Ratio}
use Rattle.floats.proofs.Keys.{top, key, key-inf}
use Rattle.floats.proofs.Order.{to_le, of_le, le-self, lt→le, nlt→le, lt-asym, le-both, lt-le-trans, le_antisym}
use Rattle.floats.proofs.Order.{le_trans as le-through}
use Rattle.floats.proofs.Lattice.{greatest-ge-l, greatest-ge-r, greatest-number, least-number, greatest-plain, least-plain, least-le-r, least-ge, least-mono, greatest-mono}
use Rattle.floats.proofs.Exact.{zero-key, plain-zero, round-held}
use Rattle.floats.proofs.Rounded.{snap, rounded-le}
use Rattle.floats.proofs.Signed.{number-finite, key-le, neg-finite, key-neg, sub_number, key-sub, sub-mono, sub-nonneg, sub-positive, div-number, div-nonneg, div-le-one, div-ge-one, one+, number-one, mul_mono, div_mono, no_size, mul-number, size-of-positive, of-nonneg, to-nonneg, of_positive, to-positive, number-zero, zero+}
use Rattle.floats.proofs.Zeros.{mul-plain, div-plain}
use Rattle.floats.proofs.Within.{finite-within, number-within, finite-between, within-between, within-weaken, within-zero, within-one, within-greatest, add-within, sub_within, within-mul}

-- ---- a quotient with both signs turned
unlike-not : (s t : Bool) → unlike (not s) (not t) ≡ unlike s t
unlike-not true true = refl
unlike-not true false = refl
unlike-not false true = refl
unlike-not false false = refl

pub div-neg : (f : Format) (x y : Float) → div f (neg x) (neg y) ≡ div f x y
unfolding div neg
div-neg f nan y = refl
div-neg f (inf s) nan = refl
div-neg f (inf s) (inf t) = refl
div-neg f (inf s) (fin t n d) = ap (λ (b : Bool). inf b) (unlike-not s t)
div-neg f (fin s m e) nan = refl
div-neg f (fin s m e) (inf t) = ap (λ (b : Bool). fin b 0 (pos 0)) (unlike-not s t)
div-neg f (fin s m e) (fin t n d) = ap (λ (b : Bool). cond (eqb n 0) (cond (eqb m 0) nan (inf b)) (round f b (m * up e * down d) (n * up d * down e))) (unlike-not s t)

-- x - y, negated, is y - x, but for the sign of zero
pub key-neg-sub : {f : Format} {x y : Float} → Finite f x → Finite f y → key f (neg (sub f x y)) ≡ key f (sub f y x)
key-neg-sub {f} {x} {y} p q = turn (top f) (snap f (key f x - key f y)) (snap f (key f y - key f x)) (key f (neg (sub f x y))) (key f (sub f x y)) (key f (sub f y x)) (rounded-le f (key f x - key f y) (2 ^ low f)) (rounded-le f (key f y - key f x) (2 ^ low f)) (key-neg (sub_number p q)) (key-sub p q) (key-sub q p)
  where
    turn : (o a b n x y : ℕ) → a ≤ o → b ≤ o → n ≡ o + o - x → x ≡ o + a - b → y ≡ o + b - a → n ≡ y
    turn o a b n x y A B e g h = omega arith

-- ---- the share of the way from p to q that z has gone
pub within-ratio : {f : Format} {t : Float} → Ratio f t → Within f 0 t
within-ratio {f} r = within-between (within-zero f) (within-one f) r.held r.low r.high

ratio : {f : Format} {x z : Float} → Finite f x → Finite f z → T (le zero+ x) → T (le x z) → T (lt zero+ z) → Ratio f (div f x z)
ratio {f} {x} {z} p r h k l = record { held = div-fits f x z; low = div-nonneg p r h l; high = div-le-one p r l k }

module _ {f : Format} {p z q : Float} (P : Finite f p) (Z : Finite f z) (Q : Finite f q) (D : Finite f (sub f q p)) where
  pub ratio-up : T (le p z) → T (le z q) → T (lt p q) → Ratio f (div f (sub f z p) (sub f q p))
  ratio-up h k l =
      let a : T (le zero+ (sub f z p)) = (sub-nonneg Z P).1 h in
      let b : T (le (sub f z p) (sub f q p)) = sub-mono Z P Q P k (le-self (number-finite P)) in
      ratio (finite-between (finite-within (within-zero f)) D (sub-fits f z p) a b) D a b ((sub-positive Q P).1 l)

  pub ratio-down : T (le q z) → T (le z p) → T (lt q p) → Ratio f (div f (sub f z p) (sub f q p))
  ratio-down h k l =
      let a : top f ≤ key f (sub f p z) = of-nonneg (sub_number P Z) ((sub-nonneg P Z).1 k) in
      let b : key f (sub f p z) ≤ key f (sub f p q) = of_le (sub_number P Z) (sub_number P Q) (sub-mono P Z P Q (le-self (number-finite P)) h) in
      let c : top f < key f (sub f p q) = of_positive (sub_number P Q) ((sub-positive P Q).1 l) in
      let N = neg-finite D in
      let g : T (le (sub f q p) (sub f z p)) = sub-mono Q P Z P h (le-self (number-finite P)) in
      let i : T (le (sub f z p) zero+) = to_le (sub_number Z P) number-zero (omega (arith, key-neg-sub Z P, key-neg (sub_number Z P), key-le (sub_number Z P), zero-key f false)) in
      let M = finite-between D (finite-within (within-zero f)) (sub-fits f z p) g i in
      let m = neg-finite M in
      let e = key-neg-sub Z P in
      let u = key-neg-sub Q P in
      subst (λ (t : Float). Ratio f t) (div-neg f (sub f z p) (sub f q p))
      (ratio m N (to-nonneg (number-finite m) (omega arith)) (to_le (number-finite m) (number-finite N) (omega arith)) (to-positive (number-finite N) (omega arith)))

-- z between p and q, whichever is the lesser
pub ratio-of : {f : Format} {p z q : Float} → Finite f p → Finite f z → Finite f q → Finite f (sub f q p) → T (le (least_of p q) z) → T (le z (greatest_of p q)) → T (not (eq q p)) → Ratio f (div f (sub f z p) (sub f q p))
unfolding least_of greatest_of pick
ratio-of {f} {p} {z} {q} P Z Q D h k n = go (lt p q) (lt q p) h k (λ t. t) (λ t. t) (λ t u. T_not (eq q p) n (le-both (number-finite Q) (number-finite P) (nlt→le (number-finite Q) (number-finite P) t) (nlt→le (number-finite P) (number-finite Q) u)))
  where
    go : (b c : Bool) → T (le (pick c q p) z) → T (le z (pick b q p)) → (T b → T (lt p q)) → (T c → T (lt q p)) → (T (not b) → T (not c) → ⊥) → Ratio f (div f (sub f z p) (sub f q p))
    go true true h k i j e = absurd (lt-asym (number-finite P) (number-finite Q) (i tt) (j tt))
    go true false h k i j e = ratio-up P Z Q D h k (i tt)
    go false true h k i j e = ratio-down P Z Q D h k (j tt)
    go false false h k i j e = absurd (e tt tt)

-- ---- a value at a share of the way
pub part-within : {f : Format} {k : ℕ} {p q t : Float} → Ratio f t → Within f k p → Within f k q → suc k < emax f → Within f (suc (suc k)) (add f p (mul f t (sub f q p)))
part-within {f} {k} r u v e =
    let d = sub_within v u (less k (emax f) e) in
    add-within (within-weaken (up1 k) u) (within-weaken (same k) (within-mul (within-ratio r) d (le_trans (same k) (under k (emax f) e)))) e
  where
    less : (k e : ℕ) → suc k < e → k < e
    less k e h = omega arith

    up1 : (k : ℕ) → k ≤ suc k
    up1 k = omega arith

    same : (k : ℕ) → 0 + suc k ≤ suc k
    same k = omega arith

    under : (k e : ℕ) → suc k < e → suc k ≤ e
    under k e h = omega arith

-- ---- what a root is taken of
pub gap_within : {f : Format} {k : ℕ} {r d : Float} → Within f k r → Within f k d → k + k < emax f → Within f (suc (k + k)) (greatest_of (sub f (mul f r r) (mul f d d)) zero+)
gap_within {f} {k} u v e =
    let m = within-mul u u (under (k + k) (emax f) e) in
    let n = within-mul v v (under (k + k) (emax f) e) in
    within-weaken (bound (k + k)) (within-greatest (sub_within m n e) (within-zero f))
  where
    under : (k e : ℕ) → k < e → k ≤ e
    under k e h = omega arith

    bound : (n : ℕ) → max (suc n) 0 ≤ suc n
    bound n = omega arith

pub gap-nonneg : {f : Format} {k : ℕ} {r d : Float} → Within f k r → Within f k d → k + k < emax f → T (le zero+ (greatest_of (sub f (mul f r r) (mul f d d)) zero+))
gap-nonneg {f} {k} u v e = greatest-ge-r (number-within (sub_within (within-mul u u (under (k + k) (emax f) e)) (within-mul v v (under (k + k) (emax f) e)) e)) number-zero
  where
    under : (k e : ℕ) → k < e → k ≤ e
    under k e h = omega arith

-- ---- a product with a positive factor, where the other may be an infinity
mul-inf : (f : Format) (s : Bool) (z : Float) → Finite f z → T (lt zero+ z) → mul f (inf s) z ≡ inf s
unfolding mul lt
mul-inf f s nan r h = absurd r.finite
mul-inf f s (inf t) r h = absurd r.finite
mul-inf f s (fin true n d) r h = absurd h
mul-inf f s (fin false zero d) r h = absurd (no_size f false d r.held (size-of-positive r h))
mul-inf f true (fin false (suc n) d) r h = rw (eqb-suc-zero n)
mul-inf f false (fin false (suc n) d) r h = rw (eqb-suc-zero n)

number-inf : (f : Format) (s : Bool) → Number f (inf s)
unfolding fits is_nan
number-inf f s = record { held = tt; number = tt }

pub mul-number-up : {f : Format} {x z : Float} → Number f x → Finite f z → T (lt zero+ z) → Number f (mul f x z)
unfolding is_nan
mul-number-up {f} {x} {z} p r h = go x p
  where
    go : (x : Float) → Number f x → Number f (mul f x z)
    go nan p = absurd p.number
    go (inf s) p = rw (mul-inf f s z r h) (number-inf f s)
    go (fin s m e) p = mul-number (record { held = p.held; finite = tt }) r

-- below the greater infinity, and above the lesser
pub le-inf : {f : Format} {x : Float} → Number f x → T (le x (inf false))
le-inf {f} {x} p = to_le p (number-inf f false) (le_trans (key-le p) (le_of_eq (sym (key-inf f false))))

pub inf-le : {f : Format} {x : Float} → Number f x → T (le (inf true) x)
inf-le {f} {x} p = to_le (number-inf f true) p (omega (arith, key-inf f true))

pub mul-mono-up : {f : Format} {x y z : Float} → Number f x → Number f y → Finite f z → T (lt zero+ z) → T (le x y) → T (le (mul f x z) (mul f y z))
unfolding is_nan
mul-mono-up {f} {x} {y} {z} p q r h = go x y p q
  where
    go : (x y : Float) → Number f x → Number f y → T (le x y) → T (le (mul f x z) (mul f y z))
    go nan y p q k = absurd p.number
    go (inf true) y p q k = rw (mul-inf f true z r h) (inf-le (mul-number-up q r h))
    go (inf false) nan p q k = absurd q.number
    go (inf false) (inf true) p q k = absurd (unfold le lt eq in k)
    go (inf false) (inf false) p q k = le-self (mul-number-up q r h)
    go (inf false) (fin t n d) p q k = absurd (unfold le lt eq in k)
    go (fin s m e) nan p q k = absurd q.number
    go (fin s m e) (inf true) p q k = absurd (unfold le lt eq in k)
    go (fin s m e) (inf false) p q k = rw (mul-inf f false z r h) (le-inf (mul-number-up p r h))
    go (fin s m e) (fin t n d) p q k = mul_mono (record { held = p.held; finite = tt }) (record { held = q.held; finite = tt }) r (lt→le number-zero (number-finite r) h) k

pub mul-plain-up : {f : Format} {x z : Float} → Plain f x → Plain f z → Finite f z → T (le zero+ x) → T (lt zero+ z) → Plain f (mul f x z)
unfolding is_nan
mul-plain-up {f} {x} {z} u v r h k = go x u h
  where
    go : (x : Float) → Plain f x → T (le zero+ x) → Plain f (mul f x z)
    go nan u h = absurd u.number
    go (inf s) u h = rw (mul-inf f s z r k) u
    go (fin s m e) u h = mul-plain u v (record { held = u.held; finite = tt }) r h (lt→le number-zero (number-finite r) k)

-- ---- a drill's radius at a height a above its tip, in a cone that is c long: a / c * r, brought into 0.0 .. r. The quotient may be an infinity.
unfoldable pub cone_of : Format → Float → Float → Float → Float
cone_of f a c r = least_of (greatest_of (mul f (div f a c) r) zero+) r

-- 1.0 times a number is the number
like : (s : Bool) → unlike false s ≡ s
like true = refl
like false = refl

one-times : (f : Format) (r : Float) → Finite f r → mul f one+ r ≡ r
unfolding mul
one-times f nan R = absurd R.finite
one-times f (inf s) R = absurd R.finite
one-times f (fin s m e) R = ap (λ (a : ℕ). round f (unlike false s) a (1 * down e)) (one-mul (m * up e)) ∙ ap (λ (b : ℕ). round f (unlike false s) (m * up e) b) (one-mul (down e)) ∙ ap (λ (t : Bool). round f t (m * up e) (down e)) (like s) ∙ round-held f s m e R.held

-- what is above zero is not -0.0
pub plain-positive : (f : Format) (x : Float) → Finite f x → T (lt zero+ x) → Plain f x
plain-positive f nan F h = absurd F.finite
plain-positive f (inf s) F h = absurd F.finite
plain-positive f (fin s zero e) F h = absurd (no_size f s e F.held (size-of-positive F h))
plain-positive f (fin s (suc m) e) F h = record { held = F.held; number = unfold is_nan in tt; unsigned = unfold minus_zero in tt }

module _ {f : Format} {c r : Float} (C : Finite f c) (c+ : T (lt zero+ c)) (R : Finite f r) (r+ : T (lt zero+ r)) where
  wide : {a : Float} → Finite f a → Number f (mul f (div f a c) r)
  wide A = mul-number-up (div-number A C (size-of-positive C c+)) R r+

  lift : {a : Float} → Finite f a → Number f (greatest_of (mul f (div f a c) r) zero+)
  lift A = greatest-number (wide A) number-zero

  pub cone-number : {a : Float} → Finite f a → Number f (cone_of f a c r)
  unfolding cone_of
  cone-number A = least-number (lift A) (number-finite R)

  pub cone-low : {a : Float} → Finite f a → T (le zero+ (cone_of f a c r))
  unfolding cone_of
  cone-low A = least-ge (lift A) (number-finite R) number-zero (greatest-ge-r (wide A) number-zero) (lt→le number-zero (number-finite R) r+)

  pub cone-high : {a : Float} → Finite f a → T (le (cone_of f a c r) r)
  unfolding cone_of
  cone-high A = least-le-r (lift A) (number-finite R)

  pub cone-finite : {a : Float} → Finite f a → Finite f (cone_of f a c r)
  cone-finite A = finite-between (finite-within (within-zero f)) R (cone-number A).held (cone-low A) (cone-high A)

  pub cone-within : {k : ℕ} {a : Float} → Within f k r → Finite f a → Within f k (cone_of f a c r)
  cone-within W A = within-between (within-weaken zero-le (within-zero f)) W (cone-number A).held (cone-low A) (cone-high A)

  -- and it is not -0.0, where neither a nor r is
  pub cone-plain : {a : Float} → Plain f r → Plain f a → Finite f a → T (le zero+ a) → Plain f (cone_of f a c r)
  unfolding cone_of
  cone-plain u v A h = least-plain (greatest-plain (mul-plain-up (div-plain v A C h c+) u R (div-nonneg A C h c+) r+) (plain-zero f)) u

  pub cone-mono : {a b : Float} → Finite f a → Finite f b → T (le a b) → T (le (cone_of f a c r) (cone_of f b c r))
  unfolding cone_of
  cone-mono A B h =
      let n = size-of-positive C c+ in
      least-mono (lift A) (number-finite R) (lift B) (number-finite R)
      (greatest-mono (wide A) number-zero (wide B) number-zero (mul-mono-up (div-number A C n) (div-number B C n) R r+ (div_mono A B C c+ h)) (le-self (number-zero {f = f})))
      (le-self (number-finite R))

  -- as far up as the cone is long it is the whole radius
  pub cone-full : {a : Float} → Finite f a → T (le c a) → cone_of f a c r ≡ r
  unfolding cone_of
  cone-full {a} A h =
      let n = size-of-positive C c+ in
      let a+ : T (lt zero+ a) = lt-le-trans number-zero (number-finite C) (number-finite A) c+ h in
      let u : Plain f r = plain-positive f r R r+ in
      let big : T (le r (mul f (div f a c) r)) = subst (λ (x : Float). T (le x (mul f (div f a c) r))) (one-times f r R) (mul-mono-up number-one (div-number A C n) R r+ (div-ge-one A C c+ h)) in
      let high : T (le r (greatest_of (mul f (div f a c) r) zero+)) = le-through (number-finite R) (wide A) (lift A) big (greatest-ge-l (wide A) number-zero) in
      let low : T (le r (cone_of f a c r)) = least-ge (lift A) (number-finite R) (number-finite R) high (le-self (number-finite R)) in
      le_antisym (cone-plain u (plain-positive f a A a+) A (lt→le number-zero (number-finite A) a+)) u (cone-high A) low
