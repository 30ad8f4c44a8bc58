-- The order of floats: `lt` is a strict total preorder, `le` its total preorder and `eq` the equivalence of the two, on the floats of a format that are no NaN, infinities included.
-- And two such floats that are not -0.0 are the same where they are equal. Assumes nothing.
use mathlib.Core.Path.{◌≡◌, refl, sym, ap, ◌∙◌, subst}
use mathlib.Core.Logic.{◌⊎◌, inl, inr}
use Prim.Native.Nat.{ℕ, zero, suc, ◌+◌, ◌-◌, ◌*◌, ◌/◌, ◌^◌, ◌≤◌, ◌<◌}
use native.Mathlib.Nat.{lt_irrefl, mul-pos, zero-mul, zero-lt-suc}
use native.Mathlib.Omega.{arith}
use mathlib.Core.Bool.{Bool, true, false, not, ◌&&◌, cond}
use lib.IntN.{ℤ}
use lib.Dec.{T, not_T, T_not}
use lib.Pow.{pow_pos}
use lib.Ieee.{Float, nan, inf, fin, Format, binary64, prec, low, hid, down, size, lt, eq, le, fits, is_nan, to_bits, of_bits}
use lib.Ieee as ieee
use lib.Ieee.Bits.{of_bits-to_bits}
use lib.Ieee.Fits.{up_pos, and_l, and_r}
use Rattle.floats.specs.Numbers.{minus_zero}
use Rattle.floats.specs.Kinds.{Number, Plain}
use Rattle.floats.proofs.Keys.{top, mag, key, key-inf, key-fin, mag-exact, mag-lt, no-inf, top_pos, lt-key, eq-key, le-key}

module _ {f : Format} {x y : Float} (p : Number f x) (q : Number f y) where
  pub to-lt : key f x < key f y → T (lt x y)
  to-lt = (lt-key f x y p q).1

  pub of_lt : T (lt x y) → key f x < key f y
  of_lt = (lt-key f x y p q).0

  pub to_le : key f x ≤ key f y → T (le x y)
  to_le = (le-key f x y p q).1

  pub of_le : T (le x y) → key f x ≤ key f y
  of_le = (le-key f x y p q).0

  pub to-eq : key f x ≡ key f y → T (eq x y)
  to-eq = (eq-key f x y p q).1

  pub of_eq : T (eq x y) → key f x ≡ key f y
  of_eq = (eq-key f x y p q).0

-- ---- `lt`
pub lt-never : {f : Format} {x : Float} → Number f x → T (lt x x) → ⊥
lt-never {f} {x} p h = omega (arith, of_lt p p h)

pub lt-asym : {f : Format} {x y : Float} → Number f x → Number f y → T (lt x y) → T (lt y x) → ⊥
lt-asym p q h k = omega (arith, of_lt p q h, of_lt q p k)

pub lt_trans : {f : Format} {x y z : Float} → Number f x → Number f y → Number f z → T (lt x y) → T (lt y z) → T (lt x z)
lt_trans p q r h k = to-lt p r (omega (arith, of_lt p q h, of_lt q r k))

pub lt-le-trans : {f : Format} {x y z : Float} → Number f x → Number f y → Number f z → T (lt x y) → T (le y z) → T (lt x z)
lt-le-trans p q r h k = to-lt p r (omega (arith, of_lt p q h, of_le q r k))

pub le_lt_trans : {f : Format} {x y z : Float} → Number f x → Number f y → Number f z → T (le x y) → T (lt y z) → T (lt x z)
le_lt_trans p q r h k = to-lt p r (omega (arith, of_le p q h, of_lt q r k))

-- ---- `le`
pub le-self : {f : Format} {x : Float} → Number f x → T (le x x)
le-self p = to_le p p (omega arith)

pub le_trans : {f : Format} {x y z : Float} → Number f x → Number f y → Number f z → T (le x y) → T (le y z) → T (le x z)
le_trans p q r h k = to_le p r (omega (arith, of_le p q h, of_le q r k))

pub lt→le : {f : Format} {x y : Float} → Number f x → Number f y → T (lt x y) → T (le x y)
lt→le p q h = to_le p q (omega (arith, of_lt p q h))

pub le→nlt : {f : Format} {x y : Float} → Number f x → Number f y → T (le x y) → T (not (lt y x))
le→nlt {x = x} {y = y} p q h = not_T (lt y x) (λ k. omega (arith, of_le p q h, of_lt q p k))

pub nlt→le : {f : Format} {x y : Float} → Number f x → Number f y → T (not (lt y x)) → T (le x y)
nlt→le {f} {x} {y} p q h = to_le p q (close (λ l. T_not (lt y x) h (to-lt q p l)))
  where
    close : {a b : ℕ} → (b < a → ⊥) → a ≤ b
    close n = omega arith

pub le-either : {f : Format} {x y : Float} → Number f x → Number f y → T (le x y) ⊎ T (le y x)
le-either {x = x} {y = y} p q = go (lt y x) (nlt→le p q) (lt→le q p)
  where
    go : (b : Bool) → (T (not b) → T (le x y)) → (T b → T (le y x)) → T (le x y) ⊎ T (le y x)
    go true g h = inr (h tt)
    go false g h = inl (g tt)

pub le-is-not-lt : {f : Format} {x y : Float} → Number f x → Number f y → le x y ≡ not (lt y x)
le-is-not-lt {x = x} {y = y} p q = same (le x y) (not (lt y x)) (le→nlt p q) (nlt→le p q)
  where
    same : (a b : Bool) → (T a → T b) → (T b → T a) → a ≡ b
    same true true g h = refl
    same true false g h = absurd (g tt)
    same false true g h = absurd (h tt)
    same false false g h = refl

-- ---- `eq`
pub eq_self : {f : Format} {x : Float} → Number f x → T (eq x x)
eq_self p = to-eq p p refl

pub eq-sym : {f : Format} {x y : Float} → Number f x → Number f y → T (eq x y) → T (eq y x)
eq-sym p q h = to-eq q p (sym (of_eq p q h))

pub eq_trans : {f : Format} {x y z : Float} → Number f x → Number f y → Number f z → T (eq x y) → T (eq y z) → T (eq x z)
eq_trans p q r h k = to-eq p r (of_eq p q h ∙ of_eq q r k)

pub le-both : {f : Format} {x y : Float} → Number f x → Number f y → T (le x y) → T (le y x) → T (eq x y)
le-both p q h k = to-eq p q (omega (arith, of_le p q h, of_le q p k))

pub eq→le : {f : Format} {x y : Float} → Number f x → Number f y → T (eq x y) → T (le x y)
eq→le p q h = to_le p q (omega (arith, of_eq p q h))

-- ---- a value is written in one way
pub number-of : {f : Format} {x : Float} → Plain f x → Number f x
number-of p = record { held = p.held; number = p.number }

-- the bits of a value, from its sign and its magnitude
bits : Format → Bool → ℕ → ℕ
bits f s n = cond s (ieee.top f) 0 + (size n - prec f) * hid f + n / 2 ^ (size n - prec f)

to_bits_is : (f : Format) (s : Bool) (m : ℕ) (e : ℤ) → to_bits f (fin s m e) ≡ bits f s (mag f (fin s m e))
unfolding to_bits bits mag
to_bits_is f s m e = refl

pub same_sign : (f : Format) (s : Bool) (m n : ℕ) (e d : ℤ) → T (fits f (fin s m e)) → T (fits f (fin s n d)) → mag f (fin s m e) ≡ mag f (fin s n d) → fin s m e ≡ fin s n d
same_sign f s m n e d p q h =
    sym (of_bits-to_bits f (fin s m e) p) ∙ ap (λ (b : ℕ). of_bits f b) (to_bits_is f s m e ∙ ap (λ (k : ℕ). bits f s k) h ∙ sym (to_bits_is f s n d)) ∙ of_bits-to_bits f (fin s n d) q

-- what is not zero has no magnitude of zero
pub mag-zero : (f : Format) (m : ℕ) (e : ℤ) → Plain f (fin true m e) → mag f (fin true m e) ≡ 0 → ⊥
unfolding minus_zero
mag-zero f zero e p h = p.unsigned
mag-zero f (suc m) e p h =
    lt_irrefl 0 (subst (λ (z : ℕ). 0 < z) (sym (mag-exact f true (suc m) e p.held) ∙ ap (λ (z : ℕ). z * down e) h ∙ zero-mul (down e)) (mul-pos (mul-pos (zero-lt-suc m) (up_pos e)) (pow_pos (low f))))

pub key-unique : {f : Format} {x y : Float} → Plain f x → Plain f y → key f x ≡ key f y → x ≡ y
unfolding is_nan
key-unique {f} {x} {y} = go x y
  where
    apart : (o a b : ℕ) → a < o → o - a ≡ o + b → a ≡ 0
    apart o a b A h = omega arith

    less : (o a b : ℕ) → a < o → b < o → o - a ≡ o - b → a ≡ b
    less o a b A B h = omega arith

    more : (o a b : ℕ) → o + a ≡ o + b → a ≡ b
    more o a b h = omega arith

    ends : (o : ℕ) → 0 < o → o - o ≡ o + o → ⊥
    ends o O h = omega arith

    go : (x y : Float) → Plain f x → Plain f y → key f x ≡ key f y → x ≡ y
    go nan y p q h = absurd p.number
    go (inf s) nan p q h = absurd q.number
    go (inf true) (inf true) p q h = refl
    go (inf true) (inf false) p q h = absurd (ends (top f) (top_pos f) (sym (key-inf f true) ∙ h ∙ key-inf f false))
    go (inf false) (inf true) p q h = absurd (ends (top f) (top_pos f) (sym (sym (key-inf f false) ∙ h ∙ key-inf f true)))
    go (inf false) (inf false) p q h = refl
    go (inf s) (fin t n d) p q h = absurd (no-inf (top f) t s (mag f (fin t n d)) (mag-lt f t n d q.held) (sym (key-fin f t n d) ∙ sym h ∙ key-inf f s))
    go (fin s m e) nan p q h = absurd q.number
    go (fin s m e) (inf t) p q h = absurd (no-inf (top f) s t (mag f (fin s m e)) (mag-lt f s m e p.held) (sym (key-fin f s m e) ∙ h ∙ key-inf f t))
    go (fin true m e) (fin true n d) p q h = same_sign f true m n e d p.held q.held (less (top f) (mag f (fin true m e)) (mag f (fin true n d)) (mag-lt f true m e p.held) (mag-lt f true n d q.held) (sym (key-fin f true m e) ∙ h ∙ key-fin f true n d))
    go (fin true m e) (fin false n d) p q h = absurd (mag-zero f m e p (apart (top f) (mag f (fin true m e)) (mag f (fin false n d)) (mag-lt f true m e p.held) (sym (key-fin f true m e) ∙ h ∙ key-fin f false n d)))
    go (fin false m e) (fin true n d) p q h = absurd (mag-zero f n d q (apart (top f) (mag f (fin true n d)) (mag f (fin false m e)) (mag-lt f true n d q.held) (sym (key-fin f true n d) ∙ sym h ∙ key-fin f false m e)))
    go (fin false m e) (fin false n d) p q h = same_sign f false m n e d p.held q.held (more (top f) (mag f (fin false m e)) (mag f (fin false n d)) (sym (key-fin f false m e) ∙ h ∙ key-fin f false n d))

pub eq-unique : {f : Format} {x y : Float} → Plain f x → Plain f y → T (eq x y) → x ≡ y
eq-unique p q h = key-unique p q (of_eq (number-of p) (number-of q) h)

pub le_antisym : {f : Format} {x y : Float} → Plain f x → Plain f y → T (le x y) → T (le y x) → x ≡ y
le_antisym p q h k = eq-unique p q (le-both (number-of p) (number-of q) h k)

-- ---- from a test that computes, as at a literal
pub plain-test : (f : Format) (x : Float) → T (fits f x && not (is_nan x) && not (minus_zero x)) → Plain f x
plain-test f x t = record {
  held = and_l (fits f x) (not (is_nan x)) (and_l (fits f x && not (is_nan x)) (not (minus_zero x)) t);
  number = and_r (fits f x) (not (is_nan x)) (and_l (fits f x && not (is_nan x)) (not (minus_zero x)) t);
  unsigned = and_r (fits f x && not (is_nan x)) (not (minus_zero x)) t;
}

pub lt-is-not-le : {f : Format} {x y : Float} → Number f x → Number f y → lt x y ≡ not (le y x)
lt-is-not-le {x = x} {y = y} p q = sym (not-not (lt x y)) ∙ ap not (sym (le-is-not-lt q p))
  where
    not-not : (b : Bool) → not (not b) ≡ b
    not-not true = refl
    not-not false = refl
