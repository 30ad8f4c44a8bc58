-- Which results are not -0.0. A sum or a difference is not, where its left operand is not. A product or a quotient of two values that are not negative is not. Assumes nothing.
use mathlib.Core.Path.{◌≡◌, refl, sym, ap, ◌∙◌, subst}
use Prim.Native.Nat.{ℕ, zero, suc, ◌+◌, ◌-◌, ◌*◌, ◌^◌, ◌≤◌, ◌<◌}
use native.Mathlib.Nat.{le_trans, le_of_eq, mul-pos}
use native.Mathlib.Omega.{arith}
use mathlib.Core.Bool.{Bool, true, false, cond, true≢false}
use lib.IntN.{ℤ}
use lib.Dec.{T, ltb, ltb→lt, not_T}
use lib.Pow.{pow_pos}
use lib.Ieee.{Float, nan, inf, fin, Format, low, up, down, round, sum, add, sub, mul, div, le, lt, eq, fits}
use lib.Ieee.Fits.{down_pos}
use lib.Ieee.Scale.{finite}
use Rattle.floats.specs.Numbers.{minus_zero}
use Rattle.floats.specs.Kinds.{Plain, Finite}
use Rattle.floats.proofs.Keys.{top, mag, minus?, key-fin, cross-l, cross-r}
use Rattle.floats.proofs.Exact.{zero-mag, zero_is}
use Rattle.floats.proofs.Order.{mag-zero, number-of}
use Rattle.floats.proofs.Rounded.{rounded, minus-round, mag-round, number-round, mag-le}
use Rattle.floats.proofs.Signed.{neg-finite, sum-units, one_unit, no_size, div_is, size-of-positive, of-nonneg, zero+}

-- ---- a rounded value is -0.0 only where its sign is minus and it is zero
zero-sign : (x : Float) → T (minus_zero x) → T (minus? x)
unfolding minus_zero
zero-sign nan t = absurd t
zero-sign (inf s) t = absurd t
zero-sign (fin s zero e) t = t
zero-sign (fin s (suc m) e) t = absurd t

zero-size : (f : Format) (x : Float) → T (fits f x) → T (minus_zero x) → mag f x ≡ 0
unfolding minus_zero
zero-size f nan h t = absurd t
zero-size f (inf s) h t = absurd t
zero-size f (fin s zero e) h t = ap (λ (z : Float). mag f z) (zero_is f s e h) ∙ zero-mag f s
zero-size f (fin s (suc m) e) h t = absurd t

pub plain-round : (f : Format) (s : Bool) (a c : ℕ) → (T s → 0 < rounded f a c) → Plain f (round f s a c)
plain-round f s a c h = record {
  held = (number-round f s a c).held;
  number = (number-round f s a c).number;
  unsigned = not_T (minus_zero (round f s a c)) (λ t. none (rounded f a c) (h (subst T (minus-round f s a c) (zero-sign (round f s a c) t))) (sym (mag-round f s a c) ∙ zero-size f (round f s a c) (number-round f s a c).held t));
}
  where
    none : (n : ℕ) → 0 < n → n ≡ 0 → ⊥
    none n p e = omega arith

-- ---- sums and differences
sum-plain : (f : Format) (s t : Bool) (x y : ℕ) → (T s → 0 < x) → Plain f (sum f s x t y (2 ^ low f))
unfolding sum
sum-plain f true true x y h = plain-round f true (x + y) (2 ^ low f) (λ t. one_unit f (x + y) (let l = h tt in omega arith))
sum-plain f false false x y h = plain-round f false (x + y) (2 ^ low f) (λ t. absurd t)
sum-plain f false true x y h = go (ltb x y) (ltb→lt x y)
  where
    go : (b : Bool) → (T b → x < y) → Plain f (cond b (round f true (y - x) (2 ^ low f)) (round f false (x - y) (2 ^ low f)))
    go true i = plain-round f true (y - x) (2 ^ low f) (λ t. one_unit f (y - x) (let l = i tt in omega arith))
    go false i = plain-round f false (x - y) (2 ^ low f) (λ t. absurd t)
sum-plain f true false x y h = go (ltb x y) (ltb y x) (ltb→lt y x)
  where
    go : (b c : Bool) → (T c → y < x) → Plain f (cond b (round f false (y - x) (2 ^ low f)) (round f c (x - y) (2 ^ low f)))
    go true c i = plain-round f false (y - x) (2 ^ low f) (λ t. absurd t)
    go false true i = plain-round f true (x - y) (2 ^ low f) (λ t. one_unit f (x - y) (let l = i tt in omega arith))
    go false false i = plain-round f false (x - y) (2 ^ low f) (λ t. absurd t)

pub add-plain : {f : Format} {x y : Float} → Plain f x → Finite f x → Finite f y → Plain f (add f x y)
unfolding add
add-plain {f} {x} {y} = go x y
  where
    size : (s : Bool) (m : ℕ) (e : ℤ) → Plain f (fin s m e) → T s → 0 < mag f (fin s m e)
    size true m e u t = above (mag f (fin true m e)) (mag-zero f m e u)
      where
        above : (n : ℕ) → (n ≡ 0 → ⊥) → 0 < n
        above zero h = absurd (h refl)
        above (suc n) h = native.Mathlib.Nat.zero-lt-suc n
    size false m e u t = absurd t

    go : (x y : Float) → Plain f x → Finite f x → Finite f y → Plain f (add f x y)
    go nan y u p q = absurd p.finite
    go (inf s) y u p q = absurd p.finite
    go (fin s m e) nan u p q = absurd q.finite
    go (fin s m e) (inf t) u p q = absurd q.finite
    go (fin s m e) (fin t n d) u p q =
        let X = mag f (fin s m e) in
        let Y = mag f (fin t n d) in
        rw (sum-units f s t (m * up e * down d) (n * up d * down e) (down e * down d) X Y (2 ^ low f) (mul-pos (down_pos e) (down_pos d)) (pow_pos (low f)) (cross-l f s t m n e d p.held q.held) (cross-r f s t m n e d p.held q.held))
        (sum-plain f s t X Y (size s m e u))

pub sub-plain : {f : Format} {x y : Float} → Plain f x → Finite f x → Finite f y → Plain f (sub f x y)
unfolding sub
sub-plain u p q = add-plain u p (neg-finite q)

-- ---- products and quotients
-- a value that is not negative and not -0.0 has no sign
pub no_sign : {f : Format} {x : Float} → Plain f x → T (le zero+ x) → minus? x ≡ false
no_sign {f} {x} = go x
  where
    gone : (o a : ℕ) → a ≤ o → o ≤ o - a → a ≡ 0
    gone o a p q = omega arith

    go : (x : Float) → Plain f x → T (le zero+ x) → minus? x ≡ false
    go nan u h = refl
    go (inf true) u h = absurd (unfold le lt eq in h)
    go (inf false) u h = refl
    go (fin true m e) u h = absurd (mag-zero f m e u (gone (top f) (mag f (fin true m e)) (mag-le f (fin true m e) u.held) (le_trans (of-nonneg (number-of u) h) (le_of_eq (key-fin f true m e)))))
    go (fin false m e) u h = refl

pub mul-plain : {f : Format} {x y : Float} → Plain f x → Plain f y → Finite f x → Finite f y → T (le zero+ x) → T (le zero+ y) → Plain f (mul f x y)
unfolding mul
mul-plain {f} {x} {y} = go x y
  where
    go : (x y : Float) → Plain f x → Plain f y → Finite f x → Finite f y → T (le zero+ x) → T (le zero+ y) → Plain f (mul f x y)
    go nan y u v p q h k = absurd p.finite
    go (inf s) y u v p q h k = absurd p.finite
    go (fin s m e) nan u v p q h k = absurd q.finite
    go (fin s m e) (inf t) u v p q h k = absurd q.finite
    go (fin true m e) (fin t n d) u v p q h k = absurd (true≢false (no_sign u h))
    go (fin false m e) (fin true n d) u v p q h k = absurd (true≢false (no_sign v k))
    go (fin false m e) (fin false n d) u v p q h k = plain-round f false (m * up e * (n * up d)) (down e * down d) (λ t. absurd t)

pub div-plain : {f : Format} {x y : Float} → Plain f x → Finite f x → Finite f y → T (le zero+ x) → T (lt zero+ y) → Plain f (div f x y)
unfolding lt
div-plain {f} {x} {y} = go x y
  where
    go : (x y : Float) → Plain f x → Finite f x → Finite f y → T (le zero+ x) → T (lt zero+ y) → Plain f (div f x y)
    go nan y u p q h k = absurd p.finite
    go (inf s) y u p q h k = absurd p.finite
    go (fin s m e) nan u p q h k = absurd q.finite
    go (fin s m e) (inf t) u p q h k = absurd q.finite
    go (fin true m e) (fin t n d) u p q h k = absurd (true≢false (no_sign u h))
    go (fin false m e) (fin true n d) u p q h k = absurd k
    go (fin false m e) (fin false zero d) u p q h k = absurd (no_size f false d q.held (size-of-positive q k))
    go (fin false m e) (fin false (suc n) d) u p q h k = rw (div_is f false false m n e d) (plain-round f false (m * up e * down d) (suc n * up d * down e) (λ t. absurd t))
