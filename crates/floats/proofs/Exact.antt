-- Rounding a value that the format holds gives that value, and zero is written in one way. Assumes nothing.
use mathlib.Core.Path.{◌≡◌, refl, sym, ap, ap₂, ◌∙◌, subst}
use Prim.Native.Nat.{ℕ, zero, suc, ◌+◌, ◌-◌, ◌*◌, ◌%◌, ◌^◌, ◌≤◌, ◌<◌}
use native.Mathlib.Nat.{mul-one, mul_assoc, mul-pos, zero-mul, zero-lt-suc, add-zero, sub-zero, eq_of_mul-eq-mul_right, div-one, one-mul, pow-succ'}
use native.Mathlib.Omega.{arith}
use mathlib.Core.Bool.{Bool, true, false, ◌&&◌, cond, true≢false, false≢true}
use lib.IntN.{ℤ, pos, negsuc}
use lib.Dec.{T, leb, ltb, eqb, eqb→eq, ltb→lt, lt→ltb, not_T}
use lib.Pow.{pow-add, pow_pos}
use lib.Ieee.{Float, nan, inf, fin, Format, binary32, binary64, prec, emax, low, up, down, round, sum, add, fits, is_nan}
use lib.Ieee.Bits.{is_true, is_false}
use lib.Ieee.Fits.{and_l, and_r, up_pos, down_pos, round-fits}
use lib.Ieee.Exact.{HasValue, round_exact}
use Rattle.floats.specs.Numbers.{minus_zero}
use Rattle.floats.specs.Kinds.{Plain}
use Rattle.floats.proofs.Keys.{top, key, eq-key, key-fin, mag, mag-exact, mag-lt, fits_low, back, below-pow, carry-eq, cross-l, cross-r}
use Rattle.floats.proofs.Order.{same_sign, number-of}

-- ---- two values that fit, of the same sign and the same size
same-value : (f : Format) (s : Bool) (m n : ℕ) (e d : ℤ) → T (fits f (fin s m e)) → T (fits f (fin s n d)) → m * up e * down d ≡ n * up d * down e → fin s m e ≡ fin s n d
same-value f s m n e d p q h =
    same_sign f s m n e d p q
    (carry-eq (2 ^ low f) (down e * down d) (m * up e * down d) (n * up d * down e) (mag f (fin s m e)) (mag f (fin s n d)) (mul-pos (down_pos e) (down_pos d)) (cross-l f s s m n e d p q) (cross-r f s s m n e d p q) h)

pub value-unique : (f : Format) (x : Float) (s : Bool) (m : ℕ) (e : ℤ) → T (fits f x) → T (fits f (fin s m e)) → HasValue x s (m * up e) (down e) → x ≡ fin s m e
value-unique f nan s m e p q v = absurd v
value-unique f (inf t) s m e p q v = absurd v
value-unique f (fin true n d) true m e p q v = same-value f true n m d e p q v.1
value-unique f (fin true n d) false m e p q v = absurd (true≢false v.0)
value-unique f (fin false n d) true m e p q v = absurd (false≢true v.0)
value-unique f (fin false n d) false m e p q v = same-value f false n m d e p q v.1

-- ---- rounding
-- a value that fits is m * 2 ^ j units of the format's smallest value
shift : ℕ → ℤ → ℕ
shift l (pos k) = k + l
shift l (negsuc k) = l - suc k

in-units : (l m : ℕ) (e : ℤ) → down e ≤ 2 ^ l → m * up e * 2 ^ l ≡ m * 2 ^ shift l e * down e
unfolding shift
in-units l m (pos k) h = mul_assoc m (2 ^ k) (2 ^ l) ∙ ap (λ (x : ℕ). m * x) (sym (pow-add 2 k l)) ∙ sym (mul-one (m * 2 ^ (k + l)))
in-units l m (negsuc k) h =
    ap (λ (x : ℕ). x * 2 ^ l) (mul-one m) ∙ ap (λ (x : ℕ). m * 2 ^ x) (sym (back (suc k) l (below-pow (suc k) l h))) ∙ ap (λ (x : ℕ). m * x) (pow-add 2 (l - suc k) (suc k)) ∙ sym (mul_assoc m (2 ^ (l - suc k)) (2 ^ suc k))

pub fits-small : (f : Format) (s : Bool) (m : ℕ) (e : ℤ) → T (fits f (fin s m e)) → m < 2 ^ prec f
unfolding fits
fits-small f s zero e t = pow_pos (prec f)
fits-small f s (suc m) e t =
    let A = eqb (suc m % 2) 1 in
    let B = ltb (suc m) (2 ^ prec f) in
    let C = leb (down e) (2 ^ low f) in
    let D = ltb (suc m * up e) (2 ^ suc (emax f) * down e) in
    ltb→lt (suc m) (2 ^ prec f) (and_r A B (and_l (A && B) C (and_l (A && B && C) D t)))

pub round-held : (f : Format) (s : Bool) (m : ℕ) (e : ℤ) → T (fits f (fin s m e)) → round f s (m * up e) (down e) ≡ fin s m e
unfolding top
round-held f s m e t =
    let j = shift (low f) e in
    let u : m * up e * 2 ^ low f ≡ m * 2 ^ j * down e = in-units (low f) m e (fits_low f s m e t) in
    let w : mag f (fin s m e) ≡ m * 2 ^ j = eq_of_mul-eq-mul_right (down e) (down_pos e) (mag f (fin s m e)) (m * 2 ^ j) (mag-exact f s m e t ∙ u) in
    value-unique f (round f s (m * up e) (down e)) s m e (round-fits f s (m * up e) (down e)) t
    (round_exact f s (m * up e) (down e) m j (down_pos e) (fits-small f s m e t) (subst (λ (x : ℕ). x < 2 ^ (low f + suc (emax f))) w (mag-lt f s m e t)) u)

-- ---- zero
-- a zero that fits has the exponent 0
two_up : (p : ℕ) → 0 < p → 2 * p ≡ 1 → ⊥
two_up p h e = omega arith

flat : (e : ℤ) → up e * down e ≡ 1 → e ≡ pos 0
flat (pos zero) h = refl
flat (pos (suc k)) h = absurd (two_up (2 ^ k) (pow_pos k) (sym (pow-succ' 2 k) ∙ sym (mul-one (2 ^ suc k)) ∙ h))
flat (negsuc k) h = absurd (two_up (2 ^ k) (pow_pos k) (sym (pow-succ' 2 k) ∙ sym (one-mul (2 ^ suc k)) ∙ h))

pub zero_is : (f : Format) (s : Bool) (e : ℤ) → T (fits f (fin s 0 e)) → fin s 0 e ≡ fin s 0 (pos 0)
unfolding fits
zero_is f s e t = ap (λ (z : ℤ). fin s 0 z) (flat e (eqb→eq (up e * down e) 1 t))

pub plain-zero : (f : Format) → Plain f (fin false 0 (pos 0))
unfolding fits is_nan minus_zero
plain-zero f = record { held = tt; number = tt; unsigned = tt }

-- the key of either zero
pub zero-mag : (f : Format) (s : Bool) → mag f (fin s 0 (pos 0)) ≡ 0
unfolding mag
zero-mag f s = div-one (0 * 2 ^ low f) ∙ zero-mul (2 ^ low f)

pub zero-key : (f : Format) (s : Bool) → key f (fin s 0 (pos 0)) ≡ top f
zero-key f true = key-fin f true 0 (pos 0) ∙ ap (λ (z : ℕ). top f - z) (zero-mag f true) ∙ sub-zero (top f)
zero-key f false = key-fin f false 0 (pos 0) ∙ ap (λ (z : ℕ). top f + z) (zero-mag f false) ∙ add-zero (top f)
