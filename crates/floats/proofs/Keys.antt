-- Each float that a format holds, and that is no NaN, has a natural number for its place in the order: its key.
-- In units of the format's smallest value its magnitude is a whole number below 2 ^ (low + emax + 1), which is where the infinities stand.
-- The key is that number added to 2 ^ (low + emax + 1), or taken from it. IEEE 754's comparisons are those of the keys. Assumes nothing.
use mathlib.Core.Path.{◌≡◌, refl, sym, ap, ap₂, ◌∙◌, subst}
use mathlib.Core.Logic.{◌↔◌, ◌⊎◌, inl, inr}
use Prim.Native.Nat.{ℕ, zero, suc, ◌+◌, ◌-◌, ◌*◌, ◌/◌, ◌%◌, ◌^◌, ◌≤◌, ◌<◌}
use native.Mathlib.Nat.{le_trans, le_of_eq, le_of_lt, mul-one, div-one, mul_comm, mul_assoc, mul_left_comm, mul_right_comm, mul-div_cancel, mul-pos, zero-mul, mul-lt-mul_of_pos_right, lt_of_mul-lt-mul_right, eq_of_mul-eq-mul_right, eq-or-lt_of_le, add-mul}
use native.Mathlib.Decide.{dec_le}
use native.Mathlib.Omega.{arith}
use mathlib.Core.Bool.{Bool, true, false, not, ◌&&◌, ◌||◌, beq}
use lib.IntN.{ℤ, pos, negsuc}
use lib.Dec.{T, leb, ltb, eqb, ltb→lt, lt→ltb, leb→le, eqb→eq}
use lib.Pow.{pow-add, pow_pos, pow-lt}
use lib.Ieee.{Float, nan, inf, fin, Format, prec, emax, low, up, down, below, level, lt, eq, le, fits, is_nan}
use lib.Ieee.Fits.{and_i, and_l, and_r, down_pos, eq→eqb}
use Rattle.floats.specs.Kinds.{Number}
use Rattle.floats.proofs.Bools.{or_l, or_r}

-- ---- the key

-- where the infinities stand
unfoldable pub top : Format → ℕ
top f = 2 ^ (low f + suc (emax f))

-- the magnitude in units of the format's smallest value
unfoldable pub mag : Format → Float → ℕ
mag f nan = 0
mag f (inf s) = top f
mag f (fin s m e) = m * up e * 2 ^ low f / down e

abbrev pub minus? : Float → Bool
minus? nan = false
minus? (inf s) = s
minus? (fin s m e) = s

abbrev pub offset : ℕ → Bool → ℕ → ℕ
offset o true a = o - a
offset o false a = o + a

unfoldable pub key : Format → Float → ℕ
unfolding mag top
key f x = offset (top f) (minus? x) (mag f x)

-- ---- what a value that fits has for its magnitude

pub below-pow : (a b : ℕ) → 2 ^ a ≤ 2 ^ b → a ≤ b
below-pow a b h = go (dec_le a b)
  where
    clash : (x y : ℕ) → x < y → y ≤ x → ⊥
    clash x y p q = omega arith

    under : (x y : ℕ) → (x ≤ y → ⊥) → y < x
    under x y n = omega arith

    go : Dec (a ≤ b) → a ≤ b
    go (yes p) = p
    go (no n) = absurd (clash (2 ^ b) (2 ^ a) (pow-lt (under a b n)) h)

pub back : (a b : ℕ) → a ≤ b → b - a + a ≡ b
back a b h = omega arith

-- nothing is cut
exact : (l m : ℕ) (e : ℤ) → down e ≤ 2 ^ l → m * up e * 2 ^ l / down e * down e ≡ m * up e * 2 ^ l
exact l m (pos k) h = mul-one (m * 2 ^ k * 2 ^ l / 1) ∙ div-one (m * 2 ^ k * 2 ^ l)
exact l m (negsuc k) h =
    let j = l - suc k in
    let e : m * 1 * 2 ^ l ≡ m * 1 * 2 ^ j * 2 ^ suc k =
    ap (λ (x : ℕ). m * 1 * 2 ^ x) (sym (back (suc k) l (below-pow (suc k) l h))) ∙ ap (λ (x : ℕ). m * 1 * x) (pow-add 2 j (suc k)) ∙ sym (mul_assoc (m * 1) (2 ^ j) (2 ^ suc k)) in
    ap (λ (x : ℕ). x / 2 ^ suc k * 2 ^ suc k) e ∙ ap (λ (x : ℕ). x * 2 ^ suc k) (mul-div_cancel (m * 1 * 2 ^ j) (pow_pos (suc k))) ∙ sym e

flat-down : (e : ℤ) → up e * down e ≡ 1 → down e ≡ 1
flat-down (pos k) h = refl
flat-down (negsuc k) h = sym (native.Mathlib.Nat.one-mul (2 ^ suc k)) ∙ h

-- of a value that fits: its exponent is not too low, and its size is below the infinities'
pub fits_low : (f : Format) (s : Bool) (m : ℕ) (e : ℤ) → T (fits f (fin s m e)) → down e ≤ 2 ^ low f
unfolding fits
fits_low f s zero e t = le_trans (le_of_eq (flat-down e (eqb→eq (up e * down e) 1 t))) (pow_pos (low f))
fits_low f s (suc m) e t =
    let A = eqb (suc m % 2) 1 in
    let B = ltb (suc m) (2 ^ prec f) in
    let C = leb (down e) (2 ^ low f) in
    let D = ltb (suc m * up e) (2 ^ suc (emax f) * down e) in
    leb→le (down e) (2 ^ low f) (and_r (A && B) C (and_l (A && B && C) D t))

fits-high : (f : Format) (s : Bool) (m : ℕ) (e : ℤ) → T (fits f (fin s m e)) → m * up e < 2 ^ suc (emax f) * down e
unfolding fits
fits-high f s zero e t = subst (λ (x : ℕ). x < 2 ^ suc (emax f) * down e) (sym (zero-mul (up e))) (mul-pos (pow_pos (suc (emax f))) (down_pos e))
fits-high f s (suc m) e t =
    let A = eqb (suc m % 2) 1 in
    let B = ltb (suc m) (2 ^ prec f) in
    let C = leb (down e) (2 ^ low f) in
    let D = ltb (suc m * up e) (2 ^ suc (emax f) * down e) in
    ltb→lt (suc m * up e) (2 ^ suc (emax f) * down e) (and_r (A && B && C) D t)

pub mag-exact : (f : Format) (s : Bool) (m : ℕ) (e : ℤ) → T (fits f (fin s m e)) → mag f (fin s m e) * down e ≡ m * up e * 2 ^ low f
unfolding mag
mag-exact f s m e t = exact (low f) m e (fits_low f s m e t)

pub mag-lt : (f : Format) (s : Bool) (m : ℕ) (e : ℤ) → T (fits f (fin s m e)) → mag f (fin s m e) < top f
unfolding top
mag-lt f s m e t =
    let k = mag f (fin s m e) in
    let l = low f in
    let w = suc (emax f) in
    let p : m * up e * 2 ^ l < 2 ^ w * down e * 2 ^ l = mul-lt-mul_of_pos_right (fits-high f s m e t) (pow_pos l) in
    let q : 2 ^ w * down e * 2 ^ l ≡ 2 ^ (l + w) * down e = simp (pow-add, mul_assoc, mul_comm, mul_left_comm) in
    lt_of_mul-lt-mul_right (down e) (subst (λ (x : ℕ). x < 2 ^ (l + w) * down e) (sym (mag-exact f s m e t)) (subst (λ (x : ℕ). m * up e * 2 ^ l < x) q p))

-- ---- a comparison of two numbers is that of two others in the same proportion

pub same_test : (a b : Bool) → (T a → T b) → (T b → T a) → a ≡ b
same_test true true p q = refl
same_test true false p q = absurd (p tt)
same_test false true p q = absurd (q tt)
same_test false false p q = refl

carry-lt : (l c a b p q : ℕ) → 0 < l → a * l ≡ p * c → b * l ≡ q * c → a < b → p < q
carry-lt l c a b p q L x y h = lt_of_mul-lt-mul_right c (subst (λ (z : ℕ). z < q * c) x (subst (λ (z : ℕ). a * l < z) y (mul-lt-mul_of_pos_right h L)))

pub carry-eq : (l c a b p q : ℕ) → 0 < c → a * l ≡ p * c → b * l ≡ q * c → a ≡ b → p ≡ q
carry-eq l c a b p q C x y h = eq_of_mul-eq-mul_right c C p q (sym x ∙ ap (λ (z : ℕ). z * l) h ∙ y)

module _ (l c : ℕ) (L : 0 < l) (C : 0 < c) where
  pub scale-ltb : (a b p q : ℕ) → a * l ≡ p * c → b * l ≡ q * c → ltb a b ≡ ltb p q
  scale-ltb a b p q x y =
      same_test (ltb a b) (ltb p q) (λ t. lt→ltb p q (carry-lt l c a b p q L x y (ltb→lt a b t))) (λ t. lt→ltb a b (carry-lt c l p q a b C (sym x) (sym y) (ltb→lt p q t)))

  scale-eqb : (a b p q : ℕ) → a * l ≡ p * c → b * l ≡ q * c → eqb a b ≡ eqb p q
  scale-eqb a b p q x y =
      same_test (eqb a b) (eqb p q) (λ t. eq→eqb (carry-eq l c a b p q C x y (eqb→eq a b t))) (λ t. eq→eqb (carry-eq c l p q a b L (sym x) (sym y) (eqb→eq p q t)))

  zeros : 0 * l ≡ 0 * c
  zeros = zero-mul l ∙ sym (zero-mul c)

  scale-below : (s t : Bool) (a b p q : ℕ) → a * l ≡ p * c → b * l ≡ q * c → below s a t b ≡ below s p t q
  scale-below false false a b p q x y = scale-ltb a b p q x y
  scale-below false true a b p q x y = refl
  scale-below true false a b p q x y = scale-ltb 0 (a + b) 0 (p + q) zeros (add-mul a b l ∙ ap₂ (λ (m n : ℕ). m + n) x y ∙ sym (add-mul p q c))
  scale-below true true a b p q x y = scale-ltb b a q p y x

  scale-level : (s t : Bool) (a b p q : ℕ) → a * l ≡ p * c → b * l ≡ q * c → level s a t b ≡ level s p t q
  scale-level s t a b p q x y = ap₂ (λ (u v : Bool). u && (beq s t || v)) (scale-eqb a b p q x y) (scale-eqb a 0 p 0 x zeros)

-- ---- a comparison of two signed numbers is that of their distances from a bound

or-e : (a b : Bool) → T (a || b) → T a ⊎ T b
or-e true b t = inl tt
or-e false b t = inr t

to-eqb : (a b : ℕ) → a ≡ b → T (eqb a b)
to-eqb a b h = eq→eqb h

module _ (o : ℕ) where
  below-offset : (s t : Bool) (a b : ℕ) → a ≤ o → b ≤ o → T (below s a t b) ↔ (offset o s a < offset o t b)
  below-offset false false a b A B = (λ t. omega (arith, ltb→lt a b t), λ h. lt→ltb a b (omega arith))
  below-offset false true a b A B = (λ t. absurd t, λ h. omega arith)
  below-offset true false a b A B = (λ t. omega (arith, ltb→lt 0 (a + b) t), λ h. lt→ltb 0 (a + b) (omega arith))
  below-offset true true a b A B = (λ t. omega (arith, ltb→lt b a t), λ h. lt→ltb b a (omega arith))

  level-offset : (s t : Bool) (a b : ℕ) → a ≤ o → b ≤ o → T (level s a t b) ↔ (offset o s a ≡ offset o t b)
  level-offset false false a b A B = (λ t. omega (arith, eqb→eq a b (and_l (eqb a b) true t)), λ h. and_i (eqb a b) true (to-eqb a b (omega arith)) tt)
  level-offset false true a b A B = (λ t. omega (arith, eqb→eq a b (and_l (eqb a b) (eqb a 0) t), eqb→eq a 0 (and_r (eqb a b) (eqb a 0) t)), λ h. and_i (eqb a b) (eqb a 0) (to-eqb a b (omega arith)) (to-eqb a 0 (omega arith)))
  level-offset true false a b A B = (λ t. omega (arith, eqb→eq a b (and_l (eqb a b) (eqb a 0) t), eqb→eq a 0 (and_r (eqb a b) (eqb a 0) t)), λ h. and_i (eqb a b) (eqb a 0) (to-eqb a b (omega arith)) (to-eqb a 0 (omega arith)))
  level-offset true true a b A B = (λ t. omega (arith, eqb→eq a b (and_l (eqb a b) true t)), λ h. and_i (eqb a b) true (to-eqb a b (omega arith)) tt)

  -- an infinity beside a number below it
  first-inf : (s t : Bool) (b : ℕ) → b < o → T s ↔ (offset o s o < offset o t b)
  first-inf true true b B = (λ t. omega arith, λ h. tt)
  first-inf true false b B = (λ t. omega arith, λ h. tt)
  first-inf false true b B = (λ t. absurd t, λ h. omega arith)
  first-inf false false b B = (λ t. absurd t, λ h. omega arith)

  last-inf : (s t : Bool) (a : ℕ) → a < o → T (not t) ↔ (offset o s a < offset o t o)
  last-inf true true a A = (λ t. absurd t, λ h. omega arith)
  last-inf true false a A = (λ t. omega arith, λ h. tt)
  last-inf false true a A = (λ t. absurd t, λ h. omega arith)
  last-inf false false a A = (λ t. omega arith, λ h. tt)

  pub no-inf : (s t : Bool) (a : ℕ) → a < o → offset o s a ≡ offset o t o → ⊥
  no-inf true true a A h = omega arith
  no-inf true false a A h = omega arith
  no-inf false true a A h = omega arith
  no-inf false false a A h = omega arith

  both-inf : (s t : Bool) → 0 < o → T (s && not t) ↔ (offset o s o < offset o t o)
  both-inf true true O = (λ t. absurd t, λ h. omega arith)
  both-inf true false O = (λ t. omega arith, λ h. tt)
  both-inf false true O = (λ t. absurd t, λ h. omega arith)
  both-inf false false O = (λ t. absurd t, λ h. omega arith)

  same-inf : (s t : Bool) → 0 < o → T (beq s t) ↔ (offset o s o ≡ offset o t o)
  same-inf true true O = (λ t. refl, λ h. tt)
  same-inf true false O = (λ t. absurd t, λ h. omega arith)
  same-inf false true O = (λ t. absurd t, λ h. omega arith)
  same-inf false false O = (λ t. refl, λ h. tt)

-- ---- the comparisons of floats are those of their keys

pub top_pos : (f : Format) → 0 < top f
unfolding top
top_pos f = pow_pos (low f + suc (emax f))

-- two values that fit, over one denominator
module _ (f : Format) (s t : Bool) (m n : ℕ) (e d : ℤ) (p : T (fits f (fin s m e))) (q : T (fits f (fin t n d))) where
  pub cross-l : m * up e * down d * 2 ^ low f ≡ mag f (fin s m e) * (down e * down d)
  cross-l = mul_right_comm (m * up e) (down d) (2 ^ low f) ∙ ap (λ (x : ℕ). x * down d) (sym (mag-exact f s m e p)) ∙ mul_assoc (mag f (fin s m e)) (down e) (down d)

  pub cross-r : n * up d * down e * 2 ^ low f ≡ mag f (fin t n d) * (down e * down d)
  cross-r = mul_right_comm (n * up d) (down e) (2 ^ low f) ∙ ap (λ (x : ℕ). x * down e) (sym (mag-exact f t n d q)) ∙ mul_assoc (mag f (fin t n d)) (down d) (down e) ∙ ap (λ (x : ℕ). mag f (fin t n d) * x) (mul_comm (down d) (down e))

  lt-mag : lt (fin s m e) (fin t n d) ≡ below s (mag f (fin s m e)) t (mag f (fin t n d))
  unfolding lt
  lt-mag = scale-below (2 ^ low f) (down e * down d) (pow_pos (low f)) (mul-pos (down_pos e) (down_pos d)) s t (m * up e * down d) (n * up d * down e) (mag f (fin s m e)) (mag f (fin t n d)) cross-l cross-r

  eq-mag : eq (fin s m e) (fin t n d) ≡ level s (mag f (fin s m e)) t (mag f (fin t n d))
  unfolding eq
  eq-mag = scale-level (2 ^ low f) (down e * down d) (pow_pos (low f)) (mul-pos (down_pos e) (down_pos d)) s t (m * up e * down d) (n * up d * down e) (mag f (fin s m e)) (mag f (fin t n d)) cross-l cross-r

pub key-inf : (f : Format) (s : Bool) → key f (inf s) ≡ offset (top f) s (top f)
unfolding key
key-inf f s = refl

pub key-fin : (f : Format) (s : Bool) (m : ℕ) (e : ℤ) → key f (fin s m e) ≡ offset (top f) s (mag f (fin s m e))
unfolding key
key-fin f s m e = refl

pub lt-key : (f : Format) (x y : Float) → Number f x → Number f y → T (lt x y) ↔ (key f x < key f y)
unfolding lt is_nan
lt-key f nan y p q = absurd p.number
lt-key f (inf s) nan p q = absurd q.number
lt-key f (inf s) (inf t) p q = rw (key-inf f s, key-inf f t) (both-inf (top f) s t (top_pos f))
lt-key f (inf s) (fin t n d) p q = rw (key-inf, key-fin) (first-inf (top f) s t (mag f (fin t n d)) (mag-lt f t n d q.held))
lt-key f (fin s m e) nan p q = absurd q.number
lt-key f (fin s m e) (inf t) p q = rw (key-inf, key-fin) (last-inf (top f) s t (mag f (fin s m e)) (mag-lt f s m e p.held))
lt-key f (fin s m e) (fin t n d) p q =
    rw (key-fin f s m e, key-fin f t n d, lt-mag f s t m n e d p.held q.held) (below-offset (top f) s t (mag f (fin s m e)) (mag f (fin t n d)) (le_of_lt (mag-lt f s m e p.held)) (le_of_lt (mag-lt f t n d q.held)))

pub eq-key : (f : Format) (x y : Float) → Number f x → Number f y → T (eq x y) ↔ (key f x ≡ key f y)
unfolding eq is_nan
eq-key f nan y p q = absurd p.number
eq-key f (inf s) nan p q = absurd q.number
eq-key f (inf s) (inf t) p q = rw (key-inf f s, key-inf f t) (same-inf (top f) s t (top_pos f))
eq-key f (inf s) (fin t n d) p q = rw (key-inf, key-fin) (λ z. absurd z, λ h. absurd (no-inf (top f) t s (mag f (fin t n d)) (mag-lt f t n d q.held) (sym h)))
eq-key f (fin s m e) nan p q = absurd q.number
eq-key f (fin s m e) (inf t) p q = rw (key-inf, key-fin) (λ z. absurd z, λ h. absurd (no-inf (top f) s t (mag f (fin s m e)) (mag-lt f s m e p.held) h))
eq-key f (fin s m e) (fin t n d) p q =
    rw (key-fin f s m e, key-fin f t n d, eq-mag f s t m n e d p.held q.held) (level-offset (top f) s t (mag f (fin s m e)) (mag f (fin t n d)) (le_of_lt (mag-lt f s m e p.held)) (le_of_lt (mag-lt f t n d q.held)))

pub le-key : (f : Format) (x y : Float) → Number f x → Number f y → T (le x y) ↔ (key f x ≤ key f y)
unfolding le
le-key f x y p q = (λ t. there (or-e (lt x y) (eq x y) t), λ h. here (eq-or-lt_of_le h))
  where
    there : T (lt x y) ⊎ T (eq x y) → key f x ≤ key f y
    there (inl u) = le_of_lt ((lt-key f x y p q).0 u)
    there (inr u) = le_of_eq ((eq-key f x y p q).0 u)

    here : (key f x ≡ key f y) ⊎ (key f x < key f y) → T (lt x y || eq x y)
    here (inl h) = or_r (lt x y) (eq x y) ((eq-key f x y p q).1 h)
    here (inr h) = or_l (lt x y) (eq x y) ((lt-key f x y p q).1 h)
