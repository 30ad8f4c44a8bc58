-- Sums, differences, products and quotients of finite floats, by their keys, and what follows for their order. A sum or a difference of two finite values is a whole number of units,
-- so it is zero only where it is exactly zero. No result need be finite. Assumes nothing.
use mathlib.Core.Path.{◌≡◌, refl, sym, ap, ap₂, ◌∙◌, subst}
use mathlib.Core.Logic.{◌↔◌}
use Prim.Native.Nat.{ℕ, zero, suc, ◌+◌, ◌-◌, ◌*◌, ◌^◌, ◌≤◌, ◌<◌, zero-le}
use native.Mathlib.Nat.{le_refl, lt_irrefl, lt_of_le_of_lt, lt_of_lt_of_le, lt_of_not-le, zero-lt-suc, one-mul, mul-one, div-one, le-add_right, sub_self as sub-self-zero, le_trans, le_of_eq, add-mul, mul-sub, mul_comm, mul_assoc, mul-pos, mul-zero, mul-mul-mul_comm, mul-le-mul_right, zero-mul}
use native.Mathlib.Decide.{dec_le}
use native.Mathlib.Omega.{arith}
use mathlib.Core.Bool.{Bool, true, false, not, ◌&&◌, beq, cond}
use lib.IntN.{ℤ, pos}
use lib.Dec.{T, ltb, ltb→lt, nltb→le, eqb-suc-zero}
use lib.Pow.{pow_pos}
use lib.Arith.{le→nltb}
use lib.Ieee.{Float, nan, inf, fin, Format, binary32, binary64, emax, low, up, down, unlike, round, neg, sum, add, sub, mul, div, le, lt, fits, is_nan}
use lib.Ieee.Bits.{is_false}
use lib.Ieee.Fits.{down_pos, up_pos, neg-fits}
use lib.Ieee.Scale.{round_same, finite}
use Rattle.floats.specs.Kinds.{Number, Finite}
use Rattle.floats.proofs.Keys.{top, mag, key, offset, minus?, key-fin, mag-exact, cross-l, cross-r, scale-ltb, top_pos}
use Rattle.floats.proofs.Order.{to_le, of_le, to-lt, of_lt, number-of, lt→le}
use Rattle.floats.proofs.Exact.{round-held, plain-zero, zero-key}
use Rattle.floats.proofs.Rounded.{rounded, snap, key-round, number-round, mag-le, rounded-mono, rounded-same, rounded-zero, snap-pow}

pub number-finite : {f : Format} {x : Float} → Finite f x → Number f x
number-finite {f} {x} = go x
  where
    go : (x : Float) → Finite f x → Number f x
    go nan p = absurd p.finite
    go (inf s) p = absurd p.finite
    go (fin s m e) p = record { held = p.held; number = unfold is_nan in tt }

-- ---- p - q, put through F, to its side of o
abbrev pub spread : ℕ → (ℕ → ℕ) → ℕ → ℕ → ℕ
spread o F p q = o + F (p - q) - F (q - p)

abbrev pub Grows : (ℕ → ℕ) → Type 0
Grows F = (a b : ℕ) → a ≤ b → F a ≤ F b

module _ (o : ℕ) (F : ℕ → ℕ) where
  pub spread-mono : Grows F → (p q p' q' : ℕ) → p + q' ≤ p' + q → spread o F p q ≤ spread o F p' q'
  spread-mono g p q p' q' h =
      let a : F (p - q) ≤ F (p' - q') = g (p - q) (p' - q') (omega arith) in
      let b : F (q' - p') ≤ F (q - p) = g (q' - p') (q - p) (omega arith) in
      omega arith

  module _ (z : F 0 ≡ 0) where
    up-side : (p q n : ℕ) → p ≡ q + n → o + F n ≡ spread o F p q
    up-side p q n h =
        let a : p - q ≡ n = omega arith in
        let b : q - p ≡ 0 = omega arith in
        let c : F (p - q) ≡ F n = ap F a in
        let d : F (q - p) ≡ 0 = ap F b ∙ z in
        omega arith

    down-side : (p q n : ℕ) → q ≡ p + n → o - F n ≡ spread o F p q
    down-side p q n h =
        let a : q - p ≡ n = omega arith in
        let b : p - q ≡ 0 = omega arith in
        let c : F (q - p) ≡ F n = ap F a in
        let d : F (p - q) ≡ 0 = ap F b ∙ z in
        omega arith

    pub spread-offset : (s : Bool) (a : ℕ) → a ≤ o → offset o s (F a) ≡ spread o F (offset o s a) o
    spread-offset true a h = down-side (o - a) o a (omega arith)
    spread-offset false a h = up-side (o + a) o a (omega arith)

-- ---- `sum` in units
module _ (f : Format) where
  pub snap-grows : Grows (snap f)
  snap-grows a b h = rounded-mono f a (2 ^ low f) b (2 ^ low f) (pow_pos (low f)) (pow_pos (low f)) (mul-le-mul_right (2 ^ low f) h)

  none : snap f 0 ≡ 0
  none = rounded-zero f (2 ^ low f) (pow_pos (low f))

  module _ (s t : Bool) (a b c x y l : ℕ) (C : 0 < c) (L : 0 < l) (p : a * l ≡ x * c) (q : b * l ≡ y * c) where
    less : (a b x y : ℕ) → a * l ≡ x * c → b * l ≡ y * c → (a - b) * l ≡ (x - y) * c
    less a b x y p q = mul_comm (a - b) l ∙ mul-sub l a b ∙ ap₂ (λ (m n : ℕ). m - n) (mul_comm l a ∙ p ∙ mul_comm x c) (mul_comm l b ∙ q ∙ mul_comm y c) ∙ sym (mul-sub c x y) ∙ mul_comm c (x - y)

    pub sum-units : sum f s a t b c ≡ sum f s x t y l
    unfolding sum
    sum-units =
        let e : ltb a b ≡ ltb x y = scale-ltb l c L C a b x y p q in
        let g : ltb b a ≡ ltb y x = scale-ltb l c L C b a y x q p in
        let r : round f s (a + b) c ≡ round f s (x + y) l = round_same f s (a + b) c (x + y) l C L (add-mul a b l ∙ ap₂ (λ (m n : ℕ). m + n) p q ∙ sym (add-mul x y c)) in
        let h : round f t (b - a) c ≡ round f t (y - x) l = round_same f t (b - a) c (y - x) l C L (less b a y x q p) in
        let k : round f (s && ltb y x) (a - b) c ≡ round f (s && ltb y x) (x - y) l = round_same f (s && ltb y x) (a - b) c (x - y) l C L (less a b x y p q) in
        rw (e, g, r, h, k)

  sum-key : (s t : Bool) (x y : ℕ) → x ≤ top f → y ≤ top f → key f (sum f s x t y (2 ^ low f)) ≡ spread (top f) (snap f) (offset (top f) s x + offset (top f) t y) (top f + top f)
  unfolding sum
  sum-key true true x y X Y = key-round f true (x + y) (2 ^ low f) ∙ down-side (top f) (snap f) none (top f - x + (top f - y)) (top f + top f) (x + y) (omega arith)
  sum-key false false x y X Y = key-round f false (x + y) (2 ^ low f) ∙ up-side (top f) (snap f) none (top f + x + (top f + y)) (top f + top f) (x + y) (omega arith)
  sum-key false true x y X Y = go (ltb x y) (ltb→lt x y) (nltb→le x y)
    where
      go : (b : Bool) → (T b → x < y) → (T (not b) → y ≤ x) → key f (cond b (round f true (y - x) (2 ^ low f)) (round f false (x - y) (2 ^ low f))) ≡ spread (top f) (snap f) (top f + x + (top f - y)) (top f + top f)
      go true h k = let l = h tt in key-round f true (y - x) (2 ^ low f) ∙ down-side (top f) (snap f) none (top f + x + (top f - y)) (top f + top f) (y - x) (omega arith)
      go false h k = let l = k tt in key-round f false (x - y) (2 ^ low f) ∙ up-side (top f) (snap f) none (top f + x + (top f - y)) (top f + top f) (x - y) (omega arith)
  sum-key true false x y X Y = go (ltb x y) (ltb y x) (ltb→lt x y) (nltb→le x y) (ltb→lt y x) (nltb→le y x)
    where
      go : (b c : Bool) → (T b → x < y) → (T (not b) → y ≤ x) → (T c → y < x) → (T (not c) → x ≤ y)
          → key f (cond b (round f false (y - x) (2 ^ low f)) (round f c (x - y) (2 ^ low f))) ≡ spread (top f) (snap f) (top f - x + (top f + y)) (top f + top f)
      go true c h k i j = let l = h tt in key-round f false (y - x) (2 ^ low f) ∙ up-side (top f) (snap f) none (top f - x + (top f + y)) (top f + top f) (y - x) (omega arith)
      go false true h k i j = let l = i tt in key-round f true (x - y) (2 ^ low f) ∙ down-side (top f) (snap f) none (top f - x + (top f + y)) (top f + top f) (x - y) (omega arith)
      go false false h k i j =
          let l = k tt in
          let m = j tt in
          key-round f false (x - y) (2 ^ low f) ∙ up-side (top f) (snap f) none (top f - x + (top f + y)) (top f + top f) (x - y) (omega arith)

  sum_number : (s t : Bool) (a b c : ℕ) → Number f (sum f s a t b c)
  unfolding sum
  sum_number s t a b c = go (beq s t) (ltb a b)
    where
      go : (u v : Bool) → Number f (cond u (round f s (a + b) c) (cond v (round f t (b - a) c) (round f (s && ltb b a) (a - b) c)))
      go true v = number-round f s (a + b) c
      go false true = number-round f t (b - a) c
      go false false = number-round f (s && ltb b a) (a - b) c

-- ---- `add`, `neg`, `sub`
pub key-le : {f : Format} {x : Float} → Number f x → key f x ≤ top f + top f
unfolding key
key-le {f} {x} p = go (minus? x) (mag-le f x p.held)
  where
    go : (s : Bool) → mag f x ≤ top f → offset (top f) s (mag f x) ≤ top f + top f
    go true h = omega arith
    go false h = omega arith

pub key-add : {f : Format} {x y : Float} → Finite f x → Finite f y → key f (add f x y) ≡ spread (top f) (snap f) (key f x + key f y) (top f + top f)
unfolding add
key-add {f} {x} {y} = go x y
  where
    go : (x y : Float) → Finite f x → Finite f y → key f (add f x y) ≡ spread (top f) (snap f) (key f x + key f y) (top f + top f)
    go nan y p q = absurd p.finite
    go (inf s) y p q = absurd p.finite
    go (fin s m e) nan p q = absurd q.finite
    go (fin s m e) (inf t) p q = absurd q.finite
    go (fin s m e) (fin t n d) p q =
        let X = mag f (fin s m e) in
        let Y = mag f (fin t n d) in
        ap (λ (z : Float). key f z) (sum-units f s t (m * up e * down d) (n * up d * down e) (down e * down d) X Y (2 ^ low f) (mul-pos (down_pos e) (down_pos d)) (pow_pos (low f)) (cross-l f s t m n e d p.held q.held) (cross-r f s t m n e d p.held q.held))
        ∙ sum-key f s t X Y (mag-le f (fin s m e) p.held) (mag-le f (fin t n d) q.held)
        ∙ ap₂ (λ (a b : ℕ). spread (top f) (snap f) (a + b) (top f + top f)) (sym (key-fin f s m e)) (sym (key-fin f t n d))

pub add-number : {f : Format} {x y : Float} → Finite f x → Finite f y → Number f (add f x y)
unfolding add
add-number {f} {x} {y} = go x y
  where
    go : (x y : Float) → Finite f x → Finite f y → Number f (add f x y)
    go nan y p q = absurd p.finite
    go (inf s) y p q = absurd p.finite
    go (fin s m e) nan p q = absurd q.finite
    go (fin s m e) (inf t) p q = absurd q.finite
    go (fin s m e) (fin t n d) p q = sum_number f s t (m * up e * down d) (n * up d * down e) (down e * down d)

pub neg-finite : {f : Format} {x : Float} → Finite f x → Finite f (neg x)
unfolding neg
neg-finite {f} {x} p = record { held = neg-fits f x p.held; finite = go x p.finite }
  where
    go : (x : Float) → T (finite x) → T (finite (neg x))
    go nan t = t
    go (inf s) t = t
    go (fin s m e) t = t

pub key-neg : {f : Format} {x : Float} → Number f x → key f (neg x) ≡ top f + top f - key f x
unfolding neg key mag is_nan
key-neg {f} {x} p = go x p.number (mag-le f x p.held)
  where
    side : (s : Bool) (a : ℕ) → a ≤ top f → offset (top f) (not s) a ≡ top f + top f - offset (top f) s a
    side true a h = omega arith
    side false a h = omega arith

    go : (x : Float) → T (not (is_nan x)) → mag f x ≤ top f → key f (neg x) ≡ top f + top f - key f x
    go nan t h = absurd t
    go (inf s) t h = side s (top f) h
    go (fin s m e) t h = side s (mag f (fin s m e)) h

pub sub_number : {f : Format} {x y : Float} → Finite f x → Finite f y → Number f (sub f x y)
unfolding sub
sub_number p q = add-number p (neg-finite q)

pub key-sub : {f : Format} {x y : Float} → Finite f x → Finite f y → key f (sub f x y) ≡ spread (top f) (snap f) (key f x) (key f y)
unfolding sub
key-sub {f} {x} {y} p q =
    let k = key-le (number-finite q) in
    let n = key-neg (number-finite q) in
    key-add p (neg-finite q)
    ∙ ap₂ (λ (a b : ℕ). top f + snap f a - snap f b) (plus (key f x) (key f y) (key f (neg y)) (top f) k n) (minus (key f x) (key f y) (key f (neg y)) (top f) k n)
  where
    plus : (a b c o : ℕ) → b ≤ o + o → c ≡ o + o - b → a + c - (o + o) ≡ a - b
    plus a b c o h e = omega arith

    minus : (a b c o : ℕ) → b ≤ o + o → c ≡ o + o - b → o + o - (a + c) ≡ b - a
    minus a b c o h e = omega arith

-- ---- sums and differences keep the order
pub add-mono : {f : Format} {x y x' y' : Float} → Finite f x → Finite f y → Finite f x' → Finite f y' → T (le x x') → T (le y y') → T (le (add f x y) (add f x' y'))
add-mono {f} {x} {y} {x'} {y'} p q p' q' h k =
    let a = of_le (number-finite p) (number-finite p') h in
    let b = of_le (number-finite q) (number-finite q') k in
    let o = top f + top f in
    to_le (add-number p q) (add-number p' q') (le_trans (le_of_eq (key-add p q)) (le_trans (spread-mono (top f) (snap f) (snap-grows f) (key f x + key f y) o (key f x' + key f y') o (omega arith)) (le_of_eq (sym (key-add p' q')))))

pub sub-mono : {f : Format} {x y x' y' : Float} → Finite f x → Finite f y → Finite f x' → Finite f y' → T (le x x') → T (le y' y) → T (le (sub f x y) (sub f x' y'))
sub-mono {f} {x} {y} {x'} {y'} p q p' q' h k =
    let a = of_le (number-finite p) (number-finite p') h in
    let b = of_le (number-finite q') (number-finite q) k in
    to_le (sub_number p q) (sub_number p' q') (le_trans (le_of_eq (key-sub p q)) (le_trans (spread-mono (top f) (snap f) (snap-grows f) (key f x) (key f y) (key f x') (key f y') (omega arith)) (le_of_eq (sym (key-sub p' q')))))

-- ---- the sign of a difference
pub one_unit : (f : Format) (n : ℕ) → 0 < n → 1 ≤ snap f n
one_unit f n h = le_trans (le_of_eq (sym (snap-pow f 0 zero-le))) (snap-grows f 1 n h)

nothing : (f : Format) (n : ℕ) → n ≡ 0 → snap f n ≡ 0
nothing f n h = ap (λ (k : ℕ). snap f k) h ∙ none f

spread-le : (f : Format) (a b : ℕ) → b ≤ a → top f ≤ spread (top f) (snap f) a b
spread-le f a b h = omega (arith, nothing f (b - a) (omega arith))

pub spread-lt : (f : Format) (a b : ℕ) → b < a → top f < spread (top f) (snap f) a b
spread-lt f a b h = omega (arith, nothing f (b - a) (omega arith), one_unit f (a - b) (omega arith))

pub spread-less : (f : Format) (a b : ℕ) → a < b → spread (top f) (snap f) a b < top f
spread-less f a b h = omega (arith, nothing f (a - b) (omega arith), one_unit f (b - a) (omega arith), top_pos f)

spread-le-back : (f : Format) (a b : ℕ) → top f ≤ spread (top f) (snap f) a b → b ≤ a
spread-le-back f a b h = go (dec_le b a)
  where
    go : Dec (b ≤ a) → b ≤ a
    go (yes d) = d
    go (no d) = absurd (lt_irrefl (top f) (lt_of_le_of_lt h (spread-less f a b (lt_of_not-le d))))

spread-lt-back : (f : Format) (a b : ℕ) → top f < spread (top f) (snap f) a b → b < a
spread-lt-back f a b h = go (dec_le a b)
  where
    at : a ≤ b → spread (top f) (snap f) a b ≤ top f
    at d = omega (arith, nothing f (a - b) (omega arith))

    go : Dec (a ≤ b) → b < a
    go (yes d) = absurd (lt_irrefl (top f) (lt_of_lt_of_le h (at d)))
    go (no d) = lt_of_not-le d

abbrev pub zero+ : Float
zero+ = fin false 0 (pos 0)

pub number-zero : {f : Format} → Number f zero+
number-zero {f} = number-of (plain-zero f)

module _ {f : Format} {x : Float} (p : Number f x) where
  pub of-nonneg : T (le zero+ x) → top f ≤ key f x
  of-nonneg h = le_trans (le_of_eq (sym (zero-key f false))) (of_le number-zero p h)

  pub to-nonneg : top f ≤ key f x → T (le zero+ x)
  to-nonneg h = to_le number-zero p (le_trans (le_of_eq (zero-key f false)) h)

  pub of_positive : T (lt zero+ x) → top f < key f x
  of_positive h = lt_of_le_of_lt (le_of_eq (sym (zero-key f false))) (of_lt number-zero p h)

  pub to-positive : top f < key f x → T (lt zero+ x)
  to-positive h = to-lt number-zero p (lt_of_le_of_lt (le_of_eq (zero-key f false)) h)

module _ {f : Format} {x y : Float} (p : Finite f x) (q : Finite f y) where
  pub sub-nonneg : T (le zero+ (sub f x y)) ↔ T (le y x)
  sub-nonneg = (
    λ h. to_le (number-finite q) (number-finite p) (spread-le-back f (key f x) (key f y) (le_trans (of-nonneg (sub_number p q) h) (le_of_eq (key-sub p q)))),
    λ h. to-nonneg (sub_number p q) (le_trans (spread-le f (key f x) (key f y) (of_le (number-finite q) (number-finite p) h)) (le_of_eq (sym (key-sub p q)))),
  )

  pub sub-positive : T (lt zero+ (sub f x y)) ↔ T (lt y x)
  sub-positive = (
    λ h. to-lt (number-finite q) (number-finite p) (spread-lt-back f (key f x) (key f y) (lt_of_lt_of_le (of_positive (sub_number p q) h) (le_of_eq (key-sub p q)))),
    λ h. to-positive (sub_number p q) (lt_of_lt_of_le (spread-lt f (key f x) (key f y) (of_lt (number-finite q) (number-finite p) h)) (le_of_eq (sym (key-sub p q)))),
  )

-- a value less itself is +0.0
pub sub_self : (f : Format) (x : Float) → T (finite x) → sub f x x ≡ zero+
unfolding sub add neg sum
sub_self f x = go x
  where
    zero-round : (c : ℕ) → 0 < c → round f false 0 c ≡ zero+
    zero-round c C = round_same f false 0 c 0 1 C (pow_pos 0) (zero-mul 1 ∙ sym (zero-mul c)) ∙ round-held f false 0 (pos 0) (plain-zero f).held

    even : (s : Bool) (a c : ℕ) → 0 < c → sum f s a (not s) a c ≡ zero+
    even true a c C = rw (is_false (ltb a a) (le→nltb a a (le_refl a)), sub-self-zero a) (zero-round c C)
    even false a c C = rw (is_false (ltb a a) (le→nltb a a (le_refl a)), sub-self-zero a) (zero-round c C)

    go : (x : Float) → T (finite x) → sub f x x ≡ zero+
    go nan t = absurd t
    go (inf s) t = absurd t
    go (fin s m e) t = even s (m * up e * down e) (down e * down e) (mul-pos (down_pos e) (down_pos e))

-- ---- `mul` and `div`, by sizes
-- x * y is X * Y units of units, and x / y is X / Y
mul-cross : (p q u v x y l : ℕ) → x * u ≡ p * l → y * v ≡ q * l → p * q * (l * l) ≡ x * y * (u * v)
mul-cross p q u v x y l a b = mul-mul-mul_comm p q l l ∙ ap₂ (λ (m n : ℕ). m * n) (sym a) (sym b) ∙ mul-mul-mul_comm x u y v

div-cross : (p q u v x y l : ℕ) → x * u ≡ p * l → y * v ≡ q * l → p * v * y ≡ x * (q * u)
div-cross p q u v x y l a b =
    mul_assoc p v y ∙ ap (λ (n : ℕ). p * n) (mul_comm v y ∙ b ∙ mul_comm q l) ∙ sym (mul_assoc p l q) ∙ ap (λ (n : ℕ). n * q) (sym a) ∙ mul_assoc x u q ∙ ap (λ (n : ℕ). x * n) (mul_comm u q)

abbrev pub product : Format → ℕ → ℕ → ℕ
product f a b = rounded f (a * b) (2 ^ low f * 2 ^ low f)

square-pos : (f : Format) → 0 < 2 ^ low f * 2 ^ low f
square-pos f = mul-pos (pow_pos (low f)) (pow_pos (low f))

pub key-mul : {f : Format} {x y : Float} → Finite f x → Finite f y → key f (mul f x y) ≡ offset (top f) (unlike (minus? x) (minus? y)) (product f (mag f x) (mag f y))
unfolding mul
key-mul {f} {x} {y} = go x y
  where
    go : (x y : Float) → Finite f x → Finite f y → key f (mul f x y) ≡ offset (top f) (unlike (minus? x) (minus? y)) (product f (mag f x) (mag f y))
    go nan y p q = absurd p.finite
    go (inf s) y p q = absurd p.finite
    go (fin s m e) nan p q = absurd q.finite
    go (fin s m e) (inf t) p q = absurd q.finite
    go (fin s m e) (fin t n d) p q =
        let X = mag f (fin s m e) in
        let Y = mag f (fin t n d) in
        key-round f (unlike s t) (m * up e * (n * up d)) (down e * down d)
        ∙ ap (λ (k : ℕ). offset (top f) (unlike s t) k)
        (rounded-same f (m * up e * (n * up d)) (down e * down d) (X * Y) (2 ^ low f * 2 ^ low f) (mul-pos (down_pos e) (down_pos d)) (square-pos f) (mul-cross (m * up e) (n * up d) (down e) (down d) X Y (2 ^ low f) (mag-exact f s m e p.held) (mag-exact f t n d q.held)))

pub mul-number : {f : Format} {x y : Float} → Finite f x → Finite f y → Number f (mul f x y)
unfolding mul
mul-number {f} {x} {y} = go x y
  where
    go : (x y : Float) → Finite f x → Finite f y → Number f (mul f x y)
    go nan y p q = absurd p.finite
    go (inf s) y p q = absurd p.finite
    go (fin s m e) nan p q = absurd q.finite
    go (fin s m e) (inf t) p q = absurd q.finite
    go (fin s m e) (fin t n d) p q = number-round f (unlike s t) (m * up e * (n * up d)) (down e * down d)

-- the divisor is not zero
pub no_size : (f : Format) (t : Bool) (d : ℤ) → T (fits f (fin t 0 d)) → 0 < mag f (fin t 0 d) → ⊥
no_size f t d h k = lt_irrefl 0 (subst (λ (z : ℕ). 0 < z) (mag-exact f t 0 d h ∙ ap (λ (z : ℕ). z * 2 ^ low f) (zero-mul (up d)) ∙ zero-mul (2 ^ low f)) (mul-pos k (down_pos d)))

pub div_is : (f : Format) (s t : Bool) (m n : ℕ) (e d : ℤ) → div f (fin s m e) (fin t (suc n) d) ≡ round f (unlike s t) (m * up e * down d) (suc n * up d * down e)
unfolding div
div_is f s t m n e d = rw (eqb-suc-zero n)

pub key-div : {f : Format} {x y : Float} → Finite f x → Finite f y → 0 < mag f y → key f (div f x y) ≡ offset (top f) (unlike (minus? x) (minus? y)) (rounded f (mag f x) (mag f y))
key-div {f} {x} {y} = go x y
  where
    go : (x y : Float) → Finite f x → Finite f y → 0 < mag f y → key f (div f x y) ≡ offset (top f) (unlike (minus? x) (minus? y)) (rounded f (mag f x) (mag f y))
    go nan y p q h = absurd p.finite
    go (inf s) y p q h = absurd p.finite
    go (fin s m e) nan p q h = absurd q.finite
    go (fin s m e) (inf t) p q h = absurd q.finite
    go (fin s m e) (fin t zero d) p q h = absurd (no_size f t d q.held h)
    go (fin s m e) (fin t (suc n) d) p q h =
        let X = mag f (fin s m e) in
        let Y = mag f (fin t (suc n) d) in
        ap (λ (z : Float). key f z) (div_is f s t m n e d)
        ∙ key-round f (unlike s t) (m * up e * down d) (suc n * up d * down e)
        ∙ ap (λ (k : ℕ). offset (top f) (unlike s t) k)
        (rounded-same f (m * up e * down d) (suc n * up d * down e) X Y (mul-pos (mul-pos (zero-lt-suc n) (up_pos d)) (down_pos e)) h (div-cross (m * up e) (suc n * up d) (down e) (down d) X Y (2 ^ low f) (mag-exact f s m e p.held) (mag-exact f t (suc n) d q.held)))

pub div-number : {f : Format} {x y : Float} → Finite f x → Finite f y → 0 < mag f y → Number f (div f x y)
div-number {f} {x} {y} = go x y
  where
    go : (x y : Float) → Finite f x → Finite f y → 0 < mag f y → Number f (div f x y)
    go nan y p q h = absurd p.finite
    go (inf s) y p q h = absurd p.finite
    go (fin s m e) nan p q h = absurd q.finite
    go (fin s m e) (inf t) p q h = absurd q.finite
    go (fin s m e) (fin t zero d) p q h = absurd (no_size f t d q.held h)
    go (fin s m e) (fin t (suc n) d) p q h = rw (div_is f s t m n e d) (number-round f (unlike s t) (m * up e * down d) (suc n * up d * down e))

-- ---- by a factor that is not negative, and by a divisor that is positive
product-grows : (f : Format) (b : ℕ) → Grows (λ a. product f a b)
product-grows f b a c h = rounded-mono f (a * b) (2 ^ low f * 2 ^ low f) (c * b) (2 ^ low f * 2 ^ low f) (square-pos f) (square-pos f) (mul-le-mul_right (2 ^ low f * 2 ^ low f) (mul-le-mul_right b h))

product-zero : (f : Format) (b : ℕ) → product f 0 b ≡ 0
product-zero f b = ap (λ (n : ℕ). rounded f n (2 ^ low f * 2 ^ low f)) (zero-mul b) ∙ rounded-zero f (2 ^ low f * 2 ^ low f) (square-pos f)

product-by-zero : (f : Format) (a : ℕ) → product f a 0 ≡ 0
product-by-zero f a = ap (λ (n : ℕ). rounded f n (2 ^ low f * 2 ^ low f)) (mul-zero a) ∙ rounded-zero f (2 ^ low f * 2 ^ low f) (square-pos f)

-- a value that is not negative has no sign, or has no size
pub key-is : (f : Format) (x : Float) → key f x ≡ offset (top f) (minus? x) (mag f x)
unfolding key
key-is f x = refl

unsigned : (o : ℕ) (s : Bool) (a : ℕ) → a ≤ o → o ≤ offset o s a → (T s → a ≡ 0)
unsigned o true a h k t = omega arith
unsigned o false a h k t = absurd t

same-side : (o : ℕ) (s t : Bool) (n : ℕ) → (T t → n ≡ 0) → offset o (unlike s t) n ≡ offset o s n
same-side o true true n h = let z = h tt in omega arith
same-side o true false n h = refl
same-side o false true n h = let z = h tt in omega arith
same-side o false false n h = refl

module _ {f : Format} {z : Float} (r : Finite f z) where
  factor : T (le zero+ z) → T (minus? z) → mag f z ≡ 0
  factor h = unsigned (top f) (minus? z) (mag f z) (mag-le f z r.held) (le_trans (of-nonneg (number-finite r) h) (le_of_eq (key-is f z)))

  pub size-of-positive : T (lt zero+ z) → 0 < mag f z
  size-of-positive h = go (minus? z) (mag f z) (lt_of_lt_of_le (of_positive (number-finite r) h) (le_of_eq (key-is f z)))
    where
      go : (s : Bool) (a : ℕ) → top f < offset (top f) s a → 0 < a
      go true a k = omega arith
      go false a k = omega arith

  pub size-of-above : (n : ℕ) → top f + n ≤ key f z → n ≤ mag f z
  size-of-above n h = go (minus? z) (mag f z) (le_trans h (le_of_eq (key-is f z)))
    where
      go : (s : Bool) (a : ℕ) → top f + n ≤ offset (top f) s a → n ≤ a
      go true a k = omega arith
      go false a k = omega arith

module _ {f : Format} {x z : Float} (p : Finite f x) (r : Finite f z) where
  pub key-mul-by : T (le zero+ z) → key f (mul f x z) ≡ spread (top f) (λ a. product f a (mag f z)) (key f x) (top f)
  key-mul-by h =
      key-mul p r
      ∙ same-side (top f) (minus? x) (minus? z) (product f (mag f x) (mag f z)) (λ t. ap (λ (n : ℕ). product f (mag f x) n) (factor r h t) ∙ product-by-zero f (mag f x))
      ∙ spread-offset (top f) (λ a. product f a (mag f z)) (product-zero f (mag f z)) (minus? x) (mag f x) (mag-le f x p.held)
      ∙ ap (λ (n : ℕ). spread (top f) (λ a. product f a (mag f z)) n (top f)) (sym (key-is f x))

  pub key-div-by : T (lt zero+ z) → key f (div f x z) ≡ spread (top f) (λ a. rounded f a (mag f z)) (key f x) (top f)
  key-div-by h =
      key-div p r (size-of-positive r h)
      ∙ same-side (top f) (minus? x) (minus? z) (rounded f (mag f x) (mag f z)) (λ t. absurd (clash (mag f z) (size-of-positive r h) (factor r (lt→le number-zero (number-finite r) h) t)))
      ∙ spread-offset (top f) (λ a. rounded f a (mag f z)) (rounded-zero f (mag f z) (size-of-positive r h)) (minus? x) (mag f x) (mag-le f x p.held)
      ∙ ap (λ (n : ℕ). spread (top f) (λ a. rounded f a (mag f z)) n (top f)) (sym (key-is f x))
    where
      clash : (a : ℕ) → 0 < a → a ≡ 0 → ⊥
      clash a g e = omega arith

quotient-grows : (f : Format) (b : ℕ) → 0 < b → Grows (λ a. rounded f a b)
quotient-grows f b B a c h = rounded-mono f a b c b B B (mul-le-mul_right b h)

pub mul_mono : {f : Format} {x y z : Float} → Finite f x → Finite f y → Finite f z → T (le zero+ z) → T (le x y) → T (le (mul f x z) (mul f y z))
mul_mono {f} {x} {y} {z} p q r h k =
    let a = of_le (number-finite p) (number-finite q) k in
    to_le (mul-number p r) (mul-number q r)
    (le_trans (le_of_eq (key-mul-by p r h)) (le_trans (spread-mono (top f) (λ a. product f a (mag f z)) (product-grows f (mag f z)) (key f x) (top f) (key f y) (top f) (omega arith)) (le_of_eq (sym (key-mul-by q r h)))))

pub div_mono : {f : Format} {x y z : Float} → Finite f x → Finite f y → Finite f z → T (lt zero+ z) → T (le x y) → T (le (div f x z) (div f y z))
div_mono {f} {x} {y} {z} p q r h k =
    let a = of_le (number-finite p) (number-finite q) k in
    let n = size-of-positive r h in
    to_le (div-number p r n) (div-number q r n)
    (le_trans (le_of_eq (key-div-by p r h)) (le_trans (spread-mono (top f) (λ a. rounded f a (mag f z)) (quotient-grows f (mag f z) n) (key f x) (top f) (key f y) (top f) (omega arith)) (le_of_eq (sym (key-div-by q r h)))))

-- ---- not negative
side-le : (o : ℕ) (F : ℕ → ℕ) → F 0 ≡ 0 → (k : ℕ) → o ≤ k → o ≤ spread o F k o
side-le o F z k h = let a : F (o - k) ≡ 0 = ap F (gone o k h) ∙ z in omega arith
  where
    gone : (o k : ℕ) → o ≤ k → o - k ≡ 0
    gone o k h = omega arith

pub mul-nonneg : {f : Format} {x z : Float} → Finite f x → Finite f z → T (le zero+ x) → T (le zero+ z) → T (le zero+ (mul f x z))
mul-nonneg {f} {x} {z} p r h k =
    to-nonneg (mul-number p r) (le_trans (side-le (top f) (λ a. product f a (mag f z)) (product-zero f (mag f z)) (key f x) (of-nonneg (number-finite p) h)) (le_of_eq (sym (key-mul-by p r k))))

pub div-nonneg : {f : Format} {x z : Float} → Finite f x → Finite f z → T (le zero+ x) → T (lt zero+ z) → T (le zero+ (div f x z))
div-nonneg {f} {x} {z} p r h k =
    to-nonneg (div-number p r (size-of-positive r k)) (le_trans (side-le (top f) (λ a. rounded f a (mag f z)) (rounded-zero f (mag f z) (size-of-positive r k)) (key f x) (of-nonneg (number-finite p) h)) (le_of_eq (sym (key-div-by p r k))))

-- ---- a quotient of x by a greater z is 1.0 at most
abbrev pub one+ : Float
one+ = fin false 1 (pos 0)

pub number-one : {f : Format} → Number f one+
number-one {f = binary32} = record { held = unfold fits in tt; number = unfold is_nan in tt }
number-one {f = binary64} = record { held = unfold fits in tt; number = unfold is_nan in tt }

pub one_key : (f : Format) → key f one+ ≡ top f + 2 ^ low f
unfolding mag
one_key f = key-fin f false 1 (pos 0) ∙ ap (λ (n : ℕ). top f + n) (div-one (1 * 2 ^ low f) ∙ one-mul (2 ^ low f))

whole-one : (f : Format) → rounded f 1 1 ≡ 2 ^ low f
whole-one f = rounded-same f 1 1 (2 ^ low f) (2 ^ low f) (pow_pos 0) (pow_pos (low f)) (one-mul (2 ^ low f) ∙ sym (mul-one (2 ^ low f))) ∙ snap-pow f (low f) (le-add_right (low f) (emax f))

pub div-le-one : {f : Format} {x z : Float} → Finite f x → Finite f z → T (lt zero+ z) → T (le x z) → T (le (div f x z) one+)
div-le-one {f} {x} {z} p r h k =
    let n = size-of-positive r h in
    let Z = mag f z in
    let a : key f x - top f ≤ Z = within (minus? z) Z (key f x) (le_trans (of_le (number-finite p) (number-finite r) k) (le_of_eq (key-is f z))) in
    let b : rounded f (key f x - top f) Z ≤ rounded f 1 1 = rounded-mono f (key f x - top f) Z 1 1 n (pow_pos 0) (le_trans (le_of_eq (mul-one (key f x - top f))) (le_trans a (le_of_eq (sym (one-mul Z))))) in
    to_le (div-number p r n) number-one (omega (arith, key-div-by p r h, one_key f, whole-one f))
  where
    within : (s : Bool) (a k : ℕ) → k ≤ offset (top f) s a → k - top f ≤ a
    within true a k h = omega arith
    within false a k h = omega arith

-- ---- and by a lesser one 1.0 at least
pub div-ge-one : {f : Format} {x z : Float} → Finite f x → Finite f z → T (lt zero+ z) → T (le z x) → T (le one+ (div f x z))
div-ge-one {f} {x} {z} p r h k =
    let n = size-of-positive r h in
    let Z = mag f z in
    let t : top f < key f x = lt_of_lt_of_le (of_positive (number-finite r) h) (of_le (number-finite r) (number-finite p) k) in
    let a : Z ≤ key f x - top f = above (minus? z) Z (key f x) (lt_of_lt_of_le (of_positive (number-finite r) h) (le_of_eq (key-is f z))) (le_trans (le_of_eq (sym (key-is f z))) (of_le (number-finite r) (number-finite p) k)) in
    let b : rounded f 1 1 ≤ rounded f (key f x - top f) Z = rounded-mono f 1 1 (key f x - top f) Z (pow_pos 0) n (le_trans (le_of_eq (one-mul Z)) (le_trans a (le_of_eq (sym (mul-one (key f x - top f)))))) in
    let c : rounded f (top f - key f x) Z ≡ 0 = ap (λ (m : ℕ). rounded f m Z) (gone (top f) (key f x) t) ∙ rounded-zero f Z n in
    to_le number-one (div-number p r n) (omega (arith, key-div-by p r h, one_key f, whole-one f))
  where
    above : (s : Bool) (a k : ℕ) → top f < offset (top f) s a → offset (top f) s a ≤ k → a ≤ k - top f
    above true a k h g = omega arith
    above false a k h g = omega arith

    gone : (o k : ℕ) → o < k → o - k ≡ 0
    gone o k h = omega arith
