-- The size of a root. An answer is finite and not negative; it is at most 2 ^ k where the square is at most 2 ^ 2k; where it is not zero it is not near zero; and of two numbers the larger has the larger root (`root-mono`). Assumes nothing.
use Rattle.std.proofs.Common.{◌≡◌, ℕ, zero, suc, ◌+◌, ◌-◌, ◌*◌, ◌^◌, ◌<◌, ◌≤◌, Bool, true, false, T, ℤ, pos, negsuc, sym, refl, ap, ◌∙◌, subst, zero-le, le_trans, le_of_eq, lt_of_lt_of_le, lt_of_le_of_lt, lt_irrefl, mul-le-mul_right, zero-lt-suc, mul-le-mul, add_comm, mul-pos, one-mul, lt_of_not-le, zero-mul, div-one, arith, pow_pos, pow-add}
use native.Mathlib.Decide.{dec_le}
use lib.Ieee.{Float, nan, inf, fin, Format, binary64, low, up, down, odd, neg, le, lt, fits, is_nan}
use lib.Ieee.Scale.{finite}
use lib.Ieee.Fits.{up_pos, down_pos, neg-fits}
use lib.Ieee.Positive.{first_pos}
use Rattle.refusals.specs.Paper.{answers, refuses, only}
use Rattle.floats.specs.Numbers.{minus_zero}
use Rattle.floats.specs.Kinds.{Plain, Finite, Within}
use Rattle.floats.proofs.Keys.{top, top_pos, mag, key, minus?, offset, mag-exact}
use Rattle.floats.proofs.Order.{to_le, of_le}
use Rattle.floats.proofs.Exact.{zero-mag}
use Rattle.floats.proofs.Signed.{zero+, number-finite, key-is, of-nonneg, to-nonneg, size-of-above}
use Rattle.floats.proofs.Within.{within-size, size-within, within-weaken, within-zero}
use Rattle.numbers.specs.Root.{root_of, root_within, units_of, Nearer}
use Rattle.numbers.proofs.Nearest.{value-digits, root-fits, root-nearest}

-- ---- over whole numbers: R is nearer to the root of N than Y is
-- the square of a double
four : (y : ℕ) → y * y * 4 ≡ (y + y) * (y + y)
four y = omega arith

module _ (N R Y : ℕ) where
  -- where the square of Y is N or more, R is at most Y
  pub root-at-most : (Y < R → (R + Y) * (R + Y) < N * 4) → N ≤ Y * Y → R ≤ Y
  root-at-most under h = go (dec_le R Y)
    where
      more : (r y : ℕ) → y < r → y + y ≤ r + y
      more r y h = omega arith

      go : Dec (R ≤ Y) → R ≤ Y
      go (yes p) = p
      go (no p) =
          let g = lt_of_not-le p in
          absurd (lt_irrefl (N * 4) (lt_of_le_of_lt (le_trans (mul-le-mul_right 4 h) (le_trans (le_of_eq (four Y)) (mul-le-mul (more R Y g) (more R Y g)))) (under g)))

  -- where the square of Y is N or less, R is at least Y
  pub root-at-least : (R < Y → N * 4 < (R + Y) * (R + Y)) → Y * Y ≤ N → Y ≤ R
  root-at-least above h = go (dec_le Y R)
    where
      less : (r y : ℕ) → r < y → r + y ≤ y + y
      less r y h = omega arith

      go : Dec (Y ≤ R) → Y ≤ R
      go (yes p) = p
      go (no p) =
          let g = lt_of_not-le p in
          absurd (lt_irrefl (N * 4) (lt_of_lt_of_le (above g) (le_trans (mul-le-mul (less R Y g) (less R Y g)) (le_trans (le_of_eq (sym (four Y))) (mul-le-mul_right 4 h)))))

-- ---- which numbers have a root
-- the same answer is the same value
inside : (a b : Float) → answers a ≡ answers b → a ≡ b
inside a b h = cc

-- a refusal is no answer
refused : (v : Float) → refuses (only 5) ≡ answers v → ⊥
refused v h = let z : ◌≡◌ {A = ℕ} 0 1 = cc in omega arith

-- a value of binary64 that is finite and has no minus sign
record Signless (v : Float) : Type 0 where
  held : T (fits binary64 v)
  finite : T (finite v)
  unsigned : minus? v ≡ false

-- what `odd` makes is finite
odd-finite : (d q k l : ℕ) → T (finite (odd d false q k l))
unfolding odd
odd-finite d zero k l = tt
odd-finite d (suc q) k l = tt

-- and has the sign that it is given
odd-unsigned : (d q k l : ℕ) → minus? (odd d false q k l) ≡ false
unfolding odd
odd-unsigned d zero k l = refl
odd-unsigned d (suc q) k l = refl

-- the root of a number above zero is such a value
root-signless : (m : ℕ) (e : ℤ) → T (fits binary64 (fin false (suc m) e)) → Signless (root_within (units_of (fin false (suc m) e)))
root-signless m e h = record { held = root-fits m e h; finite = unfold root_within in odd-finite _ _ _ _; unsigned = unfold root_within in odd-unsigned _ _ _ _ }

-- and so is every root
answer-signless : (x v : Float) → T (fits binary64 x) → root_of x ≡ answers v → Signless v
unfolding root_of fits
answer-signless nan v f h = absurd (refused v h)
answer-signless (inf s) v f h = absurd (refused v h)
answer-signless (fin s zero e) v f h = subst Signless (inside zero+ v h) (record { held = tt; finite = tt; unsigned = refl })
answer-signless (fin true (suc m) e) v f h = absurd (refused v h)
answer-signless (fin false (suc m) e) v f h = subst Signless (inside (root_within (units_of (fin false (suc m) e))) v h) (root-signless m e f)

-- a finite value that is not zero has a size
some : (s : Bool) (m : ℕ) (e : ℤ) → T (fits binary64 (fin s (suc m) e)) → 0 < mag binary64 (fin s (suc m) e)
some s m e h = first_pos (mag binary64 (fin s (suc m) e)) (down e) (subst (λ (z : ℕ). 0 < z) (sym (mag-exact binary64 s (suc m) e h)) (mul-pos (mul-pos (zero-lt-suc m) (up_pos e)) (pow_pos 1074)))

-- a finite number that is not negative has a root
pub root-answers : (x : Float) → Finite binary64 x → T (le zero+ x) → (v : Float) × (root_of x ≡ answers v)
unfolding root_of
root-answers nan p h = absurd p.finite
root-answers (inf s) p h = absurd p.finite
root-answers (fin s zero e) p h = (zero+, refl)
root-answers (fin true (suc m) e) p h =
    let x = fin true (suc m) e in
    absurd (clash (top binary64) (mag binary64 x) (top_pos binary64) (some true m e p.held) (le_trans (of-nonneg (number-finite p) h) (le_of_eq (key-is binary64 x))))
  where
    clash : (o a : ℕ) → 0 < o → 0 < a → o ≤ o - a → ⊥
    clash o a p q h = omega arith
root-answers (fin false (suc m) e) p h = (root_within (units_of (fin false (suc m) e)), refl)

-- a root is finite
pub root-finite : {x v : Float} → Finite binary64 x → root_of x ≡ answers v → Finite binary64 v
root-finite {x} {v} p h = let s = answer-signless x v p.held h in record { held = s.held; finite = s.finite }

-- it is not negative
pub root-nonneg : {x v : Float} → Finite binary64 x → root_of x ≡ answers v → T (le zero+ v)
root-nonneg {x} {v} p h =
    let s = answer-signless x v p.held h in
    to-nonneg (number-finite (root-finite p h)) (above (top binary64) (mag binary64 v) (key-is binary64 v ∙ ap (λ (b : Bool). offset (top binary64) b (mag binary64 v)) s.unsigned))
  where
    above : (o a : ℕ) {k : ℕ} → k ≡ o + a → o ≤ k
    above o a h = omega arith

-- and no -0.0
pub root-plain : {x v : Float} → Finite binary64 x → root_of x ≡ answers v → Plain binary64 v
unfolding minus_zero is_nan
root-plain {x} {v} p h = go v (answer-signless x v p.held h)
  where
    go : (v : Float) → Signless v → Plain binary64 v
    go nan s = absurd s.finite
    go (inf b) s = absurd s.finite
    go (fin true m e) s = let z : ◌≡◌ {A = ℕ} 0 1 = cc s.unsigned in absurd (omega arith)
    go (fin false zero e) s = record { held = s.held; number = tt; unsigned = tt }
    go (fin false (suc m) e) s = record { held = s.held; number = tt; unsigned = tt }

-- ---- how large a root is
-- the units of a finite number are its magnitude
units-mag : (x : Float) → T (finite x) → units_of x ≡ mag binary64 x
unfolding mag
units-mag nan t = absurd t
units-mag (inf s) t = absurd t
units-mag (fin s m e) t = refl

-- the root of a value above zero is nearer than any y of the format
module _ (m : ℕ) (e : ℤ) (f : T (fits binary64 (fin false (suc m) e))) where
  -- the root is nearer than y
  root-near : (n : ℕ) (d : ℤ) (y : ℕ) → T (fits binary64 (fin false n d)) → units_of (fin false n d) ≡ y → Nearer (mag binary64 (fin false (suc m) e) * 2 ^ 1074) (mag binary64 (root_within (units_of (fin false (suc m) e)))) y
  root-near n d y g h =
      subst (λ (X : ℕ). Nearer (X * 2 ^ 1074) (mag binary64 (root_within (units_of (fin false (suc m) e)))) y) (units-mag (fin false (suc m) e) tt)
      (subst (λ (R : ℕ). Nearer (units_of (fin false (suc m) e) * 2 ^ 1074) R y) (units-mag (root_within (units_of (fin false (suc m) e))) (root-signless m e f).finite)
      (subst (λ (Y : ℕ). Nearer (units_of (fin false (suc m) e) * 2 ^ 1074) (units_of (root_within (units_of (fin false (suc m) e)))) Y) h (root-nearest m e f n d g)))

-- a root that is nearer than 2 ^ k is at most 2 ^ k, where the square is at most 2 ^ 2k
root-within : {f : Format} {k : ℕ} {x r : Float} → Within f (k + k) x → Finite f r → (2 ^ (k + low f) < mag f r → (mag f r + 2 ^ (k + low f)) * (mag f r + 2 ^ (k + low f)) < mag f x * 2 ^ low f * 4) → Within f k r
root-within {f} {k} {x} {r} u p under =
    let l = low f in
    let e : 2 ^ (k + k + l) * 2 ^ l ≡ 2 ^ (k + l) * 2 ^ (k + l) = sym (pow-add 2 (k + k + l) l) ∙ ap (λ (n : ℕ). 2 ^ n) (let g : k + k + l + l ≡ k + l + (k + l) = omega arith in g) ∙ pow-add 2 (k + l) (k + l) in
    within-size p (root-at-most (mag f x * 2 ^ l) (mag f r) (2 ^ (k + l)) under (le_trans (mul-le-mul_right (2 ^ l) (size-within u)) (le_of_eq e)))

-- the root of a number of at most 2 ^ 2k is at most 2 ^ k
pub root-bounded : (k : ℕ) (x v : Float) → T (fits binary64 (fin false 1 (pos k))) → Within binary64 (k + k) x → root_of x ≡ answers v → Within binary64 k v
unfolding root_of
root-bounded k nan v g w h = absurd w.finite
root-bounded k (inf s) v g w h = absurd w.finite
root-bounded k (fin s zero e) v g w h = subst (λ (z : Float). Within binary64 k z) (inside zero+ v h) (within-weaken zero-le (within-zero binary64))
root-bounded k (fin true (suc m) e) v g w h = absurd (refused v h)
root-bounded k (fin false (suc m) e) v g w h =
    subst (λ (z : Float). Within binary64 k z) (inside (root_within (units_of (fin false (suc m) e))) v h)
    (root-within w (record { held = (root-signless m e w.held).held; finite = (root-signless m e w.held).finite }) (root-near m e w.held 1 (pos k) (2 ^ (k + 1074)) g (div-one (1 * 2 ^ k * 2 ^ 1074) ∙ ap (λ (n : ℕ). n * 2 ^ 1074) (one-mul (2 ^ k)) ∙ sym (pow-add 2 k 1074))).under)

-- a root that is nearer than 2 ^ -537 is 2 ^ -537 at least, where the square is not zero
root-far : (x r : Float) → 0 < mag binary64 x → (mag binary64 r < 2 ^ 537 → mag binary64 x * 2 ^ 1074 * 4 < (mag binary64 r + 2 ^ 537) * (mag binary64 r + 2 ^ 537)) → 2 ^ 1074 ≤ mag binary64 r * 2 ^ 537
root-far x r h above =
    mul-le-mul_right (2 ^ 537) (root-at-least (mag binary64 x * 2 ^ 1074) (mag binary64 r) (2 ^ 537) above (le_trans (le_of_eq (sym (one-mul (2 ^ 1074)))) (mul-le-mul_right (2 ^ 1074) h)))

-- a root above zero is 2 ^ -537 at least: so many units of 2 ^ -1074
pub root-large : {x v : Float} → Finite binary64 x → root_of x ≡ answers v → T (lt zero+ v) → 2 ^ 1074 ≤ mag binary64 v * 2 ^ 537
unfolding root_of
root-large {x} {v} w h l = go x w h
  where
    go : (x : Float) → Finite binary64 x → root_of x ≡ answers v → 2 ^ 1074 ≤ mag binary64 v * 2 ^ 537
    go nan w h = absurd w.finite
    go (inf s) w h = absurd w.finite
    go (fin s zero e) w h = absurd (unfold lt in subst (λ (z : Float). T (lt zero+ z)) (sym (inside zero+ v h)) l)
    go (fin true (suc m) e) w h = absurd (refused v h)
    go (fin false (suc m) e) w h =
        subst (λ (z : Float). 2 ^ 1074 ≤ mag binary64 z * 2 ^ 537) (inside (root_within (units_of (fin false (suc m) e))) v h)
        (root-far (fin false (suc m) e) (root_within (units_of (fin false (suc m) e))) (some false m e w.held) (root-near m e w.held 1 (negsuc 536) (2 ^ 537) (unfold fits in tt) refl).above)

-- ---- the root of the larger is no smaller
-- the value of a magnitude, whatever its sign
unsigned-fits : (s : Bool) (n : ℕ) (d : ℤ) → T (fits binary64 (fin s n d)) → T (fits binary64 (fin false n d))
unfolding neg
unsigned-fits true n d h = neg-fits binary64 (fin true n d) h
unsigned-fits false n d h = h

-- zero is nearer to the root of zero than any other
nothing-near : (Y : ℕ) → Nearer (0 * 2 ^ 1074) 0 Y
nothing-near Y = record {
  above = λ h. lt_of_lt_of_le (lt_of_le_of_lt (le_of_eq (ap (λ (n : ℕ). n * 4) (zero-mul (2 ^ 1074)))) (mul-pos h h)) (le_of_eq (ap (λ (n : ℕ). n * n) (same Y)));
  under = λ h. absurd (lt_irrefl 0 (lt_of_le_of_lt zero-le h));
}
  where
    same : (Y : ℕ) → Y ≡ 0 + Y
    same Y = omega arith

zero-units : (s : Bool) (e : ℤ) → T (fits binary64 (fin s 0 e)) → mag binary64 (fin s 0 e) ≡ 0
zero-units s e h = first-zero (mag binary64 (fin s 0 e)) (down e) (down_pos e) (mag-exact binary64 s 0 e h ∙ ap (λ (z : ℕ). z * 2 ^ 1074) (zero-mul (up e)) ∙ zero-mul (2 ^ 1074))
  where
    first-zero : (a b : ℕ) → 0 < b → a * b ≡ 0 → a ≡ 0
    first-zero zero b p e = refl
    first-zero (suc a) b p e = absurd (lt_irrefl 0 (subst (λ (z : ℕ). 0 < z) e (mul-pos (zero-lt-suc a) p)))

-- a root is nearer than any finite value y, in units
pub root-nearer : {x v y : Float} → Finite binary64 x → root_of x ≡ answers v → Finite binary64 y → Nearer (mag binary64 x * 2 ^ 1074) (mag binary64 v) (mag binary64 y)
unfolding root_of
root-nearer {x} {v} {y} p h q = go x p h y q
  where
    go : (x : Float) → Finite binary64 x → root_of x ≡ answers v → (y : Float) → Finite binary64 y → Nearer (mag binary64 x * 2 ^ 1074) (mag binary64 v) (mag binary64 y)
    go nan p h y q = absurd p.finite
    go (inf s) p h y q = absurd p.finite
    go (fin s m e) p h nan q = absurd q.finite
    go (fin s m e) p h (inf t) q = absurd q.finite
    go (fin s zero e) p h (fin t n d) q =
        subst (λ (z : Float). Nearer (mag binary64 (fin s 0 e) * 2 ^ 1074) (mag binary64 z) (mag binary64 (fin t n d))) (inside zero+ v h)
        (subst (λ (X : ℕ). Nearer (X * 2 ^ 1074) (mag binary64 zero+) (mag binary64 (fin t n d))) (sym (zero-units s e p.held))
        (subst (λ (R : ℕ). Nearer (0 * 2 ^ 1074) R (mag binary64 (fin t n d))) (sym (zero-mag binary64 false)) (nothing-near (mag binary64 (fin t n d)))))
    go (fin true (suc m) e) p h (fin t n d) q = absurd (refused v h)
    go (fin false (suc m) e) p h (fin t n d) q =
        subst (λ (z : Float). Nearer (mag binary64 (fin false (suc m) e) * 2 ^ 1074) (mag binary64 z) (mag binary64 (fin t n d))) (inside (root_within (units_of (fin false (suc m) e))) v h)
        (root-near m e p.held n d (mag binary64 (fin t n d)) (unsigned-fits t n d q.held) (units-mag (fin t n d) tt))

-- two numbers, each nearer to its root than the other
pub near-mono : (M N U W : ℕ) → M ≤ N → Nearer M U W → Nearer N W U → U ≤ W
near-mono M N U W h a b = go (dec_le U W)
  where
    turn : (U W : ℕ) → (U + W) * (U + W) ≡ (W + U) * (W + U)
    turn U W = ap (λ (n : ℕ). n * n) (add_comm U W)

    clash : (m n s t : ℕ) → m ≤ n → s < m * 4 → n * 4 < t → s ≡ t → ⊥
    clash m n s t h a b e = omega arith

    go : Dec (U ≤ W) → U ≤ W
    go (yes p) = p
    go (no p) = let g = lt_of_not-le p in absurd (clash M N ((U + W) * (U + W)) ((W + U) * (W + U)) h (a.under g) (b.above g) (turn U W))

-- in units
pub root-size-mono : {x y u v : Float} → Finite binary64 x → Finite binary64 y → root_of x ≡ answers u → root_of y ≡ answers v → mag binary64 x ≤ mag binary64 y → mag binary64 u ≤ mag binary64 v
root-size-mono {x} {y} {u} {v} p q g h l =
    near-mono (mag binary64 x * 2 ^ 1074) (mag binary64 y * 2 ^ 1074) (mag binary64 u) (mag binary64 v) (mul-le-mul_right (2 ^ 1074) l)
    (root-nearer p g (root-finite q h)) (root-nearer q h (root-finite p g))

-- a value that is not negative, by its size
pub root-key : {x v : Float} → Finite binary64 x → root_of x ≡ answers v → key binary64 v ≡ top binary64 + mag binary64 v
root-key {x} {v} p h = key-is binary64 v ∙ ap (λ (b : Bool). offset (top binary64) b (mag binary64 v)) (answer-signless x v p.held h).unsigned

-- the sizes of two values in order, the first not negative
pub size-order : {x y : Float} → Finite binary64 x → Finite binary64 y → T (le zero+ x) → T (le x y) → mag binary64 x ≤ mag binary64 y
size-order {x} {y} p q h l =
    size-of-above q (mag binary64 x) (le_trans (bound (minus? x) (mag binary64 x) (top binary64) (top_pos binary64) (le_trans (of-nonneg (number-finite p) h) (le_of_eq (key-is binary64 x)))) (le_trans (le_of_eq (sym (key-is binary64 x))) (of_le (number-finite p) (number-finite q) l)))
  where
    bound : (s : Bool) (a o : ℕ) → 0 < o → o ≤ offset o s a → o + a ≤ offset o s a
    bound true a o p h = omega arith
    bound false a o p h = omega arith

-- of two finite numbers that are not negative, the larger has the larger root
pub root-mono : {x y u v : Float} → Finite binary64 x → Finite binary64 y → T (le zero+ x) → T (le x y) → root_of x ≡ answers u → root_of y ≡ answers v → T (le u v)
root-mono {x} {y} {u} {v} p q h l g k =
    let a = root-size-mono p q g k (size-order p q h l) in
    to_le (number-finite (root-finite p g)) (number-finite (root-finite q k)) (omega (arith, root-key p g, root-key q k))

-- ---- the digits of a finite value: 53 and then zeros
pub size-digits : {x : Float} → Finite binary64 x → (v : ℕ) × (j : ℕ) × (v < 2 ^ 53) × (mag binary64 x ≡ v * 2 ^ j)
size-digits {x} = go x
  where
    go : (x : Float) → Finite binary64 x → (v : ℕ) × (j : ℕ) × (v < 2 ^ 53) × (mag binary64 x ≡ v * 2 ^ j)
    go nan p = absurd p.finite
    go (inf s) p = absurd p.finite
    go (fin s m e) p =
        let d = value-digits m e (unsigned-fits s m e p.held) in
        (d.0, d.1, d.2, sym (units-mag (fin s m e) tt) ∙ d.3)
