-- What `whole_part` and `whole_up` test of q, and what the whole part and the least whole number at or above q are there. Assumes nothing.
use Rattle.std.proofs.Common.{◌≡◌, ℕ, zero, suc, ◌+◌, ◌-◌, ◌*◌, ◌/◌, ◌^◌, ◌<◌, ◌≤◌, min, Bool, true, false, not, ◌&&◌, T, ltb, leb, ◌⊎◌, ℤ, pos, negsuc, sym, refl, ap, ◌∙◌, subst, ap₂, inl, inr, true≢false, zero-le, le_trans, le_of_eq, lt_of_lt_of_le, le_of_lt, lt_irrefl, div-lt_iff_lt-mul, add-mul, eq-zero-or-pos, mul-pos, one-mul, le-div_iff_mul-le, zero-mul, mul-one, div-le_self, mul_right_comm, div-mul-le_self, div-one, arith, ltb→lt, lt→ltb, nltb→le, pow_pos, ltb-false, ltb-true, le-leb, leb-true, Option, None, Some}
use native.Mathlib.Nat.{div-eq_of_lt, div-eq_of_lt-le, lt-div-mul-add, min-eq_left, min-eq_right}
use lib.Dec.{not_T}
use lib.Ieee.{Float, nan, inf, fin, binary64, up, down, lt, le, eq, add, sub, neg, round, fits, is_nan, of_bits, of_fields, odd, of_int, to_unsigned}
use lib.Ieee.Bits.{is_false}
use lib.Ieee.Back.{round_whole}
use lib.Ieee.Exact.{HasValue}
use lib.Ieee.Fits.{and_i, down_pos}
use borrow.Author.Tests.{lt-leb}
use Rattle.floats.specs.Pick.{pick, pick_true, pick-false}
use Rattle.floats.specs.Numbers.{zero64, one64}
use Rattle.floats.specs.Kinds.{Number}
use Rattle.floats.proofs.Keys.{key, mag, key-fin, mag-exact, scale-ltb}
use Rattle.floats.proofs.Order.{to_le, of_le, lt-never, nlt→le, le→nlt}
use Rattle.floats.proofs.Exact.{round-held, fits-small, zero-key}
use Rattle.floats.proofs.Signed.{number-zero, of_positive, sub_self}
use Rattle.numbers.specs.Whole.{whole_part, ceiling_of, at_most, whole_up}
use Rattle.floats.proofs.Bools.{so}

lie : {b : Bool} → b ≡ false → T b → ⊥
lie e t = subst T e t

-- 2 ^ 64
abbrev pub two64 : Float
two64 = of_bits binary64 0x43F0000000000000

two64-is : two64 ≡ fin false 1 (pos 64)
unfolding of_bits of_fields odd
two64-is = refl

zero_is : zero64 ≡ fin false 0 (pos 0)
unfolding of_bits of_fields odd
zero_is = refl

number : (s : Bool) (m : ℕ) (e : ℤ) → T (fits binary64 (fin s m e)) → Number binary64 (fin s m e)
unfolding is_nan
number s m e h = record { held = h; number = tt }

number64 : Number binary64 (fin false 1 (pos 64))
unfolding fits
number64 = number false 1 (pos 64) tt

-- ---- whole numbers and quotients
module _ (N D : ℕ) (D+ : 0 < D) where
  -- the quotient raised
  raised-at-least : N / D ≤ (N + (D - 1)) / D
  raised-at-least = (le-div_iff_mul-le D+).1 (le_trans (div-mul-le_self N D) (omega arith))

  raised-even : N ≤ N / D * D → (N + (D - 1)) / D ≡ N / D
  raised-even h =
      let l = div-mul-le_self N D in
      div-eq_of_lt-le D (omega arith) (subst (λ (x : ℕ). N + (D - 1) < x) (sym (add-mul (N / D) 1 D ∙ ap (λ (x : ℕ). N / D * D + x) (one-mul D))) (omega arith))

  raised-odd : N / D * D < N → (N + (D - 1)) / D ≡ N / D + 1
  raised-odd h =
      let u = lt-div-mul-add {a = N} D+ in
      let a : (N / D + 1) * D ≡ N / D * D + D = add-mul (N / D) 1 D ∙ ap (λ (x : ℕ). N / D * D + x) (one-mul D) in
      let b : (N / D + 1 + 1) * D ≡ N / D * D + D + D = add-mul (N / D + 1) 1 D ∙ ap₂ (λ (x y : ℕ). x + y) a (one-mul D) in
      div-eq_of_lt-le D (subst (λ (x : ℕ). x ≤ N + (D - 1)) (sym a) (omega arith)) (subst (λ (x : ℕ). N + (D - 1) < x) (sym b) (omega arith))

  raised-at-most : (N + (D - 1)) / D ≤ N / D + 1
  raised-at-most = go (ltb (N / D * D) N) refl
    where
      go : (t : Bool) → ltb (N / D * D) N ≡ t → (N + (D - 1)) / D ≤ N / D + 1
      go true e = le_of_eq (raised-odd (ltb-true (N / D * D) N e))
      go false e = le_trans (le_of_eq (raised-even (ltb-false (N / D * D) N e))) (omega arith)

-- ---- which q pass the tests
-- q is not at most 0, and below 2 ^ 64
pub record Above (q : Float) : Type 0 where
  pub sig : ℕ
  pub exp : ℤ
  pub is : q ≡ fin false sig exp
  pub below : sig * up exp < 2 ^ 64 * down exp

-- what is negative is at most 0
minus-low : (m : ℕ) (e : ℤ) → T (fits binary64 (fin true m e)) → T (le (fin true m e) (fin false 0 (pos 0)))
minus-low m e h = to_le (number true m e h) number-zero (omega (arith, key-fin binary64 true m e, zero-key binary64 false))

-- what is not negative and at most 0 is zero
zero-size : (m : ℕ) (e : ℤ) → T (fits binary64 (fin false m e)) → T (le (fin false m e) (fin false 0 (pos 0))) → m * up e ≡ 0
zero-size m e h l = go (eq-zero-or-pos (m * up e))
  where
    None : mag binary64 (fin false m e) ≡ 0
    None = omega (arith, of_le (number false m e h) number-zero l, key-fin binary64 false m e, zero-key binary64 false)

    go : (m * up e ≡ 0) ⊎ (0 < m * up e) → m * up e ≡ 0
    go (inl z) = z
    go (inr p) =
        absurd (lt_irrefl 0 (subst (λ (x : ℕ). 0 < x) (sym (mag-exact binary64 false m e h) ∙ ap (λ (x : ℕ). x * down e) None ∙ zero-mul (down e)) (mul-pos p (pow_pos 1074))))

pub above : (q : Float) → T (fits binary64 q) → le q zero64 ≡ false → lt q two64 ≡ true → Above q
unfolding lt of_bits of_fields odd
above nan h a b = absurd (so b)
above (inf true) h a b = absurd (lie a (unfold le lt eq in tt))
above (inf false) h a b = absurd (so b)
above (fin true m e) h a b = absurd (lie a (minus-low m e h))
above (fin false m e) h a b = record {
  sig = m;
  exp = e;
  is = refl;
  below = subst (λ (x : ℕ). x < 1 * 2 ^ 64 * down e) (mul-one (m * up e)) (ltb→lt (m * up e * 1) (1 * 2 ^ 64 * down e) (so b));
}

-- ---- the whole part
-- q lies above -1 and below 2 ^ 64, so the cast is defined
pub in-range : (q : Float) → T (fits binary64 q) → Above q → T (lt (fin true 1 (pos 0)) q) × T (lt q (fin false 1 (pos 64)))
unfolding lt
in-range q h a = subst (λ (x : Float). T (lt (fin true 1 (pos 0)) x) × T (lt x (fin false 1 (pos 64)))) (sym a.is) (
  lt→ltb 0 (1 * 1 * down a.exp + a.sig * up a.exp * 1) (Some (down a.exp) (a.sig * up a.exp * 1) (down_pos a.exp)),
  lt→ltb (a.sig * up a.exp * 1) (1 * 2 ^ 64 * down a.exp) (subst (λ (x : ℕ). x < 1 * 2 ^ 64 * down a.exp) (sym (mul-one (a.sig * up a.exp))) a.below),
)
  where
    Some : (d b : ℕ) → 0 < d → 0 < 1 * 1 * d + b
    Some d b p = omega arith

quotient-below : (N D : ℕ) → 0 < D → N < 2 ^ 64 * D → N / D < 2 ^ 64
quotient-below N D p h = (div-lt_iff_lt-mul p).1 h

pub part_of : (q : Float) (a : Above q) → whole_part q ≡ a.sig * up a.exp / down a.exp
unfolding to_unsigned
part_of q a =
    let N = a.sig * up a.exp in
    let D = down a.exp in
    let b = quotient-below N D (down_pos a.exp) a.below in
    ap (λ (x : Float). to_unsigned 64 x) a.is ∙ min-eq_left (omega arith)

pub part-over : (q : Float) → T (fits binary64 q) → le two64 q ≡ true → 2 ^ 64 - 1 ≡ whole_part q
unfolding to_unsigned of_bits of_fields odd
part-over nan h l = absurd (unfold le lt eq in so l)
part-over (inf true) h l = absurd (unfold le lt eq in so l)
part-over (inf false) h l = refl
part-over (fin true m e) h l =
    absurd (le_not_lt (of_le number64 (number true m e h) (so l)))
  where
    le_not_lt : key binary64 (fin false 1 (pos 64)) ≤ key binary64 (fin true m e) → ⊥
    le_not_lt g = omega (arith, key-fin binary64 true m e, key-fin binary64 false 1 (pos 64), of_positive number64 (unfold lt in tt))
part-over (fin false m e) h l = sym (min-eq_right (le-of-lt-succ ((le-div_iff_mul-le (down_pos e)).1 (wide (le-sides (so l))))))
  where
    le-sides : T (le (fin false 1 (pos 64)) (fin false m e)) → 1 * 2 ^ 64 * down e ≤ m * up e * 1
    le-sides t = nltb→le (m * up e * 1) (1 * 2 ^ 64 * down e) (unfold lt in le→nlt number64 (number false m e h) t)

    wide : 1 * 2 ^ 64 * down e ≤ m * up e * 1 → 2 ^ 64 * down e ≤ m * up e
    wide g = omega arith

    le-of-lt-succ : {n : ℕ} → 2 ^ 64 ≤ n → 2 ^ 64 - 1 ≤ n
    le-of-lt-succ g = omega arith

pub part_none : (q : Float) → T (fits binary64 q) → (lt (neg one64) q && lt q two64) ≡ false → le two64 q ≡ false → 0 ≡ whole_part q
unfolding to_unsigned of_bits of_fields odd neg
part_none nan h a b = refl
part_none (inf true) h a b = refl
part_none (inf false) h a b = absurd (lie b (unfold le lt eq in tt))
part_none (fin true m e) h a b = refl
part_none (fin false m e) h a b = absurd (lie b (nlt→le number64 (number false m e h) (not_T (lt (fin false m e) (fin false 1 (pos 64))) (λ t. lie a (and_i (lt (fin true 1 (pos 0)) (fin false m e)) (lt (fin false m e) (fin false 1 (pos 64))) minus t)))))
  where
    Some : (d b : ℕ) → 0 < d → 0 < 1 * 1 * d + b
    Some d b p = omega arith

    minus : T (lt (fin true 1 (pos 0)) (fin false m e))
    minus = unfold lt in lt→ltb 0 (1 * 1 * down e + m * up e * 1) (Some (down e) (m * up e * 1) (down_pos e))

-- ---- the whole part, as a float again, against q
whole-even : (m k : ℕ) → T (fits binary64 (fin false m (pos k))) → of_int binary64 (pos (m * 2 ^ k / 1)) ≡ fin false m (pos k)
unfolding of_int
whole-even m k h = ap (λ (n : ℕ). round binary64 false n 1) (div-one (m * 2 ^ k)) ∙ round-held binary64 false m (pos k) h

value-test : (y : Float) (t m : ℕ) (e : ℤ) → HasValue y false t 1 → lt y (fin false m e) ≡ ltb (t * down e) (m * up e)
unfolding lt
value-test nan t m e v = absurd v
value-test (inf s) t m e v = absurd v
value-test (fin true n d) t m e v = absurd (true≢false v.0)
value-test (fin false n d) t m e v =
    scale-ltb 1 (down d) (pow_pos 0) (down_pos d) (n * up d * down e) (m * up e * down d) (t * down e) (m * up e)
    (mul-one (n * up d * down e) ∙ ap (λ (x : ℕ). x * down e) (sym (mul-one (n * up d)) ∙ v.1) ∙ mul_right_comm t (down d) (down e))
    (mul-one (m * up e * down d))

pub whole-test : (m : ℕ) (e : ℤ) → T (fits binary64 (fin false m e)) → lt (of_int binary64 (pos (m * up e / down e))) (fin false m e) ≡ ltb (m * up e / down e * down e) (m * up e)
whole-test m (pos k) h =
    ap (λ (x : Float). lt x (fin false m (pos k))) (whole-even m k h)
    ∙ is_false (lt (fin false m (pos k)) (fin false m (pos k))) (not_T (lt (fin false m (pos k)) (fin false m (pos k))) (lt-never (number false m (pos k) h)))
    ∙ sym (is_false (ltb (m * 2 ^ k / 1 * 1) (m * 2 ^ k)) (not_T (ltb (m * 2 ^ k / 1 * 1) (m * 2 ^ k)) (λ t. lt_irrefl (m * 2 ^ k) (subst (λ (x : ℕ). x < m * 2 ^ k) (mul-one (m * 2 ^ k / 1) ∙ div-one (m * 2 ^ k)) (ltb→lt (m * 2 ^ k / 1 * 1) (m * 2 ^ k) t)))))
whole-test m (negsuc k) h =
    value-test (of_int binary64 (pos (m * 1 / 2 ^ suc k))) (m * 1 / 2 ^ suc k) m (negsuc k)
    (unfold of_int in round_whole binary64 false (m * 1 / 2 ^ suc k) (le_trans (div-le_self (m * 1) (2 ^ suc k)) (le_trans (le_of_eq (mul-one m)) (le_of_lt (fits-small binary64 false m (negsuc k) h)))))

-- ---- the least whole number at or above q
module _ (q : Float) (h : T (fits binary64 q)) (a : Above q) (limit t : ℕ) (e : t ≡ whole_part q) where
  held : T (fits binary64 (fin false a.sig a.exp))
  held = subst (λ (x : Float). T (fits binary64 x)) a.is h

  floor : t ≡ a.sig * up a.exp / down a.exp
  floor = e ∙ part_of q a

  up_is : whole_up q limit ≡ pick (leb ((a.sig * up a.exp + (down a.exp - 1)) / down a.exp) limit) (Some ((a.sig * up a.exp + (down a.exp - 1)) / down a.exp)) None
  unfolding whole_up
  up_is = ap (λ (x : Float). at_most limit (ceiling_of x)) a.is

  test-is : lt (of_int binary64 (pos t)) q ≡ ltb (t * down a.exp) (a.sig * up a.exp)
  test-is = ap₂ (λ (n : ℕ) (x : Float). lt (of_int binary64 (pos n)) x) floor a.is ∙ whole-test a.sig a.exp held ∙ ap (λ (n : ℕ). ltb (n * down a.exp) (a.sig * up a.exp)) (sym floor)

  pub up-over : limit < t → None ≡ whole_up q limit
  up-over l =
      let c = raised-at-least (a.sig * up a.exp) (down a.exp) (down_pos a.exp) in
      sym (up_is ∙ pick-false _ _ _ (lt-leb _ _ (lt_of_lt_of_le (subst (λ (n : ℕ). limit < n) floor l) c)))

  raised_is : lt (of_int binary64 (pos t)) q ≡ true → (a.sig * up a.exp + (down a.exp - 1)) / down a.exp ≡ t + 1
  raised_is b = raised-odd (a.sig * up a.exp) (down a.exp) (down_pos a.exp) (subst (λ (n : ℕ). n * down a.exp < a.sig * up a.exp) floor (ltb→lt (t * down a.exp) (a.sig * up a.exp) (so (sym test-is ∙ b)))) ∙ ap (λ (n : ℕ). n + 1) (sym floor)

  pub up_next : lt (of_int binary64 (pos t)) q ≡ true → t < limit → Some (t + 1) ≡ whole_up q limit
  up_next b l = sym (up_is ∙ ap (λ (n : ℕ). pick (leb n limit) (Some n) None) (raised_is b) ∙ pick_true _ _ _ (le-leb (t + 1) limit (omega arith)))

  pub up-full : lt (of_int binary64 (pos t)) q ≡ true → limit ≤ t → None ≡ whole_up q limit
  up-full b l = sym (up_is ∙ ap (λ (n : ℕ). pick (leb n limit) (Some n) None) (raised_is b) ∙ pick-false _ _ _ (lt-leb (t + 1) limit (omega arith)))

  pub up_same : lt (of_int binary64 (pos t)) q ≡ false → t ≤ limit → Some t ≡ whole_up q limit
  up_same b l =
      let g = nltb→le (t * down a.exp) (a.sig * up a.exp) (not_T (ltb (t * down a.exp) (a.sig * up a.exp)) (lie (sym test-is ∙ b))) in
      let c = raised-even (a.sig * up a.exp) (down a.exp) (down_pos a.exp) (subst (λ (n : ℕ). a.sig * up a.exp ≤ n * down a.exp) floor g) ∙ sym floor in
      sym (up_is ∙ ap (λ (n : ℕ). pick (leb n limit) (Some n) None) c ∙ pick_true _ _ _ (le-leb t limit l))

-- q is at most 0
pub up-zero : (q : Float) (limit : ℕ) → T (fits binary64 q) → le q zero64 ≡ true → eq (sub binary64 q q) zero64 ≡ true → Some 0 ≡ whole_up q limit
unfolding whole_up
up-zero nan limit h a b = absurd (unfold le lt eq in so a)
up-zero (inf s) limit h a b = absurd (inf-less s (so b))
  where
    inf-less : (s : Bool) → T (eq (sub binary64 (inf s) (inf s)) zero64) → ⊥
    inf-less true t = unfold sub add neg eq in t
    inf-less false t = unfold sub add neg eq in t
up-zero (fin true m e) limit h a b = sym (pick_true _ _ _ (le-leb 0 limit zero-le))
up-zero (fin false m e) limit h a b =
    let z = zero-size m e h (subst (λ (x : Float). T (le (fin false m e) x)) zero_is (so a)) in
    let n : (m * up e + (down e - 1)) / down e ≡ 0 = div-eq_of_lt (let p = down_pos e in omega arith) in
    sym (ap (λ (n : ℕ). pick (leb n limit) (Some n) None) n ∙ pick_true _ _ _ (le-leb 0 limit zero-le))

pub up-minus : (q : Float) (limit : ℕ) → le q zero64 ≡ true → eq (sub binary64 q q) zero64 ≡ false → None ≡ whole_up q limit
unfolding whole_up
up-minus nan limit a b = refl
up-minus (inf s) limit a b = refl
up-minus (fin s m e) limit a b = absurd (lie b (subst (λ (x : Float). T (eq x zero64)) (sym (sub_self binary64 (fin s m e) tt)) (unfold eq of_bits of_fields odd in tt)))

-- q is 2 ^ 64 or more, or no number
pub up-beyond : (q : Float) (limit : ℕ) → T (fits binary64 q) → limit < 2 ^ 64 → le q zero64 ≡ false → lt q two64 ≡ false → None ≡ whole_up q limit
unfolding whole_up
up-beyond nan limit h l a b = refl
up-beyond (inf s) limit h l a b = refl
up-beyond (fin true m e) limit h l a b = absurd (lie a (subst (λ (x : Float). T (le (fin true m e) x)) (sym zero_is) (minus-low m e h)))
up-beyond (fin false m e) limit h l a b =
    let g : 1 * 2 ^ 64 * down e ≤ m * up e * 1 = nltb→le (m * up e * 1) (1 * 2 ^ 64 * down e) (unfold lt of_bits of_fields odd in not_T (lt (fin false m e) two64) (lie b)) in
    let w : 2 ^ 64 * down e ≤ m * up e = omega arith in
    let c = le_trans ((le-div_iff_mul-le (down_pos e)).1 w) (raised-at-least (m * up e) (down e) (down_pos e)) in
    sym (pick-false _ _ _ (lt-leb _ _ (lt_of_lt_of_le l c)))

-- what is answered is at most the limit
pub up-most : (q : Float) (limit n : ℕ) → whole_up q limit ≡ Some n → n ≤ limit
unfolding whole_up pick
up-most q limit n = go (ceiling_of q)
  where
    kept : (m : ℕ) (t : Bool) → leb m limit ≡ t → pick t (Some m) None ≡ Some n → n ≤ limit
    kept m true e h = let s : m ≡ n = cc in subst (λ (k : ℕ). k ≤ limit) s (leb-true m limit e)
    kept m false e h = let z : ◌≡◌ {A = ℕ} 0 1 = cc in absurd (omega arith)

    go : (o : Option ℕ) → at_most limit o ≡ Some n → n ≤ limit
    go None h = let z : ◌≡◌ {A = ℕ} 0 1 = cc in absurd (omega arith)
    go (Some m) h = kept m (leb m limit) refl h

-- ---- both of them

-- the whole part of what is at most 0 is 0
pub part_low : (q : Float) → T (fits binary64 q) → T (le q zero64) → whole_part q ≡ 0
unfolding to_unsigned
part_low nan h l = refl
part_low (inf true) h l = refl
part_low (inf false) h l = absurd (unfold le lt eq of_bits of_fields odd in l)
part_low (fin true m e) h l = refl
part_low (fin false m e) h l =
    let z = zero-size m e h (subst (λ (x : Float). T (le (fin false m e) x)) zero_is l) in
    ap (λ (n : ℕ). min (n / down e) (2 ^ 64 - 1)) z ∙ ap (λ (n : ℕ). min n (2 ^ 64 - 1)) (div-eq_of_lt (down_pos e)) ∙ (omega arith)

-- the least whole number at or above q is at most one more than the whole part
pub up-part : (q : Float) (limit n : ℕ) → limit < 2 ^ 64 → whole_up q limit ≡ Some n → n ≤ whole_part q + 1
unfolding whole_up to_unsigned
up-part q limit n l e = go q e (up-most q limit n e)
  where
    never : ◌≡◌ {A = Option ℕ} None (Some n) → ⊥
    never h = let z : ◌≡◌ {A = ℕ} 0 1 = cc in omega arith

    is : (k : ℕ) (t : Bool) → pick t (Some k) None ≡ Some n → k ≡ n
    is k true e = let s : Some k ≡ Some n = sym (pick_true true (Some k) None refl) ∙ e in cc
    is k false e = absurd (never (sym (pick-false false (Some k) None refl) ∙ e))

    go : (x : Float) → at_most limit (ceiling_of x) ≡ Some n → n ≤ limit → n ≤ whole_part x + 1
    go nan h m = absurd (never h)
    go (inf s) h m = absurd (never h)
    go (fin true k e) h m = let z = is 0 (leb 0 limit) h in omega arith
    go (fin false k e) h m =
        let z = is ((k * up e + (down e - 1)) / down e) (leb ((k * up e + (down e - 1)) / down e) limit) h in
        let r = raised-at-most (k * up e) (down e) (down_pos e) in
        omega arith
