-- Different numbers have different digits. Assumes nothing.
use Rattle.std.proofs.Common.{◌≡◌, ℕ, zero, suc, ◌+◌, ◌*◌, ◌/◌, ◌%◌, ◌^◌, ◌<◌, ◌≤◌, Bool, true, false, T, eqb, ltb, List, [], ◌∷◌, ◌++◌, length, get_or, take, drop, sym, refl, ap, ◌∙◌, subst, mod-lt, div-lt_iff_lt-mul, pow-suc, div-add-mod', arith, ltb-false, ltb-true, eqb-true}
use native.Mathlib.Nat.{pow-zero}
use lib.Ieee.{Float, binary64, fits, to_bits, of_bits}
use lib.Ieee.Bits.{of_bits-to_bits, to_bits-lt}
use lib.Seq.{take-append_seam, drop-append_seam}
use Rattle.text.proofs.Chosen.{yes, no}
use Rattle.text.specs.Digits.{glyph_of, digits, more, decimal_of, hex_of}
use Rattle.text.specs.Lines.{field}
use Rattle.text.proofs.Spelling.{digits-length, glyph-low, glyph-high, field-long}

pub record Both (A B : Type 0) : Type 0 where
  pub left : A
  pub right : B

-- what is as long, and is followed by anything, is the same
pub cancel : (x y s t : List ℕ) → length x ≡ length y → x ++ s ≡ y ++ t → Both (x ≡ y) (s ≡ t)
cancel x y s t e q = record {
  left = sym (take-append_seam x s) ∙ ap (take (length x)) q ∙ ap (λ (n : ℕ). take n (y ++ t)) e ∙ take-append_seam y t;
  right = sym (drop-append_seam x s) ∙ ap (drop (length x)) q ∙ ap (λ (n : ℕ). drop n (y ++ t)) e ∙ drop-append_seam y t;
}

glyph-distinct : (d e : ℕ) → d < 16 → e < 16 → glyph_of d ≡ glyph_of e → d ≡ e
glyph-distinct d e h k q = by (ltb d 10) refl (ltb e 10) refl
  where
    by : (t : Bool) → ltb d 10 ≡ t → (u : Bool) → ltb e 10 ≡ u → d ≡ e
    by true f true g = omega (arith, sym (glyph-low d (ltb-true _ _ f)) ∙ q ∙ glyph-low e (ltb-true _ _ g))
    by true f false g =
        let x : d < 10 = ltb-true _ _ f in
        let y : 10 ≤ e = ltb-false _ _ g in
        omega (arith, sym (glyph-low d x) ∙ q ∙ glyph-high e (ltb-false _ _ g))
    by false f true g =
        let x : e < 10 = ltb-true _ _ g in
        let y : 10 ≤ d = ltb-false _ _ f in
        omega (arith, sym (glyph-high d (ltb-false _ _ f)) ∙ q ∙ glyph-low e x)
    by false f false g = omega (arith, sym (glyph-high d (ltb-false _ _ f)) ∙ q ∙ glyph-high e (ltb-false _ _ g))

pub joined : (b n m : ℕ) → n / b ≡ m / b → n % b ≡ m % b → n ≡ m
joined b n m p q = sym (div-add-mod' n b) ∙ ap (λ (x : ℕ). x * b + n % b) p ∙ ap (λ (x : ℕ). m / b * b + x) q ∙ div-add-mod' m b

pub quotient : (b k n : ℕ) → 0 < b → n < b ^ suc k → n / b < b ^ k
quotient b k n h l = (div-lt_iff_lt-mul h).1 (subst (λ (x : ℕ). n < x) (pow-suc b k) l)

-- digits tell numbers apart
pub digits-distinct : (b k n m : ℕ) → 0 < b → b ≤ 16 → n < b ^ k → m < b ^ k → digits b k n ≡ digits b k m → n ≡ m
unfolding digits
digits-distinct b zero n m h l p q e = omega (arith, pow-zero b)
digits-distinct b (suc k) n m h l p q e =
    let w : Both (digits b k (n / b) ≡ digits b k (m / b)) (◌≡◌ {A = List ℕ} (glyph_of (n % b) ∷ []) (glyph_of (m % b) ∷ [])) =
    cancel (digits b k (n / b)) (digits b k (m / b)) (glyph_of (n % b) ∷ []) (glyph_of (m % b) ∷ [])
    (digits-length b k (n / b) ∙ sym (digits-length b k (m / b))) e in
    let x : n % b < 16 = omega (arith, mod-lt n h) in
    let y : m % b < 16 = omega (arith, mod-lt m h) in
    joined b n m
    (digits-distinct b k (n / b) (m / b) h l (quotient b k n h p) (quotient b k m h q) w.left)
    (glyph-distinct (n % b) (m % b) x y (ap (λ (z : List ℕ). get_or z 0 0) w.right))

-- enough decimal digits are counted
more-enough : (k n : ℕ) → n < 10 ^ k → n < 10 ^ more k n
unfolding more
more-enough zero n h = h
more-enough (suc k) n h = by (eqb n 0) refl (more-enough k (n / 10) (quotient 10 k n (omega arith) h))
  where
    by : (t : Bool) → eqb n 0 ≡ t → n / 10 < 10 ^ more k (n / 10) → n < 10 ^ more (suc k) n
    by true e r = simp (e, yes) (omega (arith, eqb-true n 0 e))
    by false e r = simp (e, no) (subst (λ (x : ℕ). n < x) (sym (pow-suc 10 (more k (n / 10)))) ((div-lt_iff_lt-mul (omega arith)).0 r))

pub decimal-distinct : (n m : ℕ) → n < 18446744073709551616 → m < 18446744073709551616 → decimal_of n ≡ decimal_of m → n ≡ m
unfolding decimal_of
decimal-distinct n m h l e =
    let k : suc (more 19 (n / 10)) ≡ suc (more 19 (m / 10)) =
    sym (digits-length 10 (suc (more 19 (n / 10))) n) ∙ ap length e ∙ digits-length 10 (suc (more 19 (m / 10))) m in
    digits-distinct 10 (suc (more 19 (n / 10))) n m (omega arith) (omega arith)
    (below n h)
    (subst (λ (x : ℕ). m < 10 ^ x) (sym k) (below m l))
    (e ∙ ap (λ (x : ℕ). digits 10 x m) (sym k))
  where
    below : (n : ℕ) → n < 18446744073709551616 → n < 10 ^ suc (more 19 (n / 10))
    below n h =
        let a : n / 10 < 10 ^ 19 = omega arith in
        subst (λ (x : ℕ). n < x) (sym (pow-suc 10 (more 19 (n / 10)))) ((div-lt_iff_lt-mul (omega arith)).0 (more-enough 19 (n / 10) a))

pub hex-distinct : (x y : Float) → T (fits binary64 x) → T (fits binary64 y) → hex_of x ≡ hex_of y → x ≡ y
unfolding hex_of
hex-distinct x y h k e =
    let n : to_bits binary64 x ≡ to_bits binary64 y =
    digits-distinct 16 16 (to_bits binary64 x) (to_bits binary64 y) (omega arith) (omega arith) (to_bits-lt binary64 x h) (to_bits-lt binary64 y k) e in
    sym (of_bits-to_bits binary64 x h) ∙ ap (of_bits binary64) n ∙ of_bits-to_bits binary64 y k

-- a tab, a float and what follows
pub next_field : (x y : Float) (s t : List ℕ) → T (fits binary64 x) → T (fits binary64 y) → field x ++ s ≡ field y ++ t → Both (x ≡ y) (s ≡ t)
next_field x y s t h k e =
    let w : Both (◌≡◌ {A = List ℕ} (field x) (field y)) (s ≡ t) =
    cancel (field x) (field y) s t (field-long x ∙ sym (field-long y)) e in
    record { left = hex-distinct x y h k (ap (drop 1) w.left); right = w.right }
