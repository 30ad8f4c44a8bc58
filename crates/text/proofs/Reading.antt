-- What 16 digits say, and 8, and that no other digits say it. Assumes nothing.
use Rattle.std.proofs.Common.{◌≡◌, ℕ, zero, suc, ◌+◌, ◌-◌, ◌*◌, ◌/◌, ◌%◌, ◌^◌, ◌<◌, ◌≤◌, Bool, true, false, not, ◌&&◌, T, eqb, ltb, List, [], ◌∷◌, ◌++◌, length, get_or, take, drop, sym, refl, ap, ◌∙◌, subst, append_assoc, append-nil, pow-suc, add-one, arith, length-drop, take-append-drop, get_or-drop, take_all, drop-cons, take-suc, drop-drop, ltb-false, ltb-true, le-ltb, lt-ltb, eq-eqb, ne_eqb, eqb-true, None, Some}
use native.Mathlib.Nat.{pow-zero, pow-le-pow_right}
use lib.Ieee.{Float, nan, inf, fin, binary64, fits, is_nan, to_bits, of_bits}
use lib.Ieee.Bits.{of_bits-to_bits, to_bits-of_bits, to_bits-lt, of_bits-fits, nan_bits_is, nan_bits_above}
use lib.ListN.{get_or-eq_default}
use lib.Seq.{get_or_at}
use borrow.Author.Tests.{eqb-false}
use Rattle.floats.specs.Pick.{pick, pick_true, pick-false}
use Rattle.text.proofs.Chosen.{yes, no}
use Rattle.text.specs.Digits.{glyph_of, digits, hex_of}
use Rattle.text.specs.Lines.{field}
use Rattle.text.proofs.Spelling.{digits-length, glyph-low, glyph-high}
use Rattle.text.proofs.Distinct.{quotient}
use Rattle.text.specs.Hex.{nibble_of, hexes_to, value_to, number_at, hex_at, field_of, eight_of}

-- ---- one digit

nibble-low : (b : ℕ) → 48 ≤ b → b < 58 → nibble_of b ≡ b - 48
unfolding nibble_of
nibble-low b h k = simp (le-ltb b 48 h, lt-ltb b 58 k, yes, no)

nibble-high : (b : ℕ) → 65 ≤ b → b < 71 → nibble_of b ≡ b - 55
unfolding nibble_of
nibble-high b h k =
    let a : 48 ≤ b = omega arith in
    let c : 58 ≤ b = omega arith in
    simp (le-ltb b 48 a, le-ltb b 58 c, le-ltb b 65 h, lt-ltb b 71 k, yes, no)

-- the digit that is spelled is read
nibble-glyph : (d : ℕ) → d < 16 → nibble_of (glyph_of d) ≡ d
nibble-glyph d h = by (ltb d 10) refl
  where
    by : (t : Bool) → ltb d 10 ≡ t → nibble_of (glyph_of d) ≡ d
    by true e =
        let k : d < 10 = ltb-true _ _ e in
        let q : (48 + d) - 48 ≡ d = omega arith in
        ap nibble_of (glyph-low d k) ∙ nibble-low (48 + d) (omega arith) (omega arith) ∙ q
    by false e =
        let k : 10 ≤ d = ltb-false _ _ e in
        let q : (55 + d) - 55 ≡ d = omega arith in
        ap nibble_of (glyph-high d k) ∙ nibble-high (55 + d) (omega arith) (omega arith) ∙ q

-- the digit that is read is spelled so
glyph-nibble : (b : ℕ) → nibble_of b < 16 → glyph_of (nibble_of b) ≡ b
unfolding nibble_of
glyph-nibble b h = one (ltb b 48) refl
  where
    none : nibble_of b ≡ 16 → glyph_of (nibble_of b) ≡ b
    none e = absurd (omega arith)

    low : 48 ≤ b → b < 58 → glyph_of (nibble_of b) ≡ b
    low k l =
        let q : 48 + (b - 48) ≡ b = omega arith in
        ap glyph_of (nibble-low b k l) ∙ glyph-low (b - 48) (omega arith) ∙ q

    high : 65 ≤ b → b < 71 → glyph_of (nibble_of b) ≡ b
    high k l =
        let q : 55 + (b - 55) ≡ b = omega arith in
        ap glyph_of (nibble-high b k l) ∙ glyph-high (b - 55) (omega arith) ∙ q

    four : (t : Bool) → ltb b 48 ≡ false → ltb b 58 ≡ false → ltb b 65 ≡ false → ltb b 71 ≡ t → glyph_of (nibble_of b) ≡ b
    four true e f g i = high (ltb-false _ _ g) (ltb-true _ _ i)
    four false e f g i = none (simp (e, f, g, i, no))

    three : (t : Bool) → ltb b 48 ≡ false → ltb b 58 ≡ false → ltb b 65 ≡ t → glyph_of (nibble_of b) ≡ b
    three true e f g = none (simp (e, f, g, yes, no))
    three false e f g = four (ltb b 71) e f g refl

    two : (t : Bool) → ltb b 48 ≡ false → ltb b 58 ≡ t → glyph_of (nibble_of b) ≡ b
    two true e f = low (ltb-false _ _ e) (ltb-true _ _ f)
    two false e f = three (ltb b 65) e f refl

    one : (t : Bool) → ltb b 48 ≡ t → glyph_of (nibble_of b) ≡ b
    one true e = none (simp (e, yes))
    one false e = two (ltb b 58) e refl

pub nibble-is-low : (b : ℕ) → 48 ≤ b → b < 58 → b - 48 ≡ nibble_of b
nibble-is-low b h k = sym (nibble-low b h k)

pub nibble-is-high : (b : ℕ) → 65 ≤ b → b < 71 → b - 55 ≡ nibble_of b
nibble-is-high b h k = sym (nibble-high b h k)

pub nibble-first : (b : ℕ) → b < 48 → 16 ≡ nibble_of b
unfolding nibble_of
nibble-first b h = simp (lt-ltb b 48 h, yes)

pub nibble-between : (b : ℕ) → 58 ≤ b → b < 65 → 16 ≡ nibble_of b
unfolding nibble_of
nibble-between b h k = let a : 48 ≤ b = omega arith in simp (le-ltb b 48 a, le-ltb b 58 h, lt-ltb b 65 k, yes, no)

pub nibble-last : (b : ℕ) → 71 ≤ b → 16 ≡ nibble_of b
unfolding nibble_of
nibble-last b h =
    let a : 48 ≤ b = omega arith in
    let c : 58 ≤ b = omega arith in
    let d : 65 ≤ b = omega arith in
    simp (le-ltb b 48 a, le-ltb b 58 c, le-ltb b 65 d, le-ltb b 71 h, no)

-- ---- k digits

and_left : (t u : Bool) → (t && u) ≡ true → t ≡ true
and_left true u e = refl
and_left false u e = e

and_right : (t u : Bool) → (t && u) ≡ true → u ≡ true
and_right true u e = e
and_right false u e = absurd (subst T (sym e) tt)

-- what is spelled is of digits
pub spelled-hexes : (k n : ℕ) (t : List ℕ) → hexes_to (digits 16 k n ++ t) k ≡ true
unfolding hexes_to digits
spelled-hexes zero n t = refl
spelled-hexes (suc k) n t =
    let l : n % 16 < 16 = omega arith in
    let f : List ℕ = digits 16 k (n / 16) in
    let g : ℕ = glyph_of (n % 16) in
    let a : (f ++ (g ∷ [])) ++ t ≡ f ++ (g ∷ t) = append_assoc f (g ∷ []) t in
    let d : nibble_of (get_or (f ++ (g ∷ t)) k 0) ≡ n % 16 = ap nibble_of (get_or_at f g t 0 k (digits-length 16 k (n / 16))) ∙ nibble-glyph (n % 16) l in
    subst (λ (w : List ℕ). hexes_to w (suc k) ≡ true) (sym a) (simp (spelled-hexes k (n / 16) (g ∷ t), d, lt-ltb _ _ l))

-- and reads as itself
pub spelled-value : (k n : ℕ) (t : List ℕ) → n < 16 ^ k → value_to (digits 16 k n ++ t) k ≡ n
unfolding value_to digits
spelled-value zero n t h = omega (arith, pow-zero 16)
spelled-value (suc k) n t h =
    let l : n % 16 < 16 = omega arith in
    let f : List ℕ = digits 16 k (n / 16) in
    let g : ℕ = glyph_of (n % 16) in
    let a : (f ++ (g ∷ [])) ++ t ≡ f ++ (g ∷ t) = append_assoc f (g ∷ []) t in
    let d : nibble_of (get_or (f ++ (g ∷ t)) k 0) ≡ n % 16 = ap nibble_of (get_or_at f g t 0 k (digits-length 16 k (n / 16))) ∙ nibble-glyph (n % 16) l in
    let v : value_to (f ++ (g ∷ t)) k ≡ n / 16 = spelled-value k (n / 16) (g ∷ t) (quotient 16 k n (omega arith) h) in
    subst (λ (w : List ℕ). value_to w (suc k) ≡ n) (sym a) (omega (arith, d, v))

zero-none : nibble_of 0 < 16 → ⊥
unfolding nibble_of pick
zero-none h = omega arith

-- digits are there
pub hexes-long : (k : ℕ) (s : List ℕ) → hexes_to s k ≡ true → k ≤ length s
unfolding hexes_to
hexes-long zero s e = omega arith
hexes-long (suc k) s e = by (ltb k (length s)) refl
  where
    by : (t : Bool) → ltb k (length s) ≡ t → suc k ≤ length s
    by true f = ltb-true _ _ f
    by false f =
        let z : get_or s k 0 ≡ 0 = get_or-eq_default s 0 (ltb-false _ _ f) in
        let w : ltb (nibble_of 0) 16 ≡ true = ap (λ (x : ℕ). ltb (nibble_of x) 16) (sym z) ∙ and_right (hexes_to s k) (ltb (nibble_of (get_or s k 0)) 16) e in
        absurd (zero-none (ltb-true _ _ w))

-- digits that read as a number are its spelling
pub value-spells : (k : ℕ) (s : List ℕ) → hexes_to s k ≡ true → take k s ≡ digits 16 k (value_to s k)
unfolding hexes_to value_to digits
value-spells zero s e = refl
value-spells (suc k) s e =
    let m : k < length s = hexes-long (suc k) s e in
    let h : nibble_of (get_or s k 0) < 16 = ltb-true _ _ (and_right (hexes_to s k) (ltb (nibble_of (get_or s k 0)) 16) e) in
    let d : ℕ = nibble_of (get_or s k 0) in
    let v : ℕ = value_to s k in
    let q : (v * 16 + d % 16) / 16 ≡ v = omega arith in
    let r : (v * 16 + d % 16) % 16 ≡ d = omega arith in
    take-suc s k 0 m
    ∙ ap (λ (x : List ℕ). x ++ (get_or s k 0 ∷ [])) (value-spells k s (and_left (hexes_to s k) (ltb (nibble_of (get_or s k 0)) 16) e))
    ∙ ap (λ (x : ℕ). digits 16 k v ++ (x ∷ [])) (sym (glyph-nibble (get_or s k 0) h))
    ∙ ap (λ (x : ℕ). digits 16 k v ++ (glyph_of x ∷ [])) (sym r)
    ∙ ap (λ (x : ℕ). digits 16 k x ++ (glyph_of ((v * 16 + d % 16) % 16) ∷ [])) (sym q)

pub value-lt : (k : ℕ) (s : List ℕ) → value_to s k < 16 ^ k
unfolding value_to
value-lt zero s = rw (pow-zero 16) (omega arith)
value-lt (suc k) s =
    let h : value_to s k < 16 ^ k = value-lt k s in
    rw (pow-suc 16 k) (omega arith)

-- ---- the walk over the digits

pub hexes-more : (s : List ℕ) (at i d : ℕ) → d ≡ nibble_of (get_or s (at + i) 0) → hexes_to (drop at s) (i + 1) ≡ (hexes_to (drop at s) i && ltb d 16)
unfolding hexes_to
hexes-more s at i d e = rw (add-one i, e, ← get_or-drop at s i 0)

pub value-more : (s : List ℕ) (at i d : ℕ) → d ≡ nibble_of (get_or s (at + i) 0) → value_to (drop at s) (i + 1) ≡ value_to (drop at s) i * 16 + d % 16
unfolding value_to
value-more s at i d e = rw (add-one i, e, ← get_or-drop at s i 0)

-- at the end of the walk
pub digits-read : (k : ℕ) (s : List ℕ) (i n : ℕ) (ok : Bool) → i ≡ k → ok ≡ hexes_to s i → n ≡ value_to s i → ok ≡ true → Some n ≡ number_at k s
unfolding number_at
digits-read k s i n ok e f v g = ap Some (v ∙ ap (value_to s) e) ∙ sym (pick_true _ _ _ (ap (hexes_to s) (sym e) ∙ sym f ∙ g))

pub digits-none : (k : ℕ) (s : List ℕ) (i : ℕ) (ok : Bool) → i ≡ k → ok ≡ hexes_to s i → ok ≡ false → None ≡ number_at k s
unfolding number_at
digits-none k s i ok e f g = sym (pick-false _ _ _ (ap (hexes_to s) (sym e) ∙ sym f ∙ g))

-- what a number says of its k digits, and what none does
pub record DigitsOf (k : ℕ) (s : List ℕ) (n : ℕ) : Type 0 where
  pub hexes : hexes_to s k ≡ true
  pub value : n ≡ value_to s k

pub number_spelled : (k : ℕ) (s : List ℕ) (n : ℕ) → number_at k s ≡ Some n → DigitsOf k s n
unfolding number_at
number_spelled k s n e = by (hexes_to s k) refl
  where
    by : (t : Bool) → hexes_to s k ≡ t → DigitsOf k s n
    by true f = let g : Some (value_to s k) ≡ Some n = sym (pick_true _ _ _ f) ∙ e in record { hexes = f; value = cc }
    by false f = let g : None ≡ Some n = sym (pick-false _ _ _ f) ∙ e in let z : ◌≡◌ {A = ℕ} 0 1 = cc in absurd (omega arith)

pub number-none : (k : ℕ) (s : List ℕ) → number_at k s ≡ None → hexes_to s k ≡ false
unfolding number_at
number-none k s e = by (hexes_to s k) refl
  where
    by : (t : Bool) → hexes_to s k ≡ t → hexes_to s k ≡ false
    by false f = f
    by true f = let g : Some (value_to s k) ≡ None = sym (pick_true _ _ _ f) ∙ e in let z : ◌≡◌ {A = ℕ} 0 1 = cc in absurd (omega arith)

-- a digit more has room
pub value_room : (s : List ℕ) (i : ℕ) → i < 16 → value_to s i < 1152921504606846976
value_room s i h =
    let a : i ≤ 15 = omega arith in
    let p : 16 ^ i ≤ 16 ^ 15 = pow-le-pow_right (omega arith) a in
    omega (arith, p, value-lt i s)

-- ---- a float

pub nan-bits : (n : ℕ) → 0x7ff0000000000000 < n % 0x8000000000000000 → is_nan (of_bits binary64 n) ≡ true
nan-bits n h = sym (nan_bits_is binary64 n) ∙ nan_bits_above binary64 n ∙ lt-ltb _ _ h

pub is-nan : (x : Float) → is_nan x ≡ true → x ≡ nan
unfolding is_nan
is-nan nan e = refl
is-nan (inf s) e = absurd (subst T (sym e) tt)
is-nan (fin s m d) e = absurd (subst T (sym e) tt)

pub no_number : of_bits binary64 0x7ff8000000000000 ≡ nan
unfolding of_bits
no_number = refl

pub hex-none : (s : List ℕ) → hexes_to s 16 ≡ false → hex_at s ≡ None
unfolding hex_at
hex-none s e = pick-false _ _ _ e

pub hex-minus : (s : List ℕ) → hexes_to s 16 ≡ true → value_to s 16 ≡ 0x8000000000000000 → hex_at s ≡ None
unfolding hex_at
hex-minus s e f = pick_true _ _ _ e ∙ pick_true _ _ _ (eq-eqb _ _ f)

pub hex-of : (s : List ℕ) → hexes_to s 16 ≡ true → (value_to s 16 ≡ 0x8000000000000000 → ⊥) → hex_at s ≡ Some (of_bits binary64 (value_to s 16))
unfolding hex_at
hex-of s e f = pick_true _ _ _ e ∙ pick-false _ _ _ (ne_eqb _ _ f)

-- What is read of the first 16 bytes: a number below 2^64 that is not -0.0's, spelled there, and x has its bits.
pub record Word (s : List ℕ) (x : Float) : Type 0 where
  pub word : ℕ
  pub small : word < 18446744073709551616
  pub plus : word ≡ 0x8000000000000000 → ⊥
  pub long : 16 ≤ length s
  pub spells : take 16 s ≡ digits 16 16 word
  pub float : x ≡ of_bits binary64 word

pub hex-word : (s : List ℕ) (x : Float) → hex_at s ≡ Some x → Word s x
hex-word s x e = by (hexes_to s 16) refl (eqb (value_to s 16) 0x8000000000000000) refl
  where
    never : hex_at s ≡ None → Word s x
    never f = let z : ◌≡◌ {A = ℕ} 0 1 = cc in absurd (omega arith)

    by : (t : Bool) → hexes_to s 16 ≡ t → (u : Bool) → eqb (value_to s 16) 0x8000000000000000 ≡ u → Word s x
    by false f u g = never (hex-none s f)
    by true f true g = never (hex-minus s f (eqb-true _ _ g))
    by true f false g =
        let o : hex_at s ≡ Some (of_bits binary64 (value_to s 16)) = hex-of s f (eqb-false _ _ g) in
        let w : value_to s 16 < 18446744073709551616 = value-lt 16 s in
        record { word = value_to s 16; small = w; plus = eqb-false _ _ g; long = hexes-long 16 s f; spells = value-spells 16 s f; float = cc }

-- hex-reads-back: what is spelled reads as the same value, whatever follows
pub hex-reads-back : (x : Float) (t : List ℕ) → T (fits binary64 x) → (to_bits binary64 x ≡ 0x8000000000000000 → ⊥) → hex_at (hex_of x ++ t) ≡ Some x
unfolding hex_of
hex-reads-back x t h k =
    let v : value_to (digits 16 16 (to_bits binary64 x) ++ t) 16 ≡ to_bits binary64 x = spelled-value 16 (to_bits binary64 x) t (to_bits-lt binary64 x h) in
    hex-of (digits 16 16 (to_bits binary64 x) ++ t) (spelled-hexes 16 (to_bits binary64 x) t) (λ e. k (sym v ∙ e))
    ∙ ap (λ (n : ℕ). Some (of_bits binary64 n)) v
    ∙ ap Some (of_bits-to_bits binary64 x h)

-- hex-unique: what reads as x, a number or an infinity, is the spelling of x
pub hex-unique : (s : List ℕ) (x : Float) → hex_at s ≡ Some x → T (not (is_nan x)) → take 16 s ≡ hex_of x
unfolding hex_of
hex-unique s x e n =
    let w : Word s x = hex-word s x e in
    let b : to_bits binary64 (of_bits binary64 w.word) ≡ w.word =
    to_bits-of_bits binary64 w.word w.small (subst (λ (y : Float). T (not (is_nan y))) w.float n) in
    w.spells ∙ ap (digits 16 16) (sym b ∙ ap (to_bits binary64) (sym w.float))

-- what is read is of the format
pub hex-fits : (s : List ℕ) (x : Float) → hex_at s ≡ Some x → T (fits binary64 x)
hex-fits s x e =
    let w : Word s x = hex-word s x e in
    subst (λ (y : Float). T (fits binary64 y)) (sym w.float) (of_bits-fits binary64 w.word)

nan-bits-are : 0x7FF8000000000000 ≡ to_bits binary64 nan
unfolding to_bits
nan-bits-are = refl

nan-bits-other : to_bits binary64 nan ≡ 0x8000000000000000 → ⊥
nan-bits-other g = omega (arith, nan-bits-are)

-- and not -0.0
pub hex-plus : (s : List ℕ) (x : Float) → hex_at s ≡ Some x → to_bits binary64 x ≡ 0x8000000000000000 → ⊥
hex-plus s x e f = by (is_nan x) refl
  where
    by : (t : Bool) → is_nan x ≡ t → ⊥
    by true n = nan-bits-other (ap (to_bits binary64) (sym (is-nan x n)) ∙ f)
    by false n =
        let w : Word s x = hex-word s x e in
        let m : T (not (is_nan x)) = subst (λ (b : Bool). T (not b)) (sym n) tt in
        let b : to_bits binary64 (of_bits binary64 w.word) ≡ w.word =
        to_bits-of_bits binary64 w.word w.small (subst (λ (y : Float). T (not (is_nan y))) w.float m) in
        w.plus (sym b ∙ ap (to_bits binary64) (sym w.float) ∙ f)

-- -0.0 alone has those bits
pub plus-bits : (x : Float) → T (fits binary64 x) → (x ≡ of_bits binary64 0x8000000000000000 → ⊥) → to_bits binary64 x ≡ 0x8000000000000000 → ⊥
plus-bits x h k e = k (sym (of_bits-to_bits binary64 x h) ∙ ap (of_bits binary64) e)

-- ---- a tab and then 16 digits

at-tab : (s : List ℕ) (at : ℕ) → get_or (drop at s) 0 0 ≡ get_or s at 0
at-tab s at = let e : at + 0 ≡ at = omega arith in get_or-drop at s 0 0 ∙ ap (λ (n : ℕ). get_or s n 0) e

pub tab-field : (s : List ℕ) (at : ℕ) → get_or s at 0 ≡ 9 → hex_at (drop (at + 1) s) ≡ field_of (drop at s)
unfolding field_of
tab-field s at e = ap hex_at (sym (drop-drop 1 at s)) ∙ sym (pick_true _ _ _ (eq-eqb _ _ (at-tab s at ∙ e)))

pub no-tab : (s : List ℕ) (at : ℕ) → (get_or s at 0 ≡ 9 → ⊥) → None ≡ field_of (drop at s)
unfolding field_of
no-tab s at e = sym (pick-false _ _ _ (ne_eqb _ _ (λ f. e (sym (at-tab s at) ∙ f))))

-- fewer than 16 bytes are no number
hex-short : (s : List ℕ) → length s < 16 → None ≡ hex_at s
hex-short s h = by (hexes_to s 16) refl
  where
    by : (t : Bool) → hexes_to s 16 ≡ t → None ≡ hex_at s
    by false e = sym (hex-none s e)
    by true e = let l : 16 ≤ length s = hexes-long 16 s e in absurd (omega arith)

pub field-short : (s : List ℕ) (at : ℕ) → length s < at + 17 → None ≡ field_of (drop at s)
unfolding field_of
field-short s at h = by (eqb (get_or (drop at s) 0 0) 9) refl
  where
    by : (t : Bool) → eqb (get_or (drop at s) 0 0) 9 ≡ t → None ≡ field_of (drop at s)
    by false e = sym (pick-false _ _ _ e)
    by true e =
        let l : length (drop 1 (drop at s)) < 16 = omega (arith, ap length (drop-drop 1 at s), length-drop (at + 1) s) in
        hex-short (drop 1 (drop at s)) l ∙ sym (pick_true _ _ _ e)

-- what is put is read, whatever follows
pub field_back : (x : Float) (t : List ℕ) → T (fits binary64 x) → (to_bits binary64 x ≡ 0x8000000000000000 → ⊥) → field_of (field x ++ t) ≡ Some x
unfolding field_of
field_back x t h k = yes _ _ ∙ hex-reads-back x t h k

-- a field is a tab and what is read
pub field_is : (s : List ℕ) (x : Float) → field_of s ≡ Some x → hex_at (drop 1 s) ≡ Some x
unfolding field_of
field_is s x e = by (eqb (get_or s 0 0) 9) refl
  where
    by : (t : Bool) → eqb (get_or s 0 0) 9 ≡ t → hex_at (drop 1 s) ≡ Some x
    by true f = sym (pick_true _ _ _ f) ∙ e
    by false f = let g : None ≡ Some x = sym (pick-false _ _ _ f) ∙ e in let z : ◌≡◌ {A = ℕ} 0 1 = cc in absurd (omega arith)

pub field-tab : (s : List ℕ) (x : Float) → field_of s ≡ Some x → get_or s 0 0 ≡ 9
unfolding field_of
field-tab s x e = by (eqb (get_or s 0 0) 9) refl
  where
    by : (t : Bool) → eqb (get_or s 0 0) 9 ≡ t → get_or s 0 0 ≡ 9
    by true f = eqb-true _ _ f
    by false f = let g : None ≡ Some x = sym (pick-false _ _ _ f) ∙ e in let z : ◌≡◌ {A = ℕ} 0 1 = cc in absurd (omega arith)

-- it has 17 bytes
pub tabbed-long : (s : List ℕ) (x : Float) → field_of s ≡ Some x → 17 ≤ length s
tabbed-long s x e =
    let w : Word (drop 1 s) x = hex-word (drop 1 s) x (field_is s x e) in
    omega (arith, w.long, length-drop 1 s)

-- and its text is the field that is put
pub field-text : (s : List ℕ) (x : Float) → field_of s ≡ Some x → T (not (is_nan x)) → s ≡ field x ++ drop 17 s
field-text s x e n =
    let l : 17 ≤ length s = tabbed-long s x e in
    let a : s ≡ get_or s 0 0 ∷ drop 1 s = drop-cons s 0 0 (omega arith) in
    let b : get_or s 0 0 ≡ 9 = field-tab s x e in
    let c : drop 1 s ≡ take 16 (drop 1 s) ++ drop 16 (drop 1 s) = sym (take-append-drop 16 (drop 1 s)) in
    let d : take 16 (drop 1 s) ≡ hex_of x = hex-unique (drop 1 s) x (field_is s x e) n in
    let f : drop 16 (drop 1 s) ≡ drop 17 s = drop-drop 16 1 s in
    a
    ∙ ap (λ (y : ℕ). y ∷ drop 1 s) b
    ∙ ap (λ (y : List ℕ). 9 ∷ y) (c ∙ ap (λ (y : List ℕ). y ++ drop 16 (drop 1 s)) d ∙ ap (λ (y : List ℕ). hex_of x ++ y) f)

-- ---- eight digits

pub eight-other : (s : List ℕ) → (length s ≡ 8 → ⊥) → None ≡ eight_of s
unfolding eight_of
eight-other s h = sym (pick-false _ _ _ (ne_eqb _ _ h))

pub eight-none : (s : List ℕ) → length s ≡ 8 → hexes_to s 8 ≡ false → None ≡ eight_of s
unfolding eight_of
eight-none s h e = sym (pick_true _ _ _ (eq-eqb _ _ h) ∙ pick-false _ _ _ e)

pub eight-of : (s : List ℕ) (n : ℕ) → length s ≡ 8 → DigitsOf 8 s n → Some n ≡ eight_of s
unfolding eight_of
eight-of s n h w = ap Some w.value ∙ sym (pick_true _ _ _ (eq-eqb _ _ h) ∙ pick_true _ _ _ w.hexes)

pub eight-small : (s : List ℕ) → value_to s 8 < 4294967296
eight-small s = value-lt 8 s

-- eight-reads-back: what is spelled reads as the same number
pub eight-reads-back : (n : ℕ) → n < 4294967296 → eight_of (digits 16 8 n) ≡ Some n
eight-reads-back n h =
    let s : List ℕ = digits 16 8 n in
    let e : hexes_to s 8 ≡ true = ap (λ (x : List ℕ). hexes_to x 8) (sym (append-nil s)) ∙ spelled-hexes 8 n [] in
    let v : value_to s 8 ≡ n = ap (λ (x : List ℕ). value_to x 8) (sym (append-nil s)) ∙ spelled-value 8 n [] h in
    sym (eight-of s n (digits-length 16 8 n) (record { hexes = e; value = sym v }))

-- What is read of 8 bytes: a number below 2^32, spelled there.
pub record EightDigits (s : List ℕ) (n : ℕ) : Type 0 where
  pub small : n < 4294967296
  pub text : s ≡ digits 16 8 n

-- eight-unique: what reads as n is the spelling of n
pub eight-unique : (s : List ℕ) (n : ℕ) → eight_of s ≡ Some n → EightDigits s n
eight-unique s n e = by (eqb (length s) 8) refl (hexes_to s 8) refl
  where
    never : None ≡ eight_of s → EightDigits s n
    never f = let g : None ≡ Some n = f ∙ e in let z : ◌≡◌ {A = ℕ} 0 1 = cc in absurd (omega arith)

    by : (t : Bool) → eqb (length s) 8 ≡ t → (u : Bool) → hexes_to s 8 ≡ u → EightDigits s n
    by false f u g = never (eight-other s (eqb-false _ _ f))
    by true f false g = never (eight-none s (eqb-true _ _ f) g)
    by true f true g =
        let l : length s ≡ 8 = eqb-true _ _ f in
        let w : DigitsOf 8 s (value_to s 8) = record { hexes = g; value = refl } in
        let o : Some (value_to s 8) ≡ Some n = eight-of s (value_to s 8) l w ∙ e in
        let v : value_to s 8 ≡ n = cc in
        record {
          small = omega (arith, eight-small s);
          text = sym (take_all 8 s (omega arith)) ∙ value-spells 8 s g ∙ ap (digits 16 8) v;
        }
