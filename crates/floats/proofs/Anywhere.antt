-- The order of any floats, whatever format holds them or none: `le` is transitive, and of two that are no NaN `lt` is what the other's `le` is not. Assumes nothing.
use Prim.Native.Nat.{ℕ, zero, suc, ◌+◌, ◌*◌, ◌≤◌, ◌<◌}
use native.Mathlib.Nat.{le_trans, le_of_eq, mul_right_comm, mul-le-mul_right, le_of_mul-le-mul_right, mul-pos, zero-mul}
use native.Mathlib.Omega.{arith}
use mathlib.Core.Path.{◌≡◌, refl, sym, ◌∙◌, ap, subst}
use mathlib.Core.Logic.{◌⊎◌, inl, inr}
use mathlib.Core.Bool.{Bool, true, false, not, ◌&&◌, ◌||◌, beq, true≢false}
use lib.Dec.{T, ltb, eqb, ltb→lt, eqb→eq, eqb_refl}
use lib.Ieee.{Float, nan, inf, fin, up, down, below, level, lt, le, eq, is_nan}
use lib.Ieee.Fits.{and_i, and_l, and_r, down_pos}
use borrow.Author.Tests.{lt-ltb, le-ltb, eq-eqb, ne_eqb, ltb-true, ltb-false}
use Rattle.floats.proofs.Bools.{or_r}

-- ---- no comparison holds of a NaN
pub le-number-l : (x y : Float) → T (le x y) → is_nan x ≡ false
unfolding le is_nan
le-number-l nan y t = absurd t
le-number-l (inf s) y t = refl
le-number-l (fin s m e) y t = refl

pub le-number-r : (x y : Float) → T (le x y) → is_nan y ≡ false
unfolding le is_nan
le-number-r nan nan t = absurd t
le-number-r (inf s) nan t = absurd t
le-number-r (fin s m e) nan t = absurd t
le-number-r x (inf s) t = refl
le-number-r x (fin s m e) t = refl

-- ---- numbers
three : (a b : ℕ) → (a < b) ⊎ ((a ≡ b) ⊎ (b < a))
three a b = go (ltb a b) (ltb b a) refl refl
  where
    go : (s t : Bool) → ltb a b ≡ s → ltb b a ≡ t → (a < b) ⊎ ((a ≡ b) ⊎ (b < a))
    go true t e f = inl (ltb-true a b e)
    go false true e f = inr (inr (ltb-true b a f))
    go false false e f = let h = ltb-false a b e in let k = ltb-false b a f in let q : a ≡ b = omega arith in inr (inl q)

-- ±a < ±b exactly where not ±b ≤ ±a
like : (a b : ℕ) → ltb a b ≡ not (ltb b a || eqb b a && true)
like a b =
    elim (three a b) [
      | inl h ↦ rw (lt-ltb a b h, le-ltb b a (omega arith), ne_eqb b a (λ e. omega arith)) refl
      | inr h ↦ elim h [
        | inl e ↦ rw (le-ltb a b (omega arith), le-ltb b a (omega arith), eq-eqb b a (sym e)) refl
        | inr k ↦ rw (le-ltb a b (omega arith), lt-ltb b a k) refl
      ]
    ]

none : (a b : ℕ) → false ≡ not (ltb 0 (b + a) || eqb b a && eqb b 0)
none a b =
    elim (three 0 (b + a)) [
      | inl h ↦ rw (lt-ltb 0 (b + a) h) refl
      | inr h ↦ elim h [
        | inl e ↦ rw (le-ltb 0 (b + a) (omega arith), eq-eqb b a (omega arith), eq-eqb b 0 (omega arith)) refl
        | inr k ↦ absurd (omega arith)
      ]
    ]

some : (a b : ℕ) → ltb 0 (a + b) ≡ not (eqb b a && eqb b 0)
some a b =
    elim (three 0 b) [
      | inl h ↦ rw (lt-ltb 0 (a + b) (omega arith), ne_eqb b 0 (λ e. omega arith)) (go (eqb b a))
      | inr h ↦ elim h [
        | inl e ↦ elim (three 0 a) [
          | inl k ↦ rw (lt-ltb 0 (a + b) (omega arith), ne_eqb b a (λ f. omega arith)) refl
          | inr k ↦ elim k [
            | inl f ↦ rw (le-ltb 0 (a + b) (omega arith), eq-eqb b a (omega arith), eq-eqb b 0 (sym e)) refl
            | inr m ↦ absurd (omega arith)
          ]
        ]
        | inr k ↦ absurd (omega arith)
      ]
    ]
  where
    go : (t : Bool) → true ≡ not (t && false)
    go true = refl
    go false = refl

eqb-turn : (a b : ℕ) → eqb a b ≡ eqb b a
eqb-turn a b =
    elim (three a b) [
      | inl h ↦ ne_eqb a b (λ e. omega arith) ∙ sym (ne_eqb b a (λ e. omega arith))
      | inr h ↦ elim h [
        | inl e ↦ eq-eqb a b e ∙ sym (eq-eqb b a (sym e))
        | inr k ↦ ne_eqb a b (λ e. omega arith) ∙ sym (ne_eqb b a (λ e. omega arith))
      ]
    ]

flip-by : (s t : Bool) (a b : ℕ) → below s a t b ≡ not (below t b s a || level t b s a)
flip-by false false a b = like a b
flip-by false true a b = none a b
flip-by true false a b = some a b
flip-by true true a b = like b a ∙ ap (λ (t : Bool). not (ltb a b || t && true)) (eqb-turn a b)

-- ---- of two that are no NaN, x < y exactly where not y <= x
pub lt-flips : (x y : Float) → is_nan x ≡ false → is_nan y ≡ false → lt x y ≡ not (le y x)
unfolding le is_nan
lt-flips nan y p q = absurd (true≢false p)
lt-flips (inf s) nan p q = absurd (true≢false q)
lt-flips (inf true) (inf true) p q = refl
lt-flips (inf true) (inf false) p q = refl
lt-flips (inf false) (inf true) p q = refl
lt-flips (inf false) (inf false) p q = refl
lt-flips (inf true) (fin t n d) p q = refl
lt-flips (inf false) (fin t n d) p q = refl
lt-flips (fin s m e) nan p q = absurd (true≢false q)
lt-flips (fin s m e) (inf true) p q = refl
lt-flips (fin s m e) (inf false) p q = refl
lt-flips (fin s m e) (fin t n d) p q = flip-by s t (m * up e * down d) (n * up d * down e)

-- ---- equal the other way round
turned : (s t : Bool) (a b : ℕ) → T (level s a t b) → T (level t b s a)
turned s t a b h =
    let e = eqb→eq a b (and_l (eqb a b) (beq s t || eqb a 0) h) in
    subst (λ (x : ℕ). T (level t x s a)) e (and_i (eqb a a) (beq t s || eqb a 0) (eqb_refl a) (swap s t (eqb a 0) (and_r (eqb a b) (beq s t || eqb a 0) h)))
  where
    swap : (s t c : Bool) → T (beq s t || c) → T (beq t s || c)
    swap true true c h = tt
    swap true false c h = h
    swap false true c h = h
    swap false false c h = tt

pub eq-turns : (x y : Float) → T (eq x y) → T (le y x)
unfolding le
eq-turns nan y t = absurd t
eq-turns (inf s) nan t = absurd t
eq-turns (inf true) (inf true) t = tt
eq-turns (inf true) (inf false) t = absurd t
eq-turns (inf false) (inf true) t = absurd t
eq-turns (inf false) (inf false) t = tt
eq-turns (inf s) (fin t n d) h = absurd h
eq-turns (fin s m e) nan t = absurd t
eq-turns (fin s m e) (inf t) h = absurd h
eq-turns (fin s m e) (fin t n d) h = or_r (below t (n * up d * down e) s (m * up e * down d)) (level t (n * up d * down e) s (m * up e * down d)) (turned s t (m * up e * down d) (n * up d * down e) h)

-- ---- ±a ≤ ±b as numbers
abbrev Le : Bool → ℕ → Bool → ℕ → Type 0
Le false a false b = a ≤ b
Le false a true b = (a ≡ 0) × (b ≡ 0)
Le true a false b = Unit {0}
Le true a true b = b ≤ a

or_elim : {A : Type 0} (a b : Bool) → T (a || b) → (T a → A) → (T b → A) → A
or_elim true b t f g = f tt
or_elim false b t f g = g t

to-Le : (s t : Bool) (a b : ℕ) → T (below s a t b || level s a t b) → Le s a t b
to-Le false false a b h = or_elim (ltb a b) (eqb a b && true) h (λ l. let k = ltb→lt a b l in omega arith) (λ l. let k = eqb→eq a b (and_l (eqb a b) true l) in omega arith)
to-Le false true a b h =
    let e = eqb→eq a b (and_l (eqb a b) (eqb a 0) h) in
    let f = eqb→eq a 0 (and_r (eqb a b) (eqb a 0) h) in
    (f, sym e ∙ f)
to-Le true false a b h = tt
to-Le true true a b h = or_elim (ltb b a) (eqb a b && true) h (λ l. let k = ltb→lt b a l in omega arith) (λ l. let k = eqb→eq a b (and_l (eqb a b) true l) in omega arith)

of-Le : (s t : Bool) (a b : ℕ) → Le s a t b → T (below s a t b || level s a t b)
of-Le false false a b h =
    elim (three a b) [
      | inl k ↦ rw (lt-ltb a b k) tt
      | inr k ↦ elim k [
        | inl e ↦ or_r (ltb a b) (eqb a b && true) (rw (eq-eqb a b e) tt)
        | inr m ↦ absurd (omega arith)
      ]
    ]
of-Le false true a b h = rw (eq-eqb a b (h.0 ∙ sym h.1), eq-eqb a 0 h.0) tt
of-Le true false a b h =
    elim (three 0 (a + b)) [
      | inl k ↦ rw (lt-ltb 0 (a + b) k) tt
      | inr k ↦ elim k [
        | inl e ↦ or_r (ltb 0 (a + b)) (eqb a b && eqb a 0) (rw (eq-eqb a b (omega arith), eq-eqb a 0 (omega arith)) tt)
        | inr m ↦ absurd (omega arith)
      ]
    ]
of-Le true true a b h =
    elim (three b a) [
      | inl k ↦ rw (lt-ltb b a k) tt
      | inr k ↦ elim k [
        | inl e ↦ or_r (ltb b a) (eqb a b && true) (rw (eq-eqb a b (sym e)) tt)
        | inr m ↦ absurd (omega arith)
      ]
    ]

-- ---- fractions x / dx, y / dy, z / dz
cross : (x y z dx dy dz : ℕ) → 0 < dy → x * dy ≤ y * dx → y * dz ≤ z * dy → x * dz ≤ z * dx
cross x y z dx dy dz D h k =
    le_of_mul-le-mul_right
    (le_trans (le_of_eq (mul_right_comm x dz dy)) (le_trans (mul-le-mul_right dz h) (le_trans (le_of_eq (mul_right_comm y dx dz)) (le_trans (mul-le-mul_right dx k) (le_of_eq (mul_right_comm z dy dx)))))) D

gone : (x d : ℕ) → 0 < d → x * d ≡ 0 → x ≡ 0
gone zero d D h = refl
gone (suc x) d D h = let p : 0 < suc x * d = mul-pos (omega arith) D in absurd (omega arith)

nil : (x d : ℕ) → x ≡ 0 → x * d ≡ 0
nil x d e = ap (λ (n : ℕ). n * d) e ∙ zero-mul d

less : (x : ℕ) → x ≤ 0 → x ≡ 0
less x h = omega arith

chain : (s t u : Bool) (x y z dx dy dz : ℕ) → 0 < dx → 0 < dy → 0 < dz → Le s (x * dy) t (y * dx) → Le t (y * dz) u (z * dy) → Le s (x * dz) u (z * dx)
chain false false false x y z dx dy dz A B C h k = cross x y z dx dy dz B h k
chain false false true x y z dx dy dz A B C h k =
    let y0 = gone y dz C k.0 in
    let z0 = gone z dy B k.1 in
    let x0 = gone x dy B (less (x * dy) (subst (λ (n : ℕ). x * dy ≤ n) (nil y dx y0) h)) in
    (nil x dz x0, nil z dx z0)
chain false true false x y z dx dy dz A B C h k = let e = nil x dz (gone x dy B h.0) in omega arith
chain false true true x y z dx dy dz A B C h k =
    let x0 = gone x dy B h.0 in
    let y0 = gone y dx A h.1 in
    let z0 = gone z dy B (less (z * dy) (subst (λ (n : ℕ). z * dy ≤ n) (nil y dz y0) k)) in
    (nil x dz x0, nil z dx z0)
chain true false false x y z dx dy dz A B C h k = tt
chain true false true x y z dx dy dz A B C h k = let e = nil z dx (gone z dy B k.1) in omega arith
chain true true false x y z dx dy dz A B C h k = tt
chain true true true x y z dx dy dz A B C h k = cross z y x dz dy dx B k h

bottom : (z : Float) → is_nan z ≡ false → T (le (inf true) z)
unfolding le is_nan
bottom nan h = absurd (true≢false h)
bottom (inf true) h = tt
bottom (inf false) h = tt
bottom (fin s m e) h = tt

top : (y : Float) → T (le (inf false) y) → y ≡ inf false
unfolding le
top nan h = absurd h
top (inf true) h = absurd h
top (inf false) h = refl
top (fin s m e) h = absurd h

pub le-chain : (x y z : Float) → T (le x y) → T (le y z) → T (le x z)
unfolding le
le-chain nan y z h k = absurd h
le-chain (inf true) y z h k = bottom z (le-number-r y z k)
le-chain (inf false) y z h k = subst (λ (v : Float). T (le v z)) (top y h) k
le-chain (fin s m e) nan z h k = absurd h
le-chain (fin s m e) (inf true) z h k = absurd h
le-chain (fin s m e) (inf false) z h k = subst (λ (v : Float). T (le (fin s m e) v)) (sym (top z k)) tt
le-chain (fin s m e) (fin t n d) nan h k = absurd k
le-chain (fin s m e) (fin t n d) (inf true) h k = absurd k
le-chain (fin s m e) (fin t n d) (inf false) h k = tt
le-chain (fin s m e) (fin t n d) (fin u o c) h k =
    of-Le s u (m * up e * down c) (o * up c * down e)
    (chain s t u (m * up e) (n * up d) (o * up c) (down e) (down d) (down c) (down_pos e) (down_pos d) (down_pos c)
    (to-Le s t (m * up e * down d) (n * up d * down e) h) (to-Le t u (n * up d * down c) (o * up c * down d) k))
