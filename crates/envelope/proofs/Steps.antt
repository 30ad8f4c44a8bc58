-- The definitions by one turn of a loop, and what a number that is kept beside the points says. Assumes nothing.
use mathlib.Core.Path.{◌≡◌, refl, sym, ap, ◌∙◌}
use mathlib.Core.Bool.{Bool, true, false, ◌&&◌, false≢true}
use mathlib.Core.List.{List}
use Prim.Native.Nat.{ℕ, suc, ◌+◌, ◌-◌, ◌*◌, ◌≤◌}
use native.Mathlib.Numerals.{add-one}
use native.Mathlib.Omega.{arith}
use lib.Dec.{T}
use lib.ListN.{get_or}
use lib.Ieee.{Float, nan, inf, fin, binary64, le, lt, eq, fits, is_nan}
use lib.IntN.{ℤ, pos, negsuc}
use mir.Syntax.{w8}
use mir.Val.{SFits, of_z, to_z}
use mir.Facts.{to_z-of_z}
use borrow.Author.Tests.{eqb-true}
use Rattle.floats.specs.Pick.{pick}
use Rattle.floats.specs.Numbers.{clean_of, usable, usable_to, all_to}
use Rattle.floats.specs.Kinds.{Number}
use Rattle.floats.proofs.Keys.{same_test}
use Rattle.floats.proofs.Order.{to_le, of_le, number-of}
use Rattle.floats.proofs.Cleared.{clean-key, clean-plain}
use Rattle.envelope.specs.Envelope.{u_at, point_at, rises_to, falls_to, higher, segment_at, highest_to, segment_in, radii_to}
use Rattle.envelope.specs.Halving.{is_z}

-- ---- one turn more
pub usable-more : (ps : List Float) (i : ℕ) → usable_to ps (2 * (i + 1)) ≡ (usable_to ps (2 * i) && usable (get_or ps (2 * i) nan) && usable (get_or ps (2 * i + 1) nan))
unfolding usable_to all_to
usable-more ps i =
    let e : 2 * (i + 1) ≡ suc (2 * i + 1) = omega arith in
    ap (usable_to ps) e ∙ ap (λ b. b && usable (get_or ps (2 * i + 1) nan)) (ap (usable_to ps) (add-one (2 * i)))

pub rises-more : (ps : List Float) (i : ℕ) → rises_to ps (i + 1) ≡ (rises_to ps i && le (u_at ps i) (u_at ps (i + 1)))
unfolding rises_to all_to
rises-more ps i = ap (rises_to ps) (add-one i)

pub falls-more : (ps : List Float) (i : ℕ) → falls_to ps (i + 1) ≡ (falls_to ps i && le (u_at ps (i + 1)) (u_at ps i))
unfolding falls_to all_to
falls-more ps i = ap (falls_to ps) (add-one i)

-- the next segment starts with point i
pub highest-more : (ps : List Float) (u : Float) (a i : ℕ) → a ≤ i → highest_to ps u a (i + 1 - a) ≡ higher (highest_to ps u a (i - a)) (segment_at (point_at ps i) (point_at ps (i + 1)) u)
unfolding highest_to
highest-more ps u a i h =
    let e : i + 1 - a ≡ suc (i - a) = omega arith in
    let g : a + (i - a) ≡ i = omega arith in
    ap (highest_to ps u a) e ∙ ap (λ k. higher (highest_to ps u a (i - a)) (segment_at (point_at ps k) (point_at ps (k + 1)) u)) g

pub radii-more : (ps : List Float) (lo hi : Float) (a i : ℕ) → a ≤ i → radii_to ps lo hi a (i + 1 - a) ≡ segment_in (radii_to ps lo hi a (i - a)) (point_at ps i) (point_at ps (i + 1)) lo hi
unfolding radii_to
radii-more ps lo hi a i h =
    let e : i + 1 - a ≡ suc (i - a) = omega arith in
    let g : a + (i - a) ≡ i = omega arith in
    ap (radii_to ps lo hi a) e ∙ ap (λ k. segment_in (radii_to ps lo hi a (i - a)) (point_at ps k) (point_at ps (k + 1)) lo hi) g

-- ---- a comparison does not see whether -0.0 was read as +0.0
module _ {x y : Float} (p : Number binary64 x) (q : Number binary64 y) where
  clean-number-le : le (clean_of x) (clean_of y) ≡ le x y
  clean-number-le =
      let cp = number-of (clean-plain p) in
      let cq = number-of (clean-plain q) in
      let e = clean-key p in
      let g = clean-key q in
      same_test (le (clean_of x) (clean_of y)) (le x y) (λ t. to_le p q (omega (arith, of_le cp cq t))) (λ t. to_le cp cq (omega (arith, of_le p q t)))

clean-nan : clean_of nan ≡ nan
unfolding clean_of pick eq
clean-nan = refl

nan-l : (y : Float) → le nan y ≡ false
unfolding le lt eq
nan-l y = refl

nan-r : (x : Float) → le x nan ≡ false
unfolding le lt eq
nan-r nan = refl
nan-r (inf s) = refl
nan-r (fin s m e) = refl

pub clean-le : (x y : Float) → T (fits binary64 x) → T (fits binary64 y) → le (clean_of x) (clean_of y) ≡ le x y
unfolding is_nan
clean-le nan y f g = rw clean-nan (nan-l (clean_of y) ∙ sym (nan-l y))
clean-le (inf s) nan f g = rw clean-nan (nan-r (clean_of (inf s)) ∙ sym (nan-r (inf s)))
clean-le (fin s m e) nan f g = rw clean-nan (nan-r (clean_of (fin s m e)) ∙ sym (nan-r (fin s m e)))
clean-le (inf s) (inf t) f g = clean-number-le (record { held = f; number = tt }) (record { held = g; number = tt })
clean-le (inf s) (fin t n d) f g = clean-number-le (record { held = f; number = tt }) (record { held = g; number = tt })
clean-le (fin s m e) (inf t) f g = clean-number-le (record { held = f; number = tt }) (record { held = g; number = tt })
clean-le (fin s m e) (fin t n d) f g = clean-number-le (record { held = f; number = tt }) (record { held = g; number = tt })

-- the lent numbers of two points side by side
module _ (ps : List Float) (held : (i : ℕ) → T (fits binary64 (get_or ps i nan))) (i : ℕ) where
  pub rises_next : (rises_to ps i && le (get_or ps (2 * i) nan) (get_or ps (2 * i + 2) nan)) ≡ rises_to ps (i + 1)
  unfolding u_at
  rises_next =
      let e : 2 * (i + 1) ≡ 2 * i + 2 = omega arith in
      rw (rises-more ps i, e, clean-le (get_or ps (2 * i) nan) (get_or ps (2 * i + 2) nan) (held (2 * i)) (held (2 * i + 2)))

  pub falls-next : (falls_to ps i && le (get_or ps (2 * i + 2) nan) (get_or ps (2 * i) nan)) ≡ falls_to ps (i + 1)
  unfolding u_at
  falls-next =
      let e : 2 * (i + 1) ≡ 2 * i + 2 = omega arith in
      rw (falls-more ps i, e, clean-le (get_or ps (2 * i + 2) nan) (get_or ps (2 * i) nan) (held (2 * i + 2)) (held (2 * i)))

-- ---- the number
is-of : (a b : ℤ) → is_z a b ≡ true → a ≡ b
unfolding is_z
is-of (pos a) (pos b) e = ap pos (eqb-true a b e)
is-of (pos a) (negsuc b) e = absurd (false≢true e)
is-of (negsuc a) (pos b) e = absurd (false≢true e)
is-of (negsuc a) (negsuc b) e = ap negsuc (eqb-true a b e)

-- another number
pub is-not : (a b : ℤ) → (a ≡ b → ⊥) → is_z a b ≡ false
is-not a b h = go (is_z a b) refl
  where
    go : (r : Bool) → is_z a b ≡ r → r ≡ false
    go true e = absurd (h (is-of a b e))
    go false e = refl

-- what an i8 is whose pattern is n
pub reads : (z : ℤ) (n : ℕ) → SFits w8 z → of_z w8 z ≡ n → z ≡ to_z w8 n
reads z n f h = sym (to_z-of_z f) ∙ ap (to_z w8) h
