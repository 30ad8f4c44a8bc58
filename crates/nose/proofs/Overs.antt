-- A circle that stays over a radius on a line, told without its root: where the square of `far` is no less than what is rooted, `far` is no less than the root (`end-over`). Assumes nothing.
use Rattle.std.specs.Prelude.{Option, None, Some}
use mathlib.Core.Path.{◌≡◌, refl, sym, ap, subst}
use mathlib.Core.Bool.{Bool, true, false, ◌&&◌, true≢false}
use Prim.Native.Nat.{◌^◌, ◌≤◌}
use native.Mathlib.Nat.{le_of_eq}
use native.Mathlib.Nat as nat
use lib.Dec.{T, lit≤}
use lib.IntN.{negsuc}
use lib.Pow.{pow_mono}
use lib.Ieee.{Float, nan, inf, fin, binary64, fits, add, sub, neg, lt, le, eq, of_bits, of_fields, odd}
use lib.Ieee.Fits.{sub-fits}
use Rattle.refusals.specs.Paper.{Paper, answers}
use Rattle.floats.specs.Pick.{pick_true, pick-false}
use Rattle.floats.specs.Numbers.{◌-₆₄◌, ◌*₆₄◌, least_of, greatest_of, size_of}
use Rattle.floats.specs.Kinds.{Finite, Within}
use Rattle.floats.proofs.Bools.{so, to-false}
use Rattle.floats.proofs.Bounding.{clash, lt-le-chain}
use Rattle.floats.proofs.Keys.{mag}
use Rattle.floats.proofs.Lattice.{greatest-number, greatest-ge-r, greatest-le}
use Rattle.floats.proofs.Order.{le-self, le_trans}
use Rattle.floats.proofs.Signed.{zero+, number-zero, number-finite, sub-mono}
use Rattle.floats.proofs.Within.{finite-within, number-within, number-l, within-between, within-test, within-mul, within-zero, finite-between}
use Rattle.numbers.specs.Root.{root_of}
use Rattle.numbers.specs.Length.{tiny_below}
use Rattle.numbers.proofs.Units.{square-nonneg}
use Rattle.numbers.proofs.Sizes.{root-answers, root-finite, root-mono, size-order}
use Rattle.numbers.proofs.Squares.{root-of-square}
use Rattle.numbers.proofs.Tiny.{below-size}
use Rattle.reach.specs.Low.{lower_of}
use Rattle.reach.proofs.Reaches.{lower-keeps, some-pick}
use Rattle.nose.specs.declared.Point.{Point}
use Rattle.nose.specs.declared.Capsule.{Capsule}
use Rattle.nose.specs.Capsule.{less_root}
use Rattle.nose.specs.Track.{end_on, side_on, capsule_at, Over}

-- 1e100
abbrev pub far_most : Float
far_most = of_bits binary64 0x54B249AD2594C37D

-- ---- a difference
-- what a number less `far` is over, the number less what is no more is over
less-over : (r u far top : Float) → T (fits binary64 r) → Finite binary64 u → Finite binary64 far → T (le u far) → T (lt top (r -₆₄ far)) → T (lt top (r -₆₄ u))
less-over r u far top f p q h l = go r u far f p q h l
  where
    never : (x : Float) → T (lt x nan) → ⊥
    never nan t = unfold lt in t
    never (inf s) t = unfold lt in t
    never (fin s m e) t = unfold lt in t

    go : (r u far : Float) → T (fits binary64 r) → Finite binary64 u → Finite binary64 far → T (le u far) → T (lt top (r -₆₄ far)) → T (lt top (r -₆₄ u))
    go nan u far f p q h l = absurd (never top (unfold sub add in l))
    go (inf s) nan far f p q h l = absurd p.finite
    go (inf s) (inf t) far f p q h l = absurd p.finite
    go (inf s) (fin t m e) nan f p q h l = absurd q.finite
    go (inf s) (fin t m e) (inf v) f p q h l = absurd q.finite
    go (inf s) (fin t m e) (fin v n d) f p q h l = unfold sub add neg in l
    go (fin s m e) u far f p q h l =
        let r : Finite binary64 (fin s m e) = record { held = f; finite = tt } in
        lt-le-chain top (fin s m e -₆₄ far) (fin s m e -₆₄ u) l (sub-mono r q r p (le-self (number-finite r)) h)

-- ---- what is rooted
module _ (far : Float) (held : T (fits binary64 far)) (low : T (le tiny_below far)) (high : T (le far far_most)) where
  least : Within binary64 400 (fin false 1 (negsuc 399))
  unfolding fits
  least = within-test binary64 400 (fin false 1 (negsuc 399)) tt

  most : Within binary64 400 far_most
  unfolding fits of_bits of_fields odd
  most = within-test binary64 400 far_most tt

  from : T (le (fin false 1 (negsuc 399)) far)
  unfolding of_bits of_fields odd
  from = low

  far_within : Within binary64 400 far
  far_within = within-between least most held from high

  far-finite : Finite binary64 far
  far-finite = finite-within far_within

  square-finite : Finite binary64 (far *₆₄ far)
  square-finite = finite-within (within-mul far_within far_within (lit≤ tt))

  start : T (le zero+ (fin false 1 (negsuc 399)))
  unfolding le lt eq
  start = tt

  far-positive : T (le zero+ far)
  far-positive = le_trans number-zero (number-within least) (number-finite far-finite) start from

  far-large : 2 ^ 563 ≤ mag binary64 far
  far-large = nat.le_trans (pow_mono {i = 563} {j = 674} (lit≤ tt)) (nat.le_trans (le_of_eq (sym below-size)) (size-order (finite-within least) far-finite start from))

  far-size : size_of far ≡ far
  unfolding size_of of_bits
  far-size = pick-false (lt far zero+) (neg far) far (to-false (lt far zero+) (λ h. clash far zero+ h far-positive))

  -- the root of what is no more than the square is no more than far
  root-under : (g v : Float) → Finite binary64 g → T (le zero+ g) → T (le g (far *₆₄ far)) → root_of g ≡ answers v → T (le v far)
  root-under g v p n h e = subst (λ (x : Float). T (le v x)) far-size (root-mono p square-finite n h e (root-of-square far-finite square-finite far-large))

  -- the circle about an end
  pub end-over : (p : Point) (rn rr c top : Float) → T (fits binary64 p.r) → T (le (rr -₆₄ (p.z -₆₄ c) *₆₄ (p.z -₆₄ c)) (far *₆₄ far)) → T (lt top (p.r -₆₄ far)) → Over top (end_on p rn rr c)
  unfolding end_on of_bits
  end-over p rn rr c top f h l =
      let dz = p.z -₆₄ c in
      let x = rr -₆₄ dz *₆₄ dz in
      let N = number-l x (far *₆₄ far) (sub-fits binary64 rr (dz *₆₄ dz)) h in
      let g = greatest_of x zero+ in
      let n : T (le zero+ g) = greatest-ge-r N number-zero in
      let k : T (le g (far *₆₄ far)) = greatest-le N number-zero (number-finite square-finite) h (square-nonneg far-finite) in
      let G = finite-between (finite-within (within-zero binary64)) square-finite (greatest-number N number-zero).held n k in
      let a = root-answers g G n in
      some-pick (λ y. T (lt top y)) (le (size_of dz) rn) (less_root p.r (root_of g)) None
      (subst (λ (q : Paper Float). Over top (less_root p.r q)) (sym a.1) (less-over p.r a.0 far top f (root-finite G a.1) far-finite (root-under g a.0 G n k a.1) l))
      tt

-- ---- the test
pub both : (a b : Bool) → (a && b) ≡ true → (a ≡ true) × (b ≡ true)
both true b e = (refl, e)
both false b e = absurd (true≢false (sym e))

-- what is asked of `far` tells that a circle stays over top
pub over-test : (p : Point) (rr c top far : Float) → T (fits binary64 p.r) → T (fits binary64 far) → (le (rr -₆₄ (p.z -₆₄ c) *₆₄ (p.z -₆₄ c)) (far *₆₄ far) && lt top (p.r -₆₄ far) && le tiny_below far && le far far_most) ≡ true → (rn : Float) → Over top (end_on p rn rr c)
over-test p rr c top far f g e rn =
    let a = le (rr -₆₄ (p.z -₆₄ c) *₆₄ (p.z -₆₄ c)) (far *₆₄ far) in
    let b = lt top (p.r -₆₄ far) in
    let x = both (a && b && le tiny_below far) (le far far_most) e in
    let y = both (a && b) (le tiny_below far) x.0 in
    let z = both a b y.0 in
    end-over far g (so y.1) (so x.1) p rn rr c top f (so z.0) (so z.1)

-- a radius hides what stays over it
pub hides : (l : Option Float) (top : Float) (o : Option Float) → l ≡ Some top → Over top o → lower_of o l ≡ l
hides l top o e h = subst (λ (z : Option Float). lower_of o z ≡ z) (sym e) (go o h)
  where
    is_true : (b : Bool) → T b → b ≡ true
    is_true true t = refl
    is_true false t = absurd t

    go : (o : Option Float) → Over top o → lower_of o (Some top) ≡ Some top
    go None h = unfold lower_of in refl
    go (Some y) h = unfold lower_of least_of in ap Some (pick_true (lt top y) top y (is_true (lt top y) h))

-- ---- a capsule whose straight side misses the line
pub capsule-over : (w : Capsule) (c top : Float) → Over top (end_on w.a w.rn w.rr c) → Over top (end_on w.b w.rn w.rr c) → side_on w c ≡ None → Over top (capsule_at w c)
unfolding capsule_at
capsule-over w c top a b e =
    let P : Float → Type 0 = λ x. T (lt top x) in
    let x = end_on w.a w.rn w.rr c in
    let y = end_on w.b w.rn w.rr c in
    let u : Over top (lower_of x y) = lower-keeps P x y a b in
    some-pick P w.long (lower_of (lower_of x y) (side_on w c)) (lower_of x y) (lower-keeps P (lower_of x y) (side_on w c) u (subst (λ (o : Option Float). Over top o) (sym e) tt)) u
