-- Of a profile that is not refused every number of every chord is finite, so that each length and each root has an answer; and each sag is from 0 to the tolerance, and not -0.0.
-- A halving makes a point's numbers at most 4 times as large: at most 2 ^ 20 becomes at most 2 ^ 40 in ten. A half's bulge stays at most 1 in size. Assumes nothing.
use Rattle.std.specs.Prelude.{Option, None, Some}
use mathlib.Core.Path.{◌≡◌, refl, sym, ap, ◌∙◌, subst}
use mathlib.Core.Bool.{Bool, true, false, not, ◌&&◌}
use mathlib.Core.List.{List, [], ◌∷◌, ◌++◌}
use Prim.Native.Nat.{ℕ, zero, suc, ◌+◌, ◌*◌, ◌-◌, ◌^◌, ◌≤◌, ◌<◌, zero-le}
use native.Mathlib.Nat.{le_refl, le_of_lt, lt_irrefl, add-zero, mul-one}
use native.Mathlib.Omega.{arith}
use lib.Dec.{T, lit<, lit≤, not_T}
use lib.IntN.{pos}
use lib.ListN.{get_or}
use native.Mathlib.Decide.{dec_lt}
use lib.Ieee.{Float, nan, fin, Format, binary64, low, emax, of_bits, of_fields, odd, fits, neg, lt, le, eq, is_nan, add}
use lib.Ieee.Fits.{and_l, and_r}
use Rattle.refusals.specs.Paper.{Paper, answers, refuses}
use Rattle.floats.specs.Pick.{pick}
use Rattle.floats.specs.Each.{Each}
use Rattle.floats.specs.Numbers.{◌+₆₄◌, ◌-₆₄◌, ◌*₆₄◌, ◌/₆₄◌, zero64, one64, minus_zero, size_of, clean_of, usable, million}
use Rattle.floats.specs.Kinds.{Number, Plain, Finite, Within}
use Rattle.floats.proofs.Keys.{top, key, mag, le-key, lt-key, eq-key}
use Rattle.floats.proofs.Order.{number-of, nlt→le, le-self}
use Rattle.floats.proofs.Signed.{zero+, one+, number-one, number-zero, number-finite, one_key, size-of-above, add-mono, mul-nonneg, div-nonneg, key-neg, of_positive, to-nonneg, neg-finite}
use Rattle.floats.proofs.Zeros.{mul-plain, div-plain}
use Rattle.floats.proofs.Cleared.{clean-keeps, clean-plain, minus-zero-eq}
use Rattle.floats.proofs.Exact.{zero-key}
use Rattle.floats.proofs.Within.{finite-within, number-within, within-weaken, add-within, sub_within, within-neg, within-mul, within-div, within-test, within_both, within-zero, within-one}
use Rattle.numbers.specs.Root.{root_of}
use Rattle.numbers.specs.Length.{length_of}
use Rattle.numbers.proofs.Sizes.{root-answers, root-finite, root-nonneg, root-plain, root-bounded}
use Rattle.numbers.proofs.Units.{square-nonneg, add-nonneg}
use Rattle.numbers.proofs.Lengths.{length-answers, length-within, length-nonneg, length-unsigned}
use Rattle.profile.specs.declared.Point.{Point}
use Rattle.profile.specs.Profile.{clean_at, point_at, bulge_at, point_good, good_to}
use Rattle.profile.specs.Chords.{two64, sag_by, sag_of, middle_of, half_by, half_of, Chord, one, chords_of, chords_to}
use Rattle.profile.proofs.Chains.{by-halves, by-segments}

abbrev pub W : ℕ → Float → Type 0
W = Within binary64

-- ---- 1 and 2
two_is : two64 ≡ fin false 1 (pos 1)
unfolding of_bits of_fields odd
two_is = refl

one-is : one64 ≡ one+
unfolding of_bits of_fields odd
one-is = refl

two-within : W 1 two64
unfolding fits
two-within = subst (W 1) (sym two_is) (within-test binary64 1 (fin false 1 (pos 1)) tt)

two-above : T (le one+ two64)
unfolding le
two-above = subst (λ (x : Float). T (le one+ x)) (sym two_is) tt

two-positive : T (lt zero+ two64)
unfolding lt
two-positive = subst (λ (x : Float). T (lt zero+ x)) (sym two_is) tt

-- ---- by a divisor of at least 1 nothing grows
over-one : {f : Format} {j : ℕ} {x y : Float} → j + 0 ≤ emax f → Within f j x → Finite f y → T (le one+ y) → Within f (j + 0) (lib.Ieee.div f x y)
over-one {f} {j} {x} {y} r u q h =
    let k : key f one+ ≤ key f y = (le-key f one+ y number-one (number-finite q)).0 h in
    let m : 2 ^ low f ≤ mag f y = size-of-above q (2 ^ low f) (subst (λ (n : ℕ). n ≤ key f y) (one_key f) k) in
    within-div 0 u q (subst (λ (n : ℕ). 2 ^ low f ≤ n) (sym (mul-one (mag f y))) m) r

divided : {x y : Float} (j : ℕ) → j ≤ 1000 → W j x → Finite binary64 y → T (le one+ y) → W j (x /₆₄ y)
divided {x} {y} j r u q h = within-weaken e (over-one (lim j r) u q h)
  where
    e : j + 0 ≤ j
    e = omega arith

    lim : (j : ℕ) → j ≤ 1000 → j + 0 ≤ 1023
    lim j r = omega arith

-- ---- finite, not negative and not -0.0
pub record NotNegative (k : ℕ) (x : Float) : Type 0 where
  pub within : W k x
  pub plain : Plain binary64 x
  pub nonneg : T (le zero+ x)

-- a number below zero, negated
module _ {f : Format} {y : Float} (p : Number f y) (h : T (lt y zero+)) (q : Number f (neg y)) where
  raised : top f < key f (neg y)
  raised =
      let a : key f y < top f = subst (λ (n : ℕ). key f y < n) (zero-key f false) ((lt-key f y zero+ p number-zero).0 h) in
      let e = key-neg p in
      subst (λ (n : ℕ). top f < n) (sym e) (omega (arith, a))

  neg-nonneg : T (le zero+ (neg y))
  neg-nonneg = to-nonneg q (le_of_lt raised)

  neg-unsigned : T (not (minus_zero (neg y)))
  neg-unsigned =
      not_T (minus_zero (neg y)) (λ z.
      let e = (eq-key f (neg y) zero+ q number-zero).0 (minus-zero-eq f (neg y) q.held z) ∙ zero-key f false in
      lt_irrefl (top f) (subst (λ (n : ℕ). top f < n) e raised))

-- the size of a number that is no -0.0
size-of : {k : ℕ} (y : Float) → W k y → Plain binary64 y → (t : Bool) → lt y zero+ ≡ t → NotNegative k (pick t (neg y) y)
unfolding pick
size-of y w p true e =
    let q = number-within (within-neg w) in
    let h : T (lt y zero+) = subst T (sym e) tt in
    record {
      within = within-neg w;
      plain = record { held = q.held; number = q.number; unsigned = neg-unsigned (number-of p) h q };
      nonneg = neg-nonneg (number-of p) h q;
    }
size-of y w p false e = record { within = w; plain = p; nonneg = nlt→le number-zero (number-of p) (subst (λ (b : Bool). T (not b)) (sym e) tt) }

pub zero_is : zero64 ≡ zero+
unfolding of_bits of_fields odd
zero_is = refl

-- the size of a bulge
bulge-size : {x : Float} → W 0 x → NotNegative 0 (size_of (clean_of x))
unfolding size_of
bulge-size {x} w =
    size-of (clean_of x) (clean-keeps (W 0) (within-zero binary64) w) (clean-plain (number-within w)) (lt (clean_of x) zero64) (ap (lt (clean_of x)) (sym zero_is))

-- ---- a length of parts of at most 2 ^ 41
length-sized : {x y : Float} → W 41 x → W 41 y → (l : Float) → length_of x y ≡ answers l → NotNegative 42 l
length-sized {x} {y} X Y l e =
    record {
      within = length-within X Y e;
      plain = length-unsigned x y l X.held Y.held e;
      nonneg = length-nonneg x y l X.held Y.held e;
    }

-- ---- a point whose numbers are at most 2 ^ k in size
pub record PointWithin (k : ℕ) (p : Point) : Type 0 where
  pub r : W k p.r
  pub z : W k p.z

pub weaker : {j k : ℕ} {p : Point} → j ≤ k → PointWithin j p → PointWithin k p
weaker h w = record { r = within-weaken h w.r; z = within-weaken h w.z }

-- ---- the sag
module _ {a b : Point} {bu : Float} (A : PointWithin 40 a) (B : PointWithin 40 b) (U : W 0 bu) where
  sag-with : (l : Float) → NotNegative 42 l → NotNegative 42 (size_of (clean_of bu) *₆₄ (l /₆₄ two64))
  sag-with l L =
      let s = bulge-size U in
      let f = finite-within L.within in
      let t = finite-within two-within in
      let h = divided 42 (lit≤ tt) L.within t two-above in
      let n = div-nonneg f t L.nonneg two-positive in
      record {
        within = within-mul s.within h (lit≤ tt);
        plain = mul-plain s.plain (div-plain L.plain f t L.nonneg two-positive) (finite-within s.within) (finite-within h) s.nonneg n;
        nonneg = mul-nonneg (finite-within s.within) (finite-within h) s.nonneg n;
      }

  pub sag-sized : NotNegative 42 (sag_of a b bu)
  unfolding sag_of
  sag-sized =
      let X = sub_within B.z A.z (lit< tt) in
      let Y = sub_within B.r A.r (lit< tt) in
      let g = length-answers X Y in
      subst (λ (p : Paper Float). NotNegative 42 (sag_by bu p)) (sym g.1) (sag-with g.0 (length-sized X Y g.0 g.1))

-- half the length of a chord: there is one
pub record Halved (a b : Point) : Type 0 where
  pub length : Float
  pub is : length_of (b.z -₆₄ a.z) (b.r -₆₄ a.r) ≡ answers length
  pub half : Float
  pub half_is : half ≡ length /₆₄ two64
  pub sized : NotNegative 42 half

pub sag-length : {a b : Point} → PointWithin 40 a → PointWithin 40 b → Halved a b
sag-length A B =
    let X = sub_within B.z A.z (lit< tt) in
    let Y = sub_within B.r A.r (lit< tt) in
    let g = length-answers X Y in
    let L = length-sized X Y g.0 g.1 in
    let f = finite-within L.within in
    let t = finite-within two-within in
    record {
      length = g.0;
      is = g.1;
      half = g.0 /₆₄ two64;
      half_is = refl;
      sized = record { within = divided 42 (lit≤ tt) L.within t two-above; plain = div-plain L.plain f t L.nonneg two-positive; nonneg = div-nonneg f t L.nonneg two-positive };
    }

-- ---- the half's bulge
alone : one64 +₆₄ zero+ ≡ one+
unfolding add
alone = ap (λ (x : Float). x +₆₄ zero+) one-is ∙ nothing
  where
    nothing : one+ +₆₄ zero+ ≡ one+
    nothing = refl

module _ {bu : Float} (U : W 0 bu) where
  O : W 0 one64
  O = subst (W 0) (sym one-is) (within-one binary64)

  square : W 0 (bu *₆₄ bu)
  square = within-mul U U (lit≤ tt)

  under : W 1 (one64 +₆₄ bu *₆₄ bu)
  under = add-within O square (lit< tt)

  one-nonneg : T (le zero+ one64)
  unfolding le
  one-nonneg = subst (λ (x : Float). T (le zero+ x)) (sym one-is) tt

  -- there is a root
  pub has-root : (x : Float) × (root_of (one64 +₆₄ bu *₆₄ bu) ≡ answers x)
  has-root = root-answers (one64 +₆₄ bu *₆₄ bu) (finite-within under) (add-nonneg (finite-within O) (finite-within square) one-nonneg (square-nonneg (finite-within U)))

  half-with : (x : Float) → W 1 x → T (le zero+ x) → W 0 (bu /₆₄ (one64 +₆₄ x))
  half-with x X n =
      let D = add-within (within-weaken (lit≤ tt) O) X (lit< tt) in
      let z = finite-within (within-zero binary64) in
      let m = add-mono (finite-within O) z (finite-within O) (finite-within X) (le-self (number-within O)) n in
      divided 0 (lit≤ tt) U (finite-within D) (subst (λ (v : Float). T (le v (one64 +₆₄ x))) alone m)

  pub half-sized : W 0 (half_of bu)
  unfolding half_of fits
  half-sized =
      let g = has-root in
      subst (λ (p : Paper Float). W 0 (half_by bu p)) (sym g.1)
      (half-with g.0 (root-bounded 1 (one64 +₆₄ bu *₆₄ bu) g.0 tt (within-weaken (lit≤ tt) under) g.1) (root-nonneg (finite-within under) g.1))

-- ---- the middle
module _ (k : ℕ) (h : k ≤ 900) {a b : Point} {bu : Float} (A : PointWithin k a) (B : PointWithin k b) (U : W 0 bu) where
  lim : k < 1023
  lim = omega arith

  lim-more : suc k < 1023
  lim-more = omega arith

  few : suc k ≤ 1000
  few = omega arith

  reached : 0 + suc k ≤ 1023
  reached = omega arith

  plainly : 0 + suc k ≤ suc k
  plainly = omega arith

  -- half of a sum, and half the bulge times a difference
  about : (x y d : Float) → W k x → W k y → W (suc k) d → W (suc (suc k)) (clean_of ((x +₆₄ y) /₆₄ two64 +₆₄ (bu /₆₄ two64) *₆₄ d))
  about x y d X Y D =
      let t = finite-within two-within in
      let S = divided (suc k) few (add-within X Y lim) t two-above in
      let H = divided 0 (lit≤ tt) U t two-above in
      clean-keeps (W (suc (suc k))) (within-weaken zero-le (within-zero binary64)) (add-within S (within-weaken plainly (within-mul H D reached)) lim-more)

  pub middle-sized : PointWithin (suc (suc k)) (middle_of a b bu)
  unfolding middle_of
  middle-sized =
      record {
        r = about a.r b.r (neg (b.z -₆₄ a.z)) A.r B.r (within-neg (sub_within B.z A.z lim));
        z = about a.z b.z (b.r -₆₄ a.r) A.z B.z (sub_within B.r A.r lim);
      }

-- ---- the chords of an arc
pub record Sound (tol : Float) (c : Chord) : Type 0 where
  pub a : PointWithin 40 c.a
  pub b : PointWithin 40 c.b
  pub sag : NotNegative 42 c.sag
  pub fine : T (le c.sag tol)

pub each_append : {A : Type 0} (P : A → Type 0) (l k : List A) → Each P l → Each P k → Each P (l ++ k)
each_append P [] k h g = g
each_append P (x ∷ l) k h g = (h.0, each_append P l k h.1 g)

abbrev Arc : Float → ℕ → Point → Point → Float → List Chord → Type 0
Arc tol n a b bu l = (j : ℕ) → j + 2 * n ≤ 40 → PointWithin j a → PointWithin j b → W 0 bu → Each (Sound tol) l

pub arc-sound : (tol : Float) (n : ℕ) (a b : Point) (bu : Float) (l : List Chord) → chords_of a b bu tol n ≡ Some l → Arc tol n a b bu l
arc-sound tol = by-halves tol (Arc tol) single double
  where
    single : (n : ℕ) (a b : Point) (bu : Float) → le (sag_of a b bu) tol ≡ true → Arc tol n a b bu (one a b bu)
    single n a b bu h j r A B U =
        let k : j ≤ 40 = omega arith in
        let X = weaker k A in
        let Y = weaker k B in
        (record { a = X; b = Y; sag = sag-sized X Y U; fine = subst T (sym h) tt }, tt)

    double : (n : ℕ) (a b : Point) (bu : Float) (l k : List Chord) → Arc tol n a (middle_of a b bu) (half_of bu) l → Arc tol n (middle_of a b bu) b (half_of bu) k → Arc tol (suc n) a b bu (l ++ k)
    double n a b bu l k f g j r A B U =
        let h : j ≤ 900 = omega arith in
        let m : suc (suc j) + 2 * n ≤ 40 = omega arith in
        let w : j ≤ suc (suc j) = omega arith in
        let M = middle-sized j h A B U in
        each_append (Sound tol) l k (f (suc (suc j)) m (weaker w A) M (half-sized U)) (g (suc (suc j)) m M (weaker w B) (half-sized U))

-- ---- the points of a profile that is not refused
-- every number of a list is a value of f64, as those of a lent list are
abbrev pub HeldList : List Float → Type 0
HeldList xs = (k : ℕ) → T (fits binary64 (get_or xs k nan))

million-within : W 20 million
unfolding of_bits of_fields odd fits
million-within = within-test binary64 20 million tt

one-within : W 0 one64
one-within = subst (W 0) (sym one-is) (within-one binary64)

clean-held : (x : Float) → T (fits binary64 x) → T (fits binary64 (clean_of x))
unfolding fits
clean-held x h = clean-keeps (λ (y : Float). T (fits binary64 y)) tt h

module _ (xs : List Float) (held : HeldList xs) where
  at_held : (k : ℕ) → T (fits binary64 (clean_at xs k))
  unfolding clean_at
  at_held k = clean-held (get_or xs k nan) (held k)

  pub point-sized : (k : ℕ) → T (point_good (point_at xs k) (bulge_at xs k)) → PointWithin 20 (point_at xs k) × W 0 (bulge_at xs k)
  unfolding point_good point_at bulge_at
  point-sized k t =
      let r = clean_at xs (3 * k) in
      let z = clean_at xs (3 * k + 1) in
      let u = clean_at xs (3 * k + 2) in
      let A = le (neg million) r in
      let B = le r million in
      let C = le (neg million) z in
      let D = le z million in
      let t5 = and_l (usable r && usable z && usable u && le zero64 r && le (neg one64) u) (le u one64) t in
      let t4 = and_l (usable r && usable z && usable u && le zero64 r) (le (neg one64) u) t5 in
      let t3 = and_l (usable r && usable z && usable u) (le zero64 r) t4 in
      let t2 = and_l (usable r && usable z) (usable u) t3 in
      let R = and_l (usable r) (usable z) t2 in
      let Z = and_r (usable r) (usable z) t2 in (
        record { r = within_both million-within (at_held (3 * k)) (and_l A B R) (and_r A B R); z = within_both million-within (at_held (3 * k + 1)) (and_l C D Z) (and_r C D Z) },
        within_both one-within (at_held (3 * k + 2)) (and_r (usable r && usable z && usable u && le zero64 r) (le (neg one64) u) t5) (and_r (usable r && usable z && usable u && le zero64 r && le (neg one64) u) (le u one64) t),
      )

  pub good-at : (m k : ℕ) → T (good_to xs m) → k < m → T (point_good (point_at xs k) (bulge_at xs k))
  unfolding good_to
  good-at zero k t h = absurd (omega arith)
  good-at (suc m) k t h = go (dec_lt k m) (good-at m k (and_l (good_to xs m) (point_good (point_at xs m) (bulge_at xs m)) t))
    where
      go : Dec (k < m) → (k < m → T (point_good (point_at xs k) (bulge_at xs k))) → T (point_good (point_at xs k) (bulge_at xs k))
      go (yes l) f = f l
      go (no l) f = let e : m ≡ k = omega arith in subst (λ (j : ℕ). T (point_good (point_at xs j) (bulge_at xs j))) e (and_r (good_to xs m) (point_good (point_at xs m) (bulge_at xs m)) t)

  -- the chords of the first k segments
  pub segments-sound : (tol : Float) (m : ℕ) → T (good_to xs m) → (k : ℕ) (l : List Chord) → chords_to xs tol k ≡ Some l → k + 1 ≤ m → Each (Sound tol) l
  segments-sound tol m t =
      by-segments xs tol (λ k l. k + 1 ≤ m → Each (Sound tol) l) (λ h. tt)
      (λ k l n r e h.
      let p : k < m = omega arith in
      let q : k + 1 < m = omega arith in
      let w : k + 1 ≤ m = omega arith in
      let A = point-sized k (good-at m k t p) in
      let B = point-sized (k + 1) (good-at m (k + 1) t q) in
      each_append (Sound tol) l n (r w) (arc-sound tol 10 (point_at xs k) (point_at xs (k + 1)) (bulge_at xs k) n e 20 (lit≤ tt) A.0 B.0 A.1))
