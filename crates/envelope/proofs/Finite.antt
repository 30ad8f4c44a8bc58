-- What is answered: every radius is a finite number, at most 2 ^ 22 in size, and not -0.0. Assumes nothing.
use Rattle.std.specs.Prelude.{Option, None, Some}
use mathlib.Core.Path.{◌≡◌, refl, sym, subst}
use mathlib.Core.Bool.{Bool, true, false, not, ◌&&◌, ◌||◌}
use mathlib.Core.List.{List}
use Prim.Native.Nat.{ℕ, zero, suc, ◌+◌, ◌-◌, ◌*◌, ◌<◌}
use native.Mathlib.Omega.{arith}
use lib.Dec.{T}
use lib.ListN.{get_or}
use lib.Ieee.{Float, nan, binary64, le, lt, eq, neg, fits, of_bits, of_fields, odd}
use Rattle.floats.specs.Pick.{pick}
use Rattle.floats.specs.Numbers.{million, least_of, greatest_of, clean_of, usable}
use Rattle.floats.specs.Kinds.{Number, Plain, Within}
use Rattle.floats.proofs.Order.{number-of, nlt→le, le_trans}
use Rattle.floats.proofs.Lattice.{least-keeps, greatest-keeps, least-le-l, greatest-ge-l}
use Rattle.floats.proofs.Cleared.{clean-keeps}
use Rattle.floats.proofs.Within.{finite-within, number-within, within-weaken, within-zero, within_both, within-test, within-mul, sub_within}
use Rattle.floats.proofs.Ratio.{ratio-of, within-ratio, part-within}
use Rattle.floats.proofs.Zeros.{add-plain}
use Rattle.refusals.specs.Paper.{answers, demand, only}
use Rattle.envelope.specs.declared.segments.Point.{Point}
use Rattle.envelope.specs.declared.Span.{Span}
use Rattle.envelope.specs.declared.Radii.{Radii}
use Rattle.envelope.specs.Envelope.{u_at, v_at, count, points_good, span_of, wider, across, segment_at, higher, highest_to, highest_in, highest_at, radius_at_of, taken, segment_over, segment_in, radii_to, radii_in, radii_of, radius_range_of}
use Rattle.envelope.proofs.Chain.{both}
use Rattle.floats.proofs.Bools.{so}
use Rattle.envelope.proofs.Rules.{usable-plain, good-usable, refused-not}

-- a finite number, at most 2 ^ k in size, that is not -0.0
pub record Sized (k : ℕ) (x : Float) : Type 0 where
  pub plain : Plain binary64 x
  pub within : Within binary64 k x

-- an argument
million-within : Within binary64 20 million
unfolding fits of_bits of_fields odd
million-within = within-test binary64 20 million tt

pub usable-sized : (x : Float) → T (fits binary64 x) → usable x ≡ true → Sized 20 (clean_of x)
usable-sized x f e =
    let b = both (le (neg million) x) (le x million) e in
    record { plain = usable-plain x f e; within = clean-keeps (λ z. Within binary64 20 z) (within-weaken (omega arith) (within-zero binary64)) (within_both million-within f (so b.0) (so b.1)) }

pub weaken : {x : Float} → Sized 20 x → Sized 22 x
weaken s = record { plain = s.plain; within = within-weaken (omega arith) s.within }

number : {k : ℕ} {x : Float} → Sized k x → Number binary64 x
number s = number-of s.plain

hasnt : {b : Bool} → b ≡ false → T (not b)
hasnt e = subst (λ b. T (not b)) (sym e) tt

-- ---- a radius, or two, where there is one
abbrev pub Held : Option Float → Type 0
Held None = Unit {0}
Held (Some x) = Sized 22 x

abbrev Holds : Option Radii → Type 0
Holds None = Unit {0}
Holds (Some r) = Sized 22 r.lowest × Sized 22 r.highest

higher-sized : (a b : Option Float) → Held a → Held b → Held (higher a b)
unfolding higher
higher-sized None b h g = g
higher-sized (Some x) None h g = h
higher-sized (Some x) (Some y) h g = greatest-keeps (λ z. Sized 22 z) h g

taken-sized : (r : Option Radii) → Holds r → {v : Float} → Sized 22 v → Holds (taken r v)
unfolding taken
taken-sized None h s = (s, s)
taken-sized (Some r) h s = (least-keeps (λ z. Sized 22 z) h.0 s, greatest-keeps (λ z. Sized 22 z) h.1 s)

-- ---- the line from p to q, at a z between them
module _ {p q : Point} (pu : Sized 20 p.u) (pv : Sized 20 p.v) (qu : Sized 20 q.u) (qv : Sized 20 q.v) where
  pub across-sized : {m : ℕ} {z : Float} → Within binary64 m z → T (le (least_of p.u q.u) z) → T (le z (greatest_of p.u q.u)) → T (not (eq q.u p.u)) → Sized 22 (across p q z)
  unfolding across
  across-sized {z = z} s l h n =
      let d = finite-within (sub_within qu.within pu.within (omega arith)) in
      let t = ratio-of (finite-within pu.within) (finite-within s) (finite-within qu.within) d l h n in
      let w = within-mul (within-ratio t) (sub_within qv.within pv.within (omega arith)) (omega arith) in
      record { plain = add-plain pv.plain (finite-within pv.within) (finite-within w); within = part-within t pv.within qv.within (omega arith) }

  least-u : Sized 20 (least_of p.u q.u)
  least-u = least-keeps (λ x. Sized 20 x) pu qu

  greatest-u : Sized 20 (greatest_of p.u q.u)
  greatest-u = greatest-keeps (λ x. Sized 20 x) pu qu

  segment-at-sized : {m : ℕ} {z : Float} → Within binary64 m z → Held (segment_at p q z)
  unfolding segment_at pick
  segment-at-sized {z = z} s = go (lt z (least_of p.u q.u)) (lt (greatest_of p.u q.u) z) (eq q.u p.u) refl refl refl
    where
      go : (a b c : Bool) → lt z (least_of p.u q.u) ≡ a → lt (greatest_of p.u q.u) z ≡ b → eq q.u p.u ≡ c → Held (pick (a || b) None (Some (pick c (greatest_of p.v q.v) (across p q z))))
      go true b c ea eb ec = tt
      go false true c ea eb ec = tt
      go false false true ea eb ec = greatest-keeps (λ x. Sized 22 x) (weaken pv) (weaken qv)
      go false false false ea eb ec =
          across-sized s (nlt→le (number least-u) (number-within s) (hasnt ea)) (nlt→le (number-within s) (number greatest-u) (hasnt eb)) (hasnt ec)

  -- between a and b, where a <= b and both lie between p and q
  segment-over-sized : (r : Option Radii) → Holds r → {a b : Float} → Sized 20 a → Sized 20 b → T (le (least_of p.u q.u) a) → T (le b (greatest_of p.u q.u)) → Holds (segment_over r p q a b)
  unfolding segment_over pick
  segment-over-sized r h {a} {b} sa sb l g = go (lt b a) (eq q.u p.u) refl refl
    where
      go : (c d : Bool) → lt b a ≡ c → eq q.u p.u ≡ d → Holds (pick c r (pick d (taken (taken r p.v) q.v) (taken (taken r (across p q a)) (across p q b))))
      go true d ec ed = h
      go false true ec ed = taken-sized (taken r p.v) (taken-sized r h (weaken pv)) (weaken qv)
      go false false ec ed =
          let ab : T (le a b) = nlt→le (number sa) (number sb) (hasnt ec) in
          let x = across-sized sa.within l (le_trans (number sa) (number sb) (number greatest-u) ab g) (hasnt ed) in
          let y = across-sized sb.within (le_trans (number least-u) (number sa) (number sb) l ab) g (hasnt ed) in
          taken-sized (taken r (across p q a)) (taken-sized r h x) y

  segment-in-sized : (r : Option Radii) → Holds r → {lo hi : Float} → Sized 20 lo → Sized 20 hi → Holds (segment_in r p q lo hi)
  unfolding segment_in
  segment-in-sized r h {lo} {hi} sl sh =
      segment-over-sized r h (greatest-keeps (λ x. Sized 20 x) least-u sl) (least-keeps (λ x. Sized 20 x) greatest-u sh) (greatest-ge-l (number least-u) (number sl)) (least-le-l (number greatest-u) (number sh))

-- ---- the points of an envelope that is accepted
module _ (ps : List Float) (held : (i : ℕ) → T (fits binary64 (get_or ps i nan))) (good : points_good ps ≡ true) where
  pub u-sized : (i : ℕ) → i < count ps → Sized 20 (u_at ps i)
  unfolding u_at
  u-sized i h = usable-sized (get_or ps (2 * i) nan) (held (2 * i)) (good-usable ps good (2 * i) (omega arith))

  pub v-sized : (i : ℕ) → i < count ps → Sized 20 (v_at ps i)
  unfolding v_at
  v-sized i h = usable-sized (get_or ps (2 * i + 1) nan) (held (2 * i + 1)) (good-usable ps good (2 * i + 1) (omega arith))

  highest-sized : {m : ℕ} {u : Float} → Within binary64 m u → (a k : ℕ) → ((j : ℕ) → j < k → a + j + 1 < count ps) → Held (highest_to ps u a k)
  unfolding highest_to
  highest-sized s a zero f = tt
  highest-sized {u = u} s a (suc k) f =
      let l : a + k + 1 < count ps = f k (omega arith) in
      higher-sized (highest_to ps u a k) _ (highest-sized s a k (λ j h. f j (omega arith)))
      (segment-at-sized (u-sized (a + k) (omega arith)) (v-sized (a + k) (omega arith)) (u-sized (a + k + 1) l) (v-sized (a + k + 1) l) s)

  radii-sized : {lo hi : Float} → Sized 20 lo → Sized 20 hi → (a k : ℕ) → ((j : ℕ) → j < k → a + j + 1 < count ps) → Holds (radii_to ps lo hi a k)
  unfolding radii_to
  radii-sized sl sh a zero f = tt
  radii-sized {lo} {hi} sl sh a (suc k) f =
      let m : a + k + 1 < count ps = f k (omega arith) in
      segment-in-sized (u-sized (a + k) (omega arith)) (v-sized (a + k) (omega arith)) (u-sized (a + k + 1) m) (v-sized (a + k + 1) m)
      (radii_to ps lo hi a k) (radii-sized sl sh a k (λ j h. f j (omega arith))) sl sh

-- ---- what is answered
module _ (ps : List Float) (held : (i : ℕ) → T (fits binary64 (get_or ps i nan))) where
  -- a segment of a span that is one point wider lies among the points
  inner : (s : Span) (n j : ℕ) → let w = wider s n in j < w.end - w.start - 1 → w.start + j + 1 < n
  inner s n j h = omega arith

  -- at any u of a size, beyond the arguments' too
  pub highest-at-sized : points_good ps ≡ true → {m : ℕ} {u : Float} → Within binary64 m u → Held (highest_at ps u)
  highest-at-sized g {u = u} s = highest-sized ps held g s _ _ (inner (span_of ps u u) (count ps))

  -- the highest radius at u
  pub radius-at-sized : (u : Float) → T (fits binary64 u) → (x : Float) → radius_at_of ps u ≡ answers (Some x) → Sized 22 x
  unfolding radius_at_of demand
  radius-at-sized u fu x e = go (points_good ps && usable u) refl e
    where
      go : (b : Bool) → (points_good ps && usable u) ≡ b → demand b 14 (answers (highest_in ps (wider (span_of ps (clean_of u) (clean_of u)) (count ps)) (clean_of u))) ≡ answers (Some x) → Sized 22 x
      go true d e =
          let g = both (points_good ps) (usable u) d in
          let s = span_of ps (clean_of u) (clean_of u) in
          let r : highest_in ps (wider s (count ps)) (clean_of u) ≡ Some x = cc in
          rw r at (highest-sized ps held g.0 (usable-sized u fu g.1).within _ _ (inner s (count ps)))
      go false d e = absurd (refused-not (only 14) _ e)

  over_sized : points_good ps ≡ true → {lo hi : Float} → Sized 20 lo → Sized 20 hi → Holds (radii_of ps lo hi)
  unfolding radii_of pick
  over_sized g {lo} {hi} sl sh = at (le lo hi)
    where
      at : (b : Bool) → Holds (pick b (radii_in ps (wider (span_of ps lo hi) (count ps)) lo hi) None)
      at true =
          let s = span_of ps lo hi in
          radii-sized ps held g sl sh _ _ (inner s (count ps))
      at false = tt

  -- the lowest and the highest radius over lo..hi
  pub radius-range-sized : (lo hi : Float) → T (fits binary64 lo) → T (fits binary64 hi) → (r : Radii) → radius_range_of ps lo hi ≡ answers (Some r) → Sized 22 r.lowest × Sized 22 r.highest
  unfolding radius_range_of demand
  radius-range-sized lo hi flo fhi x e = go (points_good ps && (usable lo && usable hi)) refl e
    where
      go : (b : Bool) → (points_good ps && (usable lo && usable hi)) ≡ b → demand b 14 (answers (radii_of ps (clean_of lo) (clean_of hi))) ≡ answers (Some x) → Sized 22 x.lowest × Sized 22 x.highest
      go true d e =
          let g = both (points_good ps) (usable lo && usable hi) d in
          let h = both (usable lo) (usable hi) g.1 in
          let r : radii_of ps (clean_of lo) (clean_of hi) ≡ Some x = cc in
          rw r at (over_sized g.0 (usable-sized lo flo h.0) (usable-sized hi fhi h.1))
      go false d e = absurd (refused-not (only 14) _ e)
