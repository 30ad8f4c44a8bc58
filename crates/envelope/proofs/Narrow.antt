-- Narrow look, full look. `narrow-full`: whatever is gathered from segment to segment, where a segment wholly below lo or wholly above hi adds nothing, the part that a query narrows to, one point
-- wider on each side, gives what all segments in order give. It is said once, of any step and of the part by the order's number, so of chains that rise, that fall and that do neither. `radius_at` and
-- `radius_range` are two such steps. `points-full` says the same of points and the part itself. Assumes nothing.
use Rattle.std.specs.Prelude.{Option, None, Some}
use mathlib.Core.Path.{◌≡◌, refl, sym, ap, ◌∙◌}
use mathlib.Core.Bool.{Bool, true, false, ◌||◌}
use mathlib.Core.Logic.{◌⊎◌, inl, inr}
use mathlib.Core.List.{List, foldl}
use Prim.Native.Nat.{ℕ, zero, suc, ◌+◌, ◌-◌, ◌≤◌, ◌<◌}
use native.Mathlib.Omega.{arith}
use lib.Dec.{T}
use lib.IntN.{ℤ}
use lib.Ieee.{Float, binary64, le, lt}
use Rattle.floats.specs.Pick.{pick}
use Rattle.floats.specs.Numbers.{least_of, greatest_of}
use Rattle.floats.specs.Kinds.{Number}
use Rattle.floats.proofs.Keys.{key, lt-key, le-key}
use Rattle.floats.proofs.Lattice.{key-least, key-greatest, least-number, greatest-number}
use Rattle.refusals.specs.Paper.{answers}
use Rattle.envelope.specs.declared.segments.Point.{Point}
use Rattle.envelope.specs.declared.Span.{Span}
use Rattle.envelope.specs.declared.Test.TheVariants.{Below, AtMost, Above, AtLeast}
use Rattle.envelope.specs.declared.Radii.{Radii}
use Rattle.envelope.specs.Envelope.{u_at, point_at, count, rises, falls, order_of, how_many, span, all_points, span_of, part_numbers, wider, segment_at, higher, highest_to, highest_in, segment_over, segment_in, radii_to, radii_in}
use Rattle.envelope.specs.Halving.{halved_span}
use Rattle.envelope.specs.Full.{points_of, Segment, segments_of, full_there, full_range}
use Rattle.envelope.proofs.Chain.{is}
use Rattle.floats.proofs.Bools.{so}
use Rattle.envelope.proofs.Counted.{many-pass, many-fail, many-le, span-counted}
use Rattle.envelope.proofs.Loops.{loop, narrowed, segment, points-loop, segments-loop, part, part-points, part-segments}

-- ---- what is left out
-- every u is a number
abbrev pub Numbered : List Float → Type 0
Numbered ps = (i : ℕ) → i < count ps → Number binary64 (u_at ps i)

-- a point that lies below lo or above hi
pub record Off (lo hi : Float) (p : Point) : Type 0 where
  pub number : Number binary64 p.u
  pub side : T (lt p.u lo) ⊎ T (lt hi p.u)

-- a segment that lies wholly below lo or wholly above hi
pub record Apart (lo hi : Float) (g : Segment) : Type 0 where
  pub from : Number binary64 g.from.u
  pub to : Number binary64 g.to.u
  pub side : (T (lt g.from.u lo) × T (lt g.to.u lo)) ⊎ (T (lt hi g.from.u) × T (lt hi g.to.u))

module _ (ps : List Float) (num : Numbered ps) (lo hi : Float) (nlo : Number binary64 lo) (nhi : Number binary64 hi) where
  -- point j lies on one side
  abbrev On : Bool → ℕ → Type 0
  On true j = T (lt (u_at ps j) lo)
  On false j = T (lt hi (u_at ps j))

  -- the points before the span lie on one side, and those after it on one side
  record Sides (s : Span) : Type 0 where
    pub ends : (s.start ≤ count ps) × (s.end ≤ count ps)
    pub first : Bool
    pub before : (j : ℕ) → j < s.start → j < count ps → On first j
    pub last : Bool
    pub after : (j : ℕ) → s.end ≤ j → j < count ps → On last j

  sides : Sides (span_of ps lo hi)
  unfolding span_of pick
  sides = go (rises ps) (falls ps) refl refl
    where
      beyond : {a b : ℕ} → (a ≤ b → ⊥) → b < a
      beyond h = omega arith

      no_less : (j : ℕ) → j < 0 → ⊥
      no_less j h = omega arith

      never : (j n : ℕ) → n ≤ j → j < n → ⊥
      never j n h m = omega arith

      low : (j : ℕ) → j < count ps → key binary64 (u_at ps j) < key binary64 lo → On true j
      low j m = (lt-key binary64 (u_at ps j) lo (num j m) nlo).1

      high : (j : ℕ) → j < count ps → key binary64 hi < key binary64 (u_at ps j) → On false j
      high j m = (lt-key binary64 hi (u_at ps j) nhi (num j m)).1

      go : (a b : Bool) → rises ps ≡ a → falls ps ≡ b → Sides (pick a (span (how_many ps Below lo) (how_many ps AtMost hi)) (pick b (span (how_many ps Above hi) (how_many ps AtLeast lo)) (all_points ps)))
      go true b e f = record {
        ends = (many-le ps num Below nlo e, many-le ps num AtMost nhi e);
        first = true;
        before = λ j h m. low j m (many-pass ps num Below nlo e j h m);
        last = false;
        after = λ j h m. high j m (beyond (many-fail ps num AtMost nhi e j h m));
      }
      go false true e f = record {
        ends = (many-le ps num Above nhi f, many-le ps num AtLeast nlo f);
        first = false;
        before = λ j h m. high j m (many-pass ps num Above nhi f j h m);
        last = true;
        after = λ j h m. low j m (beyond (many-fail ps num AtLeast nlo f j h m));
      }
      go false false e f = record {
        ends = (omega arith, omega arith);
        first = true;
        before = λ j h m. absurd (no_less j h);
        last = true;
        after = λ j h m. absurd (never j (count ps) h m);
      }

  off : (b : Bool) (j : ℕ) → j < count ps → On b j → Off lo hi (point_at ps j)
  off true j m h = record { number = num j m; side = inl h }
  off false j m h = record { number = num j m; side = inr h }

  apart : (b : Bool) (j : ℕ) → j + 1 < count ps → On b j → On b (j + 1) → Apart lo hi (segment ps j)
  apart true j m h g = record { from = num j (omega arith); to = num (j + 1) m; side = inl (h, g) }
  apart false j m h g = record { from = num j (omega arith); to = num (j + 1) m; side = inr (h, g) }

  module _ {A : Type 0} where
    points-narrow : (f : A → Point → A) → ((r : A) (p : Point) → Off lo hi p → f r p ≡ r) → (a : A) → foldl f a (points_of (part ps (span_of ps lo hi))) ≡ foldl f a (points_of ps)
    points-narrow f h a =
        let s = span_of ps lo hi in
        let e = sides.ends in
        part-points ps s e.1 f a ∙ (narrowed (λ r i. f r (point_at ps i)) a (count ps) s.start (s.end - s.start) (omega arith)
        (λ j l r. h r (point_at ps j) (off sides.first j (omega arith) (sides.before j l (omega arith))))
        (λ j l m r. h r (point_at ps j) (off sides.last j m (sides.after j (omega arith) m))) ∙ sym (points-loop f ps a))

    segments-narrow : (f : A → Segment → A) → ((r : A) (g : Segment) → Apart lo hi g → f r g ≡ r) → (a : A) → foldl f a (segments_of (part ps (wider (span_of ps lo hi) (count ps)))) ≡ foldl f a (segments_of ps)
    segments-narrow f h a =
        let s = span_of ps lo hi in
        let w = wider s (count ps) in
        let e = sides.ends in
        part-segments ps w (omega arith) f a ∙ (narrowed (λ r i. f r (segment ps i)) a (count ps - 1) w.start (w.end - w.start - 1) (omega arith)
        (λ j l r. h r (segment ps j) (apart sides.first j (omega arith) (sides.before j (omega arith) (omega arith)) (sides.before (j + 1) (omega arith) (omega arith))))
        (λ j l m r. h r (segment ps j) (apart sides.last j (omega arith) (sides.after j (omega arith) (omega arith)) (sides.after (j + 1) (omega arith) (omega arith)))) ∙ sym (segments-loop f ps a))

-- THE LAW: whatever is gathered from segment to segment, where a segment wholly below lo or wholly above hi changes nothing, the segments of the part, one point wider on each side, give what all segments give. The order is z, whichever it is.
pub narrow-full : (ps : List Float) → Numbered ps → (z : ℤ) → z ≡ order_of ps → (lo hi : Float) → Number binary64 lo → Number binary64 hi → {A : Type 0} (f : A → Segment → A) → ((r : A) (g : Segment) → Apart lo hi g → f r g ≡ r) → (a : A)
    → foldl f a (segments_of (part_numbers ps (answers (wider (halved_span ps z lo hi) (count ps))))) ≡ foldl f a (segments_of ps)
narrow-full ps num z e lo hi nlo nhi f h a = rw (e, span-counted ps num lo hi nlo nhi) (segments-narrow ps num lo hi nlo nhi f h a)

-- the same of points, where a point below lo or above hi changes nothing: those of the part itself
pub points-full : (ps : List Float) → Numbered ps → (z : ℤ) → z ≡ order_of ps → (lo hi : Float) → Number binary64 lo → Number binary64 hi → {A : Type 0} (f : A → Point → A) → ((r : A) (p : Point) → Off lo hi p → f r p ≡ r) → (a : A)
    → foldl f a (points_of (part_numbers ps (answers (halved_span ps z lo hi)))) ≡ foldl f a (points_of ps)
points-full ps num z e lo hi nlo nhi f h a = rw (e, span-counted ps num lo hi nlo nhi) (points-narrow ps num lo hi nlo nhi f h a)

-- ---- the two queries
or_right : (a b : Bool) → b ≡ true → (a || b) ≡ true
or_right true b e = refl
or_right false b e = e

-- such a segment adds nothing over lo..hi
module _ {lo hi : Float} (nlo : Number binary64 lo) (nhi : Number binary64 hi) {g : Segment} (a : Apart lo hi g) where
  left : Float
  left = least_of g.from.u g.to.u

  right : Float
  right = greatest_of g.from.u g.to.u

  crossed : le lo hi ≡ true → lt (least_of right hi) (greatest_of left lo) ≡ true
  unfolding left right
  crossed h =
      let p = a.from in
      let q = a.to in
      is _ ((lt-key binary64 (least_of right hi) (greatest_of left lo) (least-number (greatest-number p q) nhi) (greatest-number (least-number p q) nlo)).1 (go a.side ((le-key binary64 lo hi nlo nhi).0 (so h))))
    where
      go : (T (lt g.from.u lo) × T (lt g.to.u lo)) ⊎ (T (lt hi g.from.u) × T (lt hi g.to.u)) → key binary64 lo ≤ key binary64 hi → key binary64 (least_of right hi) < key binary64 (greatest_of left lo)
      go (inl d) l =
          let p = a.from in
          let q = a.to in
          omega (arith, (lt-key binary64 g.from.u lo p nlo).0 d.0, (lt-key binary64 g.to.u lo q nlo).0 d.1, key-greatest p q, key-least p q, key-least (greatest-number p q) nhi, key-greatest (least-number p q) nlo)
      go (inr d) l =
          let p = a.from in
          let q = a.to in
          omega (arith, (lt-key binary64 hi g.from.u nhi p).0 d.0, (lt-key binary64 hi g.to.u nhi q).0 d.1, key-greatest p q, key-least p q, key-least (greatest-number p q) nhi, key-greatest (least-number p q) nlo)

  pub adds-nothing : le lo hi ≡ true → (r : Option Radii) → segment_in r g.from g.to lo hi ≡ r
  unfolding segment_in segment_over pick left right
  adds-nothing h r = rw (crossed h)

-- nor at u
module _ {u : Float} (nu : Number binary64 u) {g : Segment} (a : Apart u u g) where
  nowhere : segment_at g.from g.to u ≡ None
  unfolding segment_at pick
  nowhere = go a.side
    where
      go : (T (lt g.from.u u) × T (lt g.to.u u)) ⊎ (T (lt u g.from.u) × T (lt u g.to.u)) → segment_at g.from g.to u ≡ None
      go (inl d) =
          let p = a.from in
          let q = a.to in
          let e = is (lt (greatest_of g.from.u g.to.u) u) ((lt-key binary64 (greatest_of g.from.u g.to.u) u (greatest-number p q) nu).1 (omega (arith, (lt-key binary64 g.from.u u p nu).0 d.0, (lt-key binary64 g.to.u u q nu).0 d.1, key-greatest p q))) in
          rw (or_right (lt u (least_of g.from.u g.to.u)) (lt (greatest_of g.from.u g.to.u) u) e)
      go (inr d) =
          let p = a.from in
          let q = a.to in
          let e = is (lt u (least_of g.from.u g.to.u)) ((lt-key binary64 u (least_of g.from.u g.to.u) nu (least-number p q)).1 (omega (arith, (lt-key binary64 u g.from.u nu p).0 d.0, (lt-key binary64 u g.to.u nu q).0 d.1, key-least p q))) in
          rw e

  adds_none : (r : Option Float) → higher r None ≡ r
  unfolding higher
  adds_none None = refl
  adds_none (Some x) = refl

  pub adds-no-higher : (r : Option Float) → higher r (segment_at g.from g.to u) ≡ r
  adds-no-higher r = ap (higher r) nowhere ∙ adds_none r

module _ (ps : List Float) (num : Numbered ps) where
  -- the rule's loop over the part, one point wider, is the look at all segments
  looked : (lo hi : Float) → Number binary64 lo → Number binary64 hi → {A : Type 0} (f : A → Segment → A) → ((r : A) (g : Segment) → Apart lo hi g → f r g ≡ r) → (a : A)
      → let w = wider (span_of ps lo hi) (count ps) in loop (λ r i. f r (segment ps i)) a w.start (w.end - w.start - 1) ≡ foldl f a (segments_of ps)
  looked lo hi nlo nhi f h a =
      let w = wider (span_of ps lo hi) (count ps) in
      sym (part-segments ps w (omega arith) f a) ∙ (rw (span-counted ps num lo hi nlo nhi) at (narrow-full ps num (order_of ps) refl lo hi nlo nhi f h a))

  highest-loop : (u : Float) (a k : ℕ) → highest_to ps u a k ≡ loop (λ r i. higher r (segment_at (point_at ps i) (point_at ps (i + 1)) u)) None a k
  unfolding highest_to loop
  highest-loop u a zero = refl
  highest-loop u a (suc k) = rw (highest-loop u a k)

  radii-loop : (lo hi : Float) (a k : ℕ) → radii_to ps lo hi a k ≡ loop (λ r i. segment_in r (point_at ps i) (point_at ps (i + 1)) lo hi) None a k
  unfolding radii_to loop
  radii-loop lo hi a zero = refl
  radii-loop lo hi a (suc k) = rw (radii-loop lo hi a k)

  -- at u
  pub highest-full : (u : Float) → Number binary64 u → highest_in ps (wider (span_of ps u u) (count ps)) u ≡ full_there ps u
  unfolding full_there
  highest-full u nu = highest-loop u _ _ ∙ looked u u nu nu (λ r g. higher r (segment_at g.from g.to u)) (λ r g a. adds-no-higher nu a r) None

  -- over lo..hi
  pub radii-full : (lo hi : Float) → Number binary64 lo → Number binary64 hi → le lo hi ≡ true → radii_in ps (wider (span_of ps lo hi) (count ps)) lo hi ≡ full_range ps lo hi
  unfolding full_range
  radii-full lo hi nlo nhi h = radii-loop lo hi _ _ ∙ looked lo hi nlo nhi (λ r g. segment_in r g.from g.to lo hi) (λ r g a. adds-nothing nlo nhi a h r) None
