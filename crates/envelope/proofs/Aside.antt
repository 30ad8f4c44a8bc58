-- A segment whose lent u's both lie before lo, or both behind hi, adds nothing: it is such a segment when they are read clean. Assumes nothing.
use Rattle.std.specs.Prelude.{Option, None, Some}
use mathlib.Core.Path.{◌≡◌, refl, ap, ◌∙◌}
use mathlib.Core.Bool.{Bool, true, false, not, false≢true}
use mathlib.Core.Logic.{◌⊎◌, inl, inr}
use mathlib.Core.List.{List}
use Prim.Native.Nat.{ℕ, ◌+◌, ◌*◌}
use native.Mathlib.Omega.{arith}
use lib.Dec.{T}
use lib.ListN.{get_or}
use borrow.Author.Tests.{eq-eqb, ne_eqb}
use lib.Ieee.{Float, nan, inf, fin, binary64, le, lt, fits, is_nan}
use Rattle.floats.specs.Pick.{pick, pick_true, pick-false}
use Rattle.floats.specs.Numbers.{clean_of}
use Rattle.floats.specs.Kinds.{Number}
use Rattle.floats.proofs.Bools.{so}
use Rattle.floats.proofs.Order.{to-lt, of_lt, number-of}
use Rattle.floats.proofs.Cleared.{clean-key, clean-plain}
use Rattle.envelope.specs.declared.segments.Found.{Found}
use Rattle.envelope.specs.declared.Radii.{Radii}
use Rattle.envelope.specs.Envelope.{u_at, point_at, higher, segment_at, segment_in}
use Rattle.envelope.specs.Halving.{aside, found_radii}
use Rattle.envelope.proofs.Loops.{segment}
use Rattle.envelope.proofs.Narrow.{Apart, adds-nothing, adds-no-higher}

-- ---- what a test that is met says of its numbers
lt-l : (x y : Float) → lt x y ≡ true → T (not (is_nan x))
unfolding lt is_nan
lt-l nan y e = absurd (false≢true e)
lt-l (inf s) y e = tt
lt-l (fin s m k) y e = tt

lt-r : (x y : Float) → lt x y ≡ true → T (not (is_nan y))
unfolding lt is_nan
lt-r x (inf t) e = tt
lt-r x (fin t n k) e = tt
lt-r nan nan e = absurd (false≢true e)
lt-r (inf s) nan e = absurd (false≢true e)
lt-r (fin s m k) nan e = absurd (false≢true e)

le_l : (x y : Float) → le x y ≡ true → T (not (is_nan x))
unfolding le lt is_nan
le_l nan y e = absurd (false≢true e)
le_l (inf s) y e = tt
le_l (fin s m k) y e = tt

le_r : (x y : Float) → le x y ≡ true → T (not (is_nan y))
unfolding le lt is_nan
le_r x (inf t) e = tt
le_r x (fin t n k) e = tt
le_r nan nan e = absurd (false≢true e)
le_r (inf s) nan e = absurd (false≢true e)
le_r (fin s m k) nan e = absurd (false≢true e)

module _ (x y : Float) (fx : T (fits binary64 x)) (fy : T (fits binary64 y)) (h : lt x y ≡ true) where
  left-number : Number binary64 x
  left-number = record { held = fx; number = lt-l x y h }

  right-number : Number binary64 y
  right-number = record { held = fy; number = lt-r x y h }

  clean-left : T (lt (clean_of x) y)
  clean-left = to-lt (number-of (clean-plain left-number)) right-number (omega (arith, clean-key left-number, of_lt left-number right-number (so h)))

  clean-right : T (lt x (clean_of y))
  clean-right = to-lt left-number (number-of (clean-plain right-number)) (omega (arith, clean-key right-number, of_lt left-number right-number (so h)))

-- ---- both on one side
abbrev Sides : Float → Float → Float → Float → Type 0
Sides x y lo hi = ((lt x lo ≡ true) × (lt y lo ≡ true)) ⊎ ((lt hi x ≡ true) × (lt hi y ≡ true))

sides-of : (x y lo hi : Float) → aside x y lo hi ≡ true → Sides x y lo hi
unfolding aside pick
sides-of x y lo hi = go (lt x lo) (lt hi x) refl refl
  where
    go : (a b : Bool) → lt x lo ≡ a → lt hi x ≡ b → pick a (lt y lo) (pick b (lt hi y) false) ≡ true → Sides x y lo hi
    go true b e g h = inl (e, h)
    go false true e g h = inr (g, h)
    go false false e g h = absurd (false≢true h)

module _ (x y lo hi : Float) (fx : T (fits binary64 x)) (fy : T (fits binary64 y)) (flo : T (fits binary64 lo)) (fhi : T (fits binary64 hi)) (v w : Float) where
  apart-clean : Sides x y lo hi → Apart lo hi (record { from = record { u = clean_of x; v = v }; to = record { u = clean_of y; v = w } })
  apart-clean (inl d) = record { from = number-of (clean-plain (left-number x lo fx flo d.0)); to = number-of (clean-plain (left-number y lo fy flo d.1)); side = inl (clean-left x lo fx flo d.0, clean-left y lo fy flo d.1) }
  apart-clean (inr d) = record { from = number-of (clean-plain (right-number hi x fhi fx d.0)); to = number-of (clean-plain (right-number hi y fhi fy d.1)); side = inr (clean-right hi x fhi fx d.0, clean-right hi y fhi fy d.1) }

module _ (ps : List Float) (held : (i : ℕ) → T (fits binary64 (get_or ps i nan))) (i : ℕ) (lo hi : Float) (flo : T (fits binary64 lo)) (fhi : T (fits binary64 hi)) (h : aside (get_or ps (2 * i) nan) (get_or ps (2 * i + 2) nan) lo hi ≡ true) where
  sides : Sides (get_or ps (2 * i) nan) (get_or ps (2 * (i + 1)) nan) lo hi
  sides =
      let e : 2 * (i + 1) ≡ 2 * i + 2 = omega arith in
      sides-of _ _ _ _ (ap (λ k. aside (get_or ps (2 * i) nan) (get_or ps k nan) lo hi) e ∙ h)

  apart_of : Apart lo hi (segment ps i)
  unfolding u_at
  apart_of = apart-clean _ _ lo hi (held (2 * i)) (held (2 * (i + 1))) flo fhi _ _ sides

  pub adds-no-radii : le lo hi ≡ true → (r : Option Radii) → segment_in r (point_at ps i) (point_at ps (i + 1)) lo hi ≡ r
  adds-no-radii e r = adds-nothing (record { held = flo; number = le_l lo hi e }) (record { held = fhi; number = le_r lo hi e }) apart_of e r

-- the same at one u
pub none-higher : (ps : List Float) → ((i : ℕ) → T (fits binary64 (get_or ps i nan))) → (i : ℕ) (u : Float) → T (fits binary64 u) → aside (get_or ps (2 * i) nan) (get_or ps (2 * i + 2) nan) u u ≡ true → (r : Option Float) → higher r (segment_at (point_at ps i) (point_at ps (i + 1)) u) ≡ r
none-higher ps held i u fu h r = adds-no-higher (number (sides ps held i u u fu fu h)) (apart_of ps held i u u fu fu h) r
  where
    number : Sides (get_or ps (2 * i) nan) (get_or ps (2 * (i + 1)) nan) u u → Number binary64 u
    number (inl d) = right-number (get_or ps (2 * i) nan) u (held (2 * i)) fu d.0
    number (inr d) = left-number u (get_or ps (2 * i) nan) fu (held (2 * i)) d.0

-- ---- the radii found so far
pub found_none : (r : Found) → r.many ≡ 0 → found_radii r ≡ None
unfolding found_radii
found_none r e = pick_true _ _ _ (eq-eqb _ _ e)

pub found_some : (r : Found) → (r.many ≡ 0 → ⊥) → found_radii r ≡ Some (record { lowest = r.lowest; highest = r.highest })
unfolding found_radii
found_some r e = pick-false _ _ _ (ne_eqb _ _ e)

pub found-one : (x y : Float) → found_radii (record { many = 1; lowest = x; highest = y }) ≡ Some (record { lowest = x; highest = y })
unfolding found_radii pick
found-one x y = refl
