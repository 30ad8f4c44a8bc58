-- A segment that leaves bins as they are: one bin, by low and high of it and what the segment reaches on its lines; and many, one after the other. Assumes nothing.
use Rattle.std.specs.Prelude.{Option, None, Some}
use mathlib.Core.Path.{◌≡◌, refl, sym, ap, ◌∙◌, subst}
use mathlib.Core.Bool.{Bool, true, false, not, ◌&&◌}
use Prim.Native.Nat.{ℕ, ◌+◌, ◌≤◌, ◌<◌}
use native.Mathlib.Decide.{dec_le}
use native.Mathlib.Omega.{arith}
use lib.Dec.{T}
use borrow.Author.Tests.{not-true}
use lib.Ieee.{Float, lt, le}
use Rattle.floats.specs.Pick.{pick, pick_true, pick-false}
use Rattle.floats.specs.Numbers.{◌-₆₄◌, ◌/₆₄◌, zero64, one64, least_of}
use Rattle.floats.proofs.Bools.{to-false}
use Rattle.floats.proofs.Bounding.{clash, lt-le, le-lt-chain}
use Rattle.stock.specs.declared.TurnStockSpec.{TurnStockSpec}
use Rattle.stock.specs.declared.ZRange.{ZRange}
use Rattle.stock.specs.Bin.{bin_of}
use Rattle.reach.specs.declared.Swept.{Swept}
use Rattle.reach.specs.Low.{lower_of, upper_of}
use Rattle.reach.specs.Kinds.{SomeOf}
use Rattle.reach.proofs.Reaches.{upper-keeps}
use Rattle.nose.specs.declared.Capsule.{Capsule}
use Rattle.nose.specs.declared.Track.{Track}
use Rattle.nose.specs.Nose.{in_bin}
use Rattle.nose.specs.Track.{side_on, capsule_at, sample_at, step_of, Over}
use Rattle.nose.proofs.Overs.{both}
use Rattle.cuts.specs.Rows.{AtMost, Topped, stepped, Rested, Stepped}

-- ---- tests
-- a straight side goes from its start to its end
pub side-test : (w : Capsule) (c : Float) → (w.sloped && not (le zero64 ((c -₆₄ w.p.z) /₆₄ w.dz) && le ((c -₆₄ w.p.z) /₆₄ w.dz) one64)) ≡ true → side_on w c ≡ None
unfolding side_on
side-test w c e = let x = both _ _ e in pick_true _ _ _ x.0 ∙ pick-false _ _ _ (not-true _ x.1)

-- the greater of low and high
pub topped : (l h : Option Float) (a b top : Float) → l ≡ Some a → h ≡ Some b → T (le a top) → T (le b top) → AtMost top (l) × AtMost top (h)
topped l h a b top e d x y = (subst (λ (z : Option Float). AtMost top (z)) (sym e) x, subst (λ (z : Option Float). AtMost top (z)) (sym d) y)

pub found-top : (f : Swept) (l : Option Float) (top : Float) → l ≡ Some top → SomeOf (λ x. Topped x f) (l) → Topped top f
found-top f l top e h = subst (λ (z : Option Float). SomeOf (λ x. Topped x f) (z)) e h

-- ---- one bin
-- a radius over top does not lower one that is at most top
keeps : (l g : Option Float) (top : Float) → AtMost top l → Over top g → lower_of l g ≡ l
unfolding lower_of least_of
keeps None g top m o = absurd m
keeps (Some y) None top m o = refl
keeps (Some y) (Some x) top m o = ap Some (pick-false (lt x y) x y (to-false (lt x y) (λ h. clash y x (le-lt-chain y top x m o) (lt-le x y h))))

lower-none : (l : Option Float) → lower_of l None ≡ l
unfolding lower_of
lower-none None = refl
lower-none (Some x) = refl

either_same : (t : Bool) (a b : Option Float) → b ≡ a → pick t a b ≡ a
unfolding pick
either_same true a b e = refl
either_same false a b e = e

module _ (f : Swept) (t : Track) (bin : ZRange) (top : Float) (off : (le bin.za t.low.z && le t.low.z bin.zb) ≡ false) (m : Topped top f) (g : Over top (capsule_at t.grown bin.za) × Over top (capsule_at t.grown bin.zb)) where
  low-kept : lower_of (lower_of (lower_of f.low (in_bin t.low bin)) (capsule_at t.grown bin.za)) (capsule_at t.grown bin.zb) ≡ f.low
  unfolding in_bin
  low-kept =
      let x = capsule_at t.grown bin.za in
      let y = capsule_at t.grown bin.zb in
      ap (λ (o : Option Float). lower_of (lower_of (lower_of f.low o) x) y) (pick-false (le bin.za t.low.z && le t.low.z bin.zb) (Some t.low.r) None off)
      ∙ ap (λ (o : Option Float). lower_of (lower_of o x) y) (lower-none f.low)
      ∙ ap (λ (o : Option Float). lower_of o y) (keeps f.low x top m.0 g.0)
      ∙ keeps f.low y top m.0 g.1

  -- by the samples of the shrunk capsule
  by-samples : Over top (sample_at t bin.za).shrunk → Over top (sample_at t bin.zb).shrunk → step_of f t.low t.shy bin (sample_at t bin.za) (sample_at t bin.zb) ≡ f
  unfolding step_of sample_at
  by-samples x y = λ d. record {
    low = low-kept d;
    high = either_same t.shy f.high (lower_of f.high (upper_of (sample_at t bin.za).shrunk (sample_at t bin.zb).shrunk)) (keeps f.high (upper_of (sample_at t bin.za).shrunk (sample_at t bin.zb).shrunk) top m.1 (upper-keeps (λ z. T (lt top z)) (sample_at t bin.za).shrunk (sample_at t bin.zb).shrunk x y)) d;
  }

  -- where the two capsules are one
  pub rests-same : t.same ≡ true → step_of f t.low t.shy bin (sample_at t bin.za) (sample_at t bin.zb) ≡ f
  unfolding sample_at
  rests-same e =
      by-samples
      (subst (λ (o : Option Float). Over top o) (sym (pick_true t.same (capsule_at t.grown bin.za) (capsule_at t.shrunk bin.za) e)) g.0)
      (subst (λ (o : Option Float). Over top o) (sym (pick_true t.same (capsule_at t.grown bin.zb) (capsule_at t.shrunk bin.zb) e)) g.1)

  -- where they are two
  pub rests-other : t.same ≡ false → Over top (capsule_at t.shrunk bin.za) × Over top (capsule_at t.shrunk bin.zb) → step_of f t.low t.shy bin (sample_at t bin.za) (sample_at t bin.zb) ≡ f
  unfolding sample_at
  rests-other e h =
      by-samples
      (subst (λ (o : Option Float). Over top o) (sym (pick-false t.same (capsule_at t.grown bin.za) (capsule_at t.shrunk bin.za) e)) h.0)
      (subst (λ (o : Option Float). Over top o) (sym (pick-false t.same (capsule_at t.grown bin.zb) (capsule_at t.shrunk bin.zb) e)) h.1)

-- ---- many bins
pub rested-none : (s : TurnStockSpec) (t : Track) (first : ℕ) (old : ℕ → Swept) → Rested s t first first old
rested-none s t first old = record { ordered = omega arith; inside = λ j a b. absurd (omega arith) }

module _ {s : TurnStockSpec} {t : Track} {first i : ℕ} {old : ℕ → Swept} where
  -- the next one
  pub rested-more : (bin : ZRange) (row : Swept) → bin ≡ bin_of s i → row ≡ old i → step_of row t.low t.shy bin (sample_at t bin.za) (sample_at t bin.zb) ≡ row → Rested s t first i old → Rested s t first (i + 1) old
  rested-more bin row eb er e w =
      let o = w.ordered in
      record { ordered = omega arith; inside = λ j a b. go j a (dec_le i j) b }
    where
      here : stepped s t i (old i) ≡ old i
      here = subst (λ (f : Swept). stepped s t i f ≡ f) er (subst (λ (z : ZRange). step_of row t.low t.shy z (sample_at t z.za) (sample_at t z.zb) ≡ row) eb e)

      go : (j : ℕ) → first ≤ j → Dec (i ≤ j) → j < i + 1 → stepped s t j (old j) ≡ old j
      go j a (yes p) b =
          let q : j ≡ i = omega arith in
          subst (λ (k : ℕ). stepped s t k (old k) ≡ old k) (sym q) here
      go j a (no p) b = w.inside j a (omega arith)

-- a part more: the bins that rest, and those that are swept
module _ {s : TurnStockSpec} {t : Track} {first i from to : ℕ} {old new next : ℕ → Swept} where
  pub part-more : first ≤ i → from ≤ to → Stepped s t first i old new → Rested s t i from new → Stepped s t from to new next → Stepped s t first to old next
  part-more f g w r u = record {
    inside = λ j a b. go j a b (dec_le from j) (dec_le i j);
    under = λ j a. u.under j (omega (arith, r.ordered)) ∙ w.under j a;
    over = λ j a. u.over j a ∙ w.over j (omega (arith, r.ordered));
  }
    where
      go : (j : ℕ) → first ≤ j → j < to → Dec (from ≤ j) → Dec (i ≤ j) → next j ≡ stepped s t j (old j)
      go j a b (yes p) d = u.inside j p b ∙ ap (stepped s t j) (w.over j (omega (arith, r.ordered)))
      go j a b (no p) (yes q) = u.under j (omega arith) ∙ sym (r.inside j q (omega arith)) ∙ ap (stepped s t j) (w.over j q)
      go j a b (no p) (no q) = u.under j (omega arith) ∙ w.inside j a (omega arith)
