-- Samples at the points' own u that are held in a list: what is read at i is the rule's sample of point i. Assumes nothing.
use Rattle.std.specs.Prelude.{Some}
use mathlib.Core.Path.{◌≡◌, sym, ap, ◌∙◌, subst}
use mathlib.Core.List.{List}
use Prim.Native.Nat.{ℕ, ◌+◌, ◌<◌}
use native.Mathlib.Nat.{lt_irrefl}
use lib.ListN.{length, get_or, set}
use lib.Seq.{get_or-set_same, get_or-set_other}
use lib.Ieee.{Float, nan}
use borrow.Author.Count.{below_none, below_more}
use Rattle.envelope.specs.Envelope.{u_at, highest_at}
use Rattle.insert.specs.declared.Which.{Which}
use Rattle.insert.specs.declared.Which.TheVariants.{Least, Greatest}
use Rattle.insert.specs.Insert.{bore_at, sample_at, HeldTo, Held}

module _ (w : Which) (ps : List Float) where
  pub held_none : (hs : List Float) → HeldTo w ps hs 0
  held_none hs = below_none (λ (i : ℕ). sample_at w ps (u_at ps i) ≡ Some (get_or hs i nan))

  -- one more
  pub held_more : (hs : List Float) (k : ℕ) (x : Float) → HeldTo w ps hs k → k < length hs → sample_at w ps (u_at ps k) ≡ Some x → HeldTo w ps (set hs k x) (k + 1)
  held_more hs k x h r e =
      below_more (λ (i : ℕ). sample_at w ps (u_at ps i) ≡ Some (get_or (set hs k x) i nan)) k
      (λ i l. h i l ∙ ap Some (sym (get_or-set_other hs k i x nan (λ g. lt_irrefl k (subst (λ (n : ℕ). n < k) g l)))))
      (e ∙ ap Some (sym (get_or-set_same hs k x nan r)))

module _ (ps hs : List Float) where
  -- `radii-held`: at i stands the radius at point i's own u
  pub radii-held : Held Least ps hs → (i : ℕ) → i < length hs → highest_at ps (u_at ps i) ≡ Some (get_or hs i nan)
  unfolding sample_at
  radii-held h = h

  -- and of a bore its radius there
  pub bores-held : Held Greatest ps hs → (i : ℕ) → i < length hs → bore_at ps (u_at ps i) ≡ Some (get_or hs i nan)
  unfolding sample_at
  bores-held h = h
