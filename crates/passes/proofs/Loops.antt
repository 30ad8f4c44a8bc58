-- What loops of a check hand on: numbers copied, targets, kinds, the first bin that does not meet its target. Assumes nothing.
use Rattle.std.specs.Prelude.{Option, None, Some}
use mathlib.Core.Path.{◌≡◌, refl, sym, ap, ap₂, ◌∙◌}
use mathlib.Core.Bool.{Bool, true, false, not, ◌&&◌}
use mathlib.Core.List.{List, [], ◌∷◌, ◌++◌}
use Prim.Native.Nat.{ℕ, zero, suc, ◌+◌, ◌≤◌, ◌<◌}
use native.Mathlib.Numerals.{add-one}
use native.Mathlib.Omega.{arith}
use borrow.Author.Tests.{leb-true, leb-false}
use lib.Dec.{leb}
use lib.ListN.{length, take, set, get_or}
use lib.Seq.{take_all, take-suc, take-suc-set}
use lib.Ieee.{Float, nan}
use Rattle.refusals.specs.Paper.{first_of}
use Rattle.floats.specs.Pick.{pick, pick_true, pick-false}
use Rattle.passes.specs.Cuts.{is_inside}
use Rattle.passes.specs.Check.{target_good, targets_to, meets, first_miss, outside_to}

-- ---- numbers copied one by one

pub copied_more : (to from : List Float) (i : ℕ) → i < length from → length to ≡ length from → take i to ≡ take i from → take (i + 1) (set to i (get_or from i nan)) ≡ take (i + 1) from
copied_more to from i h l e =
    ap (λ (n : ℕ). take n (set to i (get_or from i nan))) (add-one i)
    ∙ take-suc-set to i (get_or from i nan) (omega arith)
    ∙ ap (λ (r : List Float). r ++ (get_or from i nan ∷ [])) e
    ∙ sym (take-suc from i nan h)
    ∙ ap (λ (n : ℕ). take n from) (sym (add-one i))

pub copied_all : (to from : List Float) (i : ℕ) → length from ≤ i → length to ≡ length from → take i to ≡ take i from → to ≡ from
copied_all to from i h l e = sym (take_all i to (omega arith)) ∙ e ∙ take_all i from h

-- ---- one more

pub targets-more : (ts : List Float) (i : ℕ) → targets_to ts (i + 1) ≡ (targets_to ts i && target_good ts i)
unfolding targets_to
targets-more ts i = ap (targets_to ts) (add-one i)

pub outside-more : (kinds : List ℕ) (k : ℕ) → outside_to kinds (k + 1) ≡ (outside_to kinds k && not (is_inside (get_or kinds k 0)))
unfolding outside_to
outside-more kinds k = ap (outside_to kinds) (add-one k)

pub miss_more : (ts cs : List Float) (i : ℕ) → first_miss ts cs (i + 1) ≡ first_of (first_miss ts cs i) (pick (meets ts cs i) None (Some i))
unfolding first_miss
miss_more ts cs i = ap (first_miss ts cs) (add-one i)

-- ---- what is once found stays

stays_on : {A : Type 0} (f : ℕ → A) (v : A) → ((m : ℕ) → f m ≡ v → f (suc m) ≡ v) → (j m : ℕ) → j ≤ suc m → f j ≡ v → (j ≤ m → f m ≡ v) → (t : Bool) → leb j m ≡ t → f (suc m) ≡ v
stays_on f v step j m h e r true b = step m (r (leb-true j m b))
stays_on f v step j m h e r false b = let z : suc m ≡ j = omega (arith, leb-false j m b) in ap f z ∙ e

pub stays : {A : Type 0} (f : ℕ → A) (v : A) → ((m : ℕ) → f m ≡ v → f (suc m) ≡ v) → (j m : ℕ) → j ≤ m → f j ≡ v → f m ≡ v
stays f v step j zero h e = let z : zero ≡ j = omega arith in ap f z ∙ e
stays f v step j (suc m) h e = stays_on f v step j m h e (λ l. stays f v step j m l e) (leb j m) refl

module _ (ts cs : List Float) where
  -- the bins before i meet their targets, and i does not
  pub missed-at : (i n : ℕ) → i < n → first_miss ts cs i ≡ None → meets ts cs i ≡ false → first_miss ts cs n ≡ Some i
  unfolding first_miss
  missed-at i n h e m = stays (first_miss ts cs) (Some i) (λ (k : ℕ) (q : first_miss ts cs k ≡ Some i). ap (λ (o : Option ℕ). first_of o (pick (meets ts cs k) None (Some k))) q) (suc i) n (omega arith) (ap₂ first_of e (pick-false _ None (Some i) m))

  pub met-more : (i : ℕ) → first_miss ts cs i ≡ None → meets ts cs i ≡ true → first_miss ts cs (i + 1) ≡ None
  met-more i e m = miss_more ts cs i ∙ ap₂ first_of e (pick_true _ None (Some i) m)

  pub met-none : first_miss ts cs 0 ≡ None
  unfolding first_miss
  met-none = refl
