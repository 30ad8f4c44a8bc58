-- THE CHORDS OF A PROFILE AND THE NOSE: the chords of an accepted profile pass what refusal 5 asks of a nose's segments, where they are no more than its limit and their numbers are usable. Assumes nothing.
-- What the chords themselves are, crate `profile` has in `proofs/Laws`: `chords-join`, `chords-ends`, `chords-within`, `chords-finite`, `chords-count`; `line-sag` in `proofs/Lines`.
use Rattle.std.specs.Prelude.{Ok}
use mathlib.Core.Path.{◌≡◌, refl, sym, ap, ◌∙◌, subst}
use mathlib.Core.Bool.{Bool, true, false, ◌&&◌}
use mathlib.Core.List.{List}
use Prim.Native.Nat.{ℕ, zero, suc, ◌+◌, ◌-◌, ◌*◌, ◌≤◌, ◌<◌}
use native.Mathlib.Nat.{le_refl}
use native.Mathlib.Omega.{arith}
use borrow.Author.Tests.{eq-eqb, le-leb}
use lib.Dec.{T, eqb, leb}
use lib.ListN.{length, get_or, take, drop}
use lib.Seq.{take_at, get_or-take}
use lib.Ieee.{Float, nan, le}
use Rattle.refusals.specs.Limits.{segment_limit}
use Rattle.refusals.specs.Lent.{over}
use Rattle.floats.specs.Numbers.{zero64, usable}
use Rattle.stock.specs.Cell.{number_at}
use Rattle.nose.specs.Nose.{segment_count, segment_good, good_to, segments_good}
use Rattle.profile.specs.Chords.{flat_of, Segmented}
use Rattle.profile.proofs.Answers.{flat-length}
use Rattle.profile.proofs.Sizes.{HeldList, zero_is}
use Rattle.profile.proofs.Laws.{accepted, chords-within}

both : (a b : Bool) → T a → T b → T (a && b)
both true true s t = tt
both true false s t = absurd t
both false b s t = absurd s

is_true : (a : Bool) → T a → a ≡ true
is_true true t = refl
is_true false t = absurd t

-- numbers of whole segments, all of them usable, with no negative sag, are good segments
all-good : (xs : List Float) (n : ℕ) → ((j : ℕ) → j < 5 * n → T (usable (number_at xs j))) → ((k : ℕ) → k < n → T (le zero64 (number_at xs (5 * k + 4)))) → (k : ℕ) → k ≤ n → T (good_to xs k)
unfolding good_to segment_good
all-good xs n u s zero h = tt
all-good xs n u s (suc k) h =
    let a = usable (number_at xs (5 * k)) in
    let b = usable (number_at xs (5 * k + 1)) in
    let c = usable (number_at xs (5 * k + 2)) in
    let d = usable (number_at xs (5 * k + 3)) in
    let e = usable (number_at xs (5 * k + 4)) in
    let f = le zero64 (number_at xs (5 * k + 4)) in
    both (good_to xs k) (a && b && c && d && e && f) (all-good xs n u s k (omega arith))
    (both (a && b && c && d && e) f
    (both (a && b && c && d) e
    (both (a && b && c) d (both (a && b) c (both a b (u (5 * k) (omega arith)) (u (5 * k + 1) (omega arith))) (u (5 * k + 2) (omega arith))) (u (5 * k + 3) (omega arith)))
    (u (5 * k + 4) (omega arith)))
    (s k (omega arith)))

-- an accepted profile, its chords at most the limit and at most 1e6 in size: a nose of every good radius takes them
pub chords-cut : {xs : List Float} {tol : Float} {n : ℕ} {before after : List Float} (rn : Float) → Segmented xs tol (Ok n) before after → HeldList xs → n ≤ segment_limit
    → ((j : ℕ) → j < 5 * n → T (usable (get_or after j nan))) → T (usable rn) → T (le zero64 rn) → segments_good rn (take (5 * n) after) ≡ true
unfolding segments_good over
chords-cut {xs} {tol} {n} {before} {after} rn s held few u r p =
    let A = accepted xs tol n before after s in
    let m = A.many in
    let l = flat-length A.chords in
    let e : length (flat_of A.chords) ≡ 5 * n = omega (arith, l, m) in
    let ys = take (5 * n) after in
    let is : ys ≡ flat_of A.chords = ap (take (5 * n)) A.out ∙ take_at (flat_of A.chords) (drop (length (flat_of A.chords)) before) (5 * n) e in
    let long : length ys ≡ 5 * n = ap length is ∙ e in
    let count : segment_count ys ≡ n = omega (arith, long) in
    let U : (j : ℕ) → j < 5 * n → T (usable (number_at ys j)) = λ j h. subst (λ (x : Float). T (usable x)) (sym (get_or-take (5 * n) after j nan h)) (u j h) in
    let S : (k : ℕ) → k < n → T (le zero64 (number_at ys (5 * k + 4))) = λ k h.
    let w : 5 * k + 4 < 5 * n = omega arith in
    subst (λ (x : Float). T (le zero64 x)) (sym (get_or-take (5 * n) after (5 * k + 4) nan w)) (subst (λ (z : Float). T (le z (get_or after (5 * k + 4) nan))) (sym zero_is) (chords-within s held k h).0.nonneg) in
    let whole : 5 * segment_count ys ≡ length ys = omega (arith, count, long) in
    let under : segment_count ys ≤ segment_limit = subst (λ (k : ℕ). k ≤ segment_limit) (sym count) few in
    let good : T (good_to ys (segment_count ys)) = subst (λ (k : ℕ). T (good_to ys k)) (sym count) (all-good ys n U S n (le_refl n)) in
    is_true _ (both (eqb (5 * segment_count ys) (length ys) && leb (segment_count ys) segment_limit) (usable rn && le zero64 rn && good_to ys (segment_count ys))
    (both (eqb (5 * segment_count ys) (length ys)) (leb (segment_count ys) segment_limit) (so (eq-eqb _ _ whole)) (so (le-leb _ _ under)))
    (both (usable rn && le zero64 rn) (good_to ys (segment_count ys)) (both (usable rn) (le zero64 rn) r p) good))
  where
    so : {a : Bool} → a ≡ true → T a
    so e = subst T (sym e) tt
