-- The tests that a ring takes: counted from ring to ring, and how many there can be. Assumes nothing.
use Rattle.std.specs.Prelude.{Ok, Result}
use Rattle.refusals.specs.declared.Refusal.{Refusal}
use Rattle.refusals.specs.declared.Refused.{Refused}
use Prim.Native.Nat.{ℕ, ◌+◌, ◌*◌, ◌≤◌, ◌<◌, min}
use native.Mathlib.Omega.{arith}
use mathlib.Core.Path.{◌≡◌, refl, sym, ◌∙◌, ap, subst}
use mathlib.Core.Logic.{◌⊎◌, inl, inr}
use mathlib.Core.Bool.{Bool, true, false, ◌&&◌, true≢false}
use mathlib.Core.List.{List, [], ◌∷◌, ◌++◌}
use lib.Dec.{leb}
use lib.ListN.{length}
use lib.Ieee.{Float}
use borrow.Author.Tests.{leb-true}
use Rattle.stock.specs.declared.TurnStockSpec.{TurnStockSpec}
use Rattle.stock.specs.Spec.{clean_spec}
use Rattle.rings.specs.declared.Ring.{Ring}
use Rattle.rings.specs.declared.hand.Cut.{Cut}
use Rattle.rings.specs.declared.Added.{Added}
use Rattle.rings.specs.declared.Took.{Took}
use Rattle.rings.specs.Ring.{filled, apart, kept, subtract, subtract_all, in_hand, clip}
use Rattle.rings.specs.Store.{bar_ring, ring_at, rings_of, apart_all}
use Rattle.rings.specs.Tests.{tests_of, tests_for, ring_tests}
use Rattle.rings.specs.Hand.{CutsAll}
use Rattle.rings.specs.Counted.{AddedTests, TakenTests}
use Rattle.rings.proofs.Flat.{rings-next, length-rings}
use Rattle.rings.proofs.Prefix.{apart-turns}
use Rattle.rings.proofs.InHand.{kept-few, subtract-apart, in-hand-more, Going}
use Rattle.rings.proofs.Adding.{kept-yes, kept-no, nothing_left, in-hand}

-- ---- counted from ring to ring
tests-append : (ps s t : List Ring) → tests_of ps (s ++ t) ≡ tests_of ps s + tests_of (subtract_all ps s) t
unfolding tests_of subtract_all
tests-append ps [] t = omega arith
tests-append ps (k ∷ s) t = let h = tests-append (subtract ps k) s t in omega arith

-- the next ring is tested against what those before it leave
pub tests-next : (ps : List Ring) (xs : List Float) (j : ℕ) → tests_of ps (rings_of (j + 1) xs) ≡ tests_of ps (rings_of j xs) + length (subtract_all ps (rings_of j xs))
unfolding tests_of
tests-next ps xs j =
    let a = ap (tests_of ps) (rings-next xs j) in
    let b = tests-append ps (rings_of j xs) (ring_at xs j ∷ []) in
    omega arith

pub counted_start : (ps : List Ring) (xs : List Float) → 0 ≡ min (tests_of ps (rings_of 0 xs)) 65536
unfolding tests_of rings_of
counted_start ps xs = omega arith

pub counted_next : (room : ℕ) (ps : List Ring) (xs : List Float) (j : ℕ) (hand : List Float) (m : ℕ) → Going room ps xs j hand m → (t u : ℕ) → t ≡ min (tests_of ps (rings_of j xs)) 65536 → u ≡ min (t + m) 65536
    → u ≡ min (tests_of ps (rings_of (j + 1) xs)) 65536
counted_next room ps xs j hand m g t u a b =
    let l : m ≡ length (subtract_all ps (rings_of j xs)) = sym (length-rings m hand) ∙ ap length g.same in
    let n = tests-next ps xs j in
    omega arith

-- ---- how many there can be

-- with 256 pieces in hand at most, 256 for each ring at most
pub tests-most : (ps ks : List Ring) → length ps ≤ 256 → in_hand 256 ps ks ≡ true → tests_of ps ks ≤ 256 * length ks
unfolding tests_of in_hand
tests-most ps [] h e = omega arith
tests-most ps (k ∷ ks) h e = go (leb (length (subtract ps k)) 256) refl e (tests-most (subtract ps k) ks)
  where
    go : (b : Bool) → leb (length (subtract ps k)) 256 ≡ b → (b && in_hand 256 (subtract ps k) ks) ≡ true
        → (length (subtract ps k) ≤ 256 → in_hand 256 (subtract ps k) ks ≡ true → tests_of (subtract ps k) ks ≤ 256 * length ks) → length ps + tests_of (subtract ps k) ks ≤ 256 * length (k ∷ ks)
    go true f e r = let t = r (leb-true (length (subtract ps k)) 256 f) e in omega arith
    go false f e r = absurd (true≢false (sym e))

-- where something is left, one for each ring at least
pub tests-least : (ps ks : List Ring) → 0 < length (subtract_all ps ks) → length ks ≤ tests_of ps ks
unfolding tests_of subtract_all subtract
tests-least ps [] h = omega arith
tests-least [] (k ∷ ks) h = let n = ap length (nothing_left ks).0 in absurd (omega arith)
tests-least (p ∷ ps) (k ∷ ks) h = let r = tests-least (subtract (p ∷ ps) k) ks h in omega arith

-- with nothing in hand none
pub tests-none : (ks : List Ring) → tests_of [] ks ≡ 0
unfolding tests_of subtract
tests-none [] = refl
tests-none (k ∷ ks) = let h = tests-none ks in omega arith

-- a ring that is empty takes none
pub tests-empty : (c : Ring) (ks : List Ring) → filled c ≡ false → tests_of (kept c) ks ≡ 0
tests-empty c ks e = ap (λ (l : List Ring). tests_of l ks) (kept-no c e) ∙ tests-none ks

-- a ring that is apart from all is one piece before each
tests-apart : (c : Ring) (ks : List Ring) → apart_all ks c ≡ true → tests_of (c ∷ []) ks ≡ length ks
unfolding tests_of apart_all
tests-apart c [] e = refl
tests-apart c (k ∷ ks) e = go (apart k c) refl e (tests-apart c ks)
  where
    go : (t : Bool) → apart k c ≡ t → (t && apart_all ks c) ≡ true → (apart_all ks c ≡ true → tests_of (c ∷ []) ks ≡ length ks) → length (c ∷ []) + tests_of (subtract (c ∷ []) k) ks ≡ length (k ∷ ks)
    go true f g h =
        let s : subtract (c ∷ []) k ≡ c ∷ [] = subtract-apart (c ∷ []) k (ap (λ (b : Bool). b && true) (apart-turns c k ∙ f)) in
        let n = ap (λ (l : List Ring). tests_of l ks) s in
        let m = h g in
        omega arith
    go false f g h = absurd (true≢false (sym g))

pub tests-whole : (c : Ring) (xs : List Float) (n : ℕ) → filled c ≡ true → apart_all (rings_of n xs) c ≡ true → n ≡ tests_of (kept c) (rings_of n xs)
tests-whole c xs n e a = sym (ap (λ (l : List Ring). tests_of l (rings_of n xs)) (kept-yes c e) ∙ tests-apart c (rings_of n xs) a ∙ length-rings n xs)

-- none exactly where no ring is stored before it, or it is empty
pub no-tests : (c : Ring) (ks : List Ring) → tests_of (kept c) ks ≡ 0 → (ks ≡ []) ⊎ (filled c ≡ false)
unfolding tests_of
no-tests c [] z = inl refl
no-tests c (k ∷ ks) z = go (filled c) refl
  where
    some : tests_of (c ∷ []) (k ∷ ks) ≡ 0 → ⊥
    some z = omega arith

    go : (t : Bool) → filled c ≡ t → (k ∷ ks ≡ []) ⊎ (filled c ≡ false)
    go true f = absurd (some (sym (ap (λ (l : List Ring). tests_of l (k ∷ ks)) (kept-yes c f)) ∙ z))
    go false f = inr f

pub tests-first : (ps : List Ring) → tests_of ps [] ≡ 0
unfolding tests_of
tests-first ps = refl

-- ---- what is counted in hand, where few pieces are

pub all-counted : (few count : ℕ) (c : Ring) (xs hand : List Float) (r : Cut) → CutsAll few (kept c) (rings_of count xs) hand r → r.left ≤ few → few ≤ 256 → count ≤ 256 → r.tests ≡ tests_of (kept c) (rings_of count xs)
all-counted few count c xs hand r s l h k =
    let g = in-hand 0 count few c xs hand r.left s.pieces l in
    let m = tests-most (kept c) (rings_of count xs) (let o = kept-few c in omega arith) (in-hand-more few 256 (kept c) (rings_of count xs) h g) in
    let n = length-rings count xs in
    let t = s.tests l in
    omega arith

-- ---- one ring taken
pub for-empty : (e : Ring) (ks : List Ring) (q : Ring) → filled (clip e q) ≡ false → 0 ≡ tests_for e ks q
unfolding tests_for
for-empty e ks q f = sym (tests-empty (clip e q) ks f)

pub for-added : (e q c : Ring) (ks : List Ring) (r : Result Added Refusal) (t : Added) → c ≡ clip e q → r ≡ Ok t → AddedTests r (tests_of (kept c) ks) → t.tests ≡ tests_for e ks q
unfolding tests_for
for-added e q c ks r t f h a = subst (λ (v : Result Added Refusal). AddedTests v (tests_of (kept c) ks)) h a ∙ ap (λ (d : Ring). tests_of (kept d) ks) f

pub for-stock : (spec : TurnStockSpec) (e q : Ring) (xs : List Float) (n : ℕ) (r : Result Took Refused) → e ≡ bar_ring (clean_spec spec) → TakenTests r (tests_for e (rings_of n xs) q) → TakenTests r (ring_tests spec xs n q)
unfolding ring_tests
for-stock spec e q xs n r f t = subst (λ (b : Ring). TakenTests r (tests_for b (rings_of n xs) q)) f t
