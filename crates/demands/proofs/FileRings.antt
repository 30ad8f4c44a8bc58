-- Stored rings that are as 01 asks, handed to `from_parts`, come back as they stand, in order: clipping leaves each as it is, and none takes from another. Assumes nothing.
use mathlib.Core.Path.{◌≡◌, refl, sym, ap, ◌∙◌, subst}
use mathlib.Core.Bool.{Bool, true, false, not, ◌&&◌}
use mathlib.Core.List.{List, [], ◌∷◌, ◌++◌, append_assoc, append-nil}
use Prim.Native.Nat.{ℕ, zero, suc, ◌+◌, ◌*◌, ◌/◌, ◌%◌, ◌≤◌, ◌<◌}
use native.Mathlib.Omega.{arith}
use native.Mathlib.Nat.{min-le_left}
use lib.Dec.{T, leb}
use lib.ListN.{length, take, get_or, length-append}
use lib.Seq.{get_or-take, length-take-le}
use lib.Ieee.{Float, nan, binary64, fits, is_nan, lt, le}
use borrow.Author.Tests.{le-leb, eq-eqb}
use Rattle.refusals.specs.Limits.{piece_limit}
use Rattle.refusals.specs.Paper.{Paper, answers, demand, demand_none, demand-true, demand_none-none, onward, onward-answers}
use Rattle.floats.specs.Pick.{pick_true, pick-false}
use Rattle.floats.specs.Numbers.{clean_of, least_of, greatest_of, minus_zero}
use Rattle.floats.proofs.Cleared.{clean-same}
use Rattle.floats.proofs.Bounding.{lt-number-l, lt-number-r, clash}
use Rattle.floats.proofs.Bools.{so, to-false}
use Rattle.stock.specs.declared.TurnStockSpec.{TurnStockSpec}
use Rattle.stock.specs.Spec.{clean_spec, spec_good}
use Rattle.stock.specs.Cell.{stock_of}
use Rattle.stock.proofs.Count.{and_both, checked, stocked}
use Rattle.rings.specs.declared.Ring.{Ring}
use Rattle.rings.specs.Ring.{filled, apart, kept, subtract, subtract_all, in_hand, clip, left}
use Rattle.rings.specs.Store.{ring_at, rings_of, bar_ring, room_for_rings, ring_fits, apart_all, store_fits, count_fits, all_good, rings_good, bad_ring}
use Rattle.rings.specs.Remove.{room_for, added, added_all, remove_all_in, remove_rings}
use Rattle.rings.proofs.Adding.{added-yes}
use Rattle.rings.proofs.Bad.{rings-none}
use Rattle.rings.proofs.Fitting.{fits-of}
use Rattle.rings.proofs.Flat.{same-ring, length-rings}
use Rattle.rings.proofs.InHand.{subtract-apart}
use Rattle.rings.proofs.Prefix.{apart-turns, store_fits-snoc}
use Rattle.rings.proofs.Taken.{fits-finite, rings-pass}
use Rattle.rings.proofs.Removing.{fits-within}
use Rattle.blocks.specs.Block.{blocks_in}
use Rattle.blocks.proofs.Renewing.{renew-goes}
use Rattle.moves.specs.Move.{given_of, parts_of}

-- ---- a ring that fits is clipped to itself

highest-first : (x e : Float) → T (le e x) → greatest_of x e ≡ x
unfolding greatest_of
highest-first x e h = pick-false _ _ _ (to-false (lt x e) (λ t. clash x e t h))

lowest-first : (x e : Float) → T (le x e) → least_of x e ≡ x
unfolding least_of
lowest-first x e h = pick-false _ _ _ (to-false (lt e x) (λ t. clash e x t h))

-- a number of 64 bits that is not -0.0 is clean
clean : (x : Float) → T (fits binary64 x) → is_nan x ≡ false → T (not (minus_zero x)) → clean_of x ≡ x
clean x h n u = clean-same (record { held = h; number = subst (λ (t : Bool). T (not t)) (sym n) tt; unsigned = u })

-- each edge is a float of 64 bits
pub record Held (q : Ring) : Type 0 where
  pub z0 : T (fits binary64 q.z0)
  pub z1 : T (fits binary64 q.z1)
  pub r0 : T (fits binary64 q.r0)
  pub r1 : T (fits binary64 q.r1)

clip-same : (e q : Ring) → Held q → ring_fits e q ≡ true → clip e q ≡ q
unfolding clip
clip-same e q h f =
    let w = fits-of e q (so f) in
    same-ring
    (ap (λ (x : Float). greatest_of x e.z0) (clean q.z0 h.z0 (lt-number-l _ _ w.z-full) w.u0) ∙ highest-first q.z0 e.z0 w.z_low)
    (ap (λ (x : Float). least_of x e.z1) (clean q.z1 h.z1 (lt-number-r _ _ w.z-full) w.u1) ∙ lowest-first q.z1 e.z1 w.z_high)
    (ap (λ (x : Float). greatest_of x e.r0) (clean q.r0 h.r0 (lt-number-l _ _ w.r-full) w.u2) ∙ highest-first q.r0 e.r0 w.r_low)
    (ap (λ (x : Float). least_of x e.r1) (clean q.r1 h.r1 (lt-number-r _ _ w.r-full) w.u3) ∙ lowest-first q.r1 e.r1 w.r_high)

-- ---- rings that are apart from it leave it whole

both_true : {a b : Bool} → a ≡ true → b ≡ true → (a && b) ≡ true
both_true {a} {b} e f = ap (λ (t : Bool). t && b) e ∙ f

is-full : (e q : Ring) → ring_fits e q ≡ true → filled q ≡ true
is-full e q f = let w = fits-of e q (so f) in both_true (true_of (lt q.z0 q.z1) w.z-full) (true_of (lt q.r0 q.r1) w.r-full)
  where
    true_of : (t : Bool) → T t → t ≡ true
    true_of true h = refl
    true_of false h = absurd h

one_left : (ks : List Ring) (q : Ring) → apart_all ks q ≡ true → (subtract_all (q ∷ []) ks ≡ q ∷ []) × (in_hand piece_limit (q ∷ []) ks ≡ true)
unfolding subtract_all in_hand apart_all
one_left [] q h = (refl, refl)
one_left (k ∷ ks) q h =
    let b = and_both (apart k q) (apart_all ks q) h in
    let e : subtract (q ∷ []) k ≡ q ∷ [] = subtract-apart (q ∷ []) k (both_true (apart-turns q k ∙ b.0) refl) in
    let w = one_left ks q b.1 in
    (ap (λ (l : List Ring). subtract_all l ks) e ∙ w.0, both_true (ap (λ (l : List Ring). leb (length l) piece_limit) e) (ap (λ (l : List Ring). in_hand piece_limit l ks) e ∙ w.1))

added-whole : (e : Ring) (room : ℕ) (ks : List Ring) (q : Ring) → Held q → ring_fits e q ≡ true → apart_all ks q ≡ true → length ks < room → added room ks (clip e q) ≡ answers (ks ++ (q ∷ []))
unfolding room_for left kept
added-whole e room ks q h f a r =
    let k : kept q ≡ q ∷ [] = pick_true _ _ _ (is-full e q f) in
    let w = one_left ks q a in
    let l : left ks q ≡ q ∷ [] = ap (λ (x : List Ring). subtract_all x ks) k ∙ w.0 in
    let few : length ks + length (q ∷ []) ≤ room = omega arith in
    let fit : room_for room ks q ≡ true = both_true (ap (λ (x : List Ring). in_hand piece_limit x ks) k ∙ w.1) (ap (λ (x : List Ring). leb (length ks + length x) room) l ∙ le-leb _ _ few) in
    ap (added room ks) (clip-same e q h f) ∙ added-yes room ks q fit ∙ ap (λ (x : List Ring). answers (ks ++ x)) l

-- ---- one after the other

apart-front : (fs bs : List Ring) (q : Ring) → apart_all (fs ++ bs) q ≡ true → apart_all fs q ≡ true
unfolding apart_all
apart-front [] bs q h = refl
apart-front (a ∷ fs) bs q h = let b = and_both (apart a q) (apart_all (fs ++ bs) q) h in both_true b.0 (apart-front fs bs q b.1)

fits-front : (e : Ring) (fs bs : List Ring) → store_fits e (fs ++ bs) ≡ true → store_fits e fs ≡ true
unfolding store_fits
fits-front e [] bs h = refl
fits-front e (a ∷ fs) bs h =
    let b = and_both (ring_fits e a && apart_all (fs ++ bs) a) (store_fits e (fs ++ bs)) h in
    let c = and_both (ring_fits e a) (apart_all (fs ++ bs) a) b.0 in
    both_true (both_true c.0 (apart-front fs bs a c.1)) (fits-front e fs bs b.1)

data AllHeld : List Ring → Type 0 where
  none : AllHeld []
  more : {q : Ring} {qs : List Ring} → Held q → AllHeld qs → AllHeld (q ∷ qs)

all_whole : (e : Ring) (room : ℕ) (qs ks : List Ring) → AllHeld qs → store_fits e (ks ++ qs) ≡ true → length ks + length qs ≤ room → added_all e room ks qs ≡ answers (ks ++ qs)
unfolding added_all
all_whole e room [] ks h f r = ap answers (sym (append-nil ks))
all_whole e room (q ∷ qs) ks (more h g) f r =
    let along : (ks ++ (q ∷ [])) ++ qs ≡ ks ++ (q ∷ qs) = append_assoc ks (q ∷ []) qs in
    let all : store_fits e ((ks ++ (q ∷ [])) ++ qs) ≡ true = ap (store_fits e) along ∙ f in
    let snoc : (store_fits e ks && (ring_fits e q && apart_all ks q)) ≡ true = sym (store_fits-snoc e ks q) ∙ fits-front e (ks ++ (q ∷ [])) qs all in
    let own = and_both (ring_fits e q) (apart_all ks q) (and_both (store_fits e ks) (ring_fits e q && apart_all ks q) snoc).1 in
    let few : length ks < room = omega arith in
    let rest : length (ks ++ (q ∷ [])) + length qs ≤ room = omega (arith, length-append ks (q ∷ [])) in
    ap (λ (p : Paper (List Ring)). onward p (λ l. added_all e room l qs)) (added-whole e room ks q h own.0 own.1 few)
    ∙ onward-answers _ _
    ∙ all_whole e room qs (ks ++ (q ∷ [])) g all rest
    ∙ ap answers along

-- ---- all of them are good

all-good : (spec : TurnStockSpec) (l : List Ring) → spec_good (clean_spec spec) ≡ true → store_fits (bar_ring (clean_spec spec)) l ≡ true → all_good l ≡ true
unfolding all_good store_fits
all-good spec [] g h = refl
all-good spec (q ∷ qs) g h =
    let e = bar_ring (clean_spec spec) in
    let b = and_both (ring_fits e q && apart_all qs q) (store_fits e qs) h in
    let f = (and_both (ring_fits e q) (apart_all qs q) b.0).0 in
    both_true (both_true (fits-finite spec q g f) (is-full e q f)) (all-good spec qs g b.1)

-- ---- of lent numbers

front-rings : (xs : List Float) (m i : ℕ) → i ≤ m → rings_of i (take (4 * m) xs) ≡ rings_of i xs
unfolding rings_of
front-rings xs m zero h = refl
front-rings xs m (suc i) h =
    let r : ring_at (take (4 * m) xs) i ≡ ring_at xs i = same-ring (get_or-take (4 * m) xs (4 * i) nan (omega arith)) (get_or-take (4 * m) xs (4 * i + 1) nan (omega arith)) (get_or-take (4 * m) xs (4 * i + 2) nan (omega arith)) (get_or-take (4 * m) xs (4 * i + 3) nan (omega arith)) in
    λ j. front-rings xs m i (omega arith) j ++ (r j ∷ [])

held-rings : (xs : List Float) (n : ℕ) → ((i : ℕ) → T (fits binary64 (get_or xs i nan))) → AllHeld (rings_of n xs)
unfolding rings_of
held-rings xs zero h = none
held-rings xs (suc n) h = snoc (held-rings xs n h) (record { z0 = h (4 * n); z1 = h (4 * n + 1); r0 = h (4 * n + 2); r1 = h (4 * n + 3) })
  where
    snoc : {l : List Ring} {q : Ring} → AllHeld l → Held q → AllHeld (l ++ (q ∷ []))
    snoc none q = more q none
    snoc (more a l) q = more a (snoc l q)

-- A stock's cells, and the first m rings that pass 4's test, of 64 bits each number, handed to `from_parts` with room for them and for two kept numbers a block: they are the store, as they stand and in order.
pub parts-as-they-stand : (spec : TurnStockSpec) (cs rs : List Float) (n m : ℕ) → stock_of spec cs ≡ answers n → count_fits (bar_ring (clean_spec spec)) rs m ≡ true → ((i : ℕ) → T (fits binary64 (get_or rs i nan)))
    → (xs : List Float) → m ≤ room_for_rings (length xs) → (len : ℕ) → len ≡ 2 * blocks_in n → parts_of spec cs len (take (4 * m) rs) xs ≡ answers (rings_of m rs)
unfolding parts_of given_of remove_rings remove_all_in rings_good rings_of
parts-as-they-stand spec cs rs n m s f h xs room len two =
    let e = bar_ring (clean_spec spec) in
    let given : List Float = take (4 * m) rs in
    let w = fits-within e rs m f in
    let long : length given ≡ 4 * m = length-take-le (4 * m) rs (four m (length rs) (within m (length rs) w)) in
    let count : length given / 4 ≡ m = omega (arith, long) in
    let whole : length given % 4 ≡ 0 = omega (arith, long) in
    let same : rings_of (length given / 4) given ≡ rings_of m rs = ap (λ (k : ℕ). rings_of k given) count ∙ front-rings rs m m (omega arith) in
    let pass : store_fits e (rings_of m rs) ≡ true = rings-pass e rs m f in
    let good : spec_good (clean_spec spec) ≡ true = (checked spec n (stocked spec cs n s).count).good in
    let fine : rings_good given ≡ true = both_true (eq-eqb _ _ whole) (ap all_good same ∙ all-good spec (rings_of m rs) good pass) in
    let few : 0 + length (rings_of m rs) ≤ room_for_rings (length xs) = omega (arith, length-rings m rs) in
    ap (λ (p : Paper ℕ). onward p (λ _. demand_none (bad_ring given) 10 (demand (leb 0 (room_for_rings (length xs))) 4 (added_all e (room_for_rings (length xs)) [] (rings_of (length given / 4) given))))) (sym (renew-goes spec cs len n (blocks_in n) s refl two))
    ∙ onward-answers n (λ _. demand_none (bad_ring given) 10 (demand (leb 0 (room_for_rings (length xs))) 4 (added_all e (room_for_rings (length xs)) [] (rings_of (length given / 4) given))))
    ∙ demand_none-none (bad_ring given) 10 (demand (leb 0 (room_for_rings (length xs))) 4 (added_all e (room_for_rings (length xs)) [] (rings_of (length given / 4) given))) (rings-none given fine)
    ∙ demand-true (leb 0 (room_for_rings (length xs))) 4 (added_all e (room_for_rings (length xs)) [] (rings_of (length given / 4) given)) (le-leb 0 (room_for_rings (length xs)) (omega arith))
    ∙ ap (added_all e (room_for_rings (length xs)) []) same
    ∙ all_whole e (room_for_rings (length xs)) (rings_of m rs) [] (held-rings rs m h) pass few
  where
    within : (m l : ℕ) → m ≤ room_for_rings l → m ≤ l / 4
    within m l w = omega (arith, w, min-le_left (l / 4) 256)

    four : (m l : ℕ) → m ≤ l / 4 → 4 * m ≤ l
    four m l w = omega arith
