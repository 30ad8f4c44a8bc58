-- What is written stands over the beginning of the lent numbers, and the promise of `segments`, return by return. Assumes nothing.
use Rattle.std.specs.Prelude.{Option, None, Some, Err, Ok}
use mathlib.Core.Path.{◌≡◌, refl, sym, ap, ◌∙◌, subst}
use mathlib.Core.Bool.{Bool, true, false, ◌&&◌}
use mathlib.Core.List.{List, [], ◌∷◌, ◌++◌}
use Prim.Native.Nat.{ℕ, suc, ◌+◌, ◌-◌, ◌*◌, ◌/◌, ◌≤◌, ◌<◌}
use native.Mathlib.Omega.{arith}
use borrow.Author.Tests.{leb-false, le-leb, lt-leb}
use lib.Dec.{T, eqb, leb, leb→le}
use lib.ListN.{length, drop, set}
use lib.Seq.{sets, sets-eq, length-sets}
use lib.Ieee.{Float, le}
use lib.Ieee.Fits.{and_l, and_r}
use Rattle.refusals.specs.Limits.{profile_limit}
use Rattle.refusals.specs.Lent.{over}
use Rattle.floats.specs.Pick.{pick-false}
use Rattle.floats.specs.Numbers.{zero64, clean_of, usable}
use Rattle.refusals.specs.declared.Refusal.TheVariants.{ProfileOutside, ChordsOutgrow}
use Rattle.refusals.specs.Paper.{Paper, answers, refuses, only, demand-true, demand-false}
use Rattle.profile.specs.Profile.{point_count, good_to, apart_to, profile_good}
use Rattle.profile.specs.Chords.{Chord, chords_to, profile_chords, flat_of, room_for, segments_of, written_of, count_of, Segmented, put_chord, put_all, placed, Chops}
use Rattle.profile.proofs.Halves.{placed-says, no_test}

-- ---- what is written
abbrev five : Chord → List Float
five c = c.a.r ∷ c.a.z ∷ c.b.r ∷ c.b.z ∷ c.sag ∷ []

-- the five numbers of a chord, stored one after the other
put_five : (xs : List Float) (k : ℕ) (c : Chord) → k < length xs / 5 → put_chord xs k c.a c.b c.sag ≡ sets xs (5 * k) (five c)
unfolding put_chord
put_five xs k c h =
    pick-false _ _ _ (lt-leb (length xs / 5) k h)
    ∙ ap (λ (n : ℕ). set (set (set (set (set xs (5 * k) c.a.r) n c.a.z) (5 * k + 2) c.b.r) (5 * k + 3) c.b.z) (5 * k + 4) c.sag) e1
    ∙ ap (λ (n : ℕ). set (set (set (set (set xs (5 * k) c.a.r) (suc (5 * k)) c.a.z) n c.b.r) (5 * k + 3) c.b.z) (5 * k + 4) c.sag) e2
    ∙ ap (λ (n : ℕ). set (set (set (set (set xs (5 * k) c.a.r) (suc (5 * k)) c.a.z) (suc (suc (5 * k))) c.b.r) n c.b.z) (5 * k + 4) c.sag) e3
    ∙ ap (λ (n : ℕ). set (set (set (set (set xs (5 * k) c.a.r) (suc (5 * k)) c.a.z) (suc (suc (5 * k))) c.b.r) (suc (suc (suc (5 * k)))) c.b.z) n c.sag) e4
  where
    e1 : 5 * k + 1 ≡ suc (5 * k)
    e1 = omega arith

    e2 : 5 * k + 2 ≡ suc (suc (5 * k))
    e2 = omega arith

    e3 : 5 * k + 3 ≡ suc (suc (suc (5 * k)))
    e3 = omega arith

    e4 : 5 * k + 4 ≡ suc (suc (suc (suc (5 * k))))
    e4 = omega arith

-- the chords from a place on are their numbers from there on
pub put-sets : (xs : List Float) (k : ℕ) (l : List Chord) → k + length l ≤ length xs / 5 → put_all xs k l ≡ sets xs (5 * k) (flat_of l)
unfolding put_all flat_of
put-sets xs k [] h = refl
put-sets xs k (c ∷ l) h =
    let one : k < length xs / 5 = omega arith in
    let same = put_five xs k c one in
    let long = ap length same ∙ length-sets xs (5 * k) (five c) in
    let fits : k + 1 + length l ≤ length (put_chord xs k c.a c.b c.sag) / 5 = rw long (omega arith) in
    let e : 5 * (k + 1) ≡ suc (suc (suc (suc (suc (5 * k))))) = omega arith in
    put-sets (put_chord xs k c.a c.b c.sag) (k + 1) l fits
    ∙ ap (λ (n : ℕ). sets (put_chord xs k c.a c.b c.sag) n (flat_of l)) e
    ∙ ap (λ (v : List Float). sets v (suc (suc (suc (suc (suc (5 * k)))))) (flat_of l)) same

pub flat-length : (l : List Chord) → length (flat_of l) ≡ 5 * length l
unfolding flat_of
flat-length [] = refl
flat-length (c ∷ l) = let e = flat-length l in omega arith

-- the chords from the first place on stand over the beginning
pub put-over : (xs : List Float) (l : List Chord) → length l ≤ length xs / 5 → put_all xs 0 l ≡ over (flat_of l) xs
unfolding over
put-over xs l h =
    let f : 0 + length l ≤ length xs / 5 = omega arith in
    let e = flat-length l in
    let r : 0 + length (flat_of l) ≤ length xs = omega arith in
    let z : 0 + length (flat_of l) ≡ length (flat_of l) = omega arith in
    put-sets xs 0 l f ∙ sets-eq (flat_of l) xs 0 r ∙ ap (λ (n : ℕ). flat_of l ++ drop n xs) z

-- ---- what a profile that is not refused has
pub good-points : (xs : List Float) (tol : Float) (t : Bool) → t ≡ profile_good xs tol → t ≡ true → (2 ≤ length xs / 3)
unfolding profile_good
good-points xs tol t e s =
    let p = eqb (3 * point_count xs) (length xs) in
    let q = leb 2 (point_count xs) in
    let r = leb (point_count xs) profile_limit in
    let w = usable tol && le zero64 tol && good_to xs (point_count xs) && apart_to xs (point_count xs - 1) in
    let h : T (p && q && r && w) = subst T (sym s ∙ e) tt in
    leb→le 2 (point_count xs) (and_r p q (and_l (p && q) r (and_l (p && q && r) w h)))

-- ---- the promise
module _ (xs : List Float) (tol : Float) (bs : List Float) where
  abbrev room : ℕ
  room = length bs / 5

  -- 17
  pub says-profile : (t : Bool) → t ≡ profile_good xs tol → t ≡ false → Segmented xs tol (Err ProfileOutside) bs bs
  unfolding count_of written_of flat_of over
  says-profile t e f =
      let s : segments_of xs tol room ≡ refuses (only 17) = unfold segments_of in demand-false _ _ _ (sym e ∙ f) in
      record { answer = ap count_of (sym s); out = ap (λ (a : Paper (List Chord)). over (flat_of (written_of a)) bs) (sym s) }

  module _ (fine : Float) (t : Bool) (m : ℕ) (e : t ≡ profile_good xs tol) (f : t ≡ true) (g : fine ≡ clean_of tol) (w : m ≡ length xs / 3 - 1) where
    is : (p : Option (List Chord)) → p ≡ chords_to xs fine m → segments_of xs tol room ≡ room_for room p
    unfolding segments_of profile_chords
    is p h =
        demand-true _ _ _ (sym e ∙ f)
        ∙ ap (λ (x : Float). room_for room (chords_to xs x (point_count xs - 1))) (sym g)
        ∙ ap (λ (k : ℕ). room_for room (chords_to xs fine k)) (sym w)
        ∙ ap (room_for room) (sym h)

    no_room : (p : Option (List Chord)) → placed room 0 p ≡ None → room_for room p ≡ refuses (only 18)
    unfolding placed room_for
    no_room None h = refl
    no_room (Some l) h =
        let past = leb-false (0 + length l) room (no_test (leb (0 + length l) room) (0 + length l) h) in
        demand-false _ _ _ (lt-leb (length l) room (omega (arith, past)))

    -- 18
    pub says-outgrow : {us vs : List Float} {r : (Option ℕ)} → r ≡ None → Chops (chords_to xs fine m) room 0 r us vs → Segmented xs tol (Err ChordsOutgrow) bs bs
    unfolding count_of written_of flat_of over
    says-outgrow {r = r} o c =
        let s : segments_of xs tol room ≡ refuses (only 18) = is (chords_to xs fine m) refl ∙ no_room (chords_to xs fine m) (sym c.answer ∙ o) in
        record { answer = ap count_of (sym s); out = ap (λ (a : Paper (List Chord)). over (flat_of (written_of a)) bs) (sym s) }

    -- the chords
    pub says-chords : {us vs ws : List Float} {r q : (Option ℕ)} (n : ℕ) → r ≡ Some n → Chops (chords_to xs fine m) room 0 r us vs → Chops (chords_to xs fine m) room 0 q bs ws → Segmented xs tol (Ok n) bs ws
    unfolding count_of written_of room_for
    says-chords {ws = ws} {r = r} {q = q} n o c d =
        let to : placed room 0 (chords_to xs fine m) ≡ Some n = sym c.answer ∙ o in
        let at = placed-says room 0 n (chords_to xs fine m) to in
        let l = at.chords in
        let long : length l ≤ room = let a = at.to in let b = at.fits in omega (arith, a, b) in
        let same : n ≡ length l = let a = at.to in omega (arith, a) in
        let s : segments_of xs tol room ≡ answers l = is (Some l) (sym at.are) ∙ demand-true _ _ _ (le-leb (length l) room long) in
        record {
          answer = ap (λ (k : ℕ). answers k) same ∙ ap count_of (sym s);
          out = d.out n (d.answer ∙ to) l at.are ∙ put-over bs l long ∙ ap (λ (a : Paper (List Chord)). over (flat_of (written_of a)) bs) (sym s);
        }
