-- The laws of an accepted profile, as its caller reads them off the lent numbers: chords that join by equal bits, begin and end where the profile does, are one to 1,024 a segment,
-- finite, and stray by no more than the tolerance. And that the promise leaves one outcome. Assumes nothing.
use Rattle.std.specs.Prelude.{Option, None, Some, Err, Ok, Result}
use mathlib.Core.Path.{◌≡◌, refl, sym, ap, ◌∙◌, subst}
use mathlib.Core.Bool.{Bool, true, false, ◌&&◌}
use mathlib.Core.List.{List, [], ◌∷◌, ◌++◌}
use Prim.Native.Nat.{ℕ, zero, suc, ◌+◌, ◌-◌, ◌*◌, ◌/◌, ◌≤◌, ◌<◌}
use native.Mathlib.Numerals.{add-one}
use native.Mathlib.Omega.{arith}
use borrow.Author.Tests.{leb-true}
use lib.Dec.{T, eqb, leb, leb→le}
use lib.ListN.{length, get_or, drop, get_or-append}
use lib.Seq.{drop-cons, drop-nil, get_or-drop}
use lib.Ieee.{Float, nan, binary64, le}
use lib.Ieee.Fits.{and_l, and_r}
use Rattle.refusals.specs.Limits.{profile_limit}
use Rattle.refusals.specs.Lent.{over}
use Rattle.floats.specs.Pick.{pick, pick_true, pick-false}
use Rattle.floats.specs.Each.{Each}
use Rattle.floats.specs.Numbers.{zero64, clean_of, usable}
use Rattle.floats.specs.Kinds.{Within}
use Rattle.profile.specs.declared.Point.{Point}
use Rattle.refusals.specs.declared.Refusal.{Refusal}
use Rattle.refusals.specs.Number.{reason_of, paper_of}
use Rattle.refusals.specs.Paper.{Paper, Reason, answers, refuses, only, demand}
use Rattle.refusals.proofs.OneToOne.{one-reason}
use Rattle.profile.specs.Profile.{clean_at, point_at, point_count, good_to, apart_to, profile_good}
use Rattle.profile.specs.Chords.{Chord, chords_to, profile_chords, flat_of, room_for, segments_of, written_of, count_of, Segmented}
use Rattle.profile.proofs.Answers.{flat-length}
use Rattle.profile.proofs.Chains.{Runs, segments-run, segments-counted}
use Rattle.profile.proofs.Sizes.{NotNegative, PointWithin, Sound, HeldList, segments-sound}

-- ---- chord k
no_point : Point
no_point = record { r = nan; z = nan }

no_chord : Chord
no_chord = record { a = no_point; b = no_point; sag = nan }

abbrev chord_at : List Chord → ℕ → Chord
chord_at l k = get_or l k no_chord

each_at : (P : Chord → Type 0) (l : List Chord) (k : ℕ) → Each P l → k < length l → P (chord_at l k)
each_at P [] k e h = absurd (omega arith)
each_at P (c ∷ l) zero e h = e.0
each_at P (c ∷ l) (suc k) e h = each_at P l k e.1 (omega arith)

runs-next : (a b : Point) (l : List Chord) (k : ℕ) → Runs a l b → suc k < length l → (chord_at l (suc k)).a ≡ (chord_at l k).b
runs-next a b [] k r h = absurd (omega arith)
runs-next a b (c ∷ []) k r h = absurd (omega arith)
runs-next a b (c ∷ c' ∷ l) zero r h = r.1.0
runs-next a b (c ∷ c' ∷ l) (suc k) r h = runs-next c.b b (c' ∷ l) k r.1 (omega arith)

runs-first : (a b : Point) (l : List Chord) → Runs a l b → 0 < length l → (chord_at l 0).a ≡ a
runs-first a b [] r h = absurd (omega arith)
runs-first a b (c ∷ l) r h = r.0

runs_last : (a b : Point) (l : List Chord) (k : ℕ) → Runs a l b → length l ≡ suc k → (chord_at l k).b ≡ b
runs_last a b [] k r h = absurd (omega arith)
runs_last a b (c ∷ []) zero r h = r.1
runs_last a b (c ∷ []) (suc k) r h = absurd (omega arith)
runs_last a b (c ∷ c' ∷ l) zero r h = absurd (omega arith)
runs_last a b (c ∷ c' ∷ l) (suc k) r h = runs_last c.b b (c' ∷ l) k r.1 (omega arith)

-- ---- its numbers
flat-drop : (k : ℕ) (l : List Chord) → drop (5 * k) (flat_of l) ≡ flat_of (drop k l)
unfolding flat_of
flat-drop zero l = refl
flat-drop (suc k) [] = drop-nil (5 * suc k)
flat-drop (suc k) (c ∷ l) =
    let e : 5 * suc k ≡ suc (suc (suc (suc (suc (5 * k))))) = omega arith in
    ap (λ (n : ℕ). drop n (flat_of (c ∷ l))) e ∙ flat-drop k l

flat-from : (l : List Chord) (k i : ℕ) → k < length l → get_or (flat_of l) (5 * k + i) nan ≡ get_or (flat_of (chord_at l k ∷ drop (suc k) l)) i nan
flat-from l k i h = sym (get_or-drop (5 * k) (flat_of l) i nan) ∙ ap (λ (v : List Float). get_or v i nan) (flat-drop k l ∙ ap flat_of (drop-cons l k no_chord h))

-- the five numbers of chord k among the lent ones
pub record Numbers (xs : List Float) (k : ℕ) (c : Chord) : Type 0 where
  pub a_r : get_or xs (5 * k) nan ≡ c.a.r
  pub a_z : get_or xs (5 * k + 1) nan ≡ c.a.z
  pub b-r : get_or xs (5 * k + 2) nan ≡ c.b.r
  pub b-z : get_or xs (5 * k + 3) nan ≡ c.b.z
  pub sag : get_or xs (5 * k + 4) nan ≡ c.sag

over-at : (l : List Chord) (bs : List Float) (k i : ℕ) → k < length l → i < 5 → get_or (over (flat_of l) bs) (5 * k + i) nan ≡ get_or (flat_of (chord_at l k ∷ drop (suc k) l)) i nan
unfolding over
over-at l bs k i h g =
    let e = flat-length l in
    let w : 5 * k + i < length (flat_of l) = omega arith in
    get_or-append (flat_of l) (drop (length (flat_of l)) bs) nan (5 * k + i) w ∙ flat-from l k i h

numbers-at : (l : List Chord) (bs : List Float) (k : ℕ) → k < length l → Numbers (over (flat_of l) bs) k (chord_at l k)
unfolding flat_of
numbers-at l bs k h =
    let z : 5 * k ≡ 5 * k + 0 = omega arith in
    record {
      a_r = ap (λ (n : ℕ). get_or (over (flat_of l) bs) n nan) z ∙ over-at l bs k 0 h (omega arith);
      a_z = over-at l bs k 1 h (omega arith);
      b-r = over-at l bs k 2 h (omega arith);
      b-z = over-at l bs k 3 h (omega arith);
      sag = over-at l bs k 4 h (omega arith);
    }

-- ---- an accepted profile
pub record Accepted (xs : List Float) (tol : Float) (n : ℕ) (before after : List Float) : Type 0 where
  pub chords : List Chord
  pub good : profile_good xs tol ≡ true
  pub are : profile_chords xs tol ≡ Some chords
  pub many : n ≡ length chords
  pub fit : length chords ≤ length before / 5
  pub out : after ≡ over (flat_of chords) before

abbrev told : ℕ → Paper ℕ
told n = answers n

not-many : {A : Type 0} (n : ℕ) (m : Reason) → told n ≡ refuses m → A
not-many n m e = absurd (let z : ◌≡◌ {A = ℕ} 0 1 = cc in omega arith)

same-many : (n m : ℕ) → told n ≡ answers m → n ≡ m
same-many n m e = cc

same_number : (n m : Reason) → ◌≡◌ {A = Paper ℕ} (refuses n) (refuses m) → n ≡ m
same_number n m e = cc

pub accepted : (xs : List Float) (tol : Float) (n : ℕ) (before after : List Float) → Segmented xs tol (Ok n) before after → Accepted xs tol n before after
unfolding segments_of room_for demand count_of written_of
accepted xs tol n bs ws s = go (profile_good xs tol) (profile_chords xs tol) refl refl s.answer s.out
  where
    fits : (l : List Chord) (t : Bool) → profile_good xs tol ≡ true → profile_chords xs tol ≡ Some l → leb (length l) (length bs / 5) ≡ t → told n ≡ count_of (demand t 18 (answers l)) → ws ≡ over (flat_of (written_of (demand t 18 (answers l)))) bs → Accepted xs tol n bs ws
    fits l true g p e a o = record { chords = l; good = g; are = p; many = same-many n (length l) a; fit = leb-true (length l) (length bs / 5) e; out = o }
    fits l false g p e a o = not-many n (only 18) a

    go : (t : Bool) (p : Option (List Chord)) → profile_good xs tol ≡ t → profile_chords xs tol ≡ p → told n ≡ count_of (demand t 17 (room_for (length bs / 5) p)) → ws ≡ over (flat_of (written_of (demand t 17 (room_for (length bs / 5) p)))) bs → Accepted xs tol n bs ws
    go true None g p a o = not-many n (only 18) a
    go true (Some l) g p a o = fits l (leb (length l) (length bs / 5)) g p refl a o
    go false p g q a o = not-many n (only 17) a

-- the profile has a segment, and its points are good
several : (xs : List Float) (tol : Float) → profile_good xs tol ≡ true → (2 ≤ point_count xs) × T (good_to xs (point_count xs))
unfolding profile_good
several xs tol e =
    let p = eqb (3 * point_count xs) (length xs) in
    let q = leb 2 (point_count xs) in
    let r = leb (point_count xs) profile_limit in
    let u = usable tol && le zero64 tol in
    let g = good_to xs (point_count xs) in
    let v = apart_to xs (point_count xs - 1) in
    let h : T (p && q && r && (u && g && v)) = subst T (sym e) tt in
    (leb→le 2 (point_count xs) (and_r p q (and_l (p && q) r (and_l (p && q && r) (u && g && v) h))), and_r u g (and_l (u && g) v (and_r (p && q && r) (u && g && v) h)))

-- ---- the laws
-- the first chord starts at the first point, the last ends at the last, with -0.0 read as +0.0
pub record Ends (xs : List Float) (n : ℕ) (out : List Float) : Type 0 where
  pub first_r : get_or out 0 nan ≡ clean_at xs 0
  pub first-z : get_or out 1 nan ≡ clean_at xs 1
  pub last-r : get_or out (5 * (n - 1) + 2) nan ≡ clean_at xs (3 * (point_count xs - 1))
  pub last-z : get_or out (5 * (n - 1) + 3) nan ≡ clean_at xs (3 * (point_count xs - 1) + 1)

module _ {xs : List Float} {tol : Float} {n : ℕ} {before after : List Float} (s : Segmented xs tol (Ok n) before after) where
  A : Accepted xs tol n before after
  A = accepted xs tol n before after s

  runs : Runs (point_at xs 0) A.chords (point_at xs (point_count xs - 1))
  unfolding profile_chords
  runs = segments-run xs (clean_of tol) (point_count xs - 1) A.chords A.are

  at : (k : ℕ) → k < n → Numbers after k (chord_at A.chords k)
  at k h =
      let e = A.many in
      let g : k < length A.chords = omega (arith, e) in
      subst (λ (v : List Float). Numbers v k (chord_at A.chords k)) (sym A.out) (numbers-at A.chords before k g)

  -- 1 to 1,024 a segment
  pub chords-count : (point_count xs - 1 ≤ n) × (n ≤ 1024 * (point_count xs - 1))
  unfolding profile_chords
  chords-count =
      let c = segments-counted xs (clean_of tol) (point_count xs - 1) A.chords A.are in
      (subst (λ (m : ℕ). point_count xs - 1 ≤ m) (sym A.many) c.0, subst (λ (m : ℕ). m ≤ 1024 * (point_count xs - 1)) (sym A.many) c.1)

  some-chord : 0 < n
  some-chord = let a = (several xs tol A.good).0 in let b = chords-count.0 in omega (arith, a, b)

  -- chord k's end is chord k + 1's start, by equal bits
  pub chords-join : (k : ℕ) → k + 1 < n → (get_or after (5 * (k + 1)) nan ≡ get_or after (5 * k + 2) nan) × (get_or after (5 * (k + 1) + 1) nan ≡ get_or after (5 * k + 3) nan)
  chords-join k h =
      let e = A.many in
      let g : suc k < length A.chords = omega (arith, e) in
      let w : k < n = omega arith in
      let p = at k w in
      let q = at (k + 1) h in
      let j : (chord_at A.chords (k + 1)).a ≡ (chord_at A.chords k).b = ap (λ (m : ℕ). (chord_at A.chords m).a) (add-one k) ∙ runs-next (point_at xs 0) (point_at xs (point_count xs - 1)) A.chords k runs g in
      (q.a_r ∙ ap (λ (v : Point). v.r) j ∙ sym p.b-r, q.a_z ∙ ap (λ (v : Point). v.z) j ∙ sym p.b-z)

  -- the first chord starts at the first point
  first-start : (get_or after 0 nan ≡ clean_at xs 0) × (get_or after 1 nan ≡ clean_at xs 1)
  unfolding point_at
  first-start =
      let e = A.many in
      let z = some-chord in
      let g : 0 < length A.chords = omega (arith, e, z) in
      let p = at 0 z in
      let j = runs-first (point_at xs 0) (point_at xs (point_count xs - 1)) A.chords runs g in
      (p.a_r ∙ ap (λ (v : Point). v.r) j, p.a_z ∙ ap (λ (v : Point). v.z) j)

  -- the last ends at the last point
  last_end : (get_or after (5 * (n - 1) + 2) nan ≡ clean_at xs (3 * (point_count xs - 1))) × (get_or after (5 * (n - 1) + 3) nan ≡ clean_at xs (3 * (point_count xs - 1) + 1))
  unfolding point_at
  last_end =
      let e = A.many in
      let z = some-chord in
      let w : n - 1 < n = omega (arith, z) in
      let g : length A.chords ≡ suc (n - 1) = omega (arith, e, z) in
      let p = at (n - 1) w in
      let j = runs_last (point_at xs 0) (point_at xs (point_count xs - 1)) A.chords (n - 1) runs g in
      (p.b-r ∙ ap (λ (v : Point). v.r) j, p.b-z ∙ ap (λ (v : Point). v.z) j)

  -- where the chords begin and end
  pub chords-ends : Ends xs n after
  chords-ends = record { first_r = first-start.0; first-z = first-start.1; last-r = last_end.0; last-z = last_end.1 }

  module _ (held : HeldList xs) where
    sound : (k : ℕ) → k < n → Sound (clean_of tol) (chord_at A.chords k)
    unfolding profile_chords
    sound k h =
        let e = A.many in
        let g : k < length A.chords = omega (arith, e) in
        let v = several xs tol A.good in
        let two = v.0 in
        let m : point_count xs - 1 + 1 ≤ point_count xs = omega (arith, two) in
        each_at (Sound (clean_of tol)) A.chords k (segments-sound xs held (clean_of tol) (point_count xs) v.1 (point_count xs - 1) A.chords A.are m) g

    -- every sag is finite, at least 0 and not -0.0, and at most the tolerance
    pub chords-within : (k : ℕ) → k < n → NotNegative 42 (get_or after (5 * k + 4) nan) × T (le (get_or after (5 * k + 4) nan) (clean_of tol))
    chords-within k h =
        let c = sound k h in
        let e = sym (at k h).sag in
        (subst (NotNegative 42) e c.sag, subst (λ (x : Float). T (le x (clean_of tol))) e c.fine)

    -- every end is finite, at most 2 ^ 40 in size
    pub chords-finite : (k : ℕ) → k < n → Within binary64 40 (get_or after (5 * k) nan) × Within binary64 40 (get_or after (5 * k + 1) nan) × Within binary64 40 (get_or after (5 * k + 2) nan) × Within binary64 40 (get_or after (5 * k + 3) nan)
    chords-finite k h =
        let c = sound k h in
        let p = at k h in
        (subst (Within binary64 40) (sym p.a_r) c.a.r, subst (Within binary64 40) (sym p.a_z) c.a.z, subst (Within binary64 40) (sym p.b-r) c.b.r, subst (Within binary64 40) (sym p.b-z) c.b.z)

-- ---- one outcome
chopped-same : (p q : Result ℕ Refusal) → paper_of p ≡ paper_of q → p ≡ q
chopped-same (Ok m) (Ok n) e = cc
chopped-same (Ok m) (Err c) e = not-many m (reason_of c) e
chopped-same (Err c) (Ok n) e = not-many n (reason_of c) (sym e)
chopped-same (Err c) (Err d) e = ap (λ (r : Refusal). Err r) (one-reason c d (same_number (reason_of c) (reason_of d) e))

pub segments-once : {xs : List Float} {tol : Float} {p q : (Result ℕ Refusal)} {before after after' : List Float} → Segmented xs tol p before after → Segmented xs tol q before after' → (p ≡ q) × (after ≡ after')
segments-once {p = p} {q = q} s t = (chopped-same p q (s.answer ∙ sym t.answer), s.out ∙ sym t.out)
