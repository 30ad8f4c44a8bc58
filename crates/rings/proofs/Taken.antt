-- What the promises of `remove_ring` and `remove_rings` give a caller: the store passes refusal 4's test again, and what it covers. Assumes nothing.
use Prim.Native.Nat.{ℕ, ◌+◌, ◌/◌, ◌%◌, ◌≤◌}
use native.Mathlib.Omega.{arith}
use mathlib.Core.Path.{◌≡◌, refl, sym, ◌∙◌, ap, ap₂, subst}
use mathlib.Core.Bool.{Bool, true, false, ◌&&◌, ◌||◌}
use mathlib.Core.List.{List, [], ◌∷◌, map, Permᴰ}
use lib.Dec.{T, leb, ltb, eqb}
use lib.ListN.{length}
use lib.Ieee.{Float, lt, le, neg, is_nan, of_bits}
use lib.Ieee.Scale.{finite}
use lib.Ieee.Bits.{is_true}
use lib.Ieee.Fits.{and_i, and_l, and_r}
use borrow.Author.Tests.{le-leb}
use Rattle.refusals.specs.Limits.{last_generation}
use Rattle.refusals.specs.Paper.{Paper, answers, refuses, demand, demand_at, onward}
use Rattle.floats.specs.Pick.{pick}
use Rattle.floats.specs.Numbers.{zero64, million, usable, minus_zero}
use Rattle.floats.specs.Each.{Each}
use Rattle.stock.specs.declared.TurnStockSpec.{TurnStockSpec}
use Rattle.stock.specs.Spec.{clean_spec, spec_good, cells_of}
use Rattle.stock.proofs.Count.{same_answer, no_answer, demanded, demanded_at, checked}
use Rattle.rings.specs.declared.Ring.{Ring}
use Rattle.rings.specs.Ring.{covers, covered, filled, clip}
use Rattle.rings.specs.Store.{bar_ring, rings_of, room_for_rings, store_as, ring_fits, store_fits, count_fits, finite_ring, all_good, rings_good}
use Rattle.rings.specs.Remove.{added, added_all, remove_all_in, remove_rings, RingStore, stored_next, remove_in, remove_ring}
use Rattle.floats.proofs.Anywhere.{le-chain}
use Rattle.floats.proofs.Bounding.{lt-le, lt-number-l, lt-number-r, finite-between}
use Rattle.floats.proofs.Bools.{so}
use Rattle.rings.proofs.Flat.{rings-stored, length-stored, length-rings}
use Rattle.rings.proofs.Adding.{added-room, added_none}
use Rattle.rings.proofs.Removing.{fits-within}
use Rattle.rings.proofs.Cover.{added-covers}
use Rattle.rings.proofs.Fitting.{Extent, fits-of, clean, store-full, added-fits, all-added-fit}
use Rattle.rings.proofs.Covering.{store_covers, either_order}

-- ---- the extent of a checked stock
-- of nine tests that hold, the sixth and the eighth
nine : (a b c d e f g h i : Bool) → T (a && b && c && d && e && f && g && h && i) → T f × T h
nine a b c d e f g h i t =
    let x = and_l (a && b && c && d && e && f && g && h) i t in
    (and_r (a && b && c && d && e) f (and_l (a && b && c && d && e && f) g (and_l (a && b && c && d && e && f && g) h x)), and_r (a && b && c && d && e && f && g) h x)

pub good-extent : (spec : TurnStockSpec) → spec_good (clean_spec spec) ≡ true → Extent (bar_ring (clean_spec spec))
unfolding spec_good clean_spec is_nan minus_zero of_bits
good-extent spec f =
    let s = clean_spec spec in
    let t =
    nine (usable s.z_min_mm) (usable s.z_max_mm) (usable s.outer_radius_mm) (usable s.bore_radius_mm) (usable s.cell_mm) (lt s.z_min_mm s.z_max_mm)
    (le zero64 s.bore_radius_mm) (lt s.bore_radius_mm s.outer_radius_mm) (lt zero64 s.cell_mm) (so f) in
    record {
      n0 = lt-number-l s.z_min_mm s.z_max_mm t.0;
      n1 = lt-number-r s.z_min_mm s.z_max_mm t.0;
      n2 = refl;
      n3 = lt-number-r s.bore_radius_mm s.outer_radius_mm t.1;
      u0 = clean spec.z_min_mm;
      u1 = clean spec.z_max_mm;
      u2 = tt;
      u3 = clean spec.outer_radius_mm;
    }

-- a stored ring that fits is finite
pub fits-finite : (spec : TurnStockSpec) (q : Ring) → spec_good (clean_spec spec) ≡ true → ring_fits (bar_ring (clean_spec spec)) q ≡ true → finite_ring q ≡ true
unfolding spec_good of_bits neg
fits-finite spec q g f =
    let s = clean_spec spec in
    let e = bar_ring s in
    let k = fits-of e q (so f) in
    let t =
    first (usable s.z_min_mm) (usable s.z_max_mm) (usable s.outer_radius_mm) (usable s.bore_radius_mm) (usable s.cell_mm) (lt s.z_min_mm s.z_max_mm)
    (le zero64 s.bore_radius_mm) (lt s.bore_radius_mm s.outer_radius_mm) (lt zero64 s.cell_mm) (so g) in
    let z0 = all s.z_min_mm t.0 in
    let z1 = all s.z_max_mm t.1 in
    let r1 = all s.outer_radius_mm t.2 in
    let zs = lt-le q.z0 q.z1 k.z-full in
    let rs = lt-le q.r0 q.r1 k.r-full in
    is_true (finite_ring q)
    (and_i (finite q.z0 && finite q.z1 && finite q.r0) (finite q.r1)
    (and_i (finite q.z0 && finite q.z1) (finite q.r0)
    (and_i (finite q.z0) (finite q.z1) (finite-between e.z0 q.z0 e.z1 z0 z1 k.z_low (le-chain q.z0 q.z1 e.z1 zs k.z_high))
    (finite-between e.z0 q.z1 e.z1 z0 z1 (le-chain e.z0 q.z0 q.z1 k.z_low zs) k.z_high))
    (finite-between e.r0 q.r0 e.r1 tt r1 k.r_low (le-chain q.r0 q.r1 e.r1 rs k.r_high)))
    (finite-between e.r0 q.r1 e.r1 tt r1 (le-chain e.r0 q.r0 q.r1 k.r_low rs) k.r_high))
  where
    first : (a b c d e f g h i : Bool) → T (a && b && c && d && e && f && g && h && i) → T a × T b × T c
    first false b c d e f g h i t = absurd t
    first true false c d e f g h i t = absurd t
    first true true false d e f g h i t = absurd t
    first true true true d e f g h i t = (tt, tt, tt)

    all : (x : Float) → T (usable x) → T (finite x)
    all x t = finite-between (neg million) x million tt tt (and_l (le (neg million) x) (le x million) t) (and_r (le (neg million) x) (le x million) t)

-- ---- one ring
-- what an accepted ring says of the rule
pub record RingTaken (spec : TurnStockSpec) (xs : List Float) (n g : ℕ) (q : Ring) (s : RingStore) : Type 0 where
  pub good : spec_good (clean_spec spec) ≡ true
  pub fits : count_fits (bar_ring (clean_spec spec)) xs n ≡ true
  pub finite : finite_ring q ≡ true
  pub rule : added (room_for_rings (length xs)) (rings_of n xs) (clip (bar_ring (clean_spec spec)) q) ≡ answers s.rings
  pub rises : s.generation ≡ pick (filled (clip (bar_ring (clean_spec spec)) q)) (g + 1) g

pub ring-taken : (spec : TurnStockSpec) (xs : List Float) (n g : ℕ) (q : Ring) (s : RingStore) → remove_ring spec xs n g q ≡ answers s → RingTaken spec xs n g q s
unfolding remove_ring remove_in stored_next onward pick
ring-taken spec xs n g q s h = go (cells_of spec) refl h
  where
    e : Ring
    e = bar_ring (clean_spec spec)

    c : Ring
    c = clip (bar_ring (clean_spec spec)) q

    room : ℕ
    room = room_for_rings (length xs)

    ks : List Ring
    ks = rings_of n xs

    last : (t : Bool) (p : Paper (List Ring)) → filled c ≡ t → added room ks c ≡ p → (a : spec_good (clean_spec spec) ≡ true) → (b : count_fits e xs n ≡ true) → (d : finite_ring q ≡ true)
        → pick t (demand (ltb g last_generation) 12 (onward p (λ l. answers (record { rings = l; generation = g + 1 })))) (answers (record { rings = ks; generation = g })) ≡ answers s → RingTaken spec xs n g q s
    last false p f u a b d k =
        let v : ◌≡◌ {A = RingStore} (record { rings = ks; generation = g }) s = same_answer k in
        let few : length ks ≤ room = (let m = length-rings n xs in let w = fits-within e xs n b in omega arith) in
        record {
          good = a;
          fits = b;
          finite = d;
          rule = added_none room ks c few f ∙ ap (λ (y : RingStore). answers y.rings) v;
          rises = sym (ap (λ (y : RingStore). y.generation) v) ∙ sym (ap (λ (t : Bool). pick t (g + 1) g) f);
        }
    last true (answers l) f u a b d k =
        let v : ◌≡◌ {A = RingStore} (record { rings = l; generation = g + 1 }) s = same_answer (demanded (ltb g last_generation) 12 (answers (record { rings = l; generation = g + 1 })) s k).1 in
        record {
          good = a;
          fits = b;
          finite = d;
          rule = u ∙ ap (λ (y : RingStore). answers y.rings) v;
          rises = sym (ap (λ (y : RingStore). y.generation) v) ∙ sym (ap (λ (t : Bool). pick t (g + 1) g) f);
        }
    last true (refuses m) f u a b d k = absurd (no_answer m s (demanded (ltb g last_generation) 12 (refuses m) s k).1)

    go : (p : Paper ℕ) → cells_of spec ≡ p → onward p (λ _. remove_in e xs n g q) ≡ answers s → RingTaken spec xs n g q s
    go (refuses m) f k = absurd (no_answer m s k)
    go (answers m) f k =
        let kept = pick (filled c) (stored_next room ks g c) (answers (record { rings = ks; generation = g })) in
        let d4 = demanded (count_fits e xs n) 4 (demand_at (finite_ring q) 10 0 kept) s k in
        let d10 = demanded_at (finite_ring q) 10 0 kept s d4.1 in
        last (filled c) (added room ks c) refl refl (checked spec m f).good d4.0 d10.0 d10.1

-- the test of refusal 4 of a store, from that of its rings
stored-passes : (e : Ring) (xs : List Float) (l : List Ring) → length l ≤ room_for_rings (length xs) → store_fits e l ≡ true → count_fits e (store_as xs l) (length l) ≡ true
unfolding count_fits
stored-passes e xs l h f =
    let m : length (store_as xs l) ≡ length xs = length-stored xs l (omega arith) in
    ap₂ (λ (s t : Bool). s && t) (ap (λ (k : ℕ). leb (length l) (room_for_rings k)) m ∙ le-leb (length l) (room_for_rings (length xs)) h) (ap (store_fits e) (rings-stored xs l) ∙ f)

-- the rings of lent numbers that pass refusal 4's test
pub rings-pass : (e : Ring) (xs : List Float) (n : ℕ) → count_fits e xs n ≡ true → store_fits e (rings_of n xs) ≡ true
unfolding count_fits
rings-pass e xs n f = is_true (store_fits e (rings_of n xs)) (and_r (leb n (room_for_rings (length xs))) (store_fits e (rings_of n xs)) (so f))

module _ (spec : TurnStockSpec) (xs : List Float) (n g : ℕ) (q : Ring) (s : RingStore) (h : remove_ring spec xs n g q ≡ answers s) where
  -- after an accepted ring the lent numbers pass refusal 4's test again
  pub ring-passes : count_fits (bar_ring (clean_spec spec)) (store_as xs s.rings) (length s.rings) ≡ true
  ring-passes =
      let e = bar_ring (clean_spec spec) in
      let t = ring-taken spec xs n g q s h in
      let a = added-room (room_for_rings (length xs)) (rings_of n xs) (clip e q) s.rings t.rule in
      stored-passes e xs s.rings a.1
      (subst (λ (l : List Ring). store_fits e l ≡ true) (sym a.0) (added-fits e (rings_of n xs) q (good-extent spec t.good) t.finite (rings-pass e xs n t.fits)))

  -- the store covers what it covered and what the clipped ring covers, and nothing else
  pub ring-covers : (z r : Float) → covered s.rings z r ≡ (covered (rings_of n xs) z r || covers (clip (bar_ring (clean_spec spec)) q) z r)
  ring-covers z r =
      let e = bar_ring (clean_spec spec) in
      let t = ring-taken spec xs n g q s h in
      let a = added-room (room_for_rings (length xs)) (rings_of n xs) (clip e q) s.rings t.rule in
      ap (λ (l : List Ring). covered l z r) a.0 ∙ added-covers (rings_of n xs) (clip e q) (store-full e (rings_of n xs) (rings-pass e xs n t.fits)) z r

-- ---- a list of rings
good-finite : (l : List Ring) → T (all_good l) → Each (λ q. finite_ring q ≡ true) l
unfolding all_good
good-finite [] t = tt
good-finite (q ∷ l) t =
    (is_true (finite_ring q) (and_l (finite_ring q) (filled q) (and_l (finite_ring q && filled q) (all_good l) t)), good-finite l (and_r (finite_ring q && filled q) (all_good l) t))

lent-finite : (news : List Float) → rings_good news ≡ true → Each (λ q. finite_ring q ≡ true) (rings_of (length news / 4) news)
unfolding rings_good
lent-finite news f = good-finite (rings_of (length news / 4) news) (and_r (eqb (length news % 4) 0) (all_good (rings_of (length news / 4) news)) (so f))

-- no more rings than the room
pub all_room : (e : Ring) (room : ℕ) (ks qs l : List Ring) → length ks ≤ room → added_all e room ks qs ≡ answers l → length l ≤ room
unfolding added_all onward
all_room e room ks [] l h a = let b : ks ≡ l = same_answer a in subst (λ (m : List Ring). length m ≤ room) b h
all_room e room ks (q ∷ qs) l h a = go (added room ks (clip e q)) refl a (λ m. all_room e room m qs l)
  where
    go : (p : Paper (List Ring)) → added room ks (clip e q) ≡ p → onward p (λ m. added_all e room m qs) ≡ answers l → ((m : List Ring) → length m ≤ room → added_all e room m qs ≡ answers l → length l ≤ room) → length l ≤ room
    go (answers m) b c k = k m (added-room room ks (clip e q) m b).1 c
    go (refuses n) b c k = absurd (no_answer n l c)

module _ (spec : TurnStockSpec) (xs : List Float) (n : ℕ) (f : count_fits (bar_ring (clean_spec spec)) xs n ≡ true) where
  -- what an accepted list says of the rule
  rings-taken : (news : List Float) (l : List Ring) → remove_rings spec xs n news ≡ answers l → added_all (bar_ring (clean_spec spec)) (room_for_rings (length xs)) (rings_of n xs) (rings_of (length news / 4) news) ≡ answers l
  unfolding remove_rings remove_all_in
  rings-taken news l h =
      (demanded (leb n (room_for_rings (length xs))) 4 (added_all (bar_ring (clean_spec spec)) (room_for_rings (length xs)) (rings_of n xs) (rings_of (length news / 4) news)) l h).1

  -- after an accepted list of good rings the lent numbers pass refusal 4's test again
  pub rings-pass-again : (news : List Float) (l : List Ring) → spec_good (clean_spec spec) ≡ true → rings_good news ≡ true → remove_rings spec xs n news ≡ answers l
      → count_fits (bar_ring (clean_spec spec)) (store_as xs l) (length l) ≡ true
  rings-pass-again news l g o h =
      let e = bar_ring (clean_spec spec) in
      let a = rings-taken news l h in
      let few : length (rings_of n xs) ≤ room_for_rings (length xs) = (let m = length-rings n xs in let w = fits-within e xs n f in omega arith) in
      stored-passes e xs l (all_room e (room_for_rings (length xs)) (rings_of n xs) (rings_of (length news / 4) news) l few a)
      (all-added-fit e (room_for_rings (length xs)) (rings_of n xs) (rings_of (length news / 4) news) l (good-extent spec g) (lent-finite news o) (rings-pass e xs n f) a)

  -- the store covers what it covered and what the clipped rings cover, and nothing else
  pub rings-cover : (news : List Float) (l : List Ring) → remove_rings spec xs n news ≡ answers l → (z r : Float)
      → covered l z r ≡ (covered (rings_of n xs) z r || covered (map (clip (bar_ring (clean_spec spec))) (rings_of (length news / 4) news)) z r)
  rings-cover news l h z r =
      store_covers (bar_ring (clean_spec spec)) (rings_of n xs) (rings-pass (bar_ring (clean_spec spec)) xs n f) (room_for_rings (length xs)) (rings_of (length news / 4) news) l (rings-taken news l h) z r

  -- two orders of the same rings, both accepted, cover the same points
  pub rings-either-order : (news news' : List Float) (l l' : List Ring) → Permᴰ (rings_of (length news / 4) news) (rings_of (length news' / 4) news') → remove_rings spec xs n news ≡ answers l
      → remove_rings spec xs n news' ≡ answers l' → (z r : Float) → covered l z r ≡ covered l' z r
  rings-either-order news news' l l' d h h' z r =
      either_order (bar_ring (clean_spec spec)) (rings_of n xs) (rings-pass (bar_ring (clean_spec spec)) xs n f) (room_for_rings (length xs)) (room_for_rings (length xs)) (rings_of (length news / 4) news) (rings_of (length news' / 4) news') l l' d
      (rings-taken news l h) (rings-taken news' l' h') z r
