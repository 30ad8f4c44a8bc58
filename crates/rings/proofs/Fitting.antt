-- Stores that pass refusal 4's test: no two of their rings share a point, and a store that passes still does with a ring added. Assumes nothing.
use Prim.Native.Nat.{ℕ, zero, suc, ◌+◌, ◌≤◌, ◌<◌}
use native.Mathlib.Omega.{arith}
use native.Mathlib.Nat.{eq-or-lt_of_le}
use mathlib.Core.Path.{◌≡◌, refl, sym, ◌∙◌, ap, subst}
use mathlib.Core.Logic.{inl, inr}
use mathlib.Core.Bool.{Bool, true, false, not, ◌&&◌}
use mathlib.Core.List.{List, [], ◌∷◌, ◌++◌}
use lib.Dec.{T}
use lib.Ieee.{Float, lt, le, is_nan}
use lib.Ieee.Scale.{finite}
use lib.Ieee.Bits.{is_true}
use lib.Ieee.Fits.{and_i, and_l, and_r}
use Rattle.refusals.specs.Paper.{Paper, answers, refuses, onward}
use Rattle.floats.specs.Numbers.{least_of, greatest_of, minus_zero, clean_of}
use Rattle.floats.specs.Each.{Each}
use Rattle.floats.proofs.Lattice.{least-keeps, greatest-keeps}
use Rattle.floats.proofs.Folds.{each_append}
use Rattle.stock.proofs.Count.{no_answer}
use Rattle.rings.specs.declared.Ring.{Ring}
use Rattle.rings.specs.Ring.{within, covers, apart, common, kept, before, behind, inside, outside, clip, left}
use Rattle.rings.specs.Points.{tick, count, Disjoint, Parted, AllParted}
use Rattle.rings.specs.Store.{ring_at, rings_of, ring_fits, apart_all, store_fits, finite_ring}
use Rattle.rings.specs.Remove.{added, added_all}
use Rattle.floats.proofs.Anywhere.{le-chain}
use Rattle.floats.proofs.Bounding.{lt-le, lt-number-l, lt-number-r, finite_number, least_above, greatest-over, least_under, clean-number, clean-unsigned}
use Rattle.floats.proofs.Bools.{so}
use Rattle.rings.proofs.Flat.{rings-next}
use Rattle.rings.proofs.Prefix.{apart-turns, store_fits-snoc, apart_all-snoc}
use Rattle.rings.proofs.Cover.{Full, full-z, full-r, each-kept, apart-parted, meets, each-left-of, added-disjoint}
use Rattle.rings.proofs.Adding.{added-room}

abbrev pub unsigned : Float → Type 0
unsigned x = T (not (minus_zero x))

-- ---- a ring that fits, test by test
pub record Fits (e q : Ring) : Type 0 where
  pub z_low : T (le e.z0 q.z0)
  pub z-full : T (lt q.z0 q.z1)
  pub z_high : T (le q.z1 e.z1)
  pub r_low : T (le e.r0 q.r0)
  pub r-full : T (lt q.r0 q.r1)
  pub r_high : T (le q.r1 e.r1)
  pub u0 : unsigned q.z0
  pub u1 : unsigned q.z1
  pub u2 : unsigned q.r0
  pub u3 : unsigned q.r1

ten : (a b c d e f g h i j : Bool) → T (a && b && c && d && e && f && g && h && i && j) → T a × T b × T c × T d × T e × T f × T g × T h × T i × T j
ten false b c d e f g h i j t = absurd t
ten true false c d e f g h i j t = absurd t
ten true true false d e f g h i j t = absurd t
ten true true true false e f g h i j t = absurd t
ten true true true true false f g h i j t = absurd t
ten true true true true true false g h i j t = absurd t
ten true true true true true true false h i j t = absurd t
ten true true true true true true true false i j t = absurd t
ten true true true true true true true true false j t = absurd t
ten true true true true true true true true true j t = (tt, tt, tt, tt, tt, tt, tt, tt, tt, t)

ten-in : (a b c d e f g h i j : Bool) → T a → T b → T c → T d → T e → T f → T g → T h → T i → T j → T (a && b && c && d && e && f && g && h && i && j)
ten-in true true true true true true true true true true ta tb tc td te tf tg th ti tj = tt
ten-in false b c d e f g h i j ta tb tc td te tf tg th ti tj = absurd ta
ten-in true false c d e f g h i j ta tb tc td te tf tg th ti tj = absurd tb
ten-in true true false d e f g h i j ta tb tc td te tf tg th ti tj = absurd tc
ten-in true true true false e f g h i j ta tb tc td te tf tg th ti tj = absurd td
ten-in true true true true false f g h i j ta tb tc td te tf tg th ti tj = absurd te
ten-in true true true true true false g h i j ta tb tc td te tf tg th ti tj = absurd tf
ten-in true true true true true true false h i j ta tb tc td te tf tg th ti tj = absurd tg
ten-in true true true true true true true false i j ta tb tc td te tf tg th ti tj = absurd th
ten-in true true true true true true true true false j ta tb tc td te tf tg th ti tj = absurd ti
ten-in true true true true true true true true true false ta tb tc td te tf tg th ti tj = absurd tj

pub fits-of : (e q : Ring) → T (ring_fits e q) → Fits e q
unfolding ring_fits
fits-of e q t =
    let k =
    ten (le e.z0 q.z0) (lt q.z0 q.z1) (le q.z1 e.z1) (le e.r0 q.r0) (lt q.r0 q.r1) (le q.r1 e.r1) (not (minus_zero q.z0)) (not (minus_zero q.z1))
    (not (minus_zero q.r0)) (not (minus_zero q.r1)) t in
    record { z_low = k.0; z-full = k.1; z_high = k.2; r_low = k.3; r-full = k.4; r_high = k.5; u0 = k.6; u1 = k.7; u2 = k.8; u3 = k.9 }

of-fits : (e q : Ring) → Fits e q → T (ring_fits e q)
unfolding ring_fits
of-fits e q f =
    ten-in (le e.z0 q.z0) (lt q.z0 q.z1) (le q.z1 e.z1) (le e.r0 q.r0) (lt q.r0 q.r1) (le q.r1 e.r1) (not (minus_zero q.z0)) (not (minus_zero q.z1))
    (not (minus_zero q.r0)) (not (minus_zero q.r1)) f.z_low f.z-full f.z_high f.r_low f.r-full f.r_high f.u0 f.u1 f.u2 f.u3

fits-full : (e q : Ring) → Fits e q → Full q
fits-full e q f = and_i (lt q.z0 q.z1) (lt q.r0 q.r1) f.z-full f.r-full

-- ---- the parts of a ring that fits, about one that fits, fit
fits-parts : (e p k : Ring) → Fits e p → Fits e k → apart p k ≡ false → (Full (before p (common p k)) → Fits e (before p (common p k))) × (Full (behind p (common p k)) → Fits e (behind p (common p k)))
    × (Full (inside p (common p k)) → Fits e (inside p (common p k))) × (Full (outside p (common p k)) → Fits e (outside p (common p k)))
fits-parts e p k a b n =
    let o = common p k in
    let m = meets p k (fits-full e p a) (fits-full e k b) n in
    let z = lt-le o.z0 o.z1 m.0 in
    let r = lt-le o.r0 o.r1 m.1 in
    let gz = (greatest-over p.z0 k.z0 (lt-number-l p.z0 p.z1 a.z-full) (lt-number-l k.z0 k.z1 b.z-full)).0 in
    let lz = (least_under p.z1 k.z1 (lt-number-r p.z0 p.z1 a.z-full) (lt-number-r k.z0 k.z1 b.z-full)).0 in
    let gr = (greatest-over p.r0 k.r0 (lt-number-l p.r0 p.r1 a.r-full) (lt-number-l k.r0 k.r1 b.r-full)).0 in
    let lr = (least_under p.r1 k.r1 (lt-number-r p.r0 p.r1 a.r-full) (lt-number-r k.r0 k.r1 b.r-full)).0 in
    let z0 : T (le e.z0 o.z0) = le-chain e.z0 p.z0 o.z0 a.z_low gz in
    let z1 : T (le o.z1 e.z1) = le-chain o.z1 p.z1 e.z1 lz a.z_high in
    let r0 : T (le e.r0 o.r0) = le-chain e.r0 p.r0 o.r0 a.r_low gr in
    let r1 : T (le o.r1 e.r1) = le-chain o.r1 p.r1 e.r1 lr a.r_high in
    let v0 = greatest-keeps (λ x. unsigned x) {a = p.z0} {b = k.z0} a.u0 b.u0 in
    let v1 = least-keeps (λ x. unsigned x) {a = p.z1} {b = k.z1} a.u1 b.u1 in
    let v2 = greatest-keeps (λ x. unsigned x) {a = p.r0} {b = k.r0} a.u2 b.u2 in
    let v3 = least-keeps (λ x. unsigned x) {a = p.r1} {b = k.r1} a.u3 b.u3 in (
      λ f. record { z_low = a.z_low; z-full = full-z (before p o) f; z_high = le-chain o.z0 o.z1 e.z1 z z1; r_low = a.r_low; r-full = a.r-full; r_high = a.r_high; u0 = a.u0; u1 = v0; u2 = a.u2; u3 = a.u3 },
      λ f. record { z_low = le-chain e.z0 o.z0 o.z1 z0 z; z-full = full-z (behind p o) f; z_high = a.z_high; r_low = a.r_low; r-full = a.r-full; r_high = a.r_high; u0 = v1; u1 = a.u1; u2 = a.u2; u3 = a.u3 },
      λ f. record { z_low = z0; z-full = m.0; z_high = z1; r_low = a.r_low; r-full = full-r (inside p o) f; r_high = le-chain o.r0 o.r1 e.r1 r r1; u0 = v0; u1 = v1; u2 = a.u2; u3 = v2 },
      λ f. record { z_low = z0; z-full = m.0; z_high = z1; r_low = le-chain e.r0 o.r0 o.r1 r0 r; r-full = full-r (outside p o) f; r_high = a.r_high; u0 = v0; u1 = v1; u2 = v3; u3 = a.u3 },
    )

-- ---- a store that passes: each ring fits, and no two share a point
three : (a b c : Bool) → T (a && b && c) → T a × T b × T c
three false b c t = absurd t
three true false c t = absurd t
three true true c t = (tt, tt, t)

apart-each : (l : List Ring) (q : Ring) → T (apart_all l q) → Each (Parted q) l
unfolding apart_all
apart-each [] q t = tt
apart-each (p ∷ l) q t =
    (apart-parted q p (subst T (apart-turns p q) (and_l (apart p q) (apart_all l q) t)), apart-each l q (and_r (apart p q) (apart_all l q) t))

store-each : (e : Ring) (l : List Ring) → T (store_fits e l) → Each (Fits e) l × AllParted l
unfolding store_fits
store-each e [] t = (tt, tt)
store-each e (q ∷ l) t =
    let k = three (ring_fits e q) (apart_all l q) (store_fits e l) t in
    let i = store-each e l k.2 in
    ((fits-of e q k.0, i.0), (apart-each l q k.1, i.1))

each-weaker : {P Q : Ring → Type 0} (l : List Ring) → ((q : Ring) → P q → Q q) → Each P l → Each Q l
each-weaker [] f a = tt
each-weaker (q ∷ l) f a = (f q a.0, each-weaker l f a.1)

parted-disjoint : (l : List Ring) → AllParted l → Disjoint l
unfolding count
parted-disjoint [] d z r = omega arith
parted-disjoint (q ∷ l) d z r = go (covers q z r) (none q l z r d.0) (parted-disjoint l d.1 z r)
  where
    none : (q : Ring) (l : List Ring) (z r : Float) → Each (Parted q) l → T (covers q z r) → count l z r ≡ 0
    none q [] z r a t = refl
    none q (p ∷ l) z r a t = no (covers p z r) (a.0 z r t) (none q l z r a.1 t)
      where
        no : (b : Bool) → (T b → ⊥) → count l z r ≡ 0 → tick b + count l z r ≡ 0
        no true n e = absurd (n tt)
        no false n e = omega arith

    go : (b : Bool) → (T b → count l z r ≡ 0) → count l z r ≤ 1 → tick b + count l z r ≤ 1
    go true f h = omega (arith, f tt)
    go false f h = omega arith

disjoint-parted : (l : List Ring) → Disjoint l → AllParted l
unfolding count
disjoint-parted [] d = tt
disjoint-parted (q ∷ l) d =
    (each q l (λ z r a. let f = ap tick (is_true (covers q z r) a) in omega (arith, d z r)), disjoint-parted l (λ z r. omega (arith, d z r)))
  where
    each : (p : Ring) (l : List Ring) → ((z r : Float) → T (covers p z r) → count l z r ≡ 0) → Each (Parted p) l
    each p [] h = tt
    each p (q ∷ l) h = (λ z r a b. let e : tick (covers q z r) + count l z r ≡ 0 = h z r a in let f = ap tick (is_true (covers q z r) b) in omega arith, each p l (λ z r a. omega (arith, h z r a)))

-- ==== of a store that passes refusal 4's test
module _ (e : Ring) (l : List Ring) (f : store_fits e l ≡ true) where
  -- no ring is empty
  pub store-full : Each Full l
  store-full = each-weaker l (fits-full e) (store-each e l (so f)).0

  -- no two rings share a point
  pub store-parted : AllParted l
  store-parted = (store-each e l (so f)).1

  -- every point is in one ring at most
  pub store-disjoint : Disjoint l
  store-disjoint = parted-disjoint l store-parted

-- the same of the lent numbers: no point is in two of the first n rings
pub lent-parted : (e : Ring) (xs : List Float) (n i j : ℕ) → store_fits e (rings_of n xs) ≡ true → i < j → j < n → Parted (ring_at xs i) (ring_at xs j)
lent-parted e xs n i j f h k =
    apart-parted (ring_at xs i) (ring_at xs j)
    (among j (i) h (and_r (ring_fits e (ring_at xs j)) (apart_all (rings_of j xs) (ring_at xs j)) (and_r (store_fits e (rings_of j xs)) (ring_fits e (ring_at xs j) && apart_all (rings_of j xs) (ring_at xs j))
    (subst T (ap (store_fits e) (rings-next xs j) ∙ store_fits-snoc e (rings_of j xs) (ring_at xs j)) (fewer n (j + 1) (omega arith) (so f))))))
  where
    -- a store that passes does so with fewer rings
    fewer : (n m : ℕ) → m ≤ n → T (store_fits e (rings_of n xs)) → T (store_fits e (rings_of m xs))
    fewer n m h t = go n h t
      where
        go : (n : ℕ) → m ≤ n → T (store_fits e (rings_of n xs)) → T (store_fits e (rings_of m xs))
        go zero h t = let z : 0 ≡ m = omega arith in subst (λ (k : ℕ). T (store_fits e (rings_of k xs))) z t
        go (suc n) h t =
            elim (eq-or-lt_of_le h) [
              | inl p ↦ subst (λ (k : ℕ). T (store_fits e (rings_of k xs))) (sym p) t
              | inr q ↦ go n (omega arith) (and_l (store_fits e (rings_of n xs)) (ring_fits e (ring_at xs n) && apart_all (rings_of n xs) (ring_at xs n)) (unfold rings_of in subst T (store_fits-snoc e (rings_of n xs) (ring_at xs n)) t))
            ]

    -- and each is apart from those before it
    among : (m i : ℕ) → i < m → T (apart_all (rings_of m xs) (ring_at xs j)) → T (apart (ring_at xs i) (ring_at xs j))
    among zero i h t = absurd (omega arith)
    among (suc m) i h t =
        let s : T (apart_all (rings_of m xs) (ring_at xs j) && apart (ring_at xs m) (ring_at xs j)) = (unfold rings_of in subst T (apart_all-snoc (ring_at xs j) (rings_of m xs) (ring_at xs m)) t) in
        elim (eq-or-lt_of_le h) [
          | inl p ↦ (let q : m ≡ i = omega arith in subst (λ (k : ℕ). T (apart (ring_at xs k) (ring_at xs j))) q (and_r (apart_all (rings_of m xs) (ring_at xs j)) (apart (ring_at xs m) (ring_at xs j)) s))
          | inr q ↦ among m i (omega arith) (and_l (apart_all (rings_of m xs) (ring_at xs j)) (apart (ring_at xs m) (ring_at xs j)) s)
        ]

-- ---- rings that are not empty and share no point are apart by their edges
parted-apart : (p k : Ring) → Full p → Full k → Parted p k → T (apart p k)
parted-apart p k fp fk n = go (apart p k) refl
  where
    corner : (a b c d : Float) → T (lt a b) → T (lt c d) → T (lt (greatest_of a c) (least_of b d)) → T (within a b (greatest_of a c)) × T (within c d (greatest_of a c))
    corner a b c d ab cd t =
        let na = lt-number-l a b ab in
        let nc = lt-number-l c d cd in
        let g = greatest_of a c in
        let o = greatest-over a c na nc in
        let u : T (lt g b && lt g d) = subst T (least_above b d (lt-number-r a b ab) (lt-number-r c d cd) g) t in
        (and_i (le a g) (lt g b) o.0 (and_l (lt g b) (lt g d) u), and_i (le c g) (lt g d) o.1 (and_r (lt g b) (lt g d) u))

    go : (t : Bool) → apart p k ≡ t → T (apart p k)
    go true e = so e
    go false e =
        let m = meets p k fp fk e in
        let z = (common p k).z0 in
        let r = (common p k).r0 in
        let a = corner p.z0 p.z1 k.z0 k.z1 (full-z p fp) (full-z k fk) m.0 in
        let b = corner p.r0 p.r1 k.r0 k.r1 (full-r p fp) (full-r k fk) m.1 in
        absurd (n z r (and_i (within p.z0 p.z1 z) (within p.r0 p.r1 r) a.0 b.0) (and_i (within k.z0 k.z1 z) (within k.r0 k.r1 r) a.1 b.1))

store-passes : (e : Ring) (l : List Ring) → Each (Fits e) l → AllParted l → T (store_fits e l)
unfolding store_fits apart_all
store-passes e [] a d = tt
store-passes e (q ∷ l) a d =
    and_i (ring_fits e q && apart_all l q) (store_fits e l) (and_i (ring_fits e q) (apart_all l q) (of-fits e q a.0) (all l a.1 d.0)) (store-passes e l a.1 d.1)
  where
    all : (l : List Ring) → Each (Fits e) l → Each (Parted q) l → T (apart_all l q)
    all [] b p = tt
    all (k ∷ l) b p = and_i (apart k q) (apart_all l q) (parted-apart k q (fits-full e k b.0) (fits-full e q a.0) (λ z r s t. p.0 z r t s)) (all l b.1 p.1)

-- ==== a ring added to a store that passes
-- the extent's edges are numbers, and none is -0.0
pub record Extent (e : Ring) : Type 0 where
  pub n0 : is_nan e.z0 ≡ false
  pub n1 : is_nan e.z1 ≡ false
  pub n2 : is_nan e.r0 ≡ false
  pub n3 : is_nan e.r1 ≡ false
  pub u0 : unsigned e.z0
  pub u1 : unsigned e.z1
  pub u2 : unsigned e.r0
  pub u3 : unsigned e.r1

four-finite : (q : Ring) → finite_ring q ≡ true → T (finite q.z0) × T (finite q.z1) × T (finite q.r0) × T (finite q.r1)
four-finite q f = go (finite q.z0) (finite q.z1) (finite q.r0) (finite q.r1) (so f)
  where
    go : (a b c d : Bool) → T (a && b && c && d) → T a × T b × T c × T d
    go false b c d t = absurd t
    go true false c d t = absurd t
    go true true false d t = absurd t
    go true true true d t = (tt, tt, tt, t)

pub ring-number : (q : Ring) → finite_ring q ≡ true → (is_nan q.z0 ≡ false) × (is_nan q.z1 ≡ false) × (is_nan q.r0 ≡ false) × (is_nan q.r1 ≡ false)
ring-number q f = let t = four-finite q f in (finite_number q.z0 t.0, finite_number q.z1 t.1, finite_number q.r0 t.2, finite_number q.r1 t.3)

pub clean : (y : Float) → unsigned (clean_of y)
clean y = subst (λ (b : Bool). T (not b)) (sym (clean-unsigned y)) tt

-- a finite ring, clipped, fits if it is not empty
clip-fits : (e q : Ring) → Extent e → finite_ring q ≡ true → Full (clip e q) → Fits e (clip e q)
unfolding clip
clip-fits e q x f h =
    let n = ring-number q f in
    let c = clip e q in
    record {
      z_low = (greatest-over (clean_of q.z0) e.z0 (clean-number q.z0 n.0) x.n0).1;
      z-full = full-z c h;
      z_high = (least_under (clean_of q.z1) e.z1 (clean-number q.z1 n.1) x.n1).1;
      r_low = (greatest-over (clean_of q.r0) e.r0 (clean-number q.r0 n.2) x.n2).1;
      r-full = full-r c h;
      r_high = (least_under (clean_of q.r1) e.r1 (clean-number q.r1 n.3) x.n3).1;
      u0 = greatest-keeps (λ y. unsigned y) (clean q.z0) x.u0;
      u1 = least-keeps (λ y. unsigned y) (clean q.z1) x.u1;
      u2 = greatest-keeps (λ y. unsigned y) (clean q.r0) x.u2;
      u3 = least-keeps (λ y. unsigned y) (clean q.r1) x.u3;
    }

pub added-fits : (e : Ring) (ks : List Ring) (q : Ring) → Extent e → finite_ring q ≡ true → store_fits e ks ≡ true → store_fits e (ks ++ left ks (clip e q)) ≡ true
unfolding left
added-fits e ks q x f s =
    let c = clip e q in
    let a = store-each e ks (so s) in
    let b = each-left-of (Fits e) (fits-full e) (fits-parts e) (kept c) ks (each-kept (Fits e) c (clip-fits e q x f)) a.0 in
    is_true (store_fits e (ks ++ left ks c)) (store-passes e (ks ++ left ks c) (each_append (Fits e) ks (left ks c) a.0 b) (disjoint-parted (ks ++ left ks c) (added-disjoint ks c (store-full e ks s) (store-disjoint e ks s))))

-- and a list of rings
pub all-added-fit : (e : Ring) (room : ℕ) (ks qs l : List Ring) → Extent e → Each (λ q. finite_ring q ≡ true) qs → store_fits e ks ≡ true → added_all e room ks qs ≡ answers l → store_fits e l ≡ true
unfolding added_all onward
all-added-fit e room ks [] l x f s a = let b : ks ≡ l = cc in subst (λ (m : List Ring). store_fits e m ≡ true) b s
all-added-fit e room ks (q ∷ qs) l x f s a = go (added room ks (clip e q)) refl a (λ m. all-added-fit e room m qs l x f.1)
  where
    go : (p : Paper (List Ring)) → added room ks (clip e q) ≡ p → onward p (λ m. added_all e room m qs) ≡ answers l → ((m : List Ring) → store_fits e m ≡ true → added_all e room m qs ≡ answers l → store_fits e l ≡ true) → store_fits e l ≡ true
    go (answers m) b c k = k m (subst (λ (y : List Ring). store_fits e y ≡ true) (sym (added-room room ks (clip e q) m b).0) (added-fits e ks q x f.0 s)) c
    go (refuses n) b c k = absurd (no_answer n l c)
