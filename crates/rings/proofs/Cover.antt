-- What the pieces left of a ring cover, of any points: those that the clipped ring covers and no stored ring does, each once. Assumes nothing.
use Prim.Native.Nat.{ℕ, ◌+◌, ◌≤◌}
use native.Mathlib.Omega.{arith}
use mathlib.Core.Path.{◌≡◌, refl, sym, ◌∙◌, ap, ap₂}
use mathlib.Core.Logic.{⊎_elim}
use mathlib.Core.Bool.{Bool, true, false, not, ◌&&◌, ◌||◌, cond, true≢false, not-not}
use mathlib.Core.List.{List, [], ◌∷◌, ◌++◌}
use lib.Dec.{T, ltb}
use lib.Ieee.{Float, nan, lt, le, is_nan, inf, fin}
use lib.Ieee.Bits.{is_true}
use lib.Ieee.Fits.{and_i, and_l, and_r}
use borrow.Author.Tests.{lt-ltb, ltb-false}
use Rattle.floats.specs.Pick.{pick}
use Rattle.floats.specs.Numbers.{least_of, greatest_of}
use Rattle.floats.specs.Each.{Each}
use Rattle.floats.proofs.Folds.{each_append}
use Rattle.rings.specs.declared.Ring.{Ring}
use Rattle.rings.specs.Ring.{within, covers, covered, filled, apart, common, kept, before, behind, inside, outside, around, split, subtract, subtract_all, left}
use Rattle.rings.specs.Points.{tick, count, Disjoint, Parted}
use Rattle.floats.proofs.Anywhere.{lt-flips, le-chain}
use Rattle.floats.proofs.Bounding.{lt-le, lt-number-l, lt-number-r, not-le, clash, le-lt-chain, number?, greatest-number, least-number, greatest-below, least_above, greatest-over, least_under, between}
use Rattle.floats.proofs.Bools.{so, to-false}

-- no NaN lies between edges
within-nan : (a b : Float) → within a b nan ≡ false
unfolding le
within-nan nan b = refl
within-nan (inf s) b = refl
within-nan (fin s m e) b = refl

-- ---- rings that are not empty
abbrev pub Full : Ring → Type 0
Full q = T (filled q)

pub full-z : (q : Ring) → Full q → T (lt q.z0 q.z1)
full-z q t = and_l (lt q.z0 q.z1) (lt q.r0 q.r1) t

pub full-r : (q : Ring) → Full q → T (lt q.r0 q.r1)
full-r q t = and_r (lt q.z0 q.z1) (lt q.r0 q.r1) t

-- what is kept has a property that the ring has where it is not empty
pub each-kept : (P : Ring → Type 0) (q : Ring) → (Full q → P q) → Each P (kept q)
unfolding kept pick
each-kept P q f = go (filled q) refl
  where
    go : (t : Bool) → filled q ≡ t → Each P (pick t (q ∷ []) [])
    go true e = (f (so e), tt)
    go false e = tt

-- ---- how many rings cover a point
pub count-append : (s t : List Ring) (z r : Float) → count (s ++ t) z r ≡ count s z r + count t z r
unfolding count
count-append [] t z r = omega arith
count-append (q ∷ s) t z r = omega (arith, count-append s t z r)

pub covered-append : (s t : List Ring) (z r : Float) → covered (s ++ t) z r ≡ (covered s z r || covered t z r)
unfolding covered
covered-append [] t z r = refl
covered-append (q ∷ s) t z r = go (covers q z r) (covered-append s t z r)
  where
    go : (b : Bool) → covered (s ++ t) z r ≡ (covered s z r || covered t z r) → (b || covered (s ++ t) z r) ≡ (b || covered s z r || covered t z r)
    go true e = refl
    go false e = e

pub covered-count : (l : List Ring) (z r : Float) → covered l z r ≡ ltb 0 (count l z r)
unfolding covered count
covered-count [] z r = refl
covered-count (q ∷ l) z r = go (covers q z r) (covered-count l z r)
  where
    go : (b : Bool) → covered l z r ≡ ltb 0 (count l z r) → (b || covered l z r) ≡ ltb 0 (tick b + count l z r)
    go true ih = sym (lt-ltb 0 (1 + count l z r) (omega arith))
    go false ih = let e : count l z r ≡ 0 + count l z r = omega arith in ih ∙ ap (λ (n : ℕ). ltb 0 n) e

-- ---- one axis. Of the parts below, within and above the overlap of p and k, a point of p is in one, and it is in k exactly in the middle one.
data Zone : (a b c p k : Bool) → Type 0 where
  out₀ : Zone false false false false false
  out₁ : Zone false false false false true
  lower : Zone true false false true false
  mid : Zone false true false true true
  upper : Zone false false true true false

zone_of : (p₀ k₀ p₁ k₁ : Bool) → T (p₀ && k₀ || p₁ && k₁) → Zone (p₀ && not (p₀ && k₀)) ((p₀ && k₀) && (p₁ && k₁)) (not (p₁ && k₁) && p₁) (p₀ && p₁) (k₀ && k₁)
zone_of true true true true t = mid
zone_of true true true false t = upper
zone_of true true false true t = out₁
zone_of true true false false t = out₀
zone_of true false true true t = lower
zone_of true false true false t = absurd t
zone_of true false false true t = absurd t
zone_of true false false false t = absurd t
zone_of false true true true t = out₁
zone_of false true true false t = absurd t
zone_of false true false true t = absurd t
zone_of false true false false t = absurd t
zone_of false false true true t = out₀
zone_of false false true false t = absurd t
zone_of false false false true t = absurd t
zone_of false false false false t = absurd t

-- the four parts of a piece, by where a point is on each axis
four : {a b c p k a' b' c' p' k' : Bool} → Zone a b c p k → Zone a' b' c' p' k'
    → tick (a && p') + tick (c && p') + tick (b && a') + tick (b && c') ≡ cond (k && k') 0 (tick (p && p'))
four out₀ out₀ = refl
four out₀ out₁ = refl
four out₀ lower = refl
four out₀ mid = refl
four out₀ upper = refl
four out₁ out₀ = refl
four out₁ out₁ = refl
four out₁ lower = refl
four out₁ mid = refl
four out₁ upper = refl
four lower out₀ = refl
four lower out₁ = refl
four lower lower = refl
four lower mid = refl
four lower upper = refl
four mid out₀ = refl
four mid out₁ = refl
four mid lower = refl
four mid mid = refl
four mid upper = refl
four upper out₀ = refl
four upper out₁ = refl
four upper lower = refl
four upper mid = refl
four upper upper = refl

-- the same of tests that are only known to be equal to those
zone-by : (p₀ k₀ p₁ k₁ az zb za bz : Bool) → az ≡ (p₀ && k₀) → zb ≡ (p₁ && k₁) → za ≡ not az → bz ≡ not zb → T (az || zb)
    → Zone (p₀ && za) (az && zb) (bz && p₁) (p₀ && p₁) (k₀ && k₁)
zone-by p₀ k₀ p₁ k₁ az zb za bz ea eb fa fb t = rw (fa, fb, ea, eb) (zone_of p₀ k₀ p₁ k₁ (rw (ea, eb) at t))

module _ (p₀ p₁ k₀ k₁ z : Float) (np₀ : is_nan p₀ ≡ false) (np₁ : is_nan p₁ ≡ false) (nk₀ : is_nan k₀ ≡ false) (nk₁ : is_nan k₁ ≡ false) (t : T (lt (greatest_of p₀ k₀) (least_of p₁ k₁))) where
  zone : Zone (within p₀ (greatest_of p₀ k₀) z) (within (greatest_of p₀ k₀) (least_of p₁ k₁) z) (within (least_of p₁ k₁) p₁ z) (within p₀ p₁ z) (within k₀ k₁ z)
  zone = ⊎_elim nope num (number? z)
    where
      a : Float
      a = greatest_of p₀ k₀

      b : Float
      b = least_of p₁ k₁

      na : is_nan a ≡ false
      na = greatest-number p₀ k₀ np₀ nk₀

      nb : is_nan b ≡ false
      nb = least-number p₁ k₁ np₁ nk₁

      Goal : Type 0
      Goal = Zone (within p₀ a z) (within a b z) (within b p₁ z) (within p₀ p₁ z) (within k₀ k₁ z)

      nope : z ≡ nan → Goal
      nope e = rw e (simp within-nan out₀)

      some-side : (x : Bool) → le a z ≡ x → is_nan z ≡ false → T (x || lt z b)
      some-side true e nz = tt
      some-side false e nz = le-lt-chain z a b (lt-le z a (not-le a z na nz e)) t

      num : is_nan z ≡ false → Goal
      num nz =
          zone-by (le p₀ z) (le k₀ z) (lt z p₁) (lt z k₁) (le a z) (lt z b) (lt z a) (le b z) (greatest-below p₀ k₀ np₀ nk₀ z) (least_above p₁ k₁ np₁ nk₁ z)
          (lt-flips z a nz na) (sym (not-not (le b z)) ∙ ap not (sym (lt-flips z b nz nb))) (some-side (le a z) refl nz)

-- ---- a ring that covers a point is not empty
covers-full : (q : Ring) (z r : Float) → T (covers q z r) → Full q
covers-full q z r t =
    let h = and_l (within q.z0 q.z1 z) (within q.r0 q.r1 r) t in
    let k = and_r (within q.z0 q.z1 z) (within q.r0 q.r1 r) t in
    and_i (lt q.z0 q.z1) (lt q.r0 q.r1) (le-lt-chain q.z0 z q.z1 (and_l (le q.z0 z) (lt z q.z1) h) (and_r (le q.z0 z) (lt z q.z1) h))
    (le-lt-chain q.r0 r q.r1 (and_l (le q.r0 r) (lt r q.r1) k) (and_r (le q.r0 r) (lt r q.r1) k))

count_kept : (q : Ring) (z r : Float) → count (kept q) z r ≡ tick (covers q z r)
unfolding count kept pick
count_kept q z r = go (filled q) refl
  where
    go : (t : Bool) → filled q ≡ t → count (pick t (q ∷ []) []) z r ≡ tick (covers q z r)
    go true e = omega arith
    go false e = sym (ap tick (to-false (covers q z r) (λ h. true≢false (sym (is_true (filled q) (covers-full q z r h)) ∙ e))))

-- ---- two rings
-- no point is in two rings that are apart
pub apart-parted : (p k : Ring) → T (apart p k) → Parted p k
apart-parted p k t z r a b =
    let az = and_l (within p.z0 p.z1 z) (within p.r0 p.r1 r) a in
    let ar = and_r (within p.z0 p.z1 z) (within p.r0 p.r1 r) a in
    let bz = and_l (within k.z0 k.z1 z) (within k.r0 k.r1 r) b in
    let br = and_r (within k.z0 k.z1 z) (within k.r0 k.r1 r) b in
    or-four (le p.z1 k.z0) (le k.z1 p.z0) (le p.r1 k.r0) (le k.r1 p.r0) t
    (ends p.z0 p.z1 k.z0 k.z1 z az bz)
    (ends k.z0 k.z1 p.z0 p.z1 z bz az)
    (ends p.r0 p.r1 k.r0 k.r1 r ar br)
    (ends k.r0 k.r1 p.r0 p.r1 r br ar)
  where
    or-four : (a b c d : Bool) → T (a || b || c || d) → (T a → ⊥) → (T b → ⊥) → (T c → ⊥) → (T d → ⊥) → ⊥
    or-four true b c d t f g h k = f tt
    or-four false true c d t f g h k = g tt
    or-four false false true d t f g h k = h tt
    or-four false false false d t f g h k = k t

    -- where one ends before the other starts
    ends : (a b c d x : Float) → T (within a b x) → T (within c d x) → T (le b c) → ⊥
    ends a b c d x s t l = clash x b (and_r (le a x) (lt x b) s) (le-chain b c x l (and_l (le c x) (lt x d) t))

or-none : (a b c d : Bool) → (a || b || c || d) ≡ false → (a ≡ false) × (b ≡ false) × (c ≡ false) × (d ≡ false)
or-none true b c d e = absurd (true≢false e)
or-none false true c d e = absurd (true≢false e)
or-none false false true d e = absurd (true≢false e)
or-none false false false d e = (refl, refl, refl, e)

-- two that are not apart have something in common, if neither is empty
pub meets : (p k : Ring) → Full p → Full k → apart p k ≡ false → T (lt (common p k).z0 (common p k).z1) × T (lt (common p k).r0 (common p k).r1)
meets p k fp fk e =
    let o = or-none (le p.z1 k.z0) (le k.z1 p.z0) (le p.r1 k.r0) (le k.r1 p.r0) e in (
      axis p.z0 p.z1 k.z0 k.z1 (full-z p fp) (full-z k fk) o.0 o.1,
      axis p.r0 p.r1 k.r0 k.r1 (full-r p fp) (full-r k fk) o.2 o.3,
    )
  where
    axis : (a b c d : Float) → T (lt a b) → T (lt c d) → le b c ≡ false → le d a ≡ false → T (lt (greatest_of a c) (least_of b d))
    axis a b c d ab cd bc da =
        between a c b d ab (not-le d a (lt-number-r c d cd) (lt-number-l a b ab) da) (not-le b c (lt-number-r a b ab) (lt-number-l c d cd) bc) cd

-- apart is 000's test: the least of the ends is at or before the greatest of the starts, in z or in r
pub apart-as-000 : (p k : Ring) → Full p → Full k → apart p k ≡ (le (common p k).z1 (common p k).z0 || le (common p k).r1 (common p k).r0)
apart-as-000 p k fp fk = go (apart p k) refl
  where
    o : Ring
    o = common p k

    axis : (a b c d : Float) → T (lt a b) → T (lt c d) → (T (le b c) → T (le (least_of b d) (greatest_of a c))) × (T (le d a) → T (le (least_of b d) (greatest_of a c)))
    axis a b c d ab cd =
        let l = least_under b d (lt-number-r a b ab) (lt-number-r c d cd) in
        let g = greatest-over a c (lt-number-l a b ab) (lt-number-l c d cd) in (
          λ t. le-chain (least_of b d) b (greatest_of a c) l.0 (le-chain b c (greatest_of a c) t g.1),
          λ t. le-chain (least_of b d) d (greatest_of a c) l.1 (le-chain d a (greatest_of a c) t g.0),
        )

    some : (a b c d x y : Bool) → (T a → T x) → (T b → T x) → (T c → T y) → (T d → T y) → (a || b || c || d) ≡ true → (x || y) ≡ true
    some a b c d true y f g h k e = refl
    some a b c d false true f g h k e = refl
    some true b c d false false f g h k e = absurd (f tt)
    some false true c d false false f g h k e = absurd (g tt)
    some false false true d false false f g h k e = absurd (h tt)
    some false false false true false false f g h k e = absurd (k tt)
    some false false false false false false f g h k e = e

    go : (t : Bool) → apart p k ≡ t → apart p k ≡ (le o.z1 o.z0 || le o.r1 o.r0)
    go true e =
        let z = axis p.z0 p.z1 k.z0 k.z1 (full-z p fp) (full-z k fk) in
        let r = axis p.r0 p.r1 k.r0 k.r1 (full-r p fp) (full-r k fk) in
        e ∙ sym (some (le p.z1 k.z0) (le k.z1 p.z0) (le p.r1 k.r0) (le k.r1 p.r0) (le o.z1 o.z0) (le o.r1 o.r0) z.0 z.1 r.0 r.1 e)
    go false e =
        let m = meets p k fp fk e in
        e ∙ sym (ap₂ (λ (x y : Bool). x || y) (to-false (le o.z1 o.z0) (λ t. clash o.z0 o.z1 m.0 t)) (to-false (le o.r1 o.r0) (λ t. clash o.r0 o.r1 m.1 t)))

-- ---- one piece less one ring
count-around : (p k : Ring) → Full p → Full k → apart p k ≡ false → (z r : Float) → count (around p (common p k)) z r ≡ cond (covers k z r) 0 (tick (covers p z r))
unfolding around
count-around p k fp fk e z r =
    let m = meets p k fp fk e in
    let pz = full-z p fp in
    let pr = full-r p fp in
    let kz = full-z k fk in
    let kr = full-r k fk in
    simp (count-append, count_kept)
    (four (zone p.z0 p.z1 k.z0 k.z1 z (lt-number-l p.z0 p.z1 pz) (lt-number-r p.z0 p.z1 pz) (lt-number-l k.z0 k.z1 kz) (lt-number-r k.z0 k.z1 kz) m.0)
    (zone p.r0 p.r1 k.r0 k.r1 r (lt-number-l p.r0 p.r1 pr) (lt-number-r p.r0 p.r1 pr) (lt-number-l k.r0 k.r1 kr) (lt-number-r k.r0 k.r1 kr) m.1))

count-split : (p k : Ring) → Full p → Full k → (z r : Float) → count (split p k) z r ≡ cond (covers k z r) 0 (tick (covers p z r))
unfolding split count pick
count-split p k fp fk z r = go (apart p k) refl
  where
    one : (x y : Bool) → (T x → T y → ⊥) → tick x + 0 ≡ cond y 0 (tick x)
    one true true n = absurd (n tt tt)
    one true false n = refl
    one false true n = refl
    one false false n = refl

    go : (t : Bool) → apart p k ≡ t → count (pick t (p ∷ []) (around p (common p k))) z r ≡ cond (covers k z r) 0 (tick (covers p z r))
    go true e = one (covers p z r) (covers k z r) (apart-parted p k (so e) z r)
    go false e = count-around p k fp fk e z r

-- ---- a property that a piece hands down to its parts: those that a ring leaves have it, if piece and ring have it
module _ (P : Ring → Type 0) (full : (q : Ring) → P q → Full q)
    (parts : (p k : Ring) → P p → P k → apart p k ≡ false → (Full (before p (common p k)) → P (before p (common p k))) × (Full (behind p (common p k)) → P (behind p (common p k)))
    × (Full (inside p (common p k)) → P (inside p (common p k))) × (Full (outside p (common p k)) → P (outside p (common p k)))) where
  each-split : (p k : Ring) → P p → P k → Each P (split p k)
  unfolding split around pick
  each-split p k a b = go (apart p k) refl
    where
      go : (t : Bool) → apart p k ≡ t → Each P (pick t (p ∷ []) (around p (common p k)))
      go true e = (a, tt)
      go false e =
          let o = common p k in
          let h = parts p k a b e in
          each_append P (kept (before p o) ++ kept (behind p o) ++ kept (inside p o)) (kept (outside p o))
          (each_append P (kept (before p o) ++ kept (behind p o)) (kept (inside p o)) (each_append P (kept (before p o)) (kept (behind p o)) (each-kept P (before p o) h.0) (each-kept P (behind p o) h.1))
          (each-kept P (inside p o) h.2)) (each-kept P (outside p o) h.3)

  each-subtract : (ps : List Ring) (k : Ring) → Each P ps → P k → Each P (subtract ps k)
  unfolding subtract
  each-subtract [] k a b = tt
  each-subtract (p ∷ ps) k a b = each_append P (split p k) (subtract ps k) (each-split p k a.0 b) (each-subtract ps k a.1 b)

  pub each-left-of : (ps ks : List Ring) → Each P ps → Each P ks → Each P (subtract_all ps ks)
  unfolding subtract_all
  each-left-of ps [] a b = a
  each-left-of ps (k ∷ ks) a b = each-left-of (subtract ps k) ks (each-subtract ps k a b.0) b.1

full-parts : (p k : Ring) → Full p → Full k → apart p k ≡ false → (Full (before p (common p k)) → Full (before p (common p k))) × (Full (behind p (common p k)) → Full (behind p (common p k)))
    × (Full (inside p (common p k)) → Full (inside p (common p k))) × (Full (outside p (common p k)) → Full (outside p (common p k)))
full-parts p k a b e = (λ x. x, λ x. x, λ x. x, λ x. x)

-- ---- all pieces less one ring, and less all
count-subtract : (ps : List Ring) (k : Ring) → Each Full ps → Full k → (z r : Float) → count (subtract ps k) z r ≡ cond (covers k z r) 0 (count ps z r)
unfolding subtract count
count-subtract [] k a f z r = go (covers k z r)
  where
    go : (t : Bool) → ◌≡◌ {A = ℕ} 0 (cond t 0 0)
    go true = refl
    go false = refl
count-subtract (p ∷ ps) k a f z r =
    count-append (split p k) (subtract ps k) z r ∙ go (covers k z r) (count (split p k) z r) (count (subtract ps k) z r) (count-split p k a.0 f z r) (count-subtract ps k a.1 f z r)
  where
    go : (t : Bool) (x y : ℕ) → x ≡ cond t 0 (tick (covers p z r)) → y ≡ cond t 0 (count ps z r) → x + y ≡ cond t 0 (tick (covers p z r) + count ps z r)
    go true x y e f = omega arith
    go false x y e f = omega arith

count-subtract_all : (ps ks : List Ring) → Each Full ps → Each Full ks → (z r : Float) → count (subtract_all ps ks) z r ≡ cond (covered ks z r) 0 (count ps z r)
unfolding subtract_all covered
count-subtract_all ps [] a b z r = refl
count-subtract_all ps (k ∷ ks) a b z r =
    count-subtract_all (subtract ps k) ks (each-subtract Full (λ q f. f) full-parts ps k a b.0) b.1 z r ∙ go (covers k z r) (covered ks z r) (count-subtract ps k a b.0 z r)
  where
    go : (t u : Bool) → count (subtract ps k) z r ≡ cond t 0 (count ps z r) → cond u 0 (count (subtract ps k) z r) ≡ cond (t || u) 0 (count ps z r)
    go true true e = refl
    go true false e = e
    go false true e = refl
    go false false e = e

-- ==== what is left of a clipped ring c, where no stored ring is empty
module _ (ks : List Ring) (c : Ring) (f : Each Full ks) where
  count_left : (z r : Float) → count (left ks c) z r ≡ cond (covered ks z r) 0 (tick (covers c z r))
  unfolding left
  count_left z r = count-subtract_all (kept c) ks (each-kept Full c (λ h. h)) f z r ∙ ap (λ (n : ℕ). cond (covered ks z r) 0 n) (count_kept c z r)

  -- a point is in a piece that is left exactly where it is in c and in no stored ring
  pub left-covers : (z r : Float) → covered (left ks c) z r ≡ (covers c z r && not (covered ks z r))
  left-covers z r = covered-count (left ks c) z r ∙ ap (λ (n : ℕ). ltb 0 n) (count_left z r) ∙ go (covered ks z r) (covers c z r)
    where
      go : (s t : Bool) → ltb 0 (cond s 0 (tick t)) ≡ (t && not s)
      go true true = refl
      go true false = refl
      go false true = refl
      go false false = refl

  -- no point is in two pieces
  pub left-disjoint : Disjoint (left ks c)
  left-disjoint z r = rw (count_left z r) (go (covered ks z r) (covers c z r))
    where
      go : (s t : Bool) → cond s 0 (tick t) ≤ 1
      go true true = omega arith
      go true false = omega arith
      go false true = omega arith
      go false false = omega arith

  -- with the pieces behind it, a store of which no two share a point stays so
  pub added-disjoint : Disjoint ks → Disjoint (ks ++ left ks c)
  added-disjoint d z r = rw (count-append ks (left ks c) z r, count_left z r) (go (covered ks z r) (covers c z r) (covered-count ks z r) (d z r))
    where
      go : (s t : Bool) → s ≡ ltb 0 (count ks z r) → count ks z r ≤ 1 → count ks z r + cond s 0 (tick t) ≤ 1
      go true t f h = omega arith
      go false true f h = let n = ltb-false 0 (count ks z r) (sym f) in omega arith
      go false false f h = omega arith

  -- and covers what it covered and what c covers
  pub added-covers : (z r : Float) → covered (ks ++ left ks c) z r ≡ (covered ks z r || covers c z r)
  added-covers z r = covered-append ks (left ks c) z r ∙ ap (λ (b : Bool). covered ks z r || b) (left-covers z r) ∙ go (covered ks z r) (covers c z r)
    where
      go : (s t : Bool) → (s || t && not s) ≡ (s || t)
      go true t = refl
      go false true = refl
      go false false = refl

  pub added_full : Each Full (ks ++ left ks c)
  unfolding left
  added_full = each_append Full ks (left ks c) f (each-left-of Full (λ q h. h) full-parts (kept c) ks (each-kept Full c (λ h. h)) f)
