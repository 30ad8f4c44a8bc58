-- What a store covers after rings were taken: what it covered before and what the clipped rings cover, in whatever order they came. Assumes nothing.
use Prim.Native.Nat.{ℕ}
use mathlib.Core.Path.{◌≡◌, refl, sym, ◌∙◌, ap, ap₂, subst}
use mathlib.Core.Bool.{Bool, true, false, ◌&&◌, ◌||◌, or-false, or_assoc, and-or_distrib_right}
use mathlib.Core.List.{List, [], ◌∷◌, ◌++◌, map, Permᴰ}
use lib.Ieee.{Float, lt, le, is_nan}
use Rattle.refusals.specs.Paper.{Paper, answers, refuses, onward}
use Rattle.floats.specs.Numbers.{least_of, greatest_of, clean_of}
use Rattle.floats.specs.Each.{Each}
use Rattle.stock.proofs.Count.{same_answer, no_answer}
use Rattle.rings.specs.declared.Ring.{Ring}
use Rattle.rings.specs.Ring.{within, covers, covered, clip, left}
use Rattle.rings.specs.Store.{finite_ring, store_fits}
use Rattle.rings.specs.Remove.{added, added_all}
use Rattle.floats.proofs.Bounding.{greatest-below, least_above, clean-number, le-clean, lt-clean}
use Rattle.rings.proofs.Cover.{Full, added-covers, added_full}
use Rattle.rings.proofs.Adding.{added-room}
use Rattle.rings.proofs.Fitting.{store-full, Extent, ring-number}

-- ---- the clipped ring covers what the ring and the extent both cover
turn-ands : (a b c d : Bool) → ((a && b) && (c && d)) ≡ ((a && c) && (b && d))
turn-ands true true c d = refl
turn-ands true false true d = refl
turn-ands true false false d = refl
turn-ands false b c d = refl

pub clip-covers : (e q : Ring) → Extent e → finite_ring q ≡ true → (z r : Float) → covers (clip e q) z r ≡ (covers q z r && covers e z r)
unfolding clip
clip-covers e q x f z r =
    let n = ring-number q f in
    ap₂ (λ (a b : Bool). a && b) (axis q.z0 q.z1 e.z0 e.z1 z n.0 n.1 x.n0 x.n1) (axis q.r0 q.r1 e.r0 e.r1 r n.2 n.3 x.n2 x.n3)
    ∙ turn-ands (within q.z0 q.z1 z) (within e.z0 e.z1 z) (within q.r0 q.r1 r) (within e.r0 e.r1 r)
  where
    axis : (a b c d y : Float) → is_nan a ≡ false → is_nan b ≡ false → is_nan c ≡ false → is_nan d ≡ false
        → within (greatest_of (clean_of a) c) (least_of (clean_of b) d) y ≡ (within a b y && within c d y)
    axis a b c d y na nb nc nd =
        ap₂ (λ (s t : Bool). s && t)
        (greatest-below (clean_of a) c (clean-number a na) nc y ∙ ap (λ (s : Bool). s && le c y) (le-clean a y))
        (least_above (clean_of b) d (clean-number b nb) nd y ∙ ap (λ (s : Bool). s && lt y d) (lt-clean b y))
        ∙ turn-ands (le a y) (le c y) (lt y b) (lt y d)

-- ---- a list of rings
module _ (e : Ring) (room : ℕ) (z r : Float) where
  all-cover : (ks qs l : List Ring) → Each Full ks → added_all e room ks qs ≡ answers l → covered l z r ≡ (covered ks z r || covered (map (clip e) qs) z r)
  unfolding added_all onward covered
  all-cover ks [] l f a = let b : ks ≡ l = same_answer a in ap (λ (m : List Ring). covered m z r) (sym b) ∙ sym (or-false (covered ks z r))
  all-cover ks (q ∷ qs) l f a = go (added room ks (clip e q)) refl a (λ m. all-cover m qs l)
    where
      go : (p : Paper (List Ring)) → added room ks (clip e q) ≡ p → onward p (λ m. added_all e room m qs) ≡ answers l
          → ((m : List Ring) → Each Full m → added_all e room m qs ≡ answers l → covered l z r ≡ (covered m z r || covered (map (clip e) qs) z r))
          → covered l z r ≡ (covered ks z r || (covers (clip e q) z r || covered (map (clip e) qs) z r))
      go (refuses n) b c k = absurd (no_answer n l c)
      go (answers m) b c k =
          let m-is : m ≡ ks ++ left ks (clip e q) = (added-room room ks (clip e q) m b).0 in
          k m (subst (λ (y : List Ring). Each Full y) (sym m-is) (added_full ks (clip e q) f)) c
          ∙ ap (λ (s : Bool). s || covered (map (clip e) qs) z r) (ap (λ (y : List Ring). covered y z r) m-is ∙ added-covers ks (clip e q) f z r)
          ∙ or_assoc (covered ks z r) (covers (clip e q) z r) (covered (map (clip e) qs) z r)

-- a turn of the rings keeps what they cover
pub covered-turns : (f : Ring → Ring) (z r : Float) {l m : List Ring} → Permᴰ l m → covered (map f l) z r ≡ covered (map f m) z r
unfolding covered
covered-turns f z r Permᴰ.nil = refl
covered-turns f z r (Permᴰ.cons {b = b} {l₁ = l} e d) = ap (λ (q : Ring). covers (f q) z r || covered (map f l) z r) e ∙ ap (λ (x : Bool). covers (f b) z r || x) (covered-turns f z r d)
covered-turns f z r (Permᴰ.swap {a = a} {b = b} {a' = a'} {l = l} e g) =
    swap (covers (f a) z r) (covers (f b) z r) (covered (map f l) z r) ∙ ap (λ (q : Ring). covers (f q) z r || (covers (f a) z r || covered (map f l) z r)) g
    ∙ ap (λ (q : Ring). covers (f a') z r || (covers (f q) z r || covered (map f l) z r)) e
  where
    swap : (x y w : Bool) → (x || (y || w)) ≡ (y || (x || w))
    swap true true w = refl
    swap true false w = refl
    swap false true w = refl
    swap false false w = refl
covered-turns f z r (Permᴰ.trans d d') = covered-turns f z r d ∙ covered-turns f z r d'

-- ==== a store that passes refusal 4's test, and rings added to it
module _ (e : Ring) (ks : List Ring) (s : store_fits e ks ≡ true) where
  -- the store covers what it covered and what the clipped rings cover, and nothing else
  pub store_covers : (room : ℕ) (qs l : List Ring) → added_all e room ks qs ≡ answers l → (z r : Float) → covered l z r ≡ (covered ks z r || covered (map (clip e) qs) z r)
  store_covers room qs l a z r = all-cover e room z r ks qs l (store-full e ks s) a

  -- the same by the rings as they were given: of each, what lies in the extent
  pub store-covers-given : (room : ℕ) (qs l : List Ring) → Extent e → Each (λ q. finite_ring q ≡ true) qs → added_all e room ks qs ≡ answers l → (z r : Float)
      → covered l z r ≡ (covered ks z r || covered qs z r && covers e z r)
  unfolding covered
  store-covers-given room qs l x f a z r = store_covers room qs l a z r ∙ ap (λ (b : Bool). covered ks z r || b) (clips qs f)
    where
      clips : (qs : List Ring) → Each (λ q. finite_ring q ≡ true) qs → covered (map (clip e) qs) z r ≡ (covered qs z r && covers e z r)
      clips [] f = refl
      clips (q ∷ qs) f = ap₂ (λ (a b : Bool). a || b) (clip-covers e q x f.0 z r) (clips qs f.1) ∙ sym (and-or_distrib_right (covers q z r) (covered qs z r) (covers e z r))

  -- two orders of the same rings, both accepted, cover the same points
  pub either_order : (room room' : ℕ) (qs qs' l l' : List Ring) → Permᴰ qs qs' → added_all e room ks qs ≡ answers l → added_all e room' ks qs' ≡ answers l' → (z r : Float) → covered l z r ≡ covered l' z r
  either_order room room' qs qs' l l' d a a' z r =
      store_covers room qs l a z r ∙ ap (λ (b : Bool). covered ks z r || b) (covered-turns (clip e) z r d) ∙ sym (store_covers room' qs' l' a' z r)
