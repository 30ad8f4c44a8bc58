-- `least_of` and `greatest_of` are the lattice of the order: on floats of a format that are neither a NaN nor -0.0, infinities included, they are
-- associative, commutative and idempotent, and each absorbs and distributes over the other. Each keeps the order, and keeps any property of its two arguments. Assumes nothing.
use mathlib.Core.Path.{◌≡◌, refl}
use Prim.Native.Nat.{◌≤◌, ◌<◌, min, max}
use native.Mathlib.Omega.{arith}
use mathlib.Core.Bool.{Bool, true, false, not}
use lib.Dec.{T}
use lib.IntN.{pos}
use lib.Ieee.{Float, fin, Format, lt, le}
use Rattle.floats.specs.Pick.{pick}
use Rattle.floats.specs.Numbers.{least_of, greatest_of}
use Rattle.floats.specs.Kinds.{Number, Plain}
use Rattle.floats.proofs.Keys.{key, lt-key, le-key}
use Rattle.floats.proofs.Order.{number-of, key-unique, nlt→le}

-- ---- either is one of the two
either : (P : Float → Type 0) (t : Bool) (a b : Float) → P a → P b → P (pick t b a)
unfolding pick
either P true a b p q = q
either P false a b p q = p

pub least-keeps : (P : Float → Type 0) {a b : Float} → P a → P b → P (least_of a b)
unfolding least_of
least-keeps P {a} {b} p q = either P (lt b a) a b p q

pub greatest-keeps : (P : Float → Type 0) {a b : Float} → P a → P b → P (greatest_of a b)
unfolding greatest_of
greatest-keeps P {a} {b} p q = either P (lt a b) a b p q

pub least-plain : {f : Format} {a b : Float} → Plain f a → Plain f b → Plain f (least_of a b)
least-plain {f} p q = least-keeps (λ x. Plain f x) p q

pub greatest-plain : {f : Format} {a b : Float} → Plain f a → Plain f b → Plain f (greatest_of a b)
greatest-plain {f} p q = greatest-keeps (λ x. Plain f x) p q

pub least-number : {f : Format} {a b : Float} → Number f a → Number f b → Number f (least_of a b)
least-number {f} p q = least-keeps (λ x. Number f x) p q

pub greatest-number : {f : Format} {a b : Float} → Number f a → Number f b → Number f (greatest_of a b)
greatest-number {f} p q = greatest-keeps (λ x. Number f x) p q

-- ---- their keys
pub key-least : {f : Format} {a b : Float} → Number f a → Number f b → key f (least_of a b) ≡ min (key f a) (key f b)
unfolding least_of pick
key-least {f} {a} {b} p q = go (lt b a) (λ t. (lt-key f b a q p).0 t) (λ t. (le-key f a b p q).0 (nlt→le p q t))
  where
    go : (t : Bool) → (T t → key f b < key f a) → (T (not t) → key f a ≤ key f b) → key f (pick t b a) ≡ min (key f a) (key f b)
    go true g h = let l = g tt in omega arith
    go false g h = let l = h tt in omega arith

pub key-greatest : {f : Format} {a b : Float} → Number f a → Number f b → key f (greatest_of a b) ≡ max (key f a) (key f b)
unfolding greatest_of pick
key-greatest {f} {a} {b} p q = go (lt a b) (λ t. (lt-key f a b p q).0 t) (λ t. (le-key f b a q p).0 (nlt→le q p t))
  where
    go : (t : Bool) → (T t → key f a < key f b) → (T (not t) → key f b ≤ key f a) → key f (pick t b a) ≡ max (key f a) (key f b)
    go true g h = let l = g tt in omega arith
    go false g h = let l = h tt in omega arith

-- ---- bounds
module _ {f : Format} {a b : Float} (p : Number f a) (q : Number f b) where
  pub least-le-l : T (le (least_of a b) a)
  least-le-l = (le-key f (least_of a b) a (least-number p q) p).1 (omega (arith, key-least p q))

  pub least-le-r : T (le (least_of a b) b)
  least-le-r = (le-key f (least_of a b) b (least-number p q) q).1 (omega (arith, key-least p q))

  pub greatest-ge-l : T (le a (greatest_of a b))
  greatest-ge-l = (le-key f a (greatest_of a b) p (greatest-number p q)).1 (omega (arith, key-greatest p q))

  pub greatest-ge-r : T (le b (greatest_of a b))
  greatest-ge-r = (le-key f b (greatest_of a b) q (greatest-number p q)).1 (omega (arith, key-greatest p q))

  pub least-ge : {c : Float} → Number f c → T (le c a) → T (le c b) → T (le c (least_of a b))
  least-ge {c} r h k = (le-key f c (least_of a b) r (least-number p q)).1 (omega (arith, key-least p q, (le-key f c a r p).0 h, (le-key f c b r q).0 k))

  pub greatest-le : {c : Float} → Number f c → T (le a c) → T (le b c) → T (le (greatest_of a b) c)
  greatest-le {c} r h k = (le-key f (greatest_of a b) c (greatest-number p q) r).1 (omega (arith, key-greatest p q, (le-key f a c p r).0 h, (le-key f b c q r).0 k))

pub least-mono : {f : Format} {a b a' b' : Float} → Number f a → Number f b → Number f a' → Number f b' → T (le a a') → T (le b b') → T (le (least_of a b) (least_of a' b'))
least-mono {f} {a} {b} {a'} {b'} p q p' q' h k =
    (le-key f (least_of a b) (least_of a' b') (least-number p q) (least-number p' q')).1 (omega (arith, key-least p q, key-least p' q', (le-key f a a' p p').0 h, (le-key f b b' q q').0 k))

pub greatest-mono : {f : Format} {a b a' b' : Float} → Number f a → Number f b → Number f a' → Number f b' → T (le a a') → T (le b b') → T (le (greatest_of a b) (greatest_of a' b'))
greatest-mono {f} {a} {b} {a'} {b'} p q p' q' h k =
    (le-key f (greatest_of a b) (greatest_of a' b') (greatest-number p q) (greatest-number p' q')).1 (omega (arith, key-greatest p q, key-greatest p' q', (le-key f a a' p p').0 h, (le-key f b b' q q').0 k))

-- ---- the equations
module _ {f : Format} {a b : Float} (p : Plain f a) (q : Plain f b) where
  kl : key f (least_of a b) ≡ min (key f a) (key f b)
  kl = key-least (number-of p) (number-of q)

  kg : key f (greatest_of a b) ≡ max (key f a) (key f b)
  kg = key-greatest (number-of p) (number-of q)

pub least_self : {f : Format} {a : Float} → Plain f a → least_of a a ≡ a
least_self p = key-unique (least-plain p p) p (omega (arith, kl p p))

pub greatest-self : {f : Format} {a : Float} → Plain f a → greatest_of a a ≡ a
greatest-self p = key-unique (greatest-plain p p) p (omega (arith, kg p p))

pub least-comm : {f : Format} {a b : Float} → Plain f a → Plain f b → least_of a b ≡ least_of b a
least-comm p q = key-unique (least-plain p q) (least-plain q p) (omega (arith, kl p q, kl q p))

pub greatest-comm : {f : Format} {a b : Float} → Plain f a → Plain f b → greatest_of a b ≡ greatest_of b a
greatest-comm p q = key-unique (greatest-plain p q) (greatest-plain q p) (omega (arith, kg p q, kg q p))

pub least-assoc : {f : Format} {a b c : Float} → Plain f a → Plain f b → Plain f c → least_of (least_of a b) c ≡ least_of a (least_of b c)
least-assoc p q r =
    let pq = least-plain p q in
    let qr = least-plain q r in
    key-unique (least-plain pq r) (least-plain p qr) (omega (arith, kl p q, kl pq r, kl q r, kl p qr))

pub greatest-assoc : {f : Format} {a b c : Float} → Plain f a → Plain f b → Plain f c → greatest_of (greatest_of a b) c ≡ greatest_of a (greatest_of b c)
greatest-assoc p q r =
    let pq = greatest-plain p q in
    let qr = greatest-plain q r in
    key-unique (greatest-plain pq r) (greatest-plain p qr) (omega (arith, kg p q, kg pq r, kg q r, kg p qr))

pub least-absorbs : {f : Format} {a b : Float} → Plain f a → Plain f b → least_of a (greatest_of a b) ≡ a
least-absorbs p q =
    let pq = greatest-plain p q in
    key-unique (least-plain p pq) p (omega (arith, kg p q, kl p pq))

pub greatest-absorbs : {f : Format} {a b : Float} → Plain f a → Plain f b → greatest_of a (least_of a b) ≡ a
greatest-absorbs p q =
    let pq = least-plain p q in
    key-unique (greatest-plain p pq) p (omega (arith, kl p q, kg p pq))

pub least-distributes : {f : Format} {a b c : Float} → Plain f a → Plain f b → Plain f c → least_of a (greatest_of b c) ≡ greatest_of (least_of a b) (least_of a c)
least-distributes p q r =
    let qr = greatest-plain q r in
    let pq = least-plain p q in
    let pr = least-plain p r in
    key-unique (least-plain p qr) (greatest-plain pq pr) (omega (arith, kg q r, kl p qr, kl p q, kl p r, kg pq pr))

pub greatest-distributes : {f : Format} {a b c : Float} → Plain f a → Plain f b → Plain f c → greatest_of a (least_of b c) ≡ least_of (greatest_of a b) (greatest_of a c)
greatest-distributes p q r =
    let qr = least-plain q r in
    let pq = greatest-plain p q in
    let pr = greatest-plain p r in
    key-unique (greatest-plain p qr) (least-plain pq pr) (omega (arith, kl q r, kg p qr, kg p q, kg p r, kl pq pr))

-- ---- why -0.0 is left out: the least of the two zeros is the first of them
least-first-zero : (s t : Bool) → least_of (fin s 0 (pos 0)) (fin t 0 (pos 0)) ≡ fin s 0 (pos 0)
unfolding least_of pick lt
least-first-zero true true = refl
least-first-zero true false = refl
least-first-zero false true = refl
least-first-zero false false = refl
