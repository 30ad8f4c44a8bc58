-- Boxes about blocks of rings: a ring that is apart from the box is apart from every ring in it. Assumes nothing.
use Prim.Native.Nat.{ℕ, zero, suc, ◌+◌, ◌*◌, ◌/◌, ◌%◌, ◌≤◌, ◌<◌, min}
use native.Mathlib.Omega.{arith}
use native.Mathlib.Nat.{eq-or-lt_of_le}
use mathlib.Core.Path.{◌≡◌, refl, sym, ◌∙◌, ap, ap₂, subst}
use mathlib.Core.Logic.{inl, inr}
use mathlib.Core.Bool.{Bool, true, false, ◌&&◌, ◌||◌, true≢false, and-true}
use mathlib.Core.List.{List}
use lib.Dec.{T, eqb}
use lib.ListN.{get_or, set, length, length-set}
use lib.Seq.{get_or-set_same, get_or-set_other}
use lib.Ieee.{Float, nan, le, is_nan}
use lib.Ieee.Bits.{is_true}
use borrow.Author.Tests.{eqb-true, eqb-false}
use Rattle.floats.specs.Pick.{pick, pick_true, pick-false}
use Rattle.rings.specs.declared.Ring.{Ring}
use Rattle.rings.specs.Ring.{apart}
use Rattle.rings.specs.Store.{ring_at, rings_of, write, ring_fits, apart_all, store_fits}
use Rattle.rings.specs.Block.{hull, box_with, boxes_with, InBox, BoxAbout, Boxed}
use Rattle.floats.proofs.Anywhere.{le-number-l, le-number-r, le-chain}
use Rattle.floats.proofs.Bounding.{lt-number-l, lt-number-r, le_same, greatest-over, least_under}
use Rattle.floats.proofs.Bools.{so}
use Rattle.rings.proofs.Flat.{same-ring}
use Rattle.rings.proofs.Prefix.{apart_all-snoc, store_fits-snoc, goes_on}
use Rattle.rings.proofs.Fitting.{fits-of}

-- ---- a ring in a box
box-apart : (b q k : Ring) → InBox b q → apart b k ≡ true → apart q k ≡ true
box-apart b q k i e =
    is_true (apart q k)
    (some (le b.z1 k.z0) (le k.z1 b.z0) (le b.r1 k.r0) (le k.r1 b.r0) (le q.z1 k.z0) (le k.z1 q.z0) (le q.r1 k.r0) (le k.r1 q.r0) (so e)
    (λ t. le-chain q.z1 b.z1 k.z0 i.z_high t) (λ t. le-chain k.z1 b.z0 q.z0 t i.z_low) (λ t. le-chain q.r1 b.r1 k.r0 i.r_high t) (λ t. le-chain k.r1 b.r0 q.r0 t i.r_low))
  where
    or-3 : (a b c d : Bool) → T c → T (a || b || c || d)
    or-3 true b c d t = tt
    or-3 false true c d t = tt
    or-3 false false true d t = tt
    or-3 false false false d t = absurd t

    or-4 : (a b c d : Bool) → T d → T (a || b || c || d)
    or-4 true b c d t = tt
    or-4 false true c d t = tt
    or-4 false false true d t = tt
    or-4 false false false d t = t

    or-1 : (a b c d : Bool) → T a → T (a || b || c || d)
    or-1 true b c d t = tt
    or-1 false b c d t = absurd t

    or-2 : (a b c d : Bool) → T b → T (a || b || c || d)
    or-2 true b c d t = tt
    or-2 false true c d t = tt
    or-2 false false c d t = absurd t

    some : (a b c d a' b' c' d' : Bool) → T (a || b || c || d) → (T a → T a') → (T b → T b') → (T c → T c') → (T d → T d') → T (a' || b' || c' || d')
    some true b c d a' b' c' d' t f g h k = or-1 a' b' c' d' (f tt)
    some false true c d a' b' c' d' t f g h k = or-2 a' b' c' d' (g tt)
    some false false true d a' b' c' d' t f g h k = or-3 a' b' c' d' (h tt)
    some false false false d a' b' c' d' t f g h k = or-4 a' b' c' d' (k t)

-- ---- a block at once
pub block_apart : (rings : List Float) (from to : ℕ) (b k : Ring) (ok : Bool) → from ≤ to → apart b k ≡ true → ok ≡ apart_all (rings_of from rings) k → BoxAbout b rings from to → ok ≡ apart_all (rings_of to rings) k
block_apart rings from to b k ok h e f i = go to h i.about
  where
    go : (to : ℕ) → from ≤ to → ((j : ℕ) → from ≤ j → j < to → InBox b (ring_at rings j)) → ok ≡ apart_all (rings_of to rings) k
    go zero h a = let z : from ≡ 0 = omega arith in subst (λ (n : ℕ). ok ≡ apart_all (rings_of n rings) k) z f
    go (suc to) h a =
        elim (eq-or-lt_of_le h) [
          | inl p ↦ subst (λ (n : ℕ). ok ≡ apart_all (rings_of n rings) k) p f
          | inr q ↦ go to (omega arith) (λ j u v. a j u (omega arith)) ∙ sym (unfold rings_of in apart_all-snoc k (rings_of to rings) (ring_at rings to) ∙ ap (λ (t : Bool). apart_all (rings_of to rings) k && t) (box-apart b (ring_at rings to) k (a to (omega arith) (omega arith)) e) ∙ and-true (apart_all (rings_of to rings) k))
        ]

-- the box of a block is about its rings
pub block-box : (boxes rings : List Float) (n at : ℕ) (b : Ring) (from to : ℕ) → Boxed boxes rings n → b ≡ ring_at boxes at → from ≡ 16 * at → to ≡ min (from + 16) n → BoxAbout b rings from to
block-box boxes rings n at b from to x e f t =
    record {
      about = λ j u v.
          let d : j / 16 ≡ at = omega arith in
          let l : j < n = omega arith in
          subst (λ (c : Ring). InBox c (ring_at rings j)) (ap (ring_at boxes) d ∙ sym e) (x.boxed j l);
    }

-- ---- boxes widened ring by ring
write_same : (xs : List Float) (n : ℕ) (q : Ring) → 4 * n + 4 ≤ length xs → ring_at (write xs n q) n ≡ q
write_same xs n q h = same-ring e₀ e₁ e₂ e₃
  where
    l₁ : List Float
    l₁ = set xs (4 * n) q.z0

    l₂ : List Float
    l₂ = set (set xs (4 * n) q.z0) (4 * n + 1) q.z1

    l₃ : List Float
    l₃ = set (set (set xs (4 * n) q.z0) (4 * n + 1) q.z1) (4 * n + 2) q.r0

    e₀ : get_or (write xs n q) (4 * n) nan ≡ q.z0
    e₀ = get_or-set_other l₃ (4 * n + 3) (4 * n) q.r1 nan (omega arith) ∙ get_or-set_other l₂ (4 * n + 2) (4 * n) q.r0 nan (omega arith)
        ∙ get_or-set_other l₁ (4 * n + 1) (4 * n) q.z1 nan (omega arith) ∙ get_or-set_same xs (4 * n) q.z0 nan (omega arith)

    e₁ : get_or (write xs n q) (4 * n + 1) nan ≡ q.z1
    e₁ = get_or-set_other l₃ (4 * n + 3) (4 * n + 1) q.r1 nan (omega arith) ∙ get_or-set_other l₂ (4 * n + 2) (4 * n + 1) q.r0 nan (omega arith)
        ∙ get_or-set_same l₁ (4 * n + 1) q.z1 nan (simp length-set (omega arith))

    e₂ : get_or (write xs n q) (4 * n + 2) nan ≡ q.r0
    e₂ = get_or-set_other l₃ (4 * n + 3) (4 * n + 2) q.r1 nan (omega arith) ∙ get_or-set_same l₂ (4 * n + 2) q.r0 nan (simp length-set (omega arith))

    e₃ : get_or (write xs n q) (4 * n + 3) nan ≡ q.r1
    e₃ = get_or-set_same l₃ (4 * n + 3) q.r1 nan (simp length-set (omega arith))

write-other : (xs : List Float) (n i : ℕ) (q : Ring) → i < n → ring_at (write xs n q) i ≡ ring_at xs i
write-other xs n i q h = same-ring (at (4 * i) (omega arith)) (at (4 * i + 1) (omega arith)) (at (4 * i + 2) (omega arith)) (at (4 * i + 3) (omega arith))
  where
    at : (j : ℕ) → j < 4 * n → get_or (write xs n q) j nan ≡ get_or xs j nan
    at j h =
        get_or-set_other (set (set (set xs (4 * n) q.z0) (4 * n + 1) q.z1) (4 * n + 2) q.r0) (4 * n + 3) j q.r1 nan (omega arith)
        ∙ get_or-set_other (set (set xs (4 * n) q.z0) (4 * n + 1) q.z1) (4 * n + 2) j q.r0 nan (omega arith) ∙ get_or-set_other (set xs (4 * n) q.z0) (4 * n + 1) j q.z1 nan (omega arith)
        ∙ get_or-set_other xs (4 * n) j q.z0 nan (omega arith)

-- no edge is a NaN
record Numbers (q : Ring) : Type 0 where
  n0 : is_nan q.z0 ≡ false
  n1 : is_nan q.z1 ≡ false
  n2 : is_nan q.r0 ≡ false
  n3 : is_nan q.r1 ≡ false

in_itself : (q : Ring) → Numbers q → InBox q q
in_itself q n = record { z_low = le_same q.z0 n.n0; z_high = le_same q.z1 n.n1; r_low = le_same q.r0 n.n2; r_high = le_same q.r1 n.n3 }

module _ (b q : Ring) (m : Numbers b) (n : Numbers q) where
  in-hull : InBox (hull b q) q
  in-hull =
      record {
        z_low = (least_under b.z0 q.z0 m.n0 n.n0).1;
        z_high = (greatest-over b.z1 q.z1 m.n1 n.n1).1;
        r_low = (least_under b.r0 q.r0 m.n2 n.n2).1;
        r_high = (greatest-over b.r1 q.r1 m.n3 n.n3).1;
      }

  still-in-hull : (p : Ring) → InBox b p → InBox (hull b q) p
  still-in-hull p i =
      record {
        z_low = le-chain (hull b q).z0 b.z0 p.z0 (least_under b.z0 q.z0 m.n0 n.n0).0 i.z_low;
        z_high = le-chain p.z1 b.z1 (hull b q).z1 i.z_high (greatest-over b.z1 q.z1 m.n1 n.n1).0;
        r_low = le-chain (hull b q).r0 b.r0 p.r0 (least_under b.r0 q.r0 m.n2 n.n2).0 i.r_low;
        r_high = le-chain p.r1 b.r1 (hull b q).r1 i.r_high (greatest-over b.r1 q.r1 m.n3 n.n3).0;
      }

box-numbers : (b q : Ring) → InBox b q → Numbers b
box-numbers b q i =
    record { n0 = le-number-l b.z0 q.z0 i.z_low; n1 = le-number-r q.z1 b.z1 i.z_high; n2 = le-number-l b.r0 q.r0 i.r_low; n3 = le-number-r q.r1 b.r1 i.r_high }

-- the box of the next ring's block, about that ring and about those of the block before it
boxed-next : (boxes rings : List Float) (i : ℕ) → 4 * (i / 16) + 4 ≤ length boxes → Numbers (ring_at rings i) → Boxed boxes rings i → Boxed (boxes_with boxes i (ring_at rings i)) rings (i + 1)
unfolding boxes_with box_with
boxed-next boxes rings i h n x = go (eqb (i % 16) 0) refl
  where
    q : Ring
    q = ring_at rings i

    b : Ring
    b = ring_at boxes (i / 16)

    -- whatever the new box w is, if it is about this ring and about those of its block
    by : (w : Ring) → InBox w q → ((j : ℕ) → j < i → j / 16 ≡ i / 16 → InBox w (ring_at rings j)) → Boxed (write boxes (i / 16) w) rings (i + 1)
    by w a p = record { boxed = λ j l. at j (eqb (j / 16) (i / 16)) refl l }
      where
        at : (j : ℕ) (t : Bool) → eqb (j / 16) (i / 16) ≡ t → j < i + 1 → InBox (ring_at (write boxes (i / 16) w) (j / 16)) (ring_at rings j)
        at j false e l =
            let d : j / 16 < i / 16 = (let ne = eqb-false (j / 16) (i / 16) e in other j l ne) in
            subst (λ (c : Ring). InBox c (ring_at rings j)) (sym (write-other boxes (i / 16) (j / 16) w d)) (x.boxed j (omega arith))
          where
            other : (j : ℕ) → j < i + 1 → (j / 16 ≡ i / 16 → ⊥) → j / 16 < i / 16
            other j l ne = omega arith
        at j true e l =
            let d = eqb-true (j / 16) (i / 16) e in
            subst (λ (c : Ring). InBox c (ring_at rings j)) (sym (ap (ring_at (write boxes (i / 16) w)) d ∙ write_same boxes (i / 16) w h)) (this j (eqb j i) refl l d)
          where
            this : (j : ℕ) (t : Bool) → eqb j i ≡ t → j < i + 1 → j / 16 ≡ i / 16 → InBox w (ring_at rings j)
            this j true e l d = subst (λ (k : ℕ). InBox w (ring_at rings k)) (sym (eqb-true j i e)) a
            this j false e l d = p j (less j i (eqb-false j i e) l) d
              where
                less : (j i : ℕ) → (j ≡ i → ⊥) → j < i + 1 → j < i
                less j i ne l = omega arith

    go : (t : Bool) → eqb (i % 16) 0 ≡ t → Boxed (write boxes (i / 16) (pick (eqb (i % 16) 0) q (hull b q))) rings (i + 1)
    go true e =
        subst (λ (w : Ring). Boxed (write boxes (i / 16) w) rings (i + 1)) (sym (pick_true (eqb (i % 16) 0) q (hull b q) e))
        (by q (in_itself q n) (λ j l d. absurd (let z = eqb-true (i % 16) 0 e in omega arith)))
    go false e =
        subst (λ (w : Ring). Boxed (write boxes (i / 16) w) rings (i + 1)) (sym (pick-false (eqb (i % 16) 0) q (hull b q) e))
        (by (hull b q) (in-hull b q m n) (λ j l d. still-in-hull b q m n (ring_at rings j) (subst (λ (k : ℕ). InBox (ring_at boxes k) (ring_at rings j)) d (x.boxed j l))))
      where
        -- the ring before is of the same block
        last : (i : ℕ) → (i % 16 ≡ 0 → ⊥) → Boxed boxes rings i → Numbers (ring_at boxes (i / 16))
        last zero ne x = absurd (ne refl)
        last (suc i) ne x =
            let d : i / 16 ≡ suc i / 16 = omega arith in
            subst (λ (k : ℕ). Numbers (ring_at boxes k)) d (box-numbers (ring_at boxes (i / 16)) (ring_at rings i) (x.boxed i (omega arith)))

        m : Numbers b
        m = last i (eqb-false (i % 16) 0 e) x

-- ---- the store's test, block by block
-- what is found so far, and the boxes where nothing was wrong
pub record Checked (e : Ring) (rings : List Float) (i : ℕ) (boxes : List Float) (ok : Bool) : Type 0 where
  pub size : length boxes ≡ 64
  pub found : ok ≡ store_fits e (rings_of i rings)
  pub boxes-about : ok ≡ true → Boxed boxes rings i

pub checked-start : (e : Ring) (rings boxes : List Float) → length boxes ≡ 64 → Checked e rings 0 boxes true
unfolding store_fits rings_of
checked-start e rings boxes h = record { size = h; found = refl; boxes-about = λ _. record { boxed = λ j l. absurd (omega arith) } }

pub checked-next : (e : Ring) (rings : List Float) (i : ℕ) (boxes boxes' : List Float) (ok fit far : Bool) (q : Ring) → i < 256 → Checked e rings i boxes ok → q ≡ ring_at rings i → fit ≡ ring_fits e q
    → (Boxed boxes rings i → far ≡ apart_all (rings_of i rings) q) → length boxes' ≡ length boxes → boxes' ≡ boxes_with boxes i q → Checked e rings (i + 1) boxes' (ok && fit && far)
checked-next e rings i boxes boxes' ok fit far q l c qs f a s w =
    record { size = s ∙ c.size; found = find ok c.found c.boxes-about; boxes-about = λ t. about t }
  where
    find : (ok : Bool) → ok ≡ store_fits e (rings_of i rings) → (ok ≡ true → Boxed boxes rings i) → (ok && fit && far) ≡ store_fits e (rings_of (i + 1) rings)
    find false o x = goes_on (store_fits e) (λ l q. ring_fits e q && apart_all l q) (store_fits-snoc e) rings i q false (ring_fits e q && apart_all (rings_of i rings) q) o qs refl
    find true o x = goes_on (store_fits e) (λ l q. ring_fits e q && apart_all l q) (store_fits-snoc e) rings i q true (fit && far) o qs (ap₂ (λ (s t : Bool). s && t) f (a (x refl)))

    both : (a b c : Bool) → (a && b && c) ≡ true → (a ≡ true) × (b ≡ true)
    both true true c t = (refl, refl)
    both true false c t = absurd (true≢false (sym t))
    both false b c t = absurd (true≢false (sym t))

    about : (ok && fit && far) ≡ true → Boxed boxes' rings (i + 1)
    about t =
        let p = both ok fit far t in
        let k = fits-of e (ring_at rings i) (so (ap (ring_fits e) (sym qs) ∙ sym f ∙ p.1)) in
        let n : Numbers (ring_at rings i) =
        record { n0 = lt-number-l (ring_at rings i).z0 (ring_at rings i).z1 k.z-full; n1 = lt-number-r (ring_at rings i).z0 (ring_at rings i).z1 k.z-full; n2 = lt-number-l (ring_at rings i).r0 (ring_at rings i).r1 k.r-full; n3 = lt-number-r (ring_at rings i).r0 (ring_at rings i).r1 k.r-full } in
        subst (λ (b : List Float). Boxed b rings (i + 1)) (sym (w ∙ ap (boxes_with boxes i) qs)) (boxed-next boxes rings i (let z = c.size in omega arith) n (c.boxes-about p.0))
