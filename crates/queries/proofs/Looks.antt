-- What a walk over some bins shows: the most of those that hold material, and nothing where none does. Assumes nothing.
use Rattle.std.specs.Prelude.{Option, None, Some}
use mathlib.Core.Path.{◌≡◌, refl, sym, ap, ◌∙◌, subst}
use mathlib.Core.Bool.{Bool, true, false}
use mathlib.Core.List.{List}
use mathlib.Core.Logic.{◌⊎◌, inl, inr}
use Prim.Native.Nat.{ℕ, zero, suc, ◌+◌}
use native.Mathlib.Omega.{arith}
use lib.Dec.{T, ltb}
use lib.Ieee.{Float, lt, le, is_nan}
use borrow.Author.Tests.{ltb-true, ltb-false}
use Rattle.floats.specs.Pick.{pick, pick_true}
use Rattle.floats.specs.Numbers.{least_of, greatest_of}
use Rattle.stock.specs.Cell.{cell_at}
use Rattle.floats.proofs.Anywhere.{le-chain}
use Rattle.floats.proofs.Bounding.{lt-number-l, lt-number-r, le_same, least_under, greatest-over}
use Rattle.floats.proofs.Bools.{so}
use Rattle.queries.specs.declared.Band.{Band}
use Rattle.queries.specs.Material.{most_of}
use Rattle.queries.specs.Envelope.{shown_of, join_of, together, most_over}
use Rattle.queries.specs.Looked.{Holds, Nested, Most}

-- ---- a band that is shown

-- it is the band, whose outer radius is above its bore
pub shown-is : (b c : Band) → shown_of b ≡ Some c → T (lt b.bore b.outer) × (b ≡ c)
unfolding shown_of pick
shown-is b c e = go (lt b.bore b.outer) refl e
  where
    go : (t : Bool) → lt b.bore b.outer ≡ t → pick t (Some b) None ≡ Some c → T (lt b.bore b.outer) × (b ≡ c)
    go true f e = (so f, (cc))
    go false f e = let z : ◌≡◌ {A = Option Band} None (Some c) = e in absurd-none z
      where
        absurd-none : ◌≡◌ {A = Option Band} None (Some c) → T (lt b.bore b.outer) × (b ≡ c)
        absurd-none z = let y : ◌≡◌ {A = ℕ} 0 1 = cc in absurd (omega arith)

pub shown-thick : (b c : Band) → shown_of b ≡ Some c → T (lt c.bore c.outer)
shown-thick b c e = subst (λ (x : Band). T (lt x.bore x.outer)) (shown-is b c e).1 (shown-is b c e).0

pub bore-number : (b c : Band) → shown_of b ≡ Some c → is_nan c.bore ≡ false
bore-number b c e = lt-number-l c.bore c.outer (shown-thick b c e)

pub outer-number : (b c : Band) → shown_of b ≡ Some c → is_nan c.outer ≡ false
outer-number b c e = lt-number-r c.bore c.outer (shown-thick b c e)

-- ---- bands within bands
pub nested-self : (b : Band) → is_nan b.bore ≡ false → is_nan b.outer ≡ false → Nested b b
nested-self b p q = record { bore = le_same b.bore p; outer = le_same b.outer q }

pub nested-chain : {a b c : Band} → Nested a b → Nested b c → Nested a c
nested-chain {a} {b} {c} p q = record { bore = le-chain c.bore b.bore a.bore q.bore p.bore; outer = le-chain a.outer b.outer c.outer p.outer q.outer }

-- numbers, and no band of less than no thickness
record Thick (b : Band) : Type 0 where
  bore : is_nan b.bore ≡ false
  outer : is_nan b.outer ≡ false

thick : (b c : Band) → shown_of b ≡ Some c → Thick c
thick b c e = record { bore = bore-number b c e; outer = outer-number b c e }

module _ {a b : Band} (ta : Thick a) (tb : Thick b) where
  first-nested : Nested a (join_of a b)
  first-nested = record { bore = (least_under a.bore b.bore ta.bore tb.bore).0; outer = (greatest-over a.outer b.outer ta.outer tb.outer).0 }

  second-nested : Nested b (join_of a b)
  second-nested = record { bore = (least_under a.bore b.bore ta.bore tb.bore).1; outer = (greatest-over a.outer b.outer ta.outer tb.outer).1 }

either : (P : Float → Type 0) (t : Bool) (x y : Float) → P x → P y → P (pick t x y)
unfolding pick
either P true x y p q = p
either P false x y p q = q

-- the joined band has the bore of one of them and the outer radius of one of them
bore-of : (a b : Band) → (a.bore ≡ (join_of a b).bore) ⊎ (b.bore ≡ (join_of a b).bore)
unfolding least_of pick
bore-of a b = go (lt b.bore a.bore)
  where
    go : (t : Bool) → (a.bore ≡ pick t b.bore a.bore) ⊎ (b.bore ≡ pick t b.bore a.bore)
    go true = inr refl
    go false = inl refl

outer-of : (a b : Band) → (a.outer ≡ (join_of a b).outer) ⊎ (b.outer ≡ (join_of a b).outer)
unfolding greatest_of pick
outer-of a b = go (lt a.outer b.outer)
  where
    go : (t : Bool) → (a.outer ≡ pick t b.outer a.outer) ⊎ (b.outer ≡ pick t b.outer a.outer)
    go true = inr refl
    go false = inl refl

-- ---- one bin more
module _ (cs : List Float) (a k : ℕ) where
  one_more : {i : ℕ} {c : Band} → Holds cs a k i c → Holds cs a (suc k) i c
  one_more h = record { from = h.from; to = omega (arith, h.to); shown = h.shown }

  last_one : {c : Band} → shown_of (most_of (cell_at cs (a + k))) ≡ Some c → Holds cs a (suc k) (a + k) c
  last_one e = record { from = omega arith; to = omega arith; shown = e }

  -- a bin of the walk is one of those before, or the last
  among : {A : Type 0} {i : ℕ} {c : Band} → Holds cs a (suc k) i c → (Holds cs a k i c → A) → (shown_of (most_of (cell_at cs (a + k))) ≡ Some c → A) → A
  among {A} {i} {c} h f g = go (ltb i (a + k)) refl
    where
      go : (t : Bool) → ltb i (a + k) ≡ t → A
      go true e = f (record { from = h.from; to = ltb-true i (a + k) e; shown = h.shown })
      go false e =
          let q : i ≡ a + k = omega (arith, ltb-false i (a + k) e, h.to) in
          g (ap (λ (j : ℕ). shown_of (most_of (cell_at cs j))) (sym q) ∙ h.shown)

  most-thick : {b : Band} → Most cs a k b → Thick b
  most-thick m = record {
    bore = subst (λ (x : Float). is_nan x ≡ false) m.bore_same (bore-number _ _ m.bore_there.shown);
    outer = subst (λ (x : Float). is_nan x ≡ false) m.outer_same (outer-number _ _ m.outer_there.shown);
  }

-- ---- a walk
some_is : {x y : Band} → ◌≡◌ {A = Option Band} (Some x) (Some y) → x ≡ y
some_is e = cc

none-not : {A : Type 0} {x : Band} → ◌≡◌ {A = Option Band} None (Some x) → A
none-not e = let y : ◌≡◌ {A = ℕ} 0 1 = cc in absurd (omega arith)

-- two together show nothing where neither shows anything
together-none : (x y : Option Band) → together x y ≡ None → (x ≡ None) × (y ≡ None)
unfolding together
together-none None y e = (refl, e)
together-none (Some u) None e = none-not (sym e)
together-none (Some u) (Some v) e = none-not (sym e)

-- it shows nothing where none of the bins holds material
pub walk_none : (cs : List Float) (a k : ℕ) → most_over cs a k ≡ None → (i : ℕ) (c : Band) → Holds cs a k i c → ⊥
unfolding most_over
walk_none cs a zero e i c h = omega (arith, h.from, h.to)
walk_none cs a (suc k) e i c h =
    let n = together-none (most_over cs a k) (shown_of (most_of (cell_at cs (a + k)))) e in
    among cs a k h (λ m. walk_none cs a k n.0 i c m) (λ s. none-not (sym n.1 ∙ s))

pub none_walk : (cs : List Float) (a k : ℕ) → ((i : ℕ) (c : Band) → Holds cs a k i c → ⊥) → most_over cs a k ≡ None
unfolding most_over together
none_walk cs a zero f = refl
none_walk cs a (suc k) f = go (none_walk cs a k (λ i c h. f i c (one_more cs a k h))) (shown_of (most_of (cell_at cs (a + k)))) refl
  where
    go : most_over cs a k ≡ None → (y : Option Band) → shown_of (most_of (cell_at cs (a + k))) ≡ y → together (most_over cs a k) (shown_of (most_of (cell_at cs (a + k)))) ≡ None
    go p None e = rw (p, e) refl
    go p (Some v) e = absurd (f (a + k) v (last_one cs a k e))

-- one bin more, by what was shown before it and what it shows
module _ (cs : List Float) (a k : ℕ) where
  -- nothing was shown before it
  only-last : (v : Band) → most_over cs a k ≡ None → shown_of (most_of (cell_at cs (a + k))) ≡ Some v → Most cs a (suc k) v
  only-last v p q = record {
    bore_bin = a + k;
    bore_band = v;
    bore_there = last_one cs a k q;
    bore_same = refl;
    outer_bin = a + k;
    outer_band = v;
    outer_there = last_one cs a k q;
    outer_same = refl;
    within = λ i c m. among cs a k m
        (λ n. absurd (walk_none cs a k p i c n))
        (λ s. subst (λ (w : Band). Nested w v) (some_is (sym q ∙ s)) (nested-self v (bore-number _ _ q) (outer-number _ _ q)));
  }

  -- it shows nothing
  not_last : (u : Band) → Most cs a k u → shown_of (most_of (cell_at cs (a + k))) ≡ None → Most cs a (suc k) u
  not_last u m q = record {
    bore_bin = m.bore_bin;
    bore_band = m.bore_band;
    bore_there = one_more cs a k m.bore_there;
    bore_same = m.bore_same;
    outer_bin = m.outer_bin;
    outer_band = m.outer_band;
    outer_there = one_more cs a k m.outer_there;
    outer_same = m.outer_same;
    within = λ i c h. among cs a k h (λ n. m.within i c n) (λ s. none-not (sym q ∙ s));
  }

  -- which bin has the bore, and which the outer radius
  record Side (f : Band → Float) (x : Float) : Type 0 where
    bin : ℕ
    of : Band
    there : Holds cs a (suc k) bin of
    same : f of ≡ x

  both-shown : (u v : Band) → Most cs a k u → shown_of (most_of (cell_at cs (a + k))) ≡ Some v → Most cs a (suc k) (join_of u v)
  both-shown u v m q = record {
    bore_bin = low.bin;
    bore_band = low.of;
    bore_there = low.there;
    bore_same = low.same;
    outer_bin = high.bin;
    outer_band = high.of;
    outer_there = high.there;
    outer_same = high.same;
    within = λ i c h. among cs a k h
        (λ n. nested-chain (m.within i c n) (first-nested tu tv))
        (λ s. subst (λ (w : Band). Nested w (join_of u v)) (some_is (sym q ∙ s)) (second-nested tu tv));
  }
    where
      tu : Thick u
      tu = most-thick cs a k m

      tv : Thick v
      tv = thick _ v q

      low : Side (λ (b : Band). b.bore) (join_of u v).bore
      low = elim (bore-of u v) [
        | inl e ↦ record { bin = m.bore_bin; of = m.bore_band; there = one_more cs a k m.bore_there; same = m.bore_same ∙ e }
        | inr e ↦ record { bin = a + k; of = v; there = last_one cs a k q; same = e }
      ]

      high : Side (λ (b : Band). b.outer) (join_of u v).outer
      high = elim (outer-of u v) [
        | inl e ↦ record { bin = m.outer_bin; of = m.outer_band; there = one_more cs a k m.outer_there; same = m.outer_same ∙ e }
        | inr e ↦ record { bin = a + k; of = v; there = last_one cs a k q; same = e }
      ]

-- what it shows is the most of the bins that hold material
pub walk-most : (cs : List Float) (a k : ℕ) (b : Band) → most_over cs a k ≡ Some b → Most cs a k b
unfolding most_over together
walk-most cs a zero b e = none-not e
walk-most cs a (suc k) b e = go (walk-most cs a k) (most_over cs a k) refl (shown_of (most_of (cell_at cs (a + k)))) refl e
  where
    go : ((u : Band) → most_over cs a k ≡ Some u → Most cs a k u) → (x : Option Band) → most_over cs a k ≡ x → (y : Option Band) → shown_of (most_of (cell_at cs (a + k))) ≡ y → together x y ≡ Some b → Most cs a (suc k) b
    go w None p None q f = none-not f
    go w None p (Some v) q f = subst (λ (z : Band). Most cs a (suc k) z) (some_is f) (only-last cs a k v p q)
    go w (Some u) p None q f = subst (λ (z : Band). Most cs a (suc k) z) (some_is f) (not_last cs a k u (w u p) q)
    go w (Some u) p (Some v) q f = subst (λ (z : Band). Most cs a (suc k) z) (some_is f) (both-shown cs a k u v (w u p) q)

-- an answer, or none
pub data Case (x : Option Band) : Type 0 where
  nothing : x ≡ None → Case x
  found : (b : Band) → x ≡ Some b → Case x

pub case : (x : Option Band) → Case x
case None = nothing refl
case (Some b) = found b refl

-- where each bin with material of one walk has one of another about it, what the one shows lies within what the other shows
pub walk-within : (cs cs' : List Float) (a k a' k' : ℕ) → ((i : ℕ) (c : Band) → Holds cs a k i c → (d : Band) × Holds cs' a' k' i d × Nested c d) → (b : Band) → most_over cs a k ≡ Some b → (b' : Band) × (most_over cs' a' k' ≡ Some b') × Nested b b'
walk-within cs cs' a k a' k' about b e = elim (case (most_over cs' a' k')) [
  | nothing p ↦ let h = about m.bore_bin m.bore_band m.bore_there in absurd (walk_none cs' a' k' p m.bore_bin h.0 h.1)
  | found b' p ↦
      let w = walk-most cs' a' k' b' p in
      let u = about m.bore_bin m.bore_band m.bore_there in
      let v = about m.outer_bin m.outer_band m.outer_there in (
        b',
        p,
        record {
          bore = subst (λ (x : Float). T (le b'.bore x)) m.bore_same (nested-chain u.2 (w.within m.bore_bin u.0 u.1)).bore;
          outer = subst (λ (x : Float). T (le x b'.outer)) m.outer_same (nested-chain v.2 (w.within m.outer_bin v.0 v.1)).outer;
        },
      )
]
  where
    m : Most cs a k b
    m = walk-most cs a k b e

-- ---- a walk that is asked where a test holds
module _ (t : Bool) (cs : List Float) (a k : ℕ) where
  -- an answer is the most of its bins
  pub asked-most : (b : Band) → pick t (most_over cs a k) None ≡ Some b → (t ≡ true) × Most cs a k b
  unfolding pick
  asked-most b e = go t refl e
    where
      go : (u : Bool) → t ≡ u → pick u (most_over cs a k) None ≡ Some b → (t ≡ true) × Most cs a k b
      go true p q = (p, walk-most cs a k b q)
      go false p q = none-not q

  -- it shows nothing where none of its bins holds material
  pub asked-none : pick t (most_over cs a k) None ≡ None → t ≡ true → (i : ℕ) (c : Band) → Holds cs a k i c → ⊥
  asked-none e p = walk_none cs a k (sym (pick_true _ _ _ p) ∙ e)

  -- and where none does, and where it is not asked
  pub none-asked : (t ≡ true → (i : ℕ) (c : Band) → Holds cs a k i c → ⊥) → pick t (most_over cs a k) None ≡ None
  unfolding pick
  none-asked f = go t refl
    where
      go : (u : Bool) → t ≡ u → pick u (most_over cs a k) None ≡ None
      go true p = none_walk cs a k (f p)
      go false p = refl
