-- What is answered: excess, penetration and what is eroded are finite numbers, and not -0.0. Assumes nothing.
use Rattle.std.specs.Prelude.{Option, None, Some}
use mathlib.Core.Path.{◌≡◌, refl, sym, ap, subst, ◌∙◌}
use mathlib.Core.Bool.{Bool, true, false, not, ◌&&◌, ◌||◌, false≢true}
use mathlib.Core.Logic.{◌⊎◌, inl, inr}
use mathlib.Core.List.{List}
use Prim.Native.Nat.{ℕ, zero, suc, ◌+◌, ◌-◌, ◌*◌, ◌%◌, ◌<◌, ◌≤◌}
use native.Mathlib.Nat.{mod-lt}
use native.Mathlib.Omega.{arith}
use lib.Dec.{T, leb, eqb}
use Rattle.refusals.specs.Limits.{point_limit}
use lib.ListN.{get_or}
use lib.Ieee.{Float, nan, binary64, le, lt, eq, fits, is_nan, of_bits, of_fields, odd}
use lib.Ieee.Fits.{add-fits, sub-fits}
use borrow.Author.Tests.{eqb-false}
use Rattle.refusals.specs.Paper.{answers, demand, only}
use Rattle.floats.specs.Pick.{pick}
use Rattle.floats.specs.Numbers.{◌+₆₄◌, ◌-₆₄◌, zero64, least_of, greatest_of, minus_zero, clean_of, usable}
use Rattle.floats.specs.Kinds.{Number, Within}
use Rattle.floats.proofs.Order.{number-of, nlt→le, lt→le}
use Rattle.floats.proofs.Lattice.{least-keeps, greatest-keeps}
use Rattle.floats.proofs.Cleared.{clean-keeps}
use Rattle.floats.proofs.Within.{finite-within, number-within, within-between, within-add, within-sub}
use Rattle.floats.proofs.Zeros.{add-plain, sub-plain}
use Rattle.envelope.specs.Envelope.{count, u_at, v_at, point_at, points_good, across, highest_at}
use Rattle.envelope.proofs.Chain.{both}
use Rattle.floats.proofs.Bools.{so}
use Rattle.envelope.proofs.Rules.{refused-not}
use Rattle.envelope.proofs.Finite.{Sized, usable-sized, weaken, Held, across-sized, u-sized, v-sized, highest-at-sized}
use Rattle.insert.specs.declared.Which.{Which}
use Rattle.insert.specs.declared.Which.TheVariants.{Least, Greatest}
use Rattle.insert.specs.Insert.{polygon_good, touch_asks, eroded_asks, chosen, most_to, most_of, or_zero, bore_at, sample_at, both as both_of, with_inside, sampled_to, moved_of, offset_of, edge_at, further, edges_to, edges_of, beyond, touch_at, touch_of, touched, eroded_of}
use Rattle.insert.proofs.Best.{lt-nan-r, nan-or, none-some, same_some, Candidate, touch-best}

hasnt : {b : Bool} → b ≡ false → T (not b)
hasnt e = subst (λ b. T (not b)) (sym e) tt

zero-sized : (k : ℕ) → Sized k zero64
unfolding fits of_bits of_fields odd is_nan minus_zero
zero-sized k = record {
  plain = record { held = tt; number = tt; unsigned = tt };
  within = record { held = tt; finite = tt; small = omega arith };
}

-- what a number is below is a number
above-number : (x u : Float) → T (fits binary64 u) → lt x u ≡ true → Number binary64 u
above-number x u f e = go (nan-or u f)
  where
    go : (u ≡ nan) ⊎ Number binary64 u → Number binary64 u
    go (inl q) = absurd (false≢true (sym (lt-nan-r x) ∙ (ap (lt x) (sym q) ∙ e)))
    go (inr n) = n

-- ---- a number of a size, where there is one
abbrev At : ℕ → Option Float → Type 0
At k None = Unit {0}
At k (Some x) = Sized k x

at_some : (k : ℕ) (o : Option Float) {x : Float} → At k o → o ≡ Some x → Sized k x
at_some k None h e = absurd (none-some e)
at_some k (Some y) h e = subst (λ z. Sized k z) (same_some e) h

chosen-keeps : (P : Float → Type 0) (w : Which) {a b : Float} → P a → P b → P (chosen w a b)
chosen-keeps P Least p q = least-keeps P p q
chosen-keeps P Greatest p q = greatest-keeps P p q

-- ---- the numbers of accepted points
module _ (ps : List Float) (held : (i : ℕ) → T (fits binary64 (get_or ps i nan))) where
  u-held : (i : ℕ) → T (fits binary64 (u_at ps i))
  unfolding u_at fits
  u-held i = clean-keeps (λ x. T (fits binary64 x)) tt (held (2 * i))

  module _ (good : points_good ps ≡ true) where
    most-sized : (w : Which) (k : ℕ) → k < count ps → Sized 20 (most_to w ps k)
    unfolding most_to
    most-sized w zero h = u-sized ps held good 0 h
    most-sized w (suc k) h = chosen-keeps (λ x. Sized 20 x) w (most-sized w k (omega arith)) (u-sized ps held good (suc k) h)

    most-of-sized : (w : Which) → Sized 20 (most_of w ps)
    unfolding most_of pick
    most-of-sized w = go (eqb (count ps) 0) refl
      where
        go : (b : Bool) → eqb (count ps) 0 ≡ b → Sized 20 (pick b zero64 (most_to w ps (count ps - 1)))
        go true e = zero-sized 20
        go false e = let n : count ps ≡ 0 → ⊥ = eqb-false _ _ e in most-sized w (count ps - 1) (pred (count ps) n)
          where
            pred : (n : ℕ) → (n ≡ 0 → ⊥) → n - 1 < n
            pred zero h = absurd (h refl)
            pred (suc n) h = omega arith

    -- ---- samples
    bore-sized : {m : ℕ} {u : Float} → Within binary64 m u → At 22 (bore_at ps u)
    unfolding bore_at pick
    bore-sized {u = u} s = go (eqb (count ps) 0) (lt (most_of Greatest ps) u) (lt u (most_of Least ps)) (highest_at ps u) (highest-at-sized ps held good s)
      where
        go : (a b c : Bool) (o : Option Float) → Held o → At 22 (pick a None (pick b None (pick c (Some zero64) (Some (or_zero o)))))
        go true b c o h = tt
        go false true c o h = tt
        go false false true o h = zero-sized 22
        go false false false None h = zero-sized 22
        go false false false (Some x) h = h

    sample-sized : (w : Which) {m : ℕ} {u : Float} → Within binary64 m u → At 22 (sample_at w ps u)
    unfolding sample_at
    sample-sized Least {u = u} s = go (highest_at ps u) (highest-at-sized ps held good s)
      where
        go : (o : Option Float) → Held o → At 22 o
        go None h = tt
        go (Some x) h = h
    sample-sized Greatest s = bore-sized s

    both-sized : (w : Which) (a b : Option Float) → At 22 a → At 22 b → At 22 (both_of w a b)
    unfolding both_of
    both-sized w None b h g = tt
    both-sized w (Some x) None h g = tt
    both-sized w (Some x) (Some y) h g = chosen-keeps (λ z. Sized 22 z) w h g

    module _ (w : Which) {wlo whi : Float} (sl : Within binary64 21 wlo) (sh : Within binary64 21 whi) where
      inside-sized : (r : Option Float) (u : Float) → T (fits binary64 u) → At 22 r → At 22 (with_inside w ps wlo whi r u)
      unfolding with_inside pick
      inside-sized r u f h = go (lt wlo u) (lt u whi) refl refl
        where
          go : (a b : Bool) → lt wlo u ≡ a → lt u whi ≡ b → At 22 (pick (a && b) (both_of w r (sample_at w ps u)) r)
          go true true ea eb =
              let n = above-number wlo u f ea in
              both-sized w r (sample_at w ps u) h (sample-sized w (within-between sl sh f (lt→le (number-within sl) n (so ea)) (lt→le n (number-within sh) (so eb))))
          go true false ea eb = h
          go false b ea eb = h

      sampled-sized : (a k : ℕ) → At 22 (sampled_to w ps wlo whi a k)
      unfolding sampled_to
      sampled-sized a zero = both-sized w (sample_at w ps wlo) (sample_at w ps whi) (sample-sized w sl) (sample-sized w sh)
      sampled-sized a (suc k) = inside-sized (sampled_to w ps wlo whi a k) (u_at ps (a + k)) (u-held (a + k)) (sampled-sized a k)

    -- what is eroded or dilated
    offset-sized : (w : Which) {t u : Float} → Sized 20 t → Within binary64 20 u → At 23 (offset_of w ps t u)
    unfolding offset_of moved_of
    offset-sized w {t} {u} st su = go w (sampled_to w ps _ _ _ _) (sampled-sized w (within-sub su st.within (omega arith)) (within-add su st.within (omega arith)) _ _)
      where
        go : (w : Which) (o : Option Float) → At 22 o → At 23 (moved_of w t o)
        go w None h = tt
        go Least (Some x) h = record { plain = sub-plain h.plain (finite-within h.within) (finite-within st.within); within = within-sub h.within st.within (omega arith) }
        go Greatest (Some x) h = record { plain = add-plain h.plain (finite-within h.within) (finite-within st.within); within = within-add h.within st.within (omega arith) }

    -- ---- the edges of a polygon
    number : {k : ℕ} {x : Float} → Sized k x → Number binary64 x
    number s = number-of s.plain

    edge-sized : (w : Which) (i j : ℕ) → i < count ps → j < count ps → {m : ℕ} {u : Float} → Within binary64 m u → At 22 (edge_at w ps i j u)
    unfolding edge_at pick
    edge-sized w i j hi hj {u = u} s = go (lt u (least_of (u_at ps i) (u_at ps j))) (lt (greatest_of (u_at ps i) (u_at ps j)) u) (eq (u_at ps j) (u_at ps i)) refl refl refl
      where
        ui : Sized 20 (u_at ps i)
        ui = u-sized ps held good i hi

        uj : Sized 20 (u_at ps j)
        uj = u-sized ps held good j hj

        vi : Sized 20 (v_at ps i)
        vi = v-sized ps held good i hi

        vj : Sized 20 (v_at ps j)
        vj = v-sized ps held good j hj

        go : (a b c : Bool) → lt u (least_of (u_at ps i) (u_at ps j)) ≡ a → lt (greatest_of (u_at ps i) (u_at ps j)) u ≡ b → eq (u_at ps j) (u_at ps i) ≡ c
            → At 22 (pick (a || b) None (Some (pick c (chosen w (v_at ps i) (v_at ps j)) (across (point_at ps i) (point_at ps j) u))))
        go true b c ea eb ec = tt
        go false true c ea eb ec = tt
        go false false true ea eb ec = chosen-keeps (λ x. Sized 22 x) w (weaken vi) (weaken vj)
        go false false false ea eb ec =
            across-sized ui vi uj vj s (nlt→le (number (least-keeps (λ x. Sized 20 x) ui uj)) (number-within s) (hasnt ea)) (nlt→le (number-within s) (number (greatest-keeps (λ x. Sized 20 x) ui uj)) (hasnt eb)) (hasnt ec)

    further-sized : (w : Which) (a b : Option Float) → At 22 a → At 22 b → At 22 (further w a b)
    unfolding further
    further-sized w None b h g = g
    further-sized w (Some x) None h g = h
    further-sized w (Some x) (Some y) h g = chosen-keeps (λ z. Sized 22 z) w h g

    edges-sized : (w : Which) {m : ℕ} {u : Float} → Within binary64 m u → (k : ℕ) → k ≤ count ps → At 22 (edges_to w ps (count ps) u k)
    unfolding edges_to
    edges-sized w s zero h = tt
    edges-sized w {u = u} s (suc k) h =
        let p : 0 < count ps = omega arith in
        further-sized w (edges_to w ps (count ps) u k) _ (edges-sized w s k (omega arith)) (edge-sized w k ((k + 1) % count ps) (omega arith) (mod-lt (k + 1) p) s)

-- ---- what is compared
beyond-sized : (w : Which) (o e : Option Float) → At 23 o → At 22 e → At 24 (beyond w o e)
unfolding beyond pick
beyond-sized w None e h g = tt
beyond-sized w (Some o) None h g = tt
beyond-sized Least (Some o) (Some e) h g = go (lt zero64 o)
  where
    go : (b : Bool) → At 24 (pick b (Some (o -₆₄ e)) None)
    go true = record { plain = sub-plain h.plain (finite-within h.within) (finite-within g.within); within = within-sub h.within g.within (omega arith) }
    go false = tt
beyond-sized Greatest (Some o) (Some e) h g = record { plain = sub-plain g.plain (finite-within g.within) (finite-within h.within); within = within-sub g.within h.within (omega arith) }

module _ (ps gs : List Float) (held : (i : ℕ) → T (fits binary64 (get_or ps i nan))) (shaped : (i : ℕ) → T (fits binary64 (get_or gs i nan))) where
  module _ (w : Which) (t : Float) (gp : points_good ps ≡ true) (gg : points_good gs ≡ true) (st : Sized 20 t) where
    touch-at-sized : {u : Float} → Within binary64 20 u → At 24 (touch_at w ps gs t u)
    unfolding touch_at edges_of
    touch-at-sized {u} s = beyond-sized w (offset_of w ps t u) (edges_to w gs (count gs) u (count gs)) (offset-sized ps held gp w st s) (edges-sized gs shaped gg w s (count gs) (omega arith))

    -- a candidate lies over the polygon
    lies_within : (u : Float) → T (fits binary64 u) → (le (most_of Least gs) u && le u (most_of Greatest gs)) ≡ true → Within binary64 20 u
    lies_within u f e =
        let b = both (le (most_of Least gs) u) (le u (most_of Greatest gs)) e in
        within-between (most-of-sized gs shaped gg Least).within (most-of-sized gs shaped gg Greatest).within f (so b.0) (so b.1)

    candidate-within : (u : Float) → Candidate w ps gs t u → Within binary64 20 u
    candidate-within u (inl q) = lies_within u (go _ (u-held ps held _) q.place) q.lies
      where
        go : (v : Float) → T (fits binary64 v) → (u ≡ v -₆₄ t) ⊎ ((u ≡ v) ⊎ (u ≡ v +₆₄ t)) → T (fits binary64 u)
        go v f (inl e) = subst (λ x. T (fits binary64 x)) (sym e) (sub-fits binary64 v t)
        go v f (inr (inl e)) = subst (λ x. T (fits binary64 x)) (sym e) f
        go v f (inr (inr e)) = subst (λ x. T (fits binary64 x)) (sym e) (add-fits binary64 v t)
    candidate-within u (inr q) = lies_within u (subst (λ x. T (fits binary64 x)) (sym q.place) (u-held gs shaped q.point)) q.lies

    touch-of-sized : (x : Float) → touch_of w ps gs t ≡ Some x → Sized 24 x
    touch-of-sized x e =
        let r = (touch-best w ps gs t).attained x e in
        at_some 24 (touch_at w ps gs t r.at) (touch-at-sized (candidate-within r.at r.among)) r.gives

  -- EXCESS AND PENETRATION: an answer is finite, at most 2 ^ 24 in size, and not -0.0
  pub touch-finite : (w : Which) (t : Float) → T (fits binary64 t) → (x : Float) → touched w ps gs t ≡ answers (Some x) → Sized 24 x
  unfolding touched touch_asks polygon_good demand
  touch-finite w t ft x e = go (touch_asks ps gs t) refl e
    where
      go : (b : Bool) → touch_asks ps gs t ≡ b → demand b 14 (answers (touch_of w ps gs (clean_of t))) ≡ answers (Some x) → Sized 24 x
      go true d e =
          let a = both (points_good ps) (polygon_good gs && (usable t && le zero64 t)) d in
          let b = both (polygon_good gs) (usable t && le zero64 t) a.1 in
          let g = both (leb (count gs) point_limit) (points_good gs) b.0 in
          let u = both (usable t) (le zero64 t) b.1 in
          let r : touch_of w ps gs (clean_of t) ≡ Some x = cc in
          touch-of-sized w (clean_of t) a.0 g.1 (usable-sized t ft u.0) x r
      go false d e = absurd (refused-not (only 14) _ e)

-- ERODED: the same, at most 2 ^ 23 in size
pub eroded-finite : (ps : List Float) (held : (i : ℕ) → T (fits binary64 (get_or ps i nan))) (u t : Float) → T (fits binary64 u) → T (fits binary64 t) → (x : Float) → eroded_of ps u t ≡ answers (Some x) → Sized 23 x
unfolding eroded_of eroded_asks demand
eroded-finite ps held u t fu ft x e = go (eroded_asks ps u t) refl e
  where
    go : (b : Bool) → eroded_asks ps u t ≡ b → demand b 14 (answers (offset_of Least ps (clean_of t) (clean_of u))) ≡ answers (Some x) → Sized 23 x
    go true d e =
        let a = both (points_good ps) (usable u && (usable t && le zero64 t)) d in
        let b = both (usable u) (usable t && le zero64 t) a.1 in
        let c = both (usable t) (le zero64 t) b.1 in
        let r : offset_of Least ps (clean_of t) (clean_of u) ≡ Some x = cc in
        at_some 23 (offset_of Least ps (clean_of t) (clean_of u)) (offset-sized ps held a.0 Least (usable-sized t ft c.0) (usable-sized u fu b.0).within) r
    go false d e = absurd (refused-not (only 14) _ e)
