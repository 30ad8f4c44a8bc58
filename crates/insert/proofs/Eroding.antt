-- What is answered over the samples of a window: where there is an answer every sample has a value, the answer is that of one of them, and none goes beyond it. Assumes nothing.
use Rattle.std.specs.Prelude.{Option, None, Some}
use mathlib.Core.Path.{◌≡◌, refl, sym, ap, ◌∙◌}
use mathlib.Core.Bool.{Bool, true, false, ◌&&◌, ◌||◌, false≢true}
use mathlib.Core.Logic.{◌⊎◌, inl, inr}
use mathlib.Core.List.{List}
use Prim.Native.Nat.{ℕ, zero, suc, ◌+◌, ◌-◌, ◌*◌, ◌<◌}
use native.Mathlib.Nat.{eq-or-lt_of_le}
use native.Mathlib.Omega.{arith}
use lib.Dec.{T, eqb}
use lib.ListN.{get_or}
use lib.IntN.{pos}
use lib.Ieee.{Float, nan, fin, binary64, lt, eq, fits, of_bits, of_fields, odd}
use lib.Ieee.Fits.{add-fits}
use Rattle.floats.specs.Pick.{pick}
use Rattle.floats.specs.Numbers.{◌+₆₄◌, ◌-₆₄◌, zero64, least_of, greatest_of}
use Rattle.floats.proofs.Lattice.{greatest-keeps}
use Rattle.floats.proofs.Cleared.{clean-keeps}
use Rattle.envelope.specs.Envelope.{count, u_at, v_at, point_at, span_of, across, segment_at, higher, highest_to, highest_at}
use Rattle.insert.specs.declared.Which.{Which}
use Rattle.insert.specs.declared.Which.TheVariants.{Least, Greatest}
use Rattle.insert.specs.Insert.{chosen, most_of, or_zero, bore_at, sample_at, both, with_inside, sampled_to, sampled_in, moved, moved_of, offset_of}
use Rattle.insert.proofs.Best.{none-some, same_some, not-less-self, not-less, not_more, Reached, none_below}

-- ---- a value that goes beyond another: a lesser one for the least, a greater one for the greatest
abbrev pub ahead : Which → Float → Float → Bool
ahead Least x m = lt x m
ahead Greatest x m = lt m x

chosen_is : (w : Which) (m x : Float) → chosen w m x ≡ pick (ahead w x m) x m
unfolding least_of greatest_of
chosen_is Least m x = refl
chosen_is Greatest m x = refl

ahead-self : (w : Which) (x : Float) → T (fits binary64 x) → ahead w x x ≡ false
ahead-self Least x f = not-less-self x f
ahead-self Greatest x f = not-less-self x f

-- what does not go beyond m does not go beyond what does
ahead-on : (w : Which) (m x y : Float) → T (fits binary64 m) → T (fits binary64 x) → T (fits binary64 y) → ahead w x m ≡ true → ahead w y m ≡ false → ahead w y x ≡ false
ahead-on Least m x y fm fx fy l n = not_more m x y fm fx fy l n
ahead-on Greatest m x y fm fx fy l n = not-less m x y fm fx fy l n

-- ---- the least or the greatest of what f gives over some places
-- f gives a value at u, and it does not go beyond m
pub record Sampled (w : Which) (f : Float → Option Float) (m u : Float) : Type 0 where
  pub value : Float
  pub gives : f u ≡ Some value
  pub within : ahead w value m ≡ false

-- m is what f gives at some place of S; at every place it gives a value, and none goes beyond m
pub record Extreme (w : Which) (f : Float → Option Float) (S : Float → Type 0) (m : Float) : Type 0 where
  pub attained : Reached f S m
  pub each : (u : Float) → S u → Sampled w f m u

module _ (w : Which) (f : Float → Option Float) (held : (u x : Float) → f u ≡ Some x → T (fits binary64 x)) where
  extreme-same : (S S' : Float → Type 0) (m : Float) → ((v : Float) → S v → S' v) → ((v : Float) → S' v → S v) → Extreme w f S m → Extreme w f S' m
  extreme-same S S' m to back e =
      let q = e.attained in
      record { attained = record { at = q.at; among = to q.at q.among; gives = q.gives }; each = λ u s. e.each u (back u s) }

  extreme-one : (u c : Float) → f u ≡ Some c → Extreme w f (λ v. v ≡ u) c
  extreme-one u c e = record {
    attained = record { at = u; among = refl; gives = e };
    each = λ v q. record { value = c; gives = ap f q ∙ e; within = ahead-self w c (held u c e) };
  }

  module _ (S : Float → Type 0) (u m c : Float) (e : f u ≡ Some c) (b : Extreme w f S m) where
    abbrev And : Float → Type 0
    And v = S v ⊎ (v ≡ u)

    extreme-two : (t : Bool) → ahead w c m ≡ t → Extreme w f And (pick t c m)
    unfolding pick
    extreme-two true l = record { attained = record { at = u; among = inr refl; gives = e }; each = go }
      where
        fm : T (fits binary64 m)
        fm = held b.attained.at m b.attained.gives

        go : (v : Float) → And v → Sampled w f c v
        go v (inl s) =
            let q = b.each v s in
            record { value = q.value; gives = q.gives; within = ahead-on w m c q.value fm (held u c e) (held v q.value q.gives) l q.within }
        go v (inr q) = record { value = c; gives = ap f q ∙ e; within = ahead-self w c (held u c e) }
    extreme-two false l = record { attained = record { at = b.attained.at; among = inl b.attained.among; gives = b.attained.gives }; each = go }
      where
        go : (v : Float) → And v → Sampled w f m v
        go v (inl s) = b.each v s
        go v (inr q) = record { value = c; gives = ap f q ∙ e; within = l }

    extreme-more : Extreme w f And (chosen w m c)
    extreme-more = rw (chosen_is w m c) (extreme-two (ahead w c m) refl)

  -- where both have a value
  both_of : (S : Float → Type 0) (u : Float) (r s : Option Float) → f u ≡ s → ((m : Float) → r ≡ Some m → Extreme w f S m) → (m : Float) → both w r s ≡ Some m → Extreme w f (λ v. S v ⊎ (v ≡ u)) m
  unfolding both
  both_of S u None s e g m h = absurd (none-some h)
  both_of S u (Some a) None e g m h = absurd (none-some h)
  both_of S u (Some a) (Some c) e g m h = rw (← same_some h) (extreme-more S u a c e (g a refl))

-- ---- the samples of a window
-- an end of the window, or the u of one of the first k points from point a on that lies strictly inside
pub record Inside (ps : List Float) (wlo whi : Float) (a k : ℕ) (v : Float) : Type 0 where
  pub point : ℕ
  pub below : point < k
  pub place : v ≡ u_at ps (a + point)
  pub inside : (lt wlo v && lt v whi) ≡ true

abbrev pub Sample : List Float → Float → Float → ℕ → ℕ → Float → Type 0
Sample ps wlo whi a k v = ((v ≡ wlo) ⊎ (v ≡ whi)) ⊎ Inside ps wlo whi a k v

-- ---- what is sampled is a value of the format
clean-fits : T (fits binary64 (fin false 0 (pos 0)))
unfolding fits
clean-fits = tt

zero-fits : T (fits binary64 zero64)
unfolding fits of_bits of_fields odd
zero-fits = tt

module _ (ps : List Float) (held : (i : ℕ) → T (fits binary64 (get_or ps i nan))) where
  v-fits : (i : ℕ) → T (fits binary64 (v_at ps i))
  unfolding v_at
  v-fits i = clean-keeps (λ z. T (fits binary64 z)) clean-fits (held (2 * i + 1))

  segment-fits : (i j : ℕ) (u x : Float) → segment_at (point_at ps i) (point_at ps j) u ≡ Some x → T (fits binary64 x)
  unfolding segment_at across pick
  segment-fits i j u x h = go (lt u (least_of (u_at ps i) (u_at ps j)) || lt (greatest_of (u_at ps i) (u_at ps j)) u) (eq (u_at ps j) (u_at ps i)) h
    where
      go : (a b : Bool) → pick a None (Some (pick b (greatest_of (v_at ps i) (v_at ps j)) (across (point_at ps i) (point_at ps j) u))) ≡ Some x → T (fits binary64 x)
      go true b h = absurd (none-some h)
      go false true h = rw (← same_some h) (greatest-keeps (λ z. T (fits binary64 z)) (v-fits i) (v-fits j))
      go false false h = rw (← same_some h) (add-fits binary64 _ _)

  higher-fits : (r s : Option Float) → ((x : Float) → r ≡ Some x → T (fits binary64 x)) → ((x : Float) → s ≡ Some x → T (fits binary64 x)) → (x : Float) → higher r s ≡ Some x → T (fits binary64 x)
  unfolding higher
  higher-fits None s p q x h = q x h
  higher-fits (Some a) None p q x h = p x h
  higher-fits (Some a) (Some b) p q x h = rw (← same_some h) (greatest-keeps (λ z. T (fits binary64 z)) (p a refl) (q b refl))

  highest-fits : (u : Float) (a k : ℕ) (x : Float) → highest_to ps u a k ≡ Some x → T (fits binary64 x)
  unfolding highest_to
  highest-fits u a zero x h = absurd (none-some h)
  highest-fits u a (suc k) x h = higher-fits (highest_to ps u a k) _ (highest-fits u a k) (segment-fits (a + k) (a + k + 1) u) x h

  or-zero-fits : (r : Option Float) → ((x : Float) → r ≡ Some x → T (fits binary64 x)) → T (fits binary64 (or_zero r))
  or-zero-fits None p = zero-fits
  or-zero-fits (Some x) p = p x refl

  sample-fits : (w : Which) (u x : Float) → sample_at w ps u ≡ Some x → T (fits binary64 x)
  unfolding sample_at bore_at pick
  sample-fits Least u x h = highest-fits u _ _ x h
  sample-fits Greatest u x h = go (eqb (count ps) 0) (lt (most_of Greatest ps) u) (lt u (most_of Least ps)) h
    where
      go : (a b c : Bool) → pick a None (pick b None (pick c (Some zero64) (Some (or_zero (highest_at ps u))))) ≡ Some x → T (fits binary64 x)
      go true b c h = absurd (none-some h)
      go false true c h = absurd (none-some h)
      go false false true h = rw (← same_some h) zero-fits
      go false false false h = rw (← same_some h) (or-zero-fits (highest_at ps u) (λ y g. highest-fits u _ _ y g))

  module _ (w : Which) (wlo whi : Float) (a : ℕ) where
    abbrev f : Float → Option Float
    f u = sample_at w ps u

    ends : (m : Float) → both w (f wlo) (f whi) ≡ Some m → Extreme w f (λ v. (v ≡ wlo) ⊎ (v ≡ whi)) m
    ends m h = both_of w f (sample-fits w) (λ v. v ≡ wlo) whi (f wlo) (f whi) refl (λ c e. extreme-one w f (sample-fits w) wlo c e) m h

    one_more : (k : ℕ) (r : Option Float) → ((m : Float) → r ≡ Some m → Extreme w f (Sample ps wlo whi a k) m) → (t : Bool) → (lt wlo (u_at ps (a + k)) && lt (u_at ps (a + k)) whi) ≡ t
        → (m : Float) → pick t (both w r (f (u_at ps (a + k)))) r ≡ Some m → Extreme w f (Sample ps wlo whi a (suc k)) m
    unfolding pick
    one_more k r g true e m h =
        extreme-same w f (sample-fits w) (λ v. Sample ps wlo whi a k v ⊎ (v ≡ u_at ps (a + k))) (Sample ps wlo whi a (suc k)) m to back
        (both_of w f (sample-fits w) (Sample ps wlo whi a k) (u_at ps (a + k)) r (f (u_at ps (a + k))) refl g m h)
      where
        to : (v : Float) → Sample ps wlo whi a k v ⊎ (v ≡ u_at ps (a + k)) → Sample ps wlo whi a (suc k) v
        to v (inl (inl s)) = inl s
        to v (inl (inr q)) = inr (record { point = q.point; below = let l = q.below in omega arith; place = q.place; inside = q.inside })
        to v (inr q) = inr (record { point = k; below = omega arith; place = q; inside = ap (λ (x : Float). lt wlo x && lt x whi) q ∙ e })

        back : (v : Float) → Sample ps wlo whi a (suc k) v → Sample ps wlo whi a k v ⊎ (v ≡ u_at ps (a + k))
        back v (inl s) = inl (inl s)
        back v (inr q) = go q.point (eq-or-lt_of_le (let l = q.below in omega arith)) q.place
          where
            go : (i : ℕ) → (i ≡ k) ⊎ (i < k) → v ≡ u_at ps (a + i) → Sample ps wlo whi a k v ⊎ (v ≡ u_at ps (a + k))
            go i (inl d) p = inr (rw d at p)
            go i (inr l) p = inl (inr (record { point = i; below = l; place = p; inside = q.inside }))
    one_more k r g false e m h = extreme-same w f (sample-fits w) (Sample ps wlo whi a k) (Sample ps wlo whi a (suc k)) m to back (g m h)
      where
        to : (v : Float) → Sample ps wlo whi a k v → Sample ps wlo whi a (suc k) v
        to v (inl s) = inl s
        to v (inr q) = inr (record { point = q.point; below = let l = q.below in omega arith; place = q.place; inside = q.inside })

        back : (v : Float) → Sample ps wlo whi a (suc k) v → Sample ps wlo whi a k v
        back v (inl s) = inl s
        back v (inr q) = go q.point (eq-or-lt_of_le (let l = q.below in omega arith)) q.place
          where
            go : (i : ℕ) → (i ≡ k) ⊎ (i < k) → v ≡ u_at ps (a + i) → Sample ps wlo whi a k v
            go i (inl d) p =
                let p' = rw d at p in
                absurd (false≢true (sym e ∙ (ap (λ (x : Float). lt wlo x && lt x whi) (sym p') ∙ q.inside)))
            go i (inr l) p = inr (record { point = i; below = l; place = p; inside = q.inside })

    pub sampled-extreme : (k : ℕ) (m : Float) → sampled_to w ps wlo whi a k ≡ Some m → Extreme w f (Sample ps wlo whi a k) m
    unfolding sampled_to with_inside
    sampled-extreme zero m h = extreme-same w f (sample-fits w) (λ v. (v ≡ wlo) ⊎ (v ≡ whi)) (Sample ps wlo whi a zero) m (λ v s. inl s) back (ends m h)
      where
        back : (v : Float) → Sample ps wlo whi a zero v → (v ≡ wlo) ⊎ (v ≡ whi)
        back v (inl s) = s
        back v (inr q) = absurd (none_below q.below)
    sampled-extreme (suc k) m h = one_more k (sampled_to w ps wlo whi a k) (sampled-extreme k) (lt wlo (u_at ps (a + k)) && lt (u_at ps (a + k)) whi) refl m h

  -- ---- what is eroded or dilated: by the tolerance from the least or the greatest over the samples
  pub record Offset (w : Which) (t u x : Float) : Type 0 where
    pub from : Float
    pub moves : x ≡ moved w t from
    pub extreme : let s = span_of ps (u -₆₄ t) (u +₆₄ t) in Extreme w (sample_at w ps) (Sample ps (u -₆₄ t) (u +₆₄ t) s.start (s.end - s.start)) from

  pub eroded-below : (w : Which) (t u x : Float) → offset_of w ps t u ≡ Some x → Offset w t u x
  unfolding offset_of moved_of
  eroded-below w t u x h = go (sampled_in w ps (u -₆₄ t) (u +₆₄ t) (span_of ps (u -₆₄ t) (u +₆₄ t))) refl h
    where
      go : (r : Option Float) → sampled_in w ps (u -₆₄ t) (u +₆₄ t) (span_of ps (u -₆₄ t) (u +₆₄ t)) ≡ r → moved_of w t r ≡ Some x → Offset w t u x
      go None e h = absurd (none-some h)
      go (Some m) e h = record { from = m; moves = sym (same_some h); extreme = sampled-extreme w (u -₆₄ t) (u +₆₄ t) _ _ m e }
