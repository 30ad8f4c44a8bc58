-- What is answered over the candidates: the answer is that of some candidate, and no candidate has more; nothing is answered exactly where no candidate gives anything. Assumes nothing.
use Rattle.std.specs.Prelude.{Option, None, Some}
use mathlib.Core.Path.{◌≡◌, refl, sym, ap, ◌∙◌}
use mathlib.Core.Bool.{Bool, true, false, ◌&&◌, false≢true}
use mathlib.Core.Logic.{◌⊎◌, inl, inr, ◌↔◌}
use mathlib.Core.List.{List}
use Prim.Native.Nat.{ℕ, zero, suc, ◌+◌, ◌-◌, ◌<◌}
use native.Mathlib.Nat.{eq-or-lt_of_le}
use native.Mathlib.Omega.{arith}
use lib.Dec.{T, eqb}
use lib.Ieee.{Float, nan, inf, fin, binary64, lt, le, fits, is_nan}
use lib.Ieee.Fits.{sub-fits}
use borrow.Author.Tests.{eqb-true}
use Rattle.floats.specs.Pick.{pick}
use Rattle.floats.specs.Numbers.{◌+₆₄◌, ◌-₆₄◌, zero64, greatest_of}
use Rattle.floats.specs.Kinds.{Number}
use Rattle.floats.proofs.Order.{lt_trans, lt-never}
use Rattle.envelope.specs.declared.Span.{Span}
use Rattle.envelope.specs.Envelope.{count, u_at, span_of, higher}
use Rattle.envelope.proofs.Chain.{is}
use Rattle.floats.proofs.Bools.{so}
use Rattle.insert.specs.declared.Which.{Which}
use Rattle.insert.specs.declared.Which.TheVariants.{Least, Greatest}
use Rattle.insert.specs.declared.candidates.Trial.{Trial}
use Rattle.insert.specs.Insert.{offset_of, edges_to, edges_of, beyond, touch_at, with_candidate, with_point, points_to, points_in, polygon_to, trial_of, touch_of}

-- ---- none is no number
pub none-some : {A : Type 0} {a : A} → None ≡ Some a → ⊥
none-some h = let z : ◌≡◌ {A = ℕ} 0 1 = cc in omega arith

pub same_some : {A : Type 0} {a b : A} → Some a ≡ Some b → a ≡ b
same_some h = cc

-- ---- the order of values, a nan among them
lt-nan-l : (y : Float) → lt nan y ≡ false
unfolding lt
lt-nan-l y = refl

pub lt-nan-r : (x : Float) → lt x nan ≡ false
unfolding lt
lt-nan-r nan = refl
lt-nan-r (inf s) = refl
lt-nan-r (fin s m e) = refl

pub nan-or : (x : Float) → T (fits binary64 x) → (x ≡ nan) ⊎ Number binary64 x
unfolding is_nan
nan-or nan f = inl refl
nan-or (inf s) f = inr (record { held = f; number = tt })
nan-or (fin s m e) f = inr (record { held = f; number = tt })

pub not-less-self : (x : Float) → T (fits binary64 x) → lt x x ≡ false
not-less-self x f = go (nan-or x f)
  where
    on : Number binary64 x → (t : Bool) → lt x x ≡ t → t ≡ false
    on n true e = absurd (lt-never n (so e))
    on n false e = refl

    go : (x ≡ nan) ⊎ Number binary64 x → lt x x ≡ false
    go (inl e) = rw e (lt-nan-l nan)
    go (inr n) = on n (lt x x) refl

-- what is not above a is not above b, where b is
pub not-less : (a b y : Float) → T (fits binary64 a) → T (fits binary64 b) → T (fits binary64 y) → lt a b ≡ true → lt a y ≡ false → lt b y ≡ false
not-less a b y fa fb fy l n = go (nan-or a fa) (nan-or b fb) (nan-or y fy)
  where
    on : Number binary64 a → Number binary64 b → Number binary64 y → (t : Bool) → lt b y ≡ t → t ≡ false
    on p q r true e = absurd (false≢true (sym n ∙ is (lt a y) (lt_trans p q r (so l) (so e))))
    on p q r false e = refl

    go : (a ≡ nan) ⊎ Number binary64 a → (b ≡ nan) ⊎ Number binary64 b → (y ≡ nan) ⊎ Number binary64 y → lt b y ≡ false
    go (inl e) q r = absurd (false≢true (sym (lt-nan-l b) ∙ (ap (λ (x : Float). lt x b) (sym e) ∙ l)))
    go (inr p) (inl e) r = absurd (false≢true (sym (lt-nan-r a) ∙ (ap (λ (x : Float). lt a x) (sym e) ∙ l)))
    go (inr p) (inr q) (inl e) = rw e (lt-nan-r b)
    go (inr p) (inr q) (inr r) = on p q r (lt b y) refl

-- what is not below a is not below b, where b is below a
pub not_more : (a b y : Float) → T (fits binary64 a) → T (fits binary64 b) → T (fits binary64 y) → lt b a ≡ true → lt y a ≡ false → lt y b ≡ false
not_more a b y fa fb fy l n = go (nan-or a fa) (nan-or b fb) (nan-or y fy)
  where
    on : Number binary64 a → Number binary64 b → Number binary64 y → (t : Bool) → lt y b ≡ t → t ≡ false
    on p q r true e = absurd (false≢true (sym n ∙ is (lt y a) (lt_trans r q p (so e) (so l))))
    on p q r false e = refl

    go : (a ≡ nan) ⊎ Number binary64 a → (b ≡ nan) ⊎ Number binary64 b → (y ≡ nan) ⊎ Number binary64 y → lt y b ≡ false
    go (inl e) q r = absurd (false≢true (sym (lt-nan-r b) ∙ (ap (λ (x : Float). lt b x) (sym e) ∙ l)))
    go (inr p) (inl e) r = absurd (false≢true (sym (lt-nan-l a) ∙ (ap (λ (x : Float). lt x a) (sym e) ∙ l)))
    go (inr p) (inr q) (inl e) = rw e (lt-nan-l b)
    go (inr p) (inr q) (inr r) = on p q r (lt y b) refl

-- ---- the best of what f gives over some places
-- a place at which f gives x
pub record Reached (f : Float → Option Float) (S : Float → Type 0) (x : Float) : Type 0 where
  pub at : Float
  pub among : S at
  pub gives : f at ≡ Some x

-- something is found, and y is not above it
abbrev pub NoMore : Option Float → Float → Type 0
NoMore None y = ⊥
NoMore (Some x) y = lt x y ≡ false

-- r is what f gives at some place of S, and at no place of S does it give more
pub record Best (f : Float → Option Float) (S : Float → Type 0) (r : Option Float) : Type 0 where
  pub attained : (x : Float) → r ≡ Some x → Reached f S x
  pub most : (u y : Float) → S u → f u ≡ Some y → NoMore r y

-- of the same places
best-same : (f : Float → Option Float) (S S' : Float → Type 0) (r : Option Float) → ((v : Float) → S v → S' v) → ((v : Float) → S' v → S v) → Best f S r → Best f S' r
best-same f S S' r to back b = record {
  attained = λ x h. let q = b.attained x h in record { at = q.at; among = to q.at q.among; gives = q.gives };
  most = λ u y s g. b.most u y (back u s) g;
}

module _ (f : Float → Option Float) (held : (u x : Float) → f u ≡ Some x → T (fits binary64 x)) (S : Float → Type 0) (u : Float) where
  -- those, and u
  abbrev And : Float → Type 0
  And v = S v ⊎ (v ≡ u)

  there : {c : Float} → f u ≡ Some c → (v y : Float) → v ≡ u → f v ≡ Some y → c ≡ y
  there e v y q g = same_some (sym e ∙ (ap f (sym q) ∙ g))

  wide : {x : Float} → Reached f S x → Reached f And x
  wide q = record { at = q.at; among = inl q.among; gives = q.gives }

  best-nothing : (r : Option Float) → f u ≡ None → Best f S r → Best f And r
  best-nothing r e b = record { attained = λ x h. wide (b.attained x h); most = λ v y s g. go v y s g }
    where
      go : (v y : Float) → And v → f v ≡ Some y → NoMore r y
      go v y (inl s) g = b.most v y s g
      go v y (inr q) g = absurd (none-some (sym e ∙ (ap f (sym q) ∙ g)))

  best-first : (c : Float) → f u ≡ Some c → Best f S None → Best f And (Some c)
  best-first c e b = record { attained = λ x h. record { at = u; among = inr refl; gives = e ∙ h }; most = λ v y s g. go v y s g }
    where
      go : (v y : Float) → And v → f v ≡ Some y → lt c y ≡ false
      go v y (inl s) g = absurd (b.most v y s g)
      go v y (inr q) g = rw (← there e v y q g) (not-less-self c (held u c e))

  best-two : (a c : Float) → f u ≡ Some c → Best f S (Some a) → (t : Bool) → lt a c ≡ t → Best f And (Some (pick t c a))
  unfolding pick
  best-two a c e b true l = record { attained = λ x h. record { at = u; among = inr refl; gives = e ∙ h }; most = λ v y s g. go v y s g }
    where
      fa : T (fits binary64 a)
      fa = let q = b.attained a refl in held q.at a q.gives

      go : (v y : Float) → And v → f v ≡ Some y → lt c y ≡ false
      go v y (inl s) g = not-less a c y fa (held u c e) (held v y g) l (b.most v y s g)
      go v y (inr q) g = rw (← there e v y q g) (not-less-self c (held u c e))
  best-two a c e b false l = record { attained = λ x h. wide (b.attained x h); most = λ v y s g. go v y s g }
    where
      go : (v y : Float) → And v → f v ≡ Some y → lt a y ≡ false
      go v y (inl s) g = b.most v y s g
      go v y (inr q) g = rw (← there e v y q g) l

  best-more : (r s : Option Float) → f u ≡ s → Best f S r → Best f And (higher r s)
  unfolding higher greatest_of
  best-more None None e b = best-nothing None e b
  best-more None (Some c) e b = best-first c e b
  best-more (Some a) None e b = best-nothing (Some a) e b
  best-more (Some a) (Some c) e b = best-two a c e b (lt a c) refl

  -- those, and u where the test holds
  abbrev pub AndWhere : Bool → Float → Type 0
  AndWhere t v = S v ⊎ ((v ≡ u) × (t ≡ true))

  pub best-with : (t : Bool) (r : Option Float) → Best f S r → Best f (AndWhere t) (pick t (higher r (f u)) r)
  unfolding pick
  best-with true r b = best-same f And (AndWhere true) (higher r (f u)) to back (best-more r (f u) refl b)
    where
      to : (v : Float) → And v → AndWhere true v
      to v (inl s) = inl s
      to v (inr q) = inr (q, refl)

      back : (v : Float) → AndWhere true v → And v
      back v (inl s) = inl s
      back v (inr q) = inr q.0
  best-with false r b = best-same f S (AndWhere false) r (λ v s. inl s) back b
    where
      back : (v : Float) → AndWhere false v → S v
      back v (inl s) = s
      back v (inr q) = absurd (false≢true q.1)

-- ---- the candidates
-- u lies over the polygon
abbrev pub over : Trial → Float → Bool
over a u = le a.lo u && le u a.hi

-- one of the three of the first k points of the envelope from point b on
pub record OfPoint (ps : List Float) (a : Trial) (b k : ℕ) (v : Float) : Type 0 where
  pub point : ℕ
  pub below : point < k
  pub place : (v ≡ u_at ps (b + point) -₆₄ a.tolerance) ⊎ ((v ≡ u_at ps (b + point)) ⊎ (v ≡ u_at ps (b + point) +₆₄ a.tolerance))
  pub lies : over a v ≡ true

-- the u of one of the first k points of the polygon
pub record OfPolygon (gs : List Float) (a : Trial) (k : ℕ) (v : Float) : Type 0 where
  pub point : ℕ
  pub below : point < k
  pub place : v ≡ u_at gs point
  pub lies : over a v ≡ true

pub none_below : {n : ℕ} → n < 0 → ⊥
none_below h = omega arith

-- ---- what is compared is a value of the format
beyond-held : (w : Which) (o e : Option Float) (x : Float) → beyond w o e ≡ Some x → T (fits binary64 x)
unfolding beyond pick
beyond-held w None e x h = absurd (none-some h)
beyond-held w (Some o) None x h = absurd (none-some h)
beyond-held Least (Some o) (Some e) x h = go (lt zero64 o) h
  where
    go : (t : Bool) → pick t (Some (o -₆₄ e)) None ≡ Some x → T (fits binary64 x)
    go true h = rw (← same_some h) (sub-fits binary64 o e)
    go false h = absurd (none-some h)
beyond-held Greatest (Some o) (Some e) x h = rw (← same_some h) (sub-fits binary64 e o)

module _ (w : Which) (ps gs : List Float) (a : Trial) where
  -- what is compared at u
  abbrev at : Float → Option Float
  at u = touch_at w ps gs a.tolerance u

  at_held : (u x : Float) → at u ≡ Some x → T (fits binary64 x)
  unfolding touch_at
  at_held u x h = beyond-held w (offset_of w ps a.tolerance u) (edges_of w gs u) x h

  with-best : (S : Float → Type 0) (r : Option Float) (u : Float) → Best at S r → Best at (λ v. S v ⊎ ((v ≡ u) × (over a u ≡ true))) (with_candidate w ps gs a r u)
  unfolding with_candidate
  with-best S r u b = best-with at at_held S u (over a u) r b

  module _ (b k : ℕ) where
    abbrev p : Float
    p = u_at ps (b + k)

    abbrev One : Float → Type 0
    One v = OfPoint ps a b k v ⊎ ((v ≡ p -₆₄ a.tolerance) × (over a (p -₆₄ a.tolerance) ≡ true))

    abbrev Two : Float → Type 0
    Two v = One v ⊎ ((v ≡ p) × (over a p ≡ true))

    abbrev Three : Float → Type 0
    Three v = Two v ⊎ ((v ≡ p +₆₄ a.tolerance) × (over a (p +₆₄ a.tolerance) ≡ true))

    to-next : (v : Float) → Three v → OfPoint ps a b (suc k) v
    to-next v (inl (inl (inl q))) = record { point = q.point; below = let h = q.below in omega arith; place = q.place; lies = q.lies }
    to-next v (inl (inl (inr q))) = record { point = k; below = omega arith; place = inl q.0; lies = ap (over a) q.0 ∙ q.1 }
    to-next v (inl (inr q)) = record { point = k; below = omega arith; place = inr (inl q.0); lies = ap (over a) q.0 ∙ q.1 }
    to-next v (inr q) = record { point = k; below = omega arith; place = inr (inr q.0); lies = ap (over a) q.0 ∙ q.1 }

    from_next : (v : Float) → OfPoint ps a b (suc k) v → Three v
    from_next v q = go q.point (eq-or-lt_of_le (let h = q.below in omega arith)) q.place
      where
        go : (i : ℕ) → (i ≡ k) ⊎ (i < k) → (v ≡ u_at ps (b + i) -₆₄ a.tolerance) ⊎ ((v ≡ u_at ps (b + i)) ⊎ (v ≡ u_at ps (b + i) +₆₄ a.tolerance)) → Three v
        go i (inl e) (inl g) = let g' = rw e at g in inl (inl (inr (g', ap (over a) (sym g') ∙ q.lies)))
        go i (inl e) (inr (inl g)) = let g' = rw e at g in inl (inr (g', ap (over a) (sym g') ∙ q.lies))
        go i (inl e) (inr (inr g)) = let g' = rw e at g in inr (g', ap (over a) (sym g') ∙ q.lies)
        go i (inr l) g = inl (inl (inl (record { point = i; below = l; place = g; lies = q.lies })))

  points-best : (b k : ℕ) → Best at (OfPoint ps a b k) (points_to w ps gs a b k)
  unfolding points_to with_point
  points-best b zero = record { attained = λ x h. absurd (none-some h); most = λ u y s g. none_below s.below }
  points-best b (suc k) =
      best-same at (Three b k) (OfPoint ps a b (suc k)) (with_point w ps gs a (points_to w ps gs a b k) (p b k)) (to-next b k) (from_next b k)
      (with-best (Two b k) _ (p b k +₆₄ a.tolerance) (with-best (One b k) _ (p b k) (with-best (OfPoint ps a b k) (points_to w ps gs a b k) (p b k -₆₄ a.tolerance) (points-best b k))))

  -- the part of the envelope's points about the polygon
  abbrev part : Span
  part = span_of ps (a.lo -₆₄ a.tolerance) (a.hi +₆₄ a.tolerance)

  -- a candidate: of a point of that part, or of the first k points of the polygon
  abbrev pub CandidateTo : ℕ → Float → Type 0
  CandidateTo k v = OfPoint ps a part.start (part.end - part.start) v ⊎ OfPolygon gs a k v

  polygon-best : (k : ℕ) → Best at (CandidateTo k) (polygon_to w ps gs a k)
  unfolding polygon_to
  polygon-best zero = best-same at (OfPoint ps a part.start (part.end - part.start)) (CandidateTo zero) (points_in w ps gs a part) (λ v s. inl s) back (points-best part.start (part.end - part.start))
    where
      back : (v : Float) → CandidateTo zero v → OfPoint ps a part.start (part.end - part.start) v
      back v (inl s) = s
      back v (inr q) = absurd (none_below q.below)
  polygon-best (suc k) = best-same at And' (CandidateTo (suc k)) (with_candidate w ps gs a (polygon_to w ps gs a k) (u_at gs k)) to back (with-best (CandidateTo k) (polygon_to w ps gs a k) (u_at gs k) (polygon-best k))
    where
      And' : Float → Type 0
      And' v = CandidateTo k v ⊎ ((v ≡ u_at gs k) × (over a (u_at gs k) ≡ true))

      to : (v : Float) → And' v → CandidateTo (suc k) v
      to v (inl (inl s)) = inl s
      to v (inl (inr q)) = inr (record { point = q.point; below = let h = q.below in omega arith; place = q.place; lies = q.lies })
      to v (inr q) = inr (record { point = k; below = omega arith; place = q.0; lies = ap (over a) q.0 ∙ q.1 })

      back : (v : Float) → CandidateTo (suc k) v → And' v
      back v (inl s) = inl (inl s)
      back v (inr q) = go q.point (eq-or-lt_of_le (let h = q.below in omega arith)) q.place
        where
          go : (i : ℕ) → (i ≡ k) ⊎ (i < k) → v ≡ u_at gs i → And' v
          go i (inl e) g = let g' = rw e at g in inr (g', ap (over a) (sym g') ∙ q.lies)
          go i (inr l) g = inl (inr (record { point = i; below = l; place = g; lies = q.lies }))

-- ---- what is answered
module _ (w : Which) (ps gs : List Float) (t : Float) where
  -- the candidates of an insert
  abbrev pub Candidate : Float → Type 0
  Candidate v = CandidateTo w ps gs (trial_of gs t) (count gs) v

  -- without a polygon nothing is compared
  no_edges : count gs ≡ 0 → (u : Float) → touch_at w ps gs t u ≡ None
  unfolding touch_at edges_of edges_to beyond
  no_edges h u = rw h (go (offset_of w ps t u))
    where
      go : (o : Option Float) → beyond w o None ≡ None
      go None = refl
      go (Some x) = refl

  -- excess and penetration: attained at a candidate, and no candidate has more
  pub touch-best : Best (touch_at w ps gs t) Candidate (touch_of w ps gs t)
  unfolding touch_of pick
  touch-best = go (eqb (count gs) 0) refl
    where
      go : (z : Bool) → eqb (count gs) 0 ≡ z → Best (touch_at w ps gs t) Candidate (pick z None (polygon_to w ps gs (trial_of gs t) (count gs)))
      go true e = record { attained = λ x h. absurd (none-some h); most = λ u y s g. absurd (none-some (sym (no_edges (eqb-true (count gs) 0 e) u) ∙ g)) }
      go false e = polygon-best w ps gs (trial_of gs t) (count gs)

  -- nothing is answered exactly where no candidate gives anything
  pub nothing-exactly : (touch_of w ps gs t ≡ None) ↔ ((u : Float) → Candidate u → touch_at w ps gs t u ≡ None)
  nothing-exactly = (λ e u c. to (touch_at w ps gs t u) refl e c, λ h. from (touch_of w ps gs t) refl h)
    where
      to : {u : Float} (o : Option Float) → touch_at w ps gs t u ≡ o → touch_of w ps gs t ≡ None → Candidate u → o ≡ None
      to None e z c = refl
      to {u} (Some y) e z c = absurd (rw z at (touch-best.most u y c e))

      from : (r : Option Float) → touch_of w ps gs t ≡ r → ((u : Float) → Candidate u → touch_at w ps gs t u ≡ None) → r ≡ None
      from None e h = refl
      from (Some x) e h = let q = touch-best.attained x e in absurd (none-some (sym (h q.at q.among) ∙ q.gives))

  -- so a polygon with no points touches nothing
  pub no-polygon : count gs ≡ 0 → touch_of w ps gs t ≡ None
  no-polygon h = nothing-exactly.1 (λ u c. no_edges h u)
