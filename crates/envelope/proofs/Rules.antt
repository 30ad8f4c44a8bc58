-- The rules: what the code finds over points and the number kept beside them is what the rules of `Envelope` say of the points, and the narrow look answers as the full look. Assumes nothing.
use Rattle.std.specs.Prelude.{Option, None}
use mathlib.Core.Path.{◌≡◌, refl, ap, ◌∙◌, subst}
use mathlib.Core.Bool.{Bool, true, false, ◌&&◌}
use mathlib.Core.Logic.{◌↔◌}
use mathlib.Core.List.{List}
use Prim.Native.Nat.{ℕ, ◌+◌, ◌*◌, ◌%◌, ◌<◌, ◌≤◌}
use native.Mathlib.Omega.{arith}
use lib.Dec.{T, eqb, leb}
use lib.ListN.{length, get_or}
use lib.IntN.{ℤ, pos, negsuc}
use lib.Ieee.{Float, nan, binary64, le, neg, fits}
use borrow.Author.Tests.{le-leb}
use Rattle.floats.specs.Pick.{pick}
use Rattle.floats.specs.Numbers.{million, clean_of, usable, usable_to}
use Rattle.floats.specs.Kinds.{Number, Plain}
use Rattle.floats.proofs.Order.{number-of, le_trans}
use Rattle.floats.proofs.Cleared.{clean-plain}
use Rattle.floats.proofs.Within.{number-l}
use Rattle.refusals.specs.Paper.{Paper, Reason, answers, refuses, only, demand}
use Rattle.envelope.specs.declared.Span.{Span}
use Rattle.refusals.specs.Limits.{envelope_limit}
use Rattle.envelope.specs.declared.Radii.{Radii}
use Rattle.envelope.specs.Envelope.{u_at, v_at, count, points_good, rises, falls, order_of, ordered_of, span, span_of, part_of, within_of, part_numbers, wider, highest_in, highest_at, radius_at_of, radii_in, radii_of, radius_range_of}
use Rattle.envelope.specs.Halving.{is_z, kept_of, Kept, Ruled, accepted, kept_order, halved_span, straight, halved_part, kept_within, halved_at, kept_at, halved_radii, kept_range}
use Rattle.envelope.specs.Full.{full_there, full_range}
use Rattle.envelope.proofs.Kept.{Lies}
use Rattle.envelope.proofs.Chain.{both, all-at}
use Rattle.floats.proofs.Bools.{so}
use Rattle.envelope.proofs.Counted.{span-any, span-counted, span-lies, span-exactly}
use Rattle.envelope.proofs.Narrow.{highest-full, radii-full}

-- ---- the numbers of good points, and of a query
pub usable-plain : (x : Float) → T (fits binary64 x) → usable x ≡ true → Plain binary64 (clean_of x)
usable-plain x f e = clean-plain (number-l x million f (so (both (le (neg million) x) (le x million) e).1))

pub usable-number : (x : Float) → T (fits binary64 x) → usable x ≡ true → Number binary64 (clean_of x)
usable-number x f e = number-of (usable-plain x f e)

module _ (ps : List Float) (good : points_good ps ≡ true) where
  pub good-usable : (i : ℕ) → i < length ps → usable (get_or ps i nan) ≡ true
  unfolding points_good usable_to
  good-usable i h = all-at (λ i. usable (get_or ps i nan)) (length ps) i (both (eqb (length ps % 2) 0 && leb (count ps) envelope_limit) (usable_to ps (length ps)) good).1 h

  module _ (held : (i : ℕ) → T (fits binary64 (get_or ps i nan))) (i : ℕ) (h : i < count ps) where
    pub u-plain : Plain binary64 (u_at ps i)
    unfolding u_at
    u-plain = usable-plain (get_or ps (2 * i) nan) (held (2 * i)) (good-usable (2 * i) (omega arith))

    pub v-plain : Plain binary64 (v_at ps i)
    unfolding v_at
    v-plain = usable-plain (get_or ps (2 * i + 1) nan) (held (2 * i + 1)) (good-usable (2 * i + 1) (omega arith))

    pub u-number : Number binary64 (u_at ps i)
    u-number = number-of u-plain

-- ---- what is kept, and the rule
accepted-order : (ps : List Float) → accepted (order_of ps) ≡ true
unfolding order_of pick is_z
accepted-order ps = go (rises ps) (falls ps)
  where
    go : (a b : Bool) → accepted (pick a (pos 1) (pick b (negsuc 0) (pos 0))) ≡ true
    go true b = refl
    go false true = refl
    go false false = refl

-- the number of refused points refuses; that of good points is their order
kept_rule : {A : Type 0} (ps : List Float) (f : ℤ → A) (y : A) (b : Bool) → (points_good ps ≡ true → b ≡ true → f (order_of ps) ≡ y)
    → demand (accepted (kept_of ps) && b) 14 (answers (f (kept_of ps))) ≡ demand (points_good ps && b) 14 (answers y)
unfolding kept_of pick is_z demand
kept_rule {A} ps f y b h = go (points_good ps) b h
  where
    go : (a b : Bool) → (a ≡ true → b ≡ true → f (order_of ps) ≡ y) → demand (accepted (pick a (order_of ps) (pos 2)) && b) 14 (answers (f (pick a (order_of ps) (pos 2)))) ≡ demand (a && b) 14 (answers y)
    go true true h = rw (accepted-order ps, h refl refl)
    go true false h = rw (accepted-order ps)
    go false b h = refl

order-rule : (ps : List Float) → kept_order (kept_of ps) ≡ ordered_of ps
unfolding kept_order ordered_of kept_of pick is_z demand
order-rule ps = go (points_good ps)
  where
    go : (a : Bool) → demand (accepted (pick a (order_of ps) (pos 2))) 14 (answers (pick a (order_of ps) (pos 2))) ≡ demand a 14 (answers (order_of ps))
    go true = rw (accepted-order ps)
    go false = refl

-- a refusal is no answer
pub refused-not : {A : Type 0} (n : Reason) (x : A) → refuses n ≡ answers x → ⊥
refused-not n x e = let z : ◌≡◌ {A = ℕ} 0 1 = cc in omega arith

straight-same : (s : Span) (n : ℕ) → Lies s n → straight s ≡ s
unfolding straight pick
straight-same s n l = rw (le-leb s.start s.end l.0)

module _ (ps : List Float) (held : (i : ℕ) → T (fits binary64 (get_or ps i nan))) where
  module _ (good : points_good ps ≡ true) (lo hi : Float) (nlo : Number binary64 lo) (nhi : Number binary64 hi) where
    counted : halved_span ps (order_of ps) lo hi ≡ span_of ps lo hi
    counted = span-counted ps (u-number ps good held) lo hi nlo nhi

    part_same : halved_part ps (order_of ps) lo hi ≡ part_of ps lo hi
    unfolding halved_part part_of pick
    part_same = go (le lo hi) refl
      where
        go : (b : Bool) → le lo hi ≡ b → pick b (straight (halved_span ps (order_of ps) lo hi)) (span 0 0) ≡ pick b (span_of ps lo hi) (span 0 0)
        go true e = ap straight counted ∙ straight-same (span_of ps lo hi) (count ps) (span-lies ps (u-number ps good held) lo hi nlo nhi e)
        go false e = refl

  module _ (lo hi : Float) (flo : T (fits binary64 lo)) (fhi : T (fits binary64 hi)) where
    number-lo : (usable lo && usable hi) ≡ true → Number binary64 (clean_of lo)
    number-lo e = usable-number lo flo (both (usable lo) (usable hi) e).0

    number-hi : (usable lo && usable hi) ≡ true → Number binary64 (clean_of hi)
    number-hi e = usable-number hi fhi (both (usable lo) (usable hi) e).1

    within-rule : kept_within ps (kept_of ps) lo hi ≡ within_of ps lo hi
    unfolding kept_within within_of
    within-rule = kept_rule ps (λ z. halved_part ps z (clean_of lo) (clean_of hi)) (part_of ps (clean_of lo) (clean_of hi)) (usable lo && usable hi) (λ good e. part_same good (clean_of lo) (clean_of hi) (number-lo e) (number-hi e))

    range-rule : kept_range ps (kept_of ps) lo hi ≡ radius_range_of ps lo hi
    unfolding kept_range radius_range_of halved_radii radii_of
    range-rule =
        kept_rule ps (λ z. halved_radii ps z (clean_of lo) (clean_of hi)) (radii_of ps (clean_of lo) (clean_of hi)) (usable lo && usable hi)
        (λ good e. ap (λ s. pick (le (clean_of lo) (clean_of hi)) (radii_in ps (wider s (count ps)) (clean_of lo) (clean_of hi)) None) (counted good (clean_of lo) (clean_of hi) (number-lo e) (number-hi e)))

  at-rule : (u : Float) → T (fits binary64 u) → kept_at ps (kept_of ps) u ≡ radius_at_of ps u
  unfolding kept_at radius_at_of halved_at
  at-rule u fu =
      kept_rule ps (λ z. halved_at ps z (clean_of u)) (highest_in ps (wider (span_of ps (clean_of u) (clean_of u)) (count ps)) (clean_of u)) (usable u)
      (λ good e. ap (λ s. highest_in ps (wider s (count ps)) (clean_of u)) (counted good (clean_of u) (clean_of u) (usable-number u fu e) (usable-number u fu e)))

-- ---- what the functions over points and a number promise
pub order-kept : (ps : List Float) (z : ℤ) (r : Paper ℤ) → r ≡ kept_order z → Kept ps z r (kept_order z) (ordered_of ps)
order-kept ps z r e = record { found = e; ruled = λ g. e ∙ (ap kept_order g ∙ order-rule ps) }

module _ (ps : List Float) (held : (i : ℕ) → T (fits binary64 (get_or ps i nan))) (z : ℤ) where
  pub at-kept : (u : Float) → T (fits binary64 u) → (r : Paper (Option Float)) → r ≡ kept_at ps z u → Kept ps z r (kept_at ps z u) (radius_at_of ps u)
  at-kept u fu r e = record { found = e; ruled = λ g. e ∙ (ap (λ y. kept_at ps y u) g ∙ at-rule ps held u fu) }

  module _ (lo hi : Float) (flo : T (fits binary64 lo)) (fhi : T (fits binary64 hi)) where
    pub within-kept : (r : Paper Span) → r ≡ kept_within ps z lo hi → Kept ps z r (kept_within ps z lo hi) (within_of ps lo hi)
    within-kept r e = record { found = e; ruled = λ g. e ∙ (ap (λ y. kept_within ps y lo hi) g ∙ within-rule ps held lo hi flo fhi) }

    pub numbers-kept : (r : List Float) → r ≡ part_numbers ps (kept_within ps z lo hi) → Kept ps z r (part_numbers ps (kept_within ps z lo hi)) (part_numbers ps (within_of ps lo hi))
    numbers-kept r e = record { found = e; ruled = λ g. e ∙ ap (part_numbers ps) (ap (λ y. kept_within ps y lo hi) g ∙ within-rule ps held lo hi flo fhi) }

    pub range-kept : (r : Paper (Option Radii)) → r ≡ kept_range ps z lo hi → Kept ps z r (kept_range ps z lo hi) (radius_range_of ps lo hi)
    range-kept r e = record { found = e; ruled = λ g. e ∙ (ap (λ y. kept_range ps y lo hi) g ∙ range-rule ps held lo hi flo fhi) }

  -- a part of a rule, of the points' own order
  pub span-ruled : (lo hi : Float) → T (fits binary64 lo) → T (fits binary64 hi) → (r : Span) → r ≡ halved_span ps z lo hi → Ruled ps z r (halved_span ps z lo hi) (span_of ps lo hi)
  span-ruled lo hi flo fhi r e = record { found = e; ruled = λ good g. e ∙ (ap (λ y. halved_span ps y lo hi) g ∙ span-any ps (u-number ps good held) lo hi flo fhi) }

  pub at-ruled : (u : Float) → T (fits binary64 u) → (r : Option Float) → r ≡ halved_at ps z u → Ruled ps z r (halved_at ps z u) (highest_at ps u)
  unfolding halved_at
  at-ruled u fu r e = record { found = e; ruled = λ good g. e ∙ ap (λ s. highest_in ps (wider s (count ps)) u) (ap (λ y. halved_span ps y u u) g ∙ span-any ps (u-number ps good held) u u fu fu) }

-- ---- the part of a chain that has an order
module _ (ps : List Float) (held : (i : ℕ) → T (fits binary64 (get_or ps i nan))) where
  part-exactly : points_good ps ≡ true → (order_of ps ≡ pos 0 → ⊥) → (lo hi : Float) → Number binary64 lo → Number binary64 hi → (i : ℕ) → i < count ps
      → (((part_of ps lo hi).start ≤ i) × (i < (part_of ps lo hi).end)) ↔ (T (le lo (u_at ps i)) × T (le (u_at ps i) hi))
  unfolding part_of pick
  part-exactly good h lo hi nlo nhi i m = go (le lo hi) refl
    where
      nothing : (i : ℕ) → i < 0 → ⊥
      nothing i l = omega arith

      go : (b : Bool) → le lo hi ≡ b → let s = pick b (span_of ps lo hi) (span 0 0) in ((s.start ≤ i) × (i < s.end)) ↔ (T (le lo (u_at ps i)) × T (le (u_at ps i) hi))
      go true e = span-exactly ps (u-number ps good held) lo hi nlo nhi h i m
      go false e = (λ p. absurd (nothing i p.1), λ q. absurd (subst T e (le_trans nlo (u-number ps good held i m) nhi q.0 q.1)))

  -- a point is in it exactly where lo <= u <= hi
  pub within-exactly : (order_of ps ≡ pos 0 → ⊥) → (lo hi : Float) → T (fits binary64 lo) → T (fits binary64 hi) → (s : Span) → within_of ps lo hi ≡ answers s → (i : ℕ) → i < count ps
      → ((s.start ≤ i) × (i < s.end)) ↔ (T (le (clean_of lo) (u_at ps i)) × T (le (u_at ps i) (clean_of hi)))
  unfolding within_of demand
  within-exactly h lo hi flo fhi s e i m = go (points_good ps && (usable lo && usable hi)) refl e
    where
      go : (b : Bool) → (points_good ps && (usable lo && usable hi)) ≡ b → demand b 14 (answers (part_of ps (clean_of lo) (clean_of hi))) ≡ answers s
          → ((s.start ≤ i) × (i < s.end)) ↔ (T (le (clean_of lo) (u_at ps i)) × T (le (u_at ps i) (clean_of hi)))
      go true d e =
          let g = both (points_good ps) (usable lo && usable hi) d in
          let r : part_of ps (clean_of lo) (clean_of hi) ≡ s = cc in
          rw r at (part-exactly g.0 h (clean_of lo) (clean_of hi) (number-lo ps held lo hi flo fhi g.1) (number-hi ps held lo hi flo fhi g.1) i m)
      go false d e = absurd (refused-not (only 14) s e)

-- ---- narrow look, full look
same_answer : {A : Type 0} (b : Bool) (x y : A) → (b ≡ true → x ≡ y) → demand b 14 (answers x) ≡ demand b 14 (answers y)
unfolding demand
same_answer true x y h = rw (h refl)
same_answer false x y h = refl

module _ (ps : List Float) (held : (i : ℕ) → T (fits binary64 (get_or ps i nan))) where
  -- the highest radius at u is that over all segments in order
  pub full_at : (u : Float) → T (fits binary64 u) → radius_at_of ps u ≡ demand (points_good ps && usable u) 14 (answers (full_there ps (clean_of u)))
  unfolding radius_at_of
  full_at u fu =
      same_answer (points_good ps && usable u) _ _
      (λ e. let g = both (points_good ps) (usable u) e in highest-full ps (u-number ps g.0 held) (clean_of u) (usable-number u fu g.1))

  -- where lo <= hi, the lowest and the highest radius are those over all segments in order
  pub full-range : (lo hi : Float) → T (fits binary64 lo) → T (fits binary64 hi)
      → radius_range_of ps lo hi ≡ demand (points_good ps && (usable lo && usable hi)) 14 (answers (pick (le (clean_of lo) (clean_of hi)) (full_range ps (clean_of lo) (clean_of hi)) None))
  unfolding radius_range_of radii_of
  full-range lo hi flo fhi =
      same_answer (points_good ps && (usable lo && usable hi)) _ _
      (λ e. let g = both (points_good ps) (usable lo && usable hi) e in go g.0 (number-lo ps held lo hi flo fhi g.1) (number-hi ps held lo hi flo fhi g.1) (le (clean_of lo) (clean_of hi)) refl)
    where
      go : points_good ps ≡ true → Number binary64 (clean_of lo) → Number binary64 (clean_of hi) → (b : Bool) → le (clean_of lo) (clean_of hi) ≡ b
          → pick b (radii_in ps (wider (span_of ps (clean_of lo) (clean_of hi)) (count ps)) (clean_of lo) (clean_of hi)) None ≡ pick b (full_range ps (clean_of lo) (clean_of hi)) None
      go good nlo nhi true h = ap (λ r. pick true r None) (radii-full ps (u-number ps good held) (clean_of lo) (clean_of hi) nlo nhi h)
      go good nlo nhi false h = unfold pick in refl
