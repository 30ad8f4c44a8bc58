-- What the code finds over points and a number that is kept beside them, return by return. Assumes nothing.
use mathlib.Core.Path.{◌≡◌, refl}
use mathlib.Core.Bool.{Bool, true, false, ◌&&◌}
use mathlib.Core.List.{List, []}
use Prim.Native.Nat.{ℕ, ◌+◌, ◌-◌, ◌*◌, ◌%◌, ◌≤◌, ◌<◌}
use native.Mathlib.Omega.{arith}
use lib.Dec.{leb}
use lib.ListN.{length, take, drop}
use lib.IntN.{ℤ, pos, negsuc}
use lib.Ieee.{Float, le}
use borrow.Author.Tests.{eq-eqb, ne_eqb, le-leb, lt-leb, leb-true}
use Rattle.floats.specs.Pick.{pick}
use Rattle.floats.specs.Numbers.{clean_of, usable, usable_to, all_to}
use Rattle.refusals.specs.Paper.{Reason, answers, refuses, only, demand}
use Rattle.envelope.specs.declared.Span.{Span}
use Rattle.envelope.specs.declared.Test.TheVariants.{Below, AtMost, Above, AtLeast}
use Rattle.envelope.specs.Envelope.{count, points_good, rises_to, falls_to, rises, falls, order_of, span, all_points, wider, part_numbers}
use Rattle.envelope.specs.Halving.{scan_of, split_of, is_z, kept_of, accepted, halved_span, straight, halved_part, kept_within}
use Rattle.envelope.proofs.Steps.{is-not}
use Rattle.envelope.proofs.Halves.{split-le}

-- ---- the number of the points
module _ (ps : List Float) where
  pub scan-made : (g r f : Bool) → g ≡ usable_to ps (length ps) → r ≡ rises ps → f ≡ falls ps → record { good = g; rises = r; falls = f } ≡ scan_of ps
  scan-made g r f eg er ef = rw (eg, er, ef)

  pub scan-none : length ps % 2 ≡ 0 → count ps ≡ 0 → record { good = true; rises = true; falls = true } ≡ scan_of ps
  unfolding usable_to rises_to falls_to all_to
  scan-none m h =
      let e : length ps ≡ 0 = omega arith in
      rw e

  pub odd : (length ps % 2 ≡ 0 → ⊥) → points_good ps ≡ false
  unfolding points_good
  odd h = rw (ne_eqb (length ps % 2) 0 h)

  pub long : length ps % 2 ≡ 0 → 1024 < count ps → points_good ps ≡ false
  unfolding points_good
  long h l = rw (eq-eqb (length ps % 2) 0 h, lt-leb (count ps) 1024 l)

  pub good-is : {b : Bool} → length ps % 2 ≡ 0 → count ps ≤ 1024 → b ≡ usable_to ps (length ps) → points_good ps ≡ b
  unfolding points_good
  good-is h l e = rw (eq-eqb (length ps % 2) 0 h, le-leb (count ps) 1024 l, e)

  pub kept-outside : points_good ps ≡ false → pos 2 ≡ kept_of ps
  unfolding kept_of pick
  kept-outside e = rw e

  pub kept-good : points_good ps ≡ true → kept_of ps ≡ order_of ps
  unfolding kept_of pick
  kept-good e = rw e

  pub order-up : rises ps ≡ true → pos 1 ≡ order_of ps
  unfolding order_of pick
  order-up e = rw e

  pub order-down : rises ps ≡ false → falls ps ≡ true → negsuc 0 ≡ order_of ps
  unfolding order_of pick
  order-down e g = rw (e, g)

  pub order-mixed : rises ps ≡ false → falls ps ≡ false → pos 0 ≡ order_of ps
  unfolding order_of pick
  order-mixed e g = rw (e, g)

-- ---- the number of refused points, and any other
pub outside : (z : ℤ) → z ≡ pos 2 → accepted z ≡ false
unfolding is_z
outside z e = rw e

pub inside : (z : ℤ) → (z ≡ pos 2 → ⊥) → accepted z ≡ true
inside z h = rw (is-not z (pos 2) h)

-- a rule of what is kept: refused where the points were, refused where the query is, else answered
module _ {A : Type 0} (z : ℤ) (b : Bool) (x : A) where
  pub rule-outside : z ≡ pos 2 → refuses (only 14) ≡ demand (accepted z && b) 14 (answers x)
  unfolding demand
  rule-outside e = rw (outside z e)

  pub rule-refused : b ≡ false → refuses (only 14) ≡ demand (accepted z && b) 14 (answers x)
  unfolding demand
  rule-refused e = rw e (go (accepted z))
    where
      go : (a : Bool) → refuses (only 14) ≡ demand (a && false) 14 (answers x)
      go true = refl
      go false = refl

  pub rule-answered : {y : A} → (z ≡ pos 2 → ⊥) → b ≡ true → y ≡ x → answers y ≡ demand (accepted z && b) 14 (answers x)
  unfolding demand
  rule-answered h e g = rw (inside z h, e, g)

-- ---- the span
module _ (ps : List Float) (z : ℤ) (lo hi : Float) where
  pub span-up : z ≡ pos 1 → span (split_of ps Below lo) (split_of ps AtMost hi) ≡ halved_span ps z lo hi
  unfolding halved_span is_z pick
  span-up e = rw e

  pub span-down : z ≡ negsuc 0 → span (split_of ps Above hi) (split_of ps AtLeast lo) ≡ halved_span ps z lo hi
  unfolding halved_span is_z pick
  span-down e = rw e

  pub span-all : (z ≡ pos 1 → ⊥) → (z ≡ negsuc 0 → ⊥) → all_points ps ≡ halved_span ps z lo hi
  unfolding halved_span pick
  span-all h g = rw (is-not z (pos 1) h, is-not z (negsuc 0) g)

  -- it ends among the points
  pub span_fits : ((halved_span ps z lo hi).start ≤ count ps) × ((halved_span ps z lo hi).end ≤ count ps)
  unfolding halved_span pick
  span_fits = go (is_z z (pos 1)) (is_z z (negsuc 0))
    where
      up : Span
      up = span (split_of ps Below lo) (split_of ps AtMost hi)

      down : Span
      down = span (split_of ps Above hi) (split_of ps AtLeast lo)

      go : (a b : Bool) → ((pick a up (pick b down (all_points ps))).start ≤ count ps) × ((pick a up (pick b down (all_points ps))).end ≤ count ps)
      go true b = (split-le ps Below lo, split-le ps AtMost hi)
      go false true = (split-le ps Above hi, split-le ps AtLeast lo)
      go false false = (omega arith, omega arith)

  -- and so does the span one point wider
  pub wider-fits : (s w : Span) → s ≡ halved_span ps z lo hi → w ≡ wider s (count ps) → 2 * w.end ≤ length ps
  wider-fits s w es ew = rw (ew, es) (omega arith)

-- a span that is not turned about, and ends among n points
abbrev pub Lies : Span → ℕ → Type 0
Lies s n = (s.start ≤ s.end) × (s.end ≤ n)

straight-lies : (s : Span) (n : ℕ) → s.end ≤ n → Lies (straight s) n
unfolding straight pick
straight-lies s n h = go (leb s.start s.end) refl
  where
    go : (b : Bool) → leb s.start s.end ≡ b → Lies (pick b s (span 0 0)) n
    go true e = (omega (arith, leb-true s.start s.end e), h)
    go false e = (omega arith, omega arith)

module _ (ps : List Float) (z : ℤ) (lo hi : Float) where
  pub part_lies : Lies (halved_part ps z lo hi) (count ps)
  unfolding halved_part pick
  part_lies = go (le lo hi)
    where
      go : (b : Bool) → Lies (pick b (straight (halved_span ps z lo hi)) (span 0 0)) (count ps)
      go true = straight-lies (halved_span ps z lo hi) (count ps) (span_fits ps z lo hi).1
      go false = (omega arith, omega arith)

module _ (ps : List Float) (z : ℤ) (lo hi : Float) where
  -- what `span_kept` answers lies among the points
  pub within-lies : (s : Span) → answers s ≡ kept_within ps z lo hi → Lies s (count ps)
  unfolding kept_within demand
  within-lies s = go (accepted z && (usable lo && usable hi)) (part_lies ps z (clean_of lo) (clean_of hi))
    where
      go : (b : Bool) → Lies (halved_part ps z (clean_of lo) (clean_of hi)) (count ps) → answers s ≡ demand b 14 (answers (halved_part ps z (clean_of lo) (clean_of hi))) → Lies s (count ps)
      go true l e =
          let g : halved_part ps z (clean_of lo) (clean_of hi) ≡ s = cc in
          rw g at l
      go false l e = let x : ◌≡◌ {A = ℕ} 0 1 = cc in absurd (omega arith)

  pub within-numbers : (s : Span) → answers s ≡ kept_within ps z lo hi → take (2 * s.end - 2 * s.start) (drop (2 * s.start) ps) ≡ part_numbers ps (kept_within ps z lo hi)
  unfolding part_numbers
  within-numbers s e =
      let g : 2 * s.end - 2 * s.start ≡ 2 * (s.end - s.start) = omega arith in
      rw (← e, g)

  pub within_none : (n : Reason) → refuses n ≡ kept_within ps z lo hi → [] ≡ part_numbers ps (kept_within ps z lo hi)
  unfolding part_numbers
  within_none n e = rw (← e)
