-- The definitions by one turn of a loop, and what a test says of them. Assumes nothing.
use Rattle.std.specs.Prelude.{Option, None, Some}
use mathlib.Core.Path.{◌≡◌, refl, sym, ap, ap₂, ◌∙◌}
use mathlib.Core.Bool.{Bool, true, false, ◌&&◌, ◌||◌}
use mathlib.Core.List.{List}
use Prim.Native.Nat.{ℕ, suc, ◌+◌, ◌-◌, ◌%◌, ◌≤◌, ◌<◌}
use native.Mathlib.Nat.{mod-eq_of_lt, mod_self}
use native.Mathlib.Numerals.{add-one}
use native.Mathlib.Omega.{arith}
use lib.Ieee.{Float, lt, eq}
use borrow.Author.Tests.{eq-eqb, ne_eqb}
use lib.IntN.{pos, negsuc}
use Rattle.floats.specs.Pick.{pick, pick_true, pick-false}
use Rattle.floats.specs.Numbers.{◌+₆₄◌, ◌-₆₄◌, ◌*₆₄◌, ◌/₆₄◌, zero64, least_of, greatest_of}
use Rattle.refusals.specs.Paper.{answers, refuses, only, demand}
use Rattle.envelope.specs.Envelope.{count, u_at, v_at, points_good, rises, falls, order_of, across, highest_at}
use Rattle.envelope.specs.Halving.{kept_of}
use Rattle.envelope.proofs.Kept.{kept-outside, kept-good}
use Rattle.insert.specs.declared.Which.{Which}
use Rattle.insert.specs.declared.Which.TheVariants.{Least, Greatest}
use Rattle.insert.specs.declared.candidates.Trial.{Trial}
use Rattle.insert.specs.Insert.{chosen, most_to, most_of, or_zero, bore_at, with_inside, sampled_to, edge_at, further, edges_to, with_candidate, with_point, points_to, polygon_to}

module _ (w : Which) (ps : List Float) where
  -- one point more
  pub most-more : (i : ℕ) → 0 < i → most_to w ps i ≡ chosen w (most_to w ps (i - 1)) (u_at ps i)
  unfolding most_to
  most-more i h =
      let e : i ≡ suc (i - 1) = omega arith in
      ap (most_to w ps) e ∙ ap (λ (k : ℕ). chosen w (most_to w ps (i - 1)) (u_at ps k)) (sym e)

  -- one sample more
  pub sampled-more : (lo hi : Float) (a i : ℕ) → a ≤ i → sampled_to w ps lo hi a (i + 1 - a) ≡ with_inside w ps lo hi (sampled_to w ps lo hi a (i - a)) (u_at ps i)
  unfolding sampled_to
  sampled-more lo hi a i h =
      let e : i + 1 - a ≡ suc (i - a) = omega arith in
      let g : a + (i - a) ≡ i = omega arith in
      ap (sampled_to w ps lo hi a) e ∙ ap (λ (k : ℕ). with_inside w ps lo hi (sampled_to w ps lo hi a (i - a)) (u_at ps k)) g

  -- the candidates of one point more
  pub points-more : (gs : List Float) (t : Trial) (a i : ℕ) → a ≤ i → points_to w ps gs t a (i + 1 - a) ≡ with_point w ps gs t (points_to w ps gs t a (i - a)) (u_at ps i)
  unfolding points_to
  points-more gs t a i h =
      let e : i + 1 - a ≡ suc (i - a) = omega arith in
      let g : a + (i - a) ≡ i = omega arith in
      ap (points_to w ps gs t a) e ∙ ap (λ (k : ℕ). with_point w ps gs t (points_to w ps gs t a (i - a)) (u_at ps k)) g

  pub polygon-more : (gs : List Float) (t : Trial) (i : ℕ) → polygon_to w ps gs t (i + 1) ≡ with_candidate w ps gs t (polygon_to w ps gs t i) (u_at gs i)
  unfolding polygon_to
  polygon-more gs t i = ap (polygon_to w ps gs t) (add-one i)

module _ (w : Which) (gs : List Float) (n : ℕ) (u : Float) where
  -- the edge from point i to where it ends
  edge_to : (i j : ℕ) → (i + 1) % n ≡ j → edges_to w gs n u (i + 1) ≡ further w (edges_to w gs n u i) (edge_at w gs i j u)
  unfolding edges_to
  edge_to i j e = ap (edges_to w gs n u) (add-one i) ∙ ap (λ (k : ℕ). further w (edges_to w gs n u i) (edge_at w gs i k u)) e

  -- one edge more: to the next point
  pub edges_more : (i : ℕ) → i + 1 < n → edges_to w gs n u (i + 1) ≡ further w (edges_to w gs n u i) (edge_at w gs i (i + 1) u)
  edges_more i h = edge_to i (i + 1) (mod-eq_of_lt h)

  -- the last edge: back to point 0
  pub edges-closed : (i : ℕ) → i + 1 ≡ n → edges_to w gs n u n ≡ further w (edges_to w gs n u i) (edge_at w gs i 0 u)
  edges-closed i h = ap (edges_to w gs n u) (sym h) ∙ edge_to i 0 (ap (λ (k : ℕ). k % n) h ∙ mod_self n)

-- ---- the number of the points' order: 2 exactly where they are refused
order-not : (ps : List Float) → order_of ps ≡ pos 2 → ⊥
unfolding order_of pick
order-not ps = go (rises ps) (falls ps)
  where
    go : (a b : Bool) → pick a (pos 1) (pick b (negsuc 0) (pos 0)) ≡ pos 2 → ⊥
    go true b e = let z : ◌≡◌ {A = ℕ} 1 2 = cc in omega arith
    go false true e = let z : ◌≡◌ {A = ℕ} 0 1 = cc in omega arith
    go false false e = let z : ◌≡◌ {A = ℕ} 0 2 = cc in omega arith

pub kept-refused : (ps : List Float) → kept_of ps ≡ pos 2 → points_good ps ≡ false
kept-refused ps h = go (points_good ps) refl
  where
    go : (b : Bool) → points_good ps ≡ b → b ≡ false
    go true e = absurd (order-not ps (sym (kept-good ps e) ∙ h))
    go false e = refl

pub kept-accepted : (ps : List Float) → (kept_of ps ≡ pos 2 → ⊥) → points_good ps ≡ true
kept-accepted ps h = go (points_good ps) refl
  where
    go : (b : Bool) → points_good ps ≡ b → b ≡ true
    go true e = refl
    go false e = absurd (h (sym (kept-outside ps e)))

-- ---- an edge, from the numbers that the code reads
module _ (w : Which) (gs : List Float) (i j : ℕ) (u : Float) {a b lo hi : Float} (ea : a ≡ u_at gs i) (eb : b ≡ u_at gs j) (el : lo ≡ least_of a b) (eh : hi ≡ greatest_of a b) where
  beside : {t : Bool} → (lt u lo || lt hi u) ≡ t → (lt u (least_of (u_at gs i) (u_at gs j)) || lt (greatest_of (u_at gs i) (u_at gs j)) u) ≡ t
  beside e = rw (← ea, ← eb, ← el, ← eh) e

  pub edge_beside : (lt u lo || lt hi u) ≡ true → None ≡ edge_at w gs i j u
  unfolding edge_at
  edge_beside e = sym (pick_true _ _ _ (beside e))

  upright : {t : Bool} → eq b a ≡ t → eq (u_at gs j) (u_at gs i) ≡ t
  upright e = rw (← ea, ← eb) e

  module _ {c d : Float} (ec : c ≡ v_at gs i) (ed : d ≡ v_at gs j) (left : (lt u lo || lt hi u) ≡ false) where
    pub edge-upright : {x : Float} → eq b a ≡ true → x ≡ chosen w c d → Some x ≡ edge_at w gs i j u
    unfolding edge_at
    edge-upright e g = sym (pick-false _ _ _ (beside left) ∙ ap Some (pick_true _ _ _ (upright e) ∙ sym (g ∙ ap₂ (chosen w) ec ed)))

    pub edge-across : eq b a ≡ false → Some (c +₆₄ (u -₆₄ a) /₆₄ (b -₆₄ a) *₆₄ (d -₆₄ c)) ≡ edge_at w gs i j u
    unfolding edge_at across
    edge-across e = sym (pick-false _ _ _ (beside left) ∙ ap Some (pick-false _ _ _ (upright e) ∙ rw (ea, eb, ec, ed)))

-- ---- the bore, from its ends
module _ (ps : List Float) (u : Float) {front deepest : Float} (ef : front ≡ most_of Greatest ps) (ed : deepest ≡ most_of Least ps) where
  pub bore-none : count ps ≡ 0 → None ≡ bore_at ps u
  unfolding bore_at
  bore-none h = sym (pick_true _ _ _ (eq-eqb _ _ h))

  module _ (h : count ps ≡ 0 → ⊥) where
    pub bore-front : lt front u ≡ true → None ≡ bore_at ps u
    unfolding bore_at
    bore-front e = sym (pick-false _ _ _ (ne_eqb _ _ h) ∙ pick_true _ _ _ (rw (← ef) e))

    module _ (e : lt front u ≡ false) where
      pub bore-deep : lt u deepest ≡ true → Some zero64 ≡ bore_at ps u
      unfolding bore_at
      bore-deep g = sym (pick-false _ _ _ (ne_eqb _ _ h) ∙ (pick-false _ _ _ (rw (← ef) e) ∙ pick_true _ _ _ (rw (← ed) g)))

      pub bore-found : lt u deepest ≡ false → {r : Option Float} → r ≡ highest_at ps u → Some (or_zero r) ≡ bore_at ps u
      unfolding bore_at
      bore-found g k = sym (pick-false _ _ _ (ne_eqb _ _ h) ∙ (pick-false _ _ _ (rw (← ef) e) ∙ (pick-false _ _ _ (rw (← ed) g) ∙ ap (λ (r : Option Float). Some (or_zero r)) (sym k))))

-- ---- what is refused with 14, and what is answered
module _ {A : Type 0} (g b : Bool) (x : A) where
  pub asks-outside : g ≡ false → refuses (only 14) ≡ demand (g && b) 14 (answers x)
  unfolding demand
  asks-outside e = rw e

  pub asks-refused : b ≡ false → refuses (only 14) ≡ demand (g && b) 14 (answers x)
  unfolding demand
  asks-refused e = rw e (go g)
    where
      go : (a : Bool) → refuses (only 14) ≡ demand (a && false) 14 (answers x)
      go true = refl
      go false = refl

  pub asks-answered : {y : A} → g ≡ true → b ≡ true → y ≡ x → answers y ≡ demand (g && b) 14 (answers x)
  unfolding demand
  asks-answered e h k = rw (e, h, k)
