-- A cut of the lists: its tool by its kind, and the numbers beside it. Assumes nothing.
use mathlib.Core.Path.{◌≡◌, refl, sym, ap, ◌∙◌}
use mathlib.Core.Bool.{Bool, true, false, not, ◌&&◌, false≢true}
use mathlib.Core.List.{List, []}
use Prim.Native.Nat.{ℕ, ◌+◌, ◌*◌, ◌-◌, ◌≤◌, ◌<◌}
use native.Mathlib.Omega.{arith}
use borrow.Author.Tests.{ltb-true, leb-true, ne_eqb, not-true}
use lib.Dec.{eqb, ltb, leb}
use lib.ListN.{length, get_or}
use lib.Ieee.{Float}
use Rattle.floats.specs.Pick.{pick, pick_true, pick-false}
use Rattle.stock.specs.declared.TurnSide.TheVariants.{Outer, Inner}
use Rattle.stock.proofs.Count.{and_both}
use Rattle.cuts.specs.declared.Cut.TheVariants.{Line, Thread, ThreadInner, Drill, Arc}
use Rattle.cuts.specs.declared.Tool.{Tool}
use Rattle.cuts.specs.declared.Tool.TheVariants.{Single, Nose, Polygon}
use Rattle.passes.specs.Cuts.{Cuts, Pass, cuts_of, number_of, part_lies, has_part, part_of, no_tool, is_swept, tool_of, pass_of, pass_at}
use Rattle.passes.specs.Steps.{six_of}

-- ---- the tool of a kind

module _ (kind : ℕ) (a b c d e f : Float) where
  pub is-line : kind ≡ 0 → Single (Line Outer a b c d e f) ≡ tool_of kind (six_of a b c d e f)
  unfolding tool_of pick
  is-line h = sym (ap (λ (k : ℕ). tool_of k (six_of a b c d e f)) h)

  pub is-thread : kind ≡ 1 → Single (Thread a b c) ≡ tool_of kind (six_of a b c d e f)
  unfolding tool_of pick
  is-thread h = sym (ap (λ (k : ℕ). tool_of k (six_of a b c d e f)) h)

  pub is-nose : kind ≡ 2 → Nose Outer a ≡ tool_of kind (six_of a b c d e f)
  unfolding tool_of pick
  is-nose h = sym (ap (λ (k : ℕ). tool_of k (six_of a b c d e f)) h)

  pub is-polygon : kind ≡ 3 → Polygon Outer a ≡ tool_of kind (six_of a b c d e f)
  unfolding tool_of pick
  is-polygon h = sym (ap (λ (k : ℕ). tool_of k (six_of a b c d e f)) h)

  pub is-inner-line : kind ≡ 4 → Single (Line Inner a b c d e f) ≡ tool_of kind (six_of a b c d e f)
  unfolding tool_of pick
  is-inner-line h = sym (ap (λ (k : ℕ). tool_of k (six_of a b c d e f)) h)

  pub is-inner-thread : kind ≡ 5 → Single (ThreadInner a b c) ≡ tool_of kind (six_of a b c d e f)
  unfolding tool_of pick
  is-inner-thread h = sym (ap (λ (k : ℕ). tool_of k (six_of a b c d e f)) h)

  pub is-inner-nose : kind ≡ 6 → Nose Inner a ≡ tool_of kind (six_of a b c d e f)
  unfolding tool_of pick
  is-inner-nose h = sym (ap (λ (k : ℕ). tool_of k (six_of a b c d e f)) h)

  pub is-inner-polygon : kind ≡ 7 → Polygon Inner a ≡ tool_of kind (six_of a b c d e f)
  unfolding tool_of pick
  is-inner-polygon h = sym (ap (λ (k : ℕ). tool_of k (six_of a b c d e f)) h)

  pub is-drill : kind ≡ 8 → Single (Drill a b c) ≡ tool_of kind (six_of a b c d e f)
  unfolding tool_of pick
  is-drill h = sym (ap (λ (k : ℕ). tool_of k (six_of a b c d e f)) h)

  pub is-arc : kind ≡ 9 → Single Arc ≡ tool_of kind (six_of a b c d e f)
  unfolding tool_of pick
  is-arc h = sym (ap (λ (k : ℕ). tool_of k (six_of a b c d e f)) h)

  -- any other number is no kind
  pub is_none : 9 < kind → no_tool ≡ tool_of kind (six_of a b c d e f)
  unfolding tool_of
  is_none h =
      sym
      (pick-false _ _ _ (no 0 (omega arith)) ∙ pick-false _ _ _ (no 1 (omega arith)) ∙ pick-false _ _ _ (no 2 (omega arith)) ∙ pick-false _ _ _ (no 3 (omega arith)) ∙ pick-false _ _ _ (no 4 (omega arith))
      ∙ pick-false _ _ _ (no 5 (omega arith)) ∙ pick-false _ _ _ (no 6 (omega arith)) ∙ pick-false _ _ _ (no 7 (omega arith)) ∙ pick-false _ _ _ (no 8 (omega arith)) ∙ pick-false _ _ _ (no 9 (omega arith)))
    where
      no : (m : ℕ) → m < kind → eqb kind m ≡ false
      no m l = ne_eqb kind m (λ q. omega arith)

-- the six numbers are all that a tool has
pub of-six : (kind : ℕ) (x : ℕ → Float) → tool_of kind (six_of (x 0) (x 1) (x 2) (x 3) (x 4) (x 5)) ≡ tool_of kind x
unfolding tool_of
of-six kind x = refl

pub six-are : (kind : ℕ) (x : ℕ → Float) (a b c d e f : Float) → a ≡ x 0 → b ≡ x 1 → c ≡ x 2 → d ≡ x 3 → e ≡ x 4 → f ≡ x 5 → tool_of kind (six_of a b c d e f) ≡ tool_of kind x
six-are kind x a b c d e f ea eb ec ed ee ef = (λ i. tool_of kind (six_of (ea i) (eb i) (ec i) (ed i) (ee i) (ef i))) ∙ of-six kind x

-- ---- a part that lies in the lists

pub record Lies (ps : List ℕ) (len k : ℕ) : Type 0 where
  pub there : 2 * k + 1 < length ps
  pub start : get_or ps (2 * k) 0 ≤ len
  pub count : get_or ps (2 * k + 1) 0 ≤ len - get_or ps (2 * k) 0

pub lies : (ps : List ℕ) (len k : ℕ) → part_lies ps len k ≡ true → Lies ps len k
lies ps len k e =
    let a = and_both (ltb (2 * k + 1) (length ps) && leb (get_or ps (2 * k) 0) len) (leb (get_or ps (2 * k + 1) 0) (len - get_or ps (2 * k) 0)) e in
    let b = and_both (ltb (2 * k + 1) (length ps)) (leb (get_or ps (2 * k) 0) len) a.0 in
    record { there = ltb-true _ _ b.0; start = leb-true _ _ b.1; count = leb-true _ _ a.1 }

-- ---- a cut with its part

-- by two tests
tool-by : (s h : Bool) (t : Tool) (p : List Float) → (s && not h) ≡ false → (pick s (pick h (pass_of t p) (pass_of no_tool [])) (pass_of t [])).tool ≡ t
unfolding pick
tool-by true true t p e = refl
tool-by true false t p e = absurd (false≢true (sym e))
tool-by false h t p e = refl

beside-by : (s h : Bool) (t : Tool) (p : List Float) → (s && h) ≡ false → (pick s (pick h (pass_of t p) (pass_of no_tool [])) (pass_of t [])).beside ≡ []
unfolding pick
beside-by true true t p e = absurd (false≢true (sym e))
beside-by true false t p e = refl
beside-by false h t p e = refl

beside_same : (s h : Bool) (t u : Tool) (p : List Float) → (pick s (pick h (pass_of t p) (pass_of no_tool [])) (pass_of t [])).beside ≡ (pick s (pick h (pass_of u p) (pass_of no_tool [])) (pass_of u [])).beside
unfolding pick
beside_same true true t u p = refl
beside_same true false t u p = refl
beside_same false h t u p = refl

module _ (ls : Cuts) (k : ℕ) where
  abbrev kind : ℕ
  kind = get_or ls.kinds k 0

  pub tool-lacks : (is_swept kind && not (has_part ls k)) ≡ true → (pass_at ls k).tool ≡ no_tool
  unfolding pass_at
  tool-lacks e =
      let b = and_both (is_swept kind) (not (has_part ls k)) e in
      ap (λ (p : Pass). p.tool) (pick_true _ _ _ b.0 ∙ pick-false _ _ _ (not-true _ b.1))

  pub tool-is : (is_swept kind && not (has_part ls k)) ≡ false → (pass_at ls k).tool ≡ tool_of kind (number_of ls k)
  unfolding pass_at
  tool-is e = tool-by (is_swept kind) (has_part ls k) _ _ e

  pub beside-is : (is_swept kind && has_part ls k) ≡ true → (pass_at ls k).beside ≡ part_of ls k
  unfolding pass_at
  beside-is e =
      let b = and_both (is_swept kind) (has_part ls k) e in
      ap (λ (p : Pass). p.beside) (pick_true _ _ _ b.0 ∙ pick_true _ _ _ b.1)

  pub beside_none : (is_swept kind && has_part ls k) ≡ false → (pass_at ls k).beside ≡ []
  unfolding pass_at
  beside_none e = beside-by (is_swept kind) (has_part ls k) _ _ e

  -- both of them are the cut
  pub pass-is : (t : Tool) (ys : List Float) → t ≡ (pass_at ls k).tool → ys ≡ (pass_at ls k).beside → pass_of t ys ≡ pass_at ls k
  pass-is t ys et ey = λ i. pass_of (et i) (ey i)

-- the six numbers of a cut play no part in what stands beside it
pub beside-any : (ks : List ℕ) (xs : List Float) (ps : List ℕ) (ls : List Float) (k : ℕ) → (pass_at (cuts_of ks [] ps ls) k).beside ≡ (pass_at (cuts_of ks xs ps ls) k).beside
unfolding pass_at
beside-any ks xs ps ls k = beside_same (is_swept (get_or ks k 0)) (has_part (cuts_of ks xs ps ls) k) _ _ _
