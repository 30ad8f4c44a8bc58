-- The way over kept numbers that are those of the cells is the fold of the cells, and what the fold shows is the most that a walk over the bins finds. Assumes nothing.
use Rattle.std.specs.Prelude.{None, Some}
use mathlib.Core.Path.{◌≡◌, refl, sym, ap, ◌∙◌, subst}
use mathlib.Core.Logic.{◌⊎◌, inl, inr}
use mathlib.Core.Bool.{Bool, true, false, not, ◌||◌}
use mathlib.Core.List.{List}
use Prim.Native.Nat.{ℕ, zero, suc, ◌+◌, ◌*◌, ◌-◌, ◌/◌, ◌≤◌, ◌<◌, min}
use native.Mathlib.Omega.{arith}
use borrow.Author.Tests.{ltb-true}
use lib.Dec.{T, ltb}
use lib.Ieee.{Float, lt}
use lib.Ieee.Bits.{is_true}
use borrow.Author.Tests.{not-true}
use Rattle.floats.specs.Pick.{pick, pick_true, pick-false}
use Rattle.floats.proofs.Order.{number-of, le→nlt, lt→le, lt-le-trans, le_lt_trans}
use Rattle.floats.proofs.Lattice.{least-plain, greatest-plain, least-le-r, greatest-ge-r}
use Rattle.refusals.specs.Limits.{block_bins}
use Rattle.stock.specs.declared.TurnStockSpec.{TurnStockSpec}
use Rattle.stock.specs.declared.TurnCell.{TurnCell}
use Rattle.stock.specs.Cell.{cell_at}
use Rattle.reach.proofs.Fit.{CellFit}
use Rattle.queries.specs.declared.Band.{Band}
use Rattle.queries.specs.Material.{most_of}
use Rattle.queries.proofs.Envelopes.{shown-band, shown-none}
use Rattle.queries.specs.Envelope.{join_of, shown_of, together, most_over}
use Rattle.blocks.specs.Block.{no_material, block_with, fold_from, block_to, blocks_in, block_end, block_of, block_at}
use Rattle.blocks.specs.Way.{join_from, kept_over}
use Rattle.blocks.proofs.Steps.{fold-none}
use Rattle.blocks.proofs.Split.{Ends, Fair, none-fair, cell-fair, fold-fair, nothing-join, fold-join, fold-glue}

-- ---- n cells that fit, and kept numbers that are theirs
module _ (s : TurnStockSpec) (E : Ends s) (n : ℕ) (cs bs : List Float) (fit : (i : ℕ) → i < n → CellFit s (cell_at cs i)) (kept : (j : ℕ) → j < blocks_in n → block_at bs j ≡ block_of s n cs j) where
  -- m kept blocks are the fold of their bins
  pub blocks-fold : (k : Band) → Fair s k → (j m : ℕ) → block_bins * j ≤ n → j + m ≤ blocks_in n → join_from k bs j m ≡ fold_from k cs (block_bins * j) (min (block_bins * (j + m)) n - block_bins * j)
  unfolding join_from block_of
  blocks-fold k p j zero h l = fold-none k cs (block_bins * j) (min (block_bins * (j + 0)) n - block_bins * j) (omega arith)
  blocks-fold k p j (suc m) h l =
      let x = fold_from k cs (block_bins * j) (block_bins * (j + m) - block_bins * j) in
      let e1 : min (block_bins * (j + m)) n ≡ block_bins * (j + m) = omega arith in
      let e2 : block_end n (j + m) ≡ min (block_bins * (j + suc m)) n = omega arith in
      (λ i. join_of ((blocks-fold k p j m h (omega arith) ∙ ap (λ (b : ℕ). fold_from k cs (block_bins * j) (b - block_bins * j)) e1) i) (kept (j + m) (omega arith) i))
      ∙ own x (fold-fair s E k cs (block_bins * j) (block_bins * (j + m) - block_bins * j) p (λ i q. fit (block_bins * j + i) (omega arith))) (j + m)
      ∙ fold-glue k cs (block_bins * j) (block_bins * (j + m)) (block_end n (j + m)) (omega arith) (omega arith)
      ∙ ap (λ (b : ℕ). fold_from k cs (block_bins * j) (b - block_bins * j)) e2
    where
      own : (x : Band) → Fair s x → (i : ℕ) → join_of x (block_of s n cs i) ≡ fold_from x cs (block_bins * i) (block_end n i - block_bins * i)
      own x f i = sym (fold-join s E x cs (block_bins * i) (block_end n i - block_bins * i) f (λ a q. fit (block_bins * i + a) (omega arith)))

  -- the way over the kept numbers is the fold of the cells
  pub kept-folds : (a e : ℕ) → e ≤ n → kept_over s cs bs a e ≡ block_to s cs a (e - a)
  unfolding kept_over
  kept-folds a e h' = go (ltb (blocks_in a) (e / block_bins)) refl
    where
      way : blocks_in a < e / block_bins → fold_from (join_from (block_to s cs a (block_bins * blocks_in a - a)) bs (blocks_in a) (e / block_bins - blocks_in a)) cs (block_bins * (e / block_bins)) (e - block_bins * (e / block_bins)) ≡ block_to s cs a (e - a)
      way l =
          let x = block_to s cs a (block_bins * blocks_in a - a) in
          let e1 : min (block_bins * (blocks_in a + (e / block_bins - blocks_in a))) n - block_bins * blocks_in a ≡ block_bins * (e / block_bins) - block_bins * blocks_in a = omega arith in
          let fair = fold-fair s E (no_material s) cs a (block_bins * blocks_in a - a) (none-fair s E) (λ i q. fit (a + i) (omega arith)) in
          ap (λ (k : Band). fold_from k cs (block_bins * (e / block_bins)) (e - block_bins * (e / block_bins)))
          (blocks-fold x fair (blocks_in a) (e / block_bins - blocks_in a) (omega arith) (omega arith) ∙ ap (λ (m : ℕ). fold_from x cs (block_bins * blocks_in a) m) e1 ∙ fold-glue (no_material s) cs a (block_bins * blocks_in a) (block_bins * (e / block_bins)) (omega arith) (omega arith))
          ∙ fold-glue (no_material s) cs a (block_bins * (e / block_bins)) e (omega arith) (omega arith)

      go : (t : Bool) → ltb (blocks_in a) (e / block_bins) ≡ t → pick t (fold_from (join_from (block_to s cs a (block_bins * blocks_in a - a)) bs (blocks_in a) (e / block_bins - blocks_in a)) cs (block_bins * (e / block_bins)) (e - block_bins * (e / block_bins))) (block_to s cs a (e - a)) ≡ block_to s cs a (e - a)
      go true q = pick_true _ _ _ refl ∙ way (ltb-true (blocks_in a) (e / block_bins) q)
      go false q = pick-false _ _ _ refl

-- some of m bins from bin a on has material
unfoldable pub holds_to : List Float → ℕ → ℕ → Bool
holds_to cs a zero = false
holds_to cs a (suc m) = holds_to cs a m || lt (cell_at cs (a + m)).inner.lower_mm (cell_at cs (a + m)).outer.upper_mm

-- ---- one bin more
with-some : (k : Band) (c : TurnCell) → lt c.inner.lower_mm c.outer.upper_mm ≡ true → block_with k (most_of c) ≡ join_of k (most_of c)
unfolding block_with
with-some k c e = pick_true _ _ _ e

with_none : (k : Band) (c : TurnCell) → lt c.inner.lower_mm c.outer.upper_mm ≡ false → block_with k (most_of c) ≡ k
unfolding block_with
with_none k c e = pick-false _ _ _ e

-- ---- a fold and a walk over the same bins
module _ (s : TurnStockSpec) (E : Ends s) (order : T (lt s.bore_radius_mm s.outer_radius_mm)) (cs : List Float) (a : ℕ) where
  -- no bin with material, and the fold is at its start; or some, and the fold is what the walk found
  Met : ℕ → Type 0
  Met m =
      ((most_over cs a m ≡ None) × (holds_to cs a m ≡ false) × (block_to s cs a m ≡ no_material s))
      ⊎ ((most_over cs a m ≡ Some (block_to s cs a m)) × (holds_to cs a m ≡ true) × T (lt (block_to s cs a m).bore (block_to s cs a m).outer))

  wider : (k b : Band) → Fair s k → Fair s b → T (lt b.bore b.outer) → T (lt (join_of k b).bore (join_of k b).outer)
  wider k b p q h =
      let lb = number-of (least-plain p.bore q.bore) in
      let go = number-of (greatest-plain p.outer q.outer) in
      lt-le-trans lb (number-of q.outer) go
      (le_lt_trans lb (number-of q.bore) (number-of q.outer) (least-le-r (number-of p.bore) (number-of q.bore)) h)
      (greatest-ge-r (number-of p.outer) (number-of q.outer))

  next : (m : ℕ) → Fair s (block_to s cs a m) → CellFit s (cell_at cs (a + m)) → (t : Bool) → lt (cell_at cs (a + m)).inner.lower_mm (cell_at cs (a + m)).outer.upper_mm ≡ t → Met m → Met (suc m)
  unfolding Met most_over holds_to fold_from together
  next m f g false e (inl r) = inl (
    (λ i. together (r.0 i) (shown-none (most_of (cell_at cs (a + m))) e i)),
    (λ i. r.1 i || e i),
    with_none (block_to s cs a m) (cell_at cs (a + m)) e ∙ r.2,
  )
  next m f g false e (inr r) =
      let w = with_none (block_to s cs a m) (cell_at cs (a + m)) e in
      inr (
        (λ i. together (r.0 i) (shown-none (most_of (cell_at cs (a + m))) e i)) ∙ ap Some (sym w),
        (λ i. r.1 i || e i),
        subst (λ (b : Band). T (lt b.bore b.outer)) (sym w) r.2,
      )
  next m f g true e (inl r) =
      let w = with-some (block_to s cs a m) (cell_at cs (a + m)) e ∙ ap (λ (x : Band). join_of x (most_of (cell_at cs (a + m)))) r.2 ∙ nothing-join s E (most_of (cell_at cs (a + m))) (cell-fair s (cell_at cs (a + m)) g) in
      inr (
        (λ i. together (r.0 i) (shown-band (most_of (cell_at cs (a + m))) e i)) ∙ ap Some (sym w),
        (λ i. r.1 i || e i),
        subst (λ (b : Band). T (lt b.bore b.outer)) (sym w) (subst T (sym e) tt),
      )
  next m f g true e (inr r) =
      let w = with-some (block_to s cs a m) (cell_at cs (a + m)) e in
      inr (
        (λ i. together (r.0 i) (shown-band (most_of (cell_at cs (a + m))) e i)) ∙ ap Some (sym w),
        (λ i. r.1 i || e i),
        subst (λ (b : Band). T (lt b.bore b.outer)) (sym w) (wider (block_to s cs a m) (most_of (cell_at cs (a + m))) f (cell-fair s (cell_at cs (a + m)) g) (subst T (sym e) tt)),
      )

  met : (m : ℕ) → ((i : ℕ) → i < m → CellFit s (cell_at cs (a + i))) → Met m
  met zero fit = unfold Met most_over holds_to fold_from in inl (refl, refl, refl)
  met (suc m) fit = next m (fold-fair s E (no_material s) cs a m (none-fair s E) (λ i p. fit i (omega arith))) (fit m (omega arith)) _ refl (met m (λ i p. fit i (omega arith)))

  none-shut : lt (no_material s).bore (no_material s).outer ≡ false
  none-shut = not-true _ (is_true _ (lt→nlt order))
    where
      lt→nlt : T (lt s.bore_radius_mm s.outer_radius_mm) → T (not (lt s.outer_radius_mm s.bore_radius_mm))
      lt→nlt h = le→nlt (number-of E.bore) (number-of E.outer) (lt→le (number-of E.bore) (number-of E.outer) h)

  module _ (m : ℕ) (fit : (i : ℕ) → i < m → CellFit s (cell_at cs (a + i))) where
    -- what the fold shows is what the walk finds
    pub fold-walks : shown_of (block_to s cs a m) ≡ most_over cs a m
    unfolding Met
    fold-walks = go (met m fit)
      where
        go : Met m → shown_of (block_to s cs a m) ≡ most_over cs a m
        go (inl r) = ap shown_of r.2 ∙ shown-none (no_material s) none-shut ∙ sym r.0
        go (inr r) = shown-band (block_to s cs a m) (is_true _ r.2) ∙ sym r.0

    -- its outer radius is above its bore exactly where some bin has material
    pub block-shows : lt (block_to s cs a m).bore (block_to s cs a m).outer ≡ holds_to cs a m
    unfolding Met
    block-shows = go (met m fit)
      where
        go : Met m → lt (block_to s cs a m).bore (block_to s cs a m).outer ≡ holds_to cs a m
        go (inl r) = ap (λ (b : Band). lt b.bore b.outer) r.2 ∙ none-shut ∙ sym r.1
        go (inr r) = is_true _ r.2 ∙ sym r.1

-- ---- the kept way answers as a walk over the bins would
pub kept-walks : (s : TurnStockSpec) (E : Ends s) → T (lt s.bore_radius_mm s.outer_radius_mm) → (n : ℕ) (cs bs : List Float) → ((i : ℕ) → i < n → CellFit s (cell_at cs i)) → ((j : ℕ) → j < blocks_in n → block_at bs j ≡ block_of s n cs j) → (a e : ℕ) → e ≤ n → shown_of (kept_over s cs bs a e) ≡ most_over cs a (e - a)
kept-walks s E o n cs bs fit kept a e h =
    ap shown_of (kept-folds s E n cs bs fit kept a e h) ∙ fold-walks s E o cs a (e - a) (λ i p. fit (a + i) (omega arith))
