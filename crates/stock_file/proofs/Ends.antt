-- What the end of a file tells, case by case. Assumes nothing.
use Prim.Native.Nat.{ℕ, ◌*◌, ◌/◌, ◌≤◌, ◌<◌}
use mathlib.Core.Path.{◌≡◌, sym, ap, ◌∙◌}
use mathlib.Core.Bool.{true, false, not}
use mathlib.Core.List.{List, []}
use lib.ListN.{length, take}
use lib.Ieee.{Float}
use borrow.Author.Tests.{lt-ltb, le-ltb, eq-eqb, ne_eqb, le-leb, lt-leb}
use Rattle.refusals.specs.Paper.{Paper, Reason, answers, refuses, only, at, demand, onward, demand-true, demand-false, demand_at-true, demand_at-false, onward-answers, onward-refuses}
use Rattle.floats.specs.Pick.{pick_true, pick-false}
use Rattle.stock.specs.declared.TurnStockSpec.{TurnStockSpec}
use Rattle.stock.specs.Spec.{clean_spec}
use Rattle.stock.specs.Cell.{stock_of}
use Rattle.stock.specs.declared.TurnStock.{TurnStock}
use Rattle.stock.specs.Stock.{stock_from}
use Rattle.rings.specs.Store.{bar_ring, count_fits}
use Rattle.stock_lines.specs.declared.Reading.{Reading}
use Rattle.stock_lines.specs.Reading.{refusing}
use Rattle.stock_file.specs.declared.Kept.{Kept}
use Rattle.stock_file.specs.Read.{ended, spec_of, front_of, stocked_of, stock_in, told_as}

module _ (r : Reading) (n : ℕ) where
  pub ended-stopped : r.refused ≡ true → r ≡ ended r n
  unfolding ended
  ended-stopped e = sym (pick_true _ _ _ e)

  pub ended-cut : r.refused ≡ false → (n ≡ 0 → ⊥) → refusing r ≡ ended r n
  unfolding ended
  ended-cut e h = sym (pick-false _ _ _ e ∙ pick-false _ _ _ (ne_eqb _ _ h))

  pub ended-missing : r.refused ≡ false → n ≡ 0 → r.stage < 2 → refusing r ≡ ended r n
  unfolding ended
  ended-missing e h k = sym (pick-false _ _ _ e ∙ pick_true _ _ _ (eq-eqb _ _ h) ∙ pick_true _ _ _ (lt-ltb _ _ k))

  pub ended-whole : r.refused ≡ false → n ≡ 0 → 2 ≤ r.stage → r ≡ ended r n
  unfolding ended
  ended-whole e h k = sym (pick-false _ _ _ e ∙ pick_true _ _ _ (eq-eqb _ _ h) ∙ pick-false _ _ _ (le-ltb _ _ k))

pub front-short : (n : ℕ) (xs : List Float) → length xs / 4 < n → [] ≡ front_of n xs
unfolding front_of
front-short n xs h = sym (pick-false _ _ _ (lt-leb _ _ h))

pub front_long : (n : ℕ) (xs : List Float) → n ≤ length xs / 4 → take (4 * n) xs ≡ front_of n xs
unfolding front_of
front_long n xs h = sym (pick_true _ _ _ (le-leb _ _ h))

-- ---- what a reading tells

pub told_line : (r : Reading) (most : ℕ) (cs rs : List Float) (l : ℕ) → r.refused ≡ true → l ≡ r.lines → refuses (at 16 l) ≡ told_as r most cs rs
unfolding told_as
told_line r most cs rs l e q = ap (λ (k : ℕ). refuses (at 16 k)) q ∙ sym (demand_at-false _ _ _ _ (ap not e))

module _ (r : Reading) (most : ℕ) (cs rs xs : List Float) (s : TurnStockSpec) (h : r.refused ≡ false) (es : s ≡ spec_of r.bar most) (ex : xs ≡ front_of r.cells cs) where
  asked : Paper Kept
  asked = onward (stock_of s xs) (λ k. demand (count_fits (bar_ring (clean_spec s)) rs r.rings) 4 (answers (stocked_of s r.edition k r.rings)))

  told_is : told_as r most cs rs ≡ asked
  unfolding told_as stock_in asked
  told_is = demand_at-true _ _ _ _ (ap not h) ∙ rw (es, ex)

  pub told-cells : (w : Reason) → stock_of s xs ≡ refuses w → refuses w ≡ told_as r most cs rs
  unfolding asked
  told-cells w e = sym (told_is ∙ ap (λ (p : Paper ℕ). onward p (λ k. demand (count_fits (bar_ring (clean_spec s)) rs r.rings) 4 (answers (stocked_of s r.edition k r.rings)))) e ∙ onward-refuses _ _)

  found : (n : ℕ) → stock_of s xs ≡ answers n → told_as r most cs rs ≡ demand (count_fits (bar_ring (clean_spec s)) rs r.rings) 4 (answers (stocked_of s r.edition n r.rings))
  unfolding asked
  found n e = told_is ∙ ap (λ (p : Paper ℕ). onward p (λ k. demand (count_fits (bar_ring (clean_spec s)) rs r.rings) 4 (answers (stocked_of s r.edition k r.rings)))) e ∙ onward-answers _ _

  pub told-rings : (n : ℕ) → stock_of s xs ≡ answers n → count_fits (bar_ring (clean_spec s)) rs r.rings ≡ false → refuses (only 4) ≡ told_as r most cs rs
  told-rings n e f = sym (found n e ∙ demand-false _ _ _ f)

  pub told-stock : (n : ℕ) (t : TurnStock) → stock_of s xs ≡ answers n → count_fits (bar_ring (clean_spec s)) rs r.rings ≡ true → t ≡ stock_from (clean_spec s) r.edition r.rings 0
      → ◌≡◌ {A = Paper Kept} (answers (record { stock = t; cells = n })) (told_as r most cs rs)
  told-stock n t e f q = ap (λ (u : TurnStock). answers (record { stock = u; cells = n })) q ∙ sym (found n e ∙ demand-true _ _ _ f)
