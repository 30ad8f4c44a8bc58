-- What is known of a spec that is not refused. Assumes nothing.
use Rattle.std.proofs.Common.{◌≡◌, ℕ, zero, suc, ◌*◌, ◌<◌, ◌≤◌, Bool, true, false, not, ◌&&◌, eqb, leb, List, length, refl, subst, arith, eqb-true, leb-true, Option, None, Some}
use mathlib.Core.Bool.{false≢true}
use lib.Ieee.{Float, lt, le}
use Rattle.refusals.specs.Paper.{Paper, Reason, answers, refuses, only, at, demand, demand_at, demand_none, onward, onward-answers}
use Rattle.refusals.specs.Limits.{cell_limit}
use Rattle.floats.specs.Numbers.{zero64, usable}
use Rattle.numbers.specs.Whole.{whole_up}
use Rattle.numbers.proofs.Wholes.{up-most}
use Rattle.stock.specs.declared.TurnStockSpec.{TurnStockSpec}
use Rattle.stock.specs.Spec.{clean_spec, spec_good, quotient, counted, cells_of}
use Rattle.stock.specs.Cell.{fit_to, cells_fit, stock_of}

-- two answers that are the same
pub same_answer : {A : Type 0} {a b : A} → answers a ≡ answers b → a ≡ b
same_answer h = cc

-- a refusal is no answer
pub no_answer : {A : Type 0} (n : Reason) (a : A) → refuses n ≡ answers a → ⊥
no_answer n a h = let z : ◌≡◌ {A = ℕ} 0 1 = cc in omega arith

-- what is demanded of an answer holds
pub demanded : {A : Type 0} (t : Bool) (n : ℕ) (p : Paper A) (a : A) → demand t n p ≡ answers a → (t ≡ true) × (p ≡ answers a)
unfolding demand
demanded true n p a h = (refl, h)
demanded false n p a h = absurd (no_answer (only n) a h)

-- so of a place that is not found
pub none-demanded : {A : Type 0} (o : Option ℕ) (n : ℕ) (p : Paper A) (a : A) → demand_none o n p ≡ answers a → (o ≡ None) × (p ≡ answers a)
unfolding demand_none
none-demanded None n p a h = (refl, h)
none-demanded (Some k) n p a h = absurd (no_answer (at n k) a h)

-- and of one test of a list
pub demanded_at : {A : Type 0} (t : Bool) (n k : ℕ) (p : Paper A) (a : A) → demand_at t n k p ≡ answers a → (t ≡ true) × (p ≡ answers a)
unfolding demand_at
demanded_at true n k p a h = (refl, h)
demanded_at false n k p a h = absurd (no_answer (at n k) a h)

-- both of two tests that hold together
pub and_both : (a b : Bool) → (a && b) ≡ true → (a ≡ true) × (b ≡ true)
and_both true b e = (refl, e)
and_both false b e = absurd (false≢true e)

not-zero : (n : ℕ) → not (eqb n 0) ≡ true → 0 < n
not-zero zero h = absurd (false≢true h)
not-zero (suc n) h = omega arith

-- its numbers are within the rules, and it has some cells, no more than it may have and no more than the limit
pub record Checked (spec : TurnStockSpec) (n : ℕ) : Type 0 where
  pub good : spec_good (clean_spec spec) ≡ true
  pub some-cells : 0 < n
  pub few : n ≤ cell_limit
  pub most : n ≤ spec.max_cells
  pub whole : whole_up (quotient (clean_spec spec)) cell_limit ≡ Some n

pub checked : (spec : TurnStockSpec) (n : ℕ) → cells_of spec ≡ answers n → Checked spec n
unfolding cells_of clean_spec
checked spec n h =
    let s = clean_spec spec in
    let d = demanded (spec_good s) 1 (counted spec.max_cells (whole_up (quotient s) cell_limit)) n h in
    go d.0 (whole_up (quotient s) cell_limit) refl d.1
  where
    go : spec_good (clean_spec spec) ≡ true → (o : Option ℕ) → whole_up (quotient (clean_spec spec)) cell_limit ≡ o → counted spec.max_cells o ≡ answers n → Checked spec n
    go g None e k = absurd (no_answer (only 2) n k)
    go g (Some m) e k =
        let d = demanded (not (eqb m 0) && leb m spec.max_cells) 2 (answers m) n k in
        let b = and_both (not (eqb m 0)) (leb m spec.max_cells) d.0 in
        let s : m ≡ n = same_answer d.1 in
        subst (λ (i : ℕ). Checked spec i) s (record { good = g; some-cells = not-zero m b.0; few = up-most (quotient (clean_spec spec)) cell_limit m e; most = leb-true m spec.max_cells b.1; whole = e })

seventh : (a b c d e f g h i : Bool) → (a && b && c && d && e && f && g && h && i) ≡ true → g ≡ true
seventh a b c d e f g h i t = (and_both (a && b && c && d && e && f) g (and_both (a && b && c && d && e && f && g) h (and_both (a && b && c && d && e && f && g && h) i t).0).0).1

-- the bore is not below zero
pub good-bore : (s : TurnStockSpec) → spec_good s ≡ true → le zero64 s.bore_radius_mm ≡ true
unfolding spec_good
good-bore s t =
    seventh
    (usable s.z_min_mm)
    (usable s.z_max_mm)
    (usable s.outer_radius_mm)
    (usable s.bore_radius_mm)
    (usable s.cell_mm)
    (lt s.z_min_mm s.z_max_mm)
    (le zero64 s.bore_radius_mm)
    (lt s.bore_radius_mm s.outer_radius_mm)
    (lt zero64 s.cell_mm)
    t

-- ---- a stock that is not refused
pub stock-is : (spec : TurnStockSpec) (cs : List Float) (n : ℕ) → cells_of spec ≡ answers n → stock_of spec cs ≡ demand (cells_fit (clean_spec spec) cs n) 3 (answers n)
unfolding stock_of
stock-is spec cs n e = simp (e, onward-answers)

-- its spec has as many cells, and they fit
pub record Stocked (spec : TurnStockSpec) (cs : List Float) (n : ℕ) : Type 0 where
  pub count : cells_of spec ≡ answers n
  pub fit : cells_fit (clean_spec spec) cs n ≡ true

pub stocked : (spec : TurnStockSpec) (cs : List Float) (n : ℕ) → stock_of spec cs ≡ answers n → Stocked spec cs n
unfolding stock_of onward
stocked spec cs n = go (cells_of spec) refl
  where
    go : (p : Paper ℕ) → cells_of spec ≡ p → onward p (λ m. demand (cells_fit (clean_spec spec) cs m) 3 (answers m)) ≡ answers n → Stocked spec cs n
    go (answers m) e h =
        let d = demanded (cells_fit (clean_spec spec) cs m) 3 (answers m) n h in
        let s : m ≡ n = same_answer d.1 in
        subst (λ (k : ℕ). Stocked spec cs k) s (record { count = e; fit = d.0 })
    go (refuses r) e h = absurd (no_answer r n h)

-- exactly n cells are lent
pub stock-length : (spec : TurnStockSpec) (cs : List Float) (n : ℕ) → stock_of spec cs ≡ answers n → length cs ≡ 4 * n
unfolding cells_fit
stock-length spec cs n h = eqb-true (length cs) (4 * n) (and_both (eqb (length cs) (4 * n)) (fit_to (clean_spec spec) cs n) (stocked spec cs n h).fit).0
