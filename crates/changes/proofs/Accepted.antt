-- Changes to cells that fit, none of which adds material, pass, and leave in each bin the cell that they say. Assumes nothing.
use mathlib.Core.Path.{◌≡◌, refl, sym, ◌∙◌, subst}
use mathlib.Core.Logic.{◌⊎◌, inl, inr}
use mathlib.Core.Bool.{Bool, true, false, ◌&&◌}
use mathlib.Core.List.{List, [], ◌∷◌, foldl-append}
use Prim.Native.Nat.{ℕ, zero, suc, ◌+◌, ◌*◌, ◌≤◌, ◌<◌}
use native.Mathlib.Nat.{eq-or-lt_of_le}
use native.Mathlib.Omega.{arith}
use borrow.Author.Tests.{lt-ltb}
use lib.Dec.{T, ltb}
use lib.ListN.{length}
use lib.Ieee.{Float, le}
use lib.Ieee.Bits.{is_true}
use lib.Ieee.Fits.{and_i, and_l, and_r}
use Rattle.refusals.specs.Paper.{answers, demand, demand-true, demand_none-none, placed-answers, onward-answers, papers}
use Rattle.refusals.specs.Limits.{last_generation}
use Rattle.floats.specs.Pick.{pick}
use Rattle.floats.specs.Each.{Each}
use Rattle.floats.proofs.Folds.{each_append}
use Rattle.stock.specs.declared.TurnStockSpec.{TurnStockSpec}
use Rattle.stock.specs.declared.TurnCell.{TurnCell}
use Rattle.stock.specs.declared.TurnChange.{TurnChange}
use Rattle.stock.specs.Spec.{clean_spec}
use Rattle.stock.specs.Cell.{cell_at, same_cell, put_cell}
use Rattle.stock.proofs.Stored.{stored_same, stored_other}
use Rattle.reach.proofs.Fit.{CellFit, fit-test, same_test, same-cell}
use Rattle.reach.proofs.Removes.{Removes, Cuts}
use Rattle.changes.specs.Change.{change_of, change_at, changes_to, indices_of}
use Rattle.changes.proofs.Rising.{RisingTo, rising}
use Rattle.changes.specs.Commit.{only_removes, applies_to, passes, each_from, pass_all, put_all, commit_in, own_commit}
use Rattle.changes.specs.Decide.{rises_after, rises}
use Rattle.changes.proofs.Falls.{rises-none}
use Rattle.changes.proofs.Passed.{put-length}
use Rattle.changes.proofs.Stocks.{Good, good-stock}

-- ---- nothing is added: the fact and the test
-- where nothing is added, the test holds
pub removes-test : (c c' : TurnCell) → Removes c c' → only_removes c c' ≡ true
removes-test c c' r =
    let A = le c'.outer.upper_mm c.outer.upper_mm in
    let B = le c'.outer.lower_mm c.outer.lower_mm in
    let C = le c.inner.lower_mm c'.inner.lower_mm in
    let D = le c.inner.upper_mm c'.inner.upper_mm in
    is_true (A && B && C && D) (and_i (A && B && C) D (and_i (A && B) C (and_i A B r.outer-upper r.outer-lower) r.inner-lower) r.inner-upper)

-- where the test holds, nothing is added
pub removes-of : (c c' : TurnCell) → only_removes c c' ≡ true → Removes c c'
removes-of c c' e =
    let A = le c'.outer.upper_mm c.outer.upper_mm in
    let B = le c'.outer.lower_mm c.outer.lower_mm in
    let C = le c.inner.lower_mm c'.inner.lower_mm in
    let D = le c.inner.upper_mm c'.inner.upper_mm in
    let t : T (A && B && C && D) = subst T (sym e) tt in
    let t3 = and_l (A && B && C) D t in
    let t2 = and_l (A && B) C t3 in
    record { outer-upper = and_l A B t2; outer-lower = and_r A B t2; inner-lower = and_r (A && B) C t3; inner-upper = and_r (A && B && C) D t }

-- ---- 7: rising indices rise
rises-after : (i hi : ℕ) (l : List TurnChange) → RisingTo (suc i) hi (indices_of l) → rises_after i l ≡ true
unfolding rises_after
rises-after i hi [] h = refl
rises-after i hi (c ∷ l) h = rw (lt-ltb i c.index h.0) (rises-after c.index hi l h.1)

-- indices that rise pass
pub rises-test : (lo hi : ℕ) (l : List TurnChange) → RisingTo lo hi (indices_of l) → rises l ≡ true
unfolding rises
rises-test lo hi [] h = refl
rises-test lo hi (c ∷ l) h = rises-after c.index hi l h.1

-- ---- the changes of a step f that leaves cells that fit and adds nothing
module _ (s : TurnStockSpec) (n : ℕ) (f : ℕ → TurnCell → TurnCell) (cs : List Float) (len : length cs ≡ 4 * n) (fit : (i : ℕ) → i < n → CellFit s (cell_at cs i)) (cuts : (i : ℕ) → i < n → Cuts s (cell_at cs i) (f i (cell_at cs i))) where
  -- ---- 8, 21, 22 and 23: each passes
  one_passes : (k : ℕ) → k < n → passes s n cs (change_of f cs k) ≡ answers tt
  unfolding passes applies_to
  one_passes k h =
      let c = cell_at cs k in
      let r = cuts k h in
      simp (papers, fit-test s (f k c) r.fit, lt-ltb k n h, same_test s c (fit k h), removes-test c (f k c) r.removes)

  one_each : (k : ℕ) → k < n → (t : Bool) → Each (λ (c : TurnChange). passes s n cs c ≡ answers tt) (pick t [] (change_of f cs k ∷ []))
  unfolding pick
  one_each k h true = tt
  one_each k h false = (one_passes k h, tt)

  all-each : (k : ℕ) → k ≤ n → Each (λ (c : TurnChange). passes s n cs c ≡ answers tt) (changes_to f cs k)
  unfolding changes_to change_at
  all-each zero h = tt
  all-each (suc k) h = each_append (λ (c : TurnChange). passes s n cs c ≡ answers tt) (changes_to f cs k) (change_at f cs k) (all-each k (omega arith)) (one_each k h (same_cell (cell_at cs k) (f k (cell_at cs k))))

  each-pass : (k : ℕ) (l : List TurnChange) → Each (λ (c : TurnChange). passes s n cs c ≡ answers tt) l → each_from s n cs k l ≡ answers tt
  unfolding each_from
  each-pass k [] ps = refl
  each-pass k (c ∷ l) ps = simp (ps.0, placed-answers, onward-answers) (each-pass (suc k) l ps.1)

  -- the whole list passes
  pub all_pass : pass_all s n cs (changes_to f cs n) ≡ answers tt
  unfolding pass_all
  all_pass = demand_none-none _ _ _ (rises-none (changes_to f cs n) (rises-test 0 n (changes_to f cs n) (rising f cs n))) ∙ each-pass 0 (changes_to f cs n) (all-each n (omega arith))

  -- ---- the cells after the changes of the bins below k
  record Put (k : ℕ) (out : List Float) : Type 0 where
    long : length out ≡ 4 * n
    done : (i : ℕ) → i < k → cell_at out i ≡ f i (cell_at cs i)
    left : (i : ℕ) → k ≤ i → cell_at out i ≡ cell_at cs i

  one_more : (k : ℕ) → k < n → (t : Bool) → same_cell (cell_at cs k) (f k (cell_at cs k)) ≡ t → (out : List Float) → Put k out → Put (suc k) (put_all out (pick t [] (change_of f cs k ∷ [])))
  unfolding pick
  one_more k h true e out a = record {
    long = a.long;
    done = λ i p. go i (eq-or-lt_of_le (omega arith));
    left = λ i p. a.left i (omega arith);
  }
    where
      go : (i : ℕ) → (i ≡ k) ⊎ (i < k) → cell_at out i ≡ f i (cell_at cs i)
      go i (inl q) = a.left i (omega arith) ∙ subst (λ (j : ℕ). cell_at cs j ≡ f j (cell_at cs j)) (sym q) (same-cell s (cell_at cs k) (f k (cell_at cs k)) (fit k h) (cuts k h).fit e)
      go i (inr q) = a.done i q
  one_more k h false e out a = record {
    long = put-length (change_of f cs k ∷ []) out ∙ a.long;
    done = λ i p. go i (eq-or-lt_of_le (omega arith));
    left = λ i p. stored_other out k (f k (cell_at cs k)) (room a.long) i (inr p) ∙ a.left i (omega arith);
  }
    where
      room : length out ≡ 4 * n → 4 * k + 4 ≤ length out
      room l = omega arith

      go : (i : ℕ) → (i ≡ k) ⊎ (i < k) → cell_at (put_cell out k (f k (cell_at cs k))) i ≡ f i (cell_at cs i)
      go i (inl q) = subst (λ (j : ℕ). cell_at (put_cell out k (f k (cell_at cs k))) j ≡ f j (cell_at cs j)) (sym q) (stored_same out k (f k (cell_at cs k)) (room a.long))
      go i (inr q) = stored_other out k (f k (cell_at cs k)) (room a.long) i (inl q) ∙ a.done i q

  all-put : (k : ℕ) → k ≤ n → Put k (put_all cs (changes_to f cs k))
  unfolding changes_to change_at
  all-put zero h = record { long = len; done = λ i p. absurd (none i p); left = λ i p. refl }
    where
      none : (i : ℕ) → i < 0 → ⊥
      none i p = omega arith
  all-put (suc k) h =
      subst (Put (suc k)) (sym (foldl-append (λ (x : List Float) (c : TurnChange). put_cell x c.index c.after) cs (changes_to f cs k) (change_at f cs k)))
      (one_more k h (same_cell (cell_at cs k) (f k (cell_at cs k))) refl (put_all cs (changes_to f cs k)) (all-put k (omega arith)))

  -- the cells afterwards are as many
  pub put-long : length (put_all cs (changes_to f cs n)) ≡ 4 * n
  put-long = (all-put n (omega arith)).long

  -- each is what f makes of it
  pub put-bins : (i : ℕ) → i < n → cell_at (put_all cs (changes_to f cs n)) i ≡ f i (cell_at cs i)
  put-bins = (all-put n (omega arith)).done

  -- and fits
  pub put-fits : (i : ℕ) → i < n → CellFit s (cell_at (put_all cs (changes_to f cs n)) i)
  put-fits i p = subst (CellFit s) (sym (put-bins i p)) (cuts i p).fit

-- ---- on a stock that is not refused
module _ {spec : TurnStockSpec} {n : ℕ} {cs : List Float} (g : Good spec n cs) (f : ℕ → TurnCell → TurnCell) (cuts : (i : ℕ) → i < n → Cuts (clean_spec spec) (cell_at cs i) (f i (cell_at cs i))) where
  -- the changes leave a stock that is not refused
  pub put-good : Good spec n (put_all cs (changes_to f cs n))
  put-good = record { count = g.count; long = put-long (clean_spec spec) n f cs g.long g.fit cuts; fit = put-fits (clean_spec spec) n f cs g.long g.fit cuts }

  -- they pass
  pub good-pass : pass_all (clean_spec spec) n cs (changes_to f cs n) ≡ answers tt
  good-pass = all_pass (clean_spec spec) n f cs g.long g.fit cuts

  -- each cell afterwards is what f makes of it
  pub good-bins : (i : ℕ) → i < n → cell_at (put_all cs (changes_to f cs n)) i ≡ f i (cell_at cs i)
  good-bins = put-bins (clean_spec spec) n f cs g.long g.fit cuts

  -- a commit of them is refused only where the generations are spent
  pub commit-is : (gen : ℕ) → own_commit spec cs gen (changes_to f cs n) ≡ demand (ltb gen last_generation) 12 (answers (record { cells = put_all cs (changes_to f cs n); generation = gen + 1 }))
  unfolding own_commit commit_in
  commit-is gen = simp (good-stock g, good-pass, onward-answers)

  -- and accepted while they last
  pub commit-accepts : (gen : ℕ) → gen < last_generation → own_commit spec cs gen (changes_to f cs n) ≡ answers (record { cells = put_all cs (changes_to f cs n); generation = gen + 1 })
  commit-accepts gen h = commit-is gen ∙ demand-true _ _ _ (lt-ltb gen last_generation h)
