-- What a list of changes has, and what it leaves in the cells. Assumes nothing.
use mathlib.Core.Path.{◌≡◌, refl, sym, ◌∙◌, subst}
use mathlib.Core.Logic.{◌⊎◌, inl, inr}
use mathlib.Core.Bool.{Bool, true, false, false≢true}
use mathlib.Core.List.Memᴰ
use mathlib.Core.List.{List, [], ◌∷◌, ◌++◌, Memᴰ}
use Prim.Native.Nat.{ℕ, zero, suc, ◌+◌, ◌*◌, ◌≤◌, ◌<◌}
use native.Mathlib.Nat.{eq-or-lt_of_le}
use native.Mathlib.Omega.{arith}
use borrow.Author.Tests.{ltb-true, ltb-false}
use lib.Dec.{ltb}
use lib.ListN.{length}
use lib.Ieee.{Float}
use Rattle.refusals.specs.Paper.{answers, placed}
use Rattle.floats.specs.Each.{Each}
use Rattle.floats.specs.Pick.{pick}
use Rattle.stock.specs.declared.TurnStockSpec.{TurnStockSpec}
use Rattle.stock.specs.declared.TurnCell.{TurnCell}
use Rattle.stock.specs.declared.TurnChange.{TurnChange}
use Rattle.stock.specs.Spec.{clean_spec}
use Rattle.stock.specs.Cell.{cell_at, same_cell, stock_of, put_cell}
use Rattle.stock.proofs.Count.{none-demanded, and_both, stock-length}
use Rattle.stock.proofs.Stored.{stored_same, stored_other}
use Rattle.changes.specs.Change.{change_of, change_at, changes_to}
use Rattle.changes.proofs.Rising.{rising}
use Rattle.changes.specs.Commit.{passes, each_from, first_fall, pass_all, put_all}
use Rattle.changes.specs.Decide.{rises_after, rises}
use Rattle.demands.proofs.Rising.{none-rises}
use Rattle.changes.proofs.Passed.{put-length}
use Rattle.moves.proofs.Answered.{answered, unplaced}
use Rattle.moves.proofs.Cells.{one-fits}
use Rattle.demands.specs.Wrote.{Lists, Writes}

-- ---- the changes of n bins

module _ (f : ℕ → TurnCell → TurnCell) (cs : List Float) where
  -- the change of bin i, where it is one
  at-bin : (i : ℕ) (t : Bool) → t ≡ false → Memᴰ (change_of f cs i) (pick t [] (change_of f cs i ∷ []))
  unfolding pick
  at-bin i true e = absurd (false≢true (sym e))
  at-bin i false e = Memᴰ.head refl

  -- each bin whose cell becomes another is listed
  each-listed : (n i : ℕ) → i < n → same_cell (cell_at cs i) (f i (cell_at cs i)) ≡ false → Memᴰ (change_of f cs i) (changes_to f cs n)
  unfolding changes_to change_at
  each-listed zero i h e = absurd (none i h)
    where
      none : (i : ℕ) → i < 0 → ⊥
      none i p = omega arith
  each-listed (suc n) i h e = go (eq-or-lt_of_le (omega arith)) (each-listed n i)
    where
      go : (i ≡ n) ⊎ (i < n) → (i < n → same_cell (cell_at cs i) (f i (cell_at cs i)) ≡ false → Memᴰ (change_of f cs i) (changes_to f cs n)) → Memᴰ (change_of f cs i) (changes_to f cs n ++ change_at f cs n)
      go (inl q) r = Memᴰ.append_right (changes_to f cs n) (subst (λ (j : ℕ). Memᴰ (change_of f cs i) (change_at f cs j)) q (at-bin i (same_cell (cell_at cs i) (f i (cell_at cs i))) e))
      go (inr q) r = Memᴰ.append_left (change_at f cs n) (r q e)

  -- and no other
  of-bin : (i : ℕ) (c : TurnChange) (t : Bool) → Memᴰ c (pick t [] (change_of f cs i ∷ [])) → (t ≡ false) × (c ≡ change_of f cs i)
  unfolding pick
  of-bin i c true m = absurd (Memᴰ.not-nil m)
  of-bin i c false m = (refl, Memᴰ.eq_of_singleton m)

  only-listed : (n : ℕ) (c : TurnChange) → Memᴰ c (changes_to f cs n) → (i : ℕ) × (i < n) × (same_cell (cell_at cs i) (f i (cell_at cs i)) ≡ false) × (c ≡ change_of f cs i)
  unfolding changes_to change_at
  only-listed zero c m = absurd (Memᴰ.not-nil m)
  only-listed (suc n) c m = go (Memᴰ.append_cases (changes_to f cs n) m) (only-listed n c)
    where
      go : Memᴰ c (changes_to f cs n) ⊎ Memᴰ c (change_at f cs n) → (Memᴰ c (changes_to f cs n) → (i : ℕ) × (i < n) × (same_cell (cell_at cs i) (f i (cell_at cs i)) ≡ false) × (c ≡ change_of f cs i))
          → (i : ℕ) × (i < suc n) × (same_cell (cell_at cs i) (f i (cell_at cs i)) ≡ false) × (c ≡ change_of f cs i)
      go (inl a) r = let x = r a in let h = x.1 in (x.0, omega arith, x.2, x.3)
      go (inr a) r = let x = of-bin n c (same_cell (cell_at cs n) (f n (cell_at cs n))) a in (n, omega arith, x.0, x.1)

  pub changes-list : (n : ℕ) → Lists f cs n (changes_to f cs n)
  changes-list n = record { each = each-listed n; only = only-listed n; rising = rising f cs n }

-- ---- changes put into cells

apart : (i k : ℕ) → (k ≡ i → ⊥) → (i < k) ⊎ (k < i)
apart i k h = go (ltb i k) refl
  where
    at : (k ≡ i) ⊎ (k < i) → (i < k) ⊎ (k < i)
    at (inl q) = absurd (h q)
    at (inr q) = inr q

    go : (t : Bool) → ltb i k ≡ t → (i < k) ⊎ (k < i)
    go true e = inl (ltb-true i k e)
    go false e = at (eq-or-lt_of_le (ltb-false i k e))

module _ (n : ℕ) where
  -- a bin that no change names is left
  put-others : (l : List TurnChange) (out : List Float) → length out ≡ 4 * n → Each (λ (c : TurnChange). c.index < n) l → (i : ℕ) → Each (λ (c : TurnChange). c.index ≡ i → ⊥) l → cell_at (put_all out l) i ≡ cell_at out i
  put-others [] out len hs i as₀ = refl
  put-others (c ∷ l) out len hs i as₀ =
      put-others l (put_cell out c.index c.after) (put-length (c ∷ []) out ∙ len) hs.1 i as₀.1
      ∙ stored_other out c.index c.after (room c.index hs.0) i (apart i c.index as₀.0)
    where
      room : (k : ℕ) → k < n → 4 * k + 4 ≤ length out
      room k h = omega arith

  -- the changes behind one of a rising list name other bins
  later : (i j : ℕ) (l : List TurnChange) → i ≤ j → rises_after j l ≡ true → Each (λ (c : TurnChange). c.index ≡ i → ⊥) l
  unfolding rises_after
  later i j [] h e = tt
  later i j (c ∷ l) h e =
      let b = and_both (ltb j c.index) (rises_after c.index l) e in
      let p = ltb-true j c.index b.0 in
      ((λ q. omega arith), later i c.index l (omega arith) b.1)

  rises-tail : (c : TurnChange) (l : List TurnChange) → rises (c ∷ l) ≡ true → rises l ≡ true
  unfolding rises rises_after
  rises-tail c [] e = refl
  rises-tail c (d ∷ l) e = (and_both (ltb c.index d.index) (rises_after d.index l) e).1

  -- each change is there
  put-each : (l : List TurnChange) (out : List Float) → length out ≡ 4 * n → Each (λ (c : TurnChange). c.index < n) l → rises l ≡ true → (c : TurnChange) → Memᴰ c l → cell_at (put_all out l) c.index ≡ c.after
  unfolding rises
  put-each [] out len hs e c m = absurd (Memᴰ.not-nil m)
  put-each (d ∷ l) out len hs e c m = go (Memᴰ.cases_cons m) (put-each l (put_cell out d.index d.after) (put-length (d ∷ []) out ∙ len) hs.1 (rises-tail d l e) c)
    where
      room : (k : ℕ) → k < n → 4 * k + 4 ≤ length out
      room k h = omega arith

      here : cell_at (put_all (put_cell out d.index d.after) l) d.index ≡ d.after
      here =
          put-others l (put_cell out d.index d.after) (put-length (d ∷ []) out ∙ len) hs.1 d.index (later d.index d.index l (omega arith) e)
          ∙ stored_same out d.index d.after (room d.index hs.0)

      go : (c ≡ d) ⊎ Memᴰ c l → (Memᴰ c l → cell_at (put_all (put_cell out d.index d.after) l) c.index ≡ c.after) → cell_at (put_all (put_cell out d.index d.after) l) c.index ≡ c.after
      go (inl q) r = subst (λ (x : TurnChange). cell_at (put_all (put_cell out d.index d.after) l) x.index ≡ x.after) (sym q) here
      go (inr q) r = r q

-- changes that pass name bins that there are
pass-indices : (s : TurnStockSpec) (n : ℕ) (cs : List Float) (k : ℕ) (l : List TurnChange) → each_from s n cs k l ≡ answers tt → Each (λ (c : TurnChange). c.index < n) l
unfolding each_from
pass-indices s n cs k [] h = tt
pass-indices s n cs k (c ∷ l) h =
    let a = answered (placed k (passes s n cs c)) (λ _. each_from s n cs (suc k) l) tt h in
    ((one-fits s n cs c (unplaced k (passes s n cs c) tt a.first)).1, pass-indices s n cs (suc k) l a.then)

named-apart : (i : ℕ) (l : List TurnChange) → ((c : TurnChange) → Memᴰ c l → c.index ≡ i → ⊥) → Each (λ (c : TurnChange). c.index ≡ i → ⊥) l
named-apart i [] h = tt
named-apart i (c ∷ l) h = (h c (Memᴰ.head refl), named-apart i l (λ d m. h d (Memᴰ.tail m)))

-- changes that pass are written, each of them, and no other bin is touched
pub changes-written : (spec : TurnStockSpec) (cs : List Float) (n : ℕ) (l : List TurnChange) → stock_of spec cs ≡ answers n → pass_all (clean_spec spec) n cs l ≡ answers tt → Writes l cs (put_all cs l)
unfolding pass_all
changes-written spec cs n l e h =
    let d = none-demanded (first_fall l) 7 (each_from (clean_spec spec) n cs 0 l) tt h in
    let len = stock-length spec cs n e in
    let hs = pass-indices (clean_spec spec) n cs 0 l d.1 in
    record {
      long = put-length l cs;
      each = put-each n l cs len hs (none-rises l d.0);
      others = λ i a. put-others n l cs len hs i (named-apart i l a);
    }
