-- Loops over neighbours: what holds of those passed. Assumes nothing.
use Prim.Native.Nat.{ℕ, ◌+◌, ◌≤◌, ◌<◌}
use native.Mathlib.Omega.{arith}
use mathlib.Core.Path.{◌≡◌, refl, sym, subst, ap₂, ◌∙◌}
use mathlib.Core.Bool.{Bool, true, false}
use lib.Dec.{ltb}
use lib.Ieee.{Float, eq}
use borrow.Author.Count.{below_more}
use borrow.Author.Tests.{ltb-true, ltb-false}
use Rattle.picture.specs.declared.Stretch.{Stretch}
use Rattle.picture.specs.Runs.{FirstSo, NextStretch, RunEnds}

module _ (test : ℕ → Bool) (answer : Bool) (i : ℕ) where
  -- none from i on and before j has the answer
  abbrev pub Passed : ℕ → Type 0
  Passed j = (m : ℕ) → m < j → i ≤ m → test m ≡ answer → ⊥

  pub passed_none : Passed i
  passed_none m l h e = omega arith

  pub passed-more : (j : ℕ) → Passed j → (test j ≡ answer → ⊥) → Passed (j + 1)
  passed-more j p q = below_more _ j p (λ h. q)

  pub first_found : (n j : ℕ) → i ≤ j → j < n → Passed j → test j ≡ answer → FirstSo test answer n i j
  first_found n j h l p e = record { within = omega arith; after = λ _. h; before = p; there = λ _. e }

  pub first-none : (n j : ℕ) → n ≤ j → Passed j → FirstSo test answer n i n
  first-none n j h p = record { within = omega arith; after = λ g. g; before = λ m l. p m (omega arith); there = λ l. absurd (omega arith) }

pub stretch-of : (test : ℕ → Bool) (n m i : ℕ) (s : Stretch) → n ≡ m → FirstSo test true n i s.from → FirstSo test false n s.from s.to → NextStretch test m i s
stretch-of test n m i s e p q = subst (λ (x : ℕ). NextStretch test x i s) e (record { first = p; last = q })

module _ (radius : ℕ → Float) (k : ℕ) where
  -- all behind k and before j are at k's radius
  abbrev pub Level : ℕ → Type 0
  Level j = (m : ℕ) → m < j → k < m → eq (radius m) (radius k) ≡ true

  pub told : {x y : Float} {t : Bool} (j : ℕ) → x ≡ radius j → y ≡ radius k → eq x y ≡ t → eq (radius j) (radius k) ≡ t
  told j ex ey e = ap₂ (λ (u v : Float). eq u v) (sym ex) (sym ey) ∙ e

  pub level-none : Level (k + 1)
  level-none m l h = absurd (omega arith)

  pub level-more : (j : ℕ) → Level j → eq (radius j) (radius k) ≡ true → Level (j + 1)
  level-more j p q = below_more _ j p (λ h. q)

  pub run_none : (n : ℕ) → n ≤ k → RunEnds radius n k k
  run_none n h = record {
    after = λ l. absurd (omega arith);
    within = λ l. absurd (omega arith);
    none = λ _. refl;
    same = λ m l g. absurd (omega arith);
    ends = λ l g. absurd (omega arith);
  }

  pub run-found : (n j : ℕ) → k < j → j < n → Level j → eq (radius j) (radius k) ≡ false → RunEnds radius n k j
  run-found n j h l p e = record {
    after = λ _. h;
    within = λ _. omega arith;
    none = λ g. absurd (omega arith);
    same = p;
    ends = λ _ _. e;
  }

  pub run-full : (n j : ℕ) → k < j → n ≤ j → j ≤ n → Level j → RunEnds radius n k j
  run-full n j h l g p = record {
    after = λ _. h;
    within = λ _. g;
    none = λ f. absurd (omega arith);
    same = p;
    ends = λ _ f. absurd (omega arith);
  }

  -- a run that ends where it begins is behind the last
  pub run_past : (n r : ℕ) → RunEnds radius n k r → r ≤ k → n ≤ k
  run_past n r w h = by (ltb k n) refl
    where
      by : (t : Bool) → ltb k n ≡ t → n ≤ k
      by true e = let l : k < r = w.after (ltb-true k n e) in absurd (omega arith)
      by false e = ltb-false k n e

  -- and any other begins before it
  pub run-before : (n r : ℕ) → RunEnds radius n k r → k < r → k < n
  run-before n r w h = by (ltb k n) refl
    where
      by : (t : Bool) → ltb k n ≡ t → k < n
      by true e = ltb-true k n e
      by false e = let l : r ≡ k = w.none (ltb-false k n e) in absurd (omega arith)
