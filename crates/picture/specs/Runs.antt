-- Neighbours that are drawn as one. Assumes nothing.
use Rattle.std.specs.Prelude.{◌≡◌, Bool, true, false, ℕ, ◌≤◌, ◌<◌, Float}
use Rattle.std.specs.Float.Ieee.{eq}
use Rattle.picture.specs.declared.Stretch.{Stretch}

-- of n bins, r is the first from i on for which the test has this answer, and n where there is none
pub record FirstSo (test : ℕ → Bool) (answer : Bool) (n i r : ℕ) : Type 0 where
  pub within : r ≤ n
  pub after : i ≤ n → i ≤ r
  pub before : (j : ℕ) → j < r → i ≤ j → test j ≡ answer → ⊥
  pub there : r < n → test r ≡ answer

-- the next neighbours from bin i on that pass the test, and as many as there are
pub record NextStretch (test : ℕ → Bool) (n i : ℕ) (s : Stretch) : Type 0 where
  pub first : FirstSo test true n i s.from
  pub last : FirstSo test false n s.from s.to

-- of n radii, the run from k on ends before r: all of it is at one radius, and it is as long as it can be
pub record RunEnds (radius : ℕ → Float) (n k r : ℕ) : Type 0 where
  pub after : k < n → k < r
  pub within : k < n → r ≤ n
  pub none : n ≤ k → r ≡ k
  pub same : (j : ℕ) → j < r → k < j → eq (radius j) (radius k) ≡ true
  pub ends : k < r → r < n → eq (radius r) (radius k) ≡ false
