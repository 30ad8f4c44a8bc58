-- Proved to come to `Removes` (proofs/Removing) and to `StoresAs` (proofs/Adding); need not be believed.
-- A ring stored and a ring taken, with the tests that it took. Assumes nothing.
use Rattle.std.specs.Prelude.{ℕ, ◌≡◌, List, Float, Err, Ok, Result}
use Rattle.refusals.specs.declared.Refusal.{Refusal}
use Rattle.refusals.specs.declared.Refused.{Refused}
use Rattle.refusals.specs.Number.{refused_of}
use Rattle.refusals.specs.Paper.{Paper}
use Rattle.stock.specs.declared.TurnStockSpec.{TurnStockSpec}
use Rattle.rings.specs.declared.Ring.{Ring}
use Rattle.rings.specs.declared.RingCount.{RingCount}
use Rattle.rings.specs.declared.Added.{Added}
use Rattle.rings.specs.declared.Took.{Took}
use Rattle.rings.specs.Store.{rings_of}
use Rattle.rings.specs.Remove.{StoresAs, remove_in, remove_ring, Takes}
use Rattle.rings.specs.Tests.{tests_for, ring_tests}

-- ---- a clipped ring stored

-- the answer without the tests
abbrev pub stored_by : Result Added Refusal → Result ℕ Refused
stored_by (Ok a) = Ok a.rings
stored_by (Err r) = Err (refused_of r)

-- so many tests, where the ring is stored
abbrev pub AddedTests : Result Added Refusal → ℕ → Type 0
AddedTests (Ok a) m = a.tests ≡ m
AddedTests (Err r) m = Unit {0}

pub record Adds (xs : List Float) (p : Paper (List Ring)) (m : ℕ) (r : Result Added Refusal) (ys : List Float) : Type 0 where
  pub stores : StoresAs xs p (stored_by r) ys
  pub tests : AddedTests r m

-- ---- one ring taken

-- the answer without the tests
abbrev pub counts_by : Result Took Refused → Result RingCount Refused
counts_by (Ok t) = Ok (record { rings = t.rings; generation = t.generation })
counts_by (Err r) = Err r

-- so many tests, where the ring is taken
abbrev pub TakenTests : Result Took Refused → ℕ → Type 0
TakenTests (Ok t) m = t.tests ≡ m
TakenTests (Err r) m = Unit {0}

-- within the extent e
pub record TakesOne (e : Ring) (xs : List Float) (n g : ℕ) (q : Ring) (r : Result Took Refused) (ys : List Float) : Type 0 where
  pub takes : Takes xs (remove_in e xs n g q) (counts_by r) ys
  pub tests : TakenTests r (tests_for e (rings_of n xs) q)

-- of a stock
pub record TakesFrom (spec : TurnStockSpec) (xs : List Float) (n g : ℕ) (q : Ring) (r : Result Took Refused) (ys : List Float) : Type 0 where
  pub takes : Takes xs (remove_ring spec xs n g q) (counts_by r) ys
  pub tests : TakenTests r (ring_tests spec xs n q)
