-- One of two values, by a test. It stays shut, so that a goal shows the test and a proof cites the two laws. Assumes nothing.
use Rattle.std.specs.Prelude.{Bool, true, false, ◌≡◌}
use Rattle.std.proofs.lemmas.Bool.{not-true, not-false}

-- x where the test holds, y where it does not
unfoldable pub pick : {A : Type 0} → Bool → A → A → A
pick true x y = x
pick false x y = y

pub pick_true : {A : Type 0} (t : Bool) (x y : A) → t ≡ true → pick t x y ≡ x
unfolding pick
pick_true t x y e = simp e

pub pick-false : {A : Type 0} (t : Bool) (x y : A) → t ≡ false → pick t x y ≡ y
unfolding pick
pick-false t x y e = simp e

pub ruleset picks = (pick_true, pick-false, not-true, not-false)
