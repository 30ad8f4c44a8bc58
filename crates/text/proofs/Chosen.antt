-- A choice whose test is known. Assumes nothing.
use Rattle.std.proofs.Common.{◌≡◌, true, false, refl}
use Rattle.floats.specs.Pick.{pick, pick_true, pick-false}

pub yes : {A : Type 0} (a b : A) → pick true a b ≡ a
yes a b = pick_true true a b refl

pub no : {A : Type 0} (a b : A) → pick false a b ≡ b
no a b = pick-false false a b refl
