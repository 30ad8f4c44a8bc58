-- A whole number in decimal. Assumes nothing.
use Rattle.std.specs.Prelude.{ℕ, ◌+◌, ◌-◌, ◌*◌, Bool, true, false, ◌&&◌, List, [], ◌∷◌, length, nat_le, None, Option, Some}
use Rattle.floats.specs.Pick.{pick}

-- `0` to `9`
abbrev pub digit : ℕ → Bool
digit b = nat_le 48 b && nat_le b 57

-- every byte is a digit
unfoldable pub all_digits : List ℕ → Bool
all_digits [] = true
all_digits (b ∷ s) = pick (digit b) (all_digits s) false

-- the number that digits spell after v
unfoldable pub spelt : ℕ → List ℕ → ℕ
spelt v [] = v
spelt v (b ∷ s) = spelt (v * 10 + (b - 48)) s

-- 1 to 10 digits, at most 1,000,000,000
unfoldable pub is_whole : List ℕ → Bool
is_whole s = pick (nat_le 1 (length s)) (pick (nat_le (length s) 10) (pick (all_digits s) (nat_le (spelt 0 s) 1000000000) false) false) false

unfoldable pub whole_of : List ℕ → (Option ℕ)
whole_of s = pick (is_whole s) (Some (spelt 0 s)) None
