-- A fraction rounded. Assumes nothing.
use Rattle.std.specs.Prelude.{ℕ, ◌+◌, ◌*◌, ◌/◌, ◌%◌, Bool, ◌&&◌, ◌||◌, ◌==◌, nat_lt}
use Rattle.floats.specs.Pick.{pick}

-- rest / b is above a half, or is a half where n, below it, is odd
unfoldable pub rounds_up : ℕ → ℕ → ℕ → Bool
rounds_up rest b n = nat_lt b (rest * 2) || (rest * 2 == b && n % 2 == 1)

-- the whole number nearest to a / b, of two the even one
unfoldable pub nearest_of : ℕ → ℕ → ℕ
nearest_of a b = pick (rounds_up (a % b) b (a / b)) (a / b + 1) (a / b)
