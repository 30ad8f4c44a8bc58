-- The square root of an f64, over whole numbers. What makes the definitions believable: `whole-root` and `whole-root-only` (proofs/Roots.antt),
-- `root-nearest` (proofs/Nearest.antt). Assumes nothing.
use Rattle.std.specs.Prelude.{ℕ, zero, suc, ◌+◌, ◌-◌, ◌*◌, ◌/◌, ◌^◌, ◌<◌, true, false, cond, pos, nat_le, nat_lt, Float}
use Rattle.std.specs.Float.{nan, inf, fin}
use Rattle.std.specs.Float.Ieee.{up, down, size, odd}
use Rattle.refusals.specs.Paper.{Paper, answers, refuses, only}

-- r, or the next number up where its square is at most n
abbrev pub step_up : ℕ → ℕ → ℕ
step_up n r = cond (nat_le (suc r * suc r) n) (suc r) r

-- the root of an n below 4 ^ k, cut to a whole number: twice the root of n / 4, or one more
unfoldable pub root_below : ℕ → ℕ → ℕ
root_below zero n = zero
root_below (suc k) n = step_up n (root_below k (n / 4) * 2)

-- the greatest whole number whose square is at most n (`whole-root`, `whole-root-only`)
unfoldable pub whole_root : ℕ → ℕ
whole_root n = root_below (size n) n

-- The value of binary64 nearest to the root of x, where x is X units of 2 ^ -1074, the least value. In the same units the root is √N.
-- Of its whole part the 53 leading digits are kept and k are dropped: √N is q * 2 ^ k or more, and below (q + 1) * 2 ^ k.
-- It is nearer to the second where it is above (q + 1/2) * 2 ^ k, half way between: here both are doubled, and squared.
unfoldable pub root_within : ℕ → Float
root_within X =
    let N = X * 2 ^ 1074 in
    let s = whole_root N in
    let k = size s - 53 in
    let q = s / 2 ^ k in
    let twice = (q * 2 + 1) * 2 ^ k in
    odd 53 false (cond (nat_lt (twice * twice) (N * 4)) (suc q) q) k 1074

-- The magnitude of a finite number in units of 2 ^ -1074. Each value of binary64 is a whole number of them.
abbrev pub units_of : Float → ℕ
units_of nan = 0
units_of (inf s) = 0
units_of (fin s m e) = m * up e * 2 ^ 1074 / down e

-- The root of x, where x is finite and not negative; that of either zero is +0.0. A finite x is m * 2 ^ e.
unfoldable pub root_of : Float → Paper Float
root_of nan = refuses (only 5)
root_of (inf s) = refuses (only 5)
root_of (fin s zero e) = answers (fin false 0 (pos 0))
root_of (fin true (suc m) e) = refuses (only 5)
root_of (fin false (suc m) e) = answers (root_within (units_of (fin false (suc m) e)))

-- √N is nearer to R than to any other Y: what lies half way between R and Y, (R + Y) / 2, is on the side of Y. Both are doubled, and squared.
pub record Nearer (N R Y : ℕ) : Type 0 where
  pub above : R < Y → N * 4 < (R + Y) * (R + Y)
  pub under : Y < R → (R + Y) * (R + Y) < N * 4
