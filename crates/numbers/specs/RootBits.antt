-- Proved equal to `root_of` by the proof of `root` (proofs/Nearest); need not be believed.
-- The parts of the root's work: the whole number nearest to a root, and the bits of an f64. Assumes nothing.
use Rattle.std.specs.Prelude.{◌≡◌, ℕ, suc, ◌+◌, ◌-◌, ◌*◌, ◌/◌, ◌%◌, ◌^◌, cond, not, T, from_bits, nat_lt}
use Rattle.std.specs.Float.{binary64}
use Rattle.std.specs.Float.Ieee.{nan_bits}
use Rattle.numbers.specs.Root.{whole_root, root_within}

-- the whole number nearest to √n
unfoldable pub nearest_root : ℕ → ℕ
nearest_root n = cond (nat_lt (whole_root n * whole_root n + whole_root n) n) (suc (whole_root n)) (whole_root n)

-- The digits below the exponent's field of t, with the leading one before them, and doubled where the field is odd: what is left of it is even.
abbrev pub digits_of : ℕ → ℕ
digits_of t = (t % 2 ^ 52 + 2 ^ 52) * 2 ^ (t / 2 ^ 52 % 2)

-- The pattern of the root of what has the pattern t, where 1021 is added to the exponent's field: half of the field, and the root of the digits.
abbrev pub aligned_root : ℕ → ℕ
aligned_root t = t / 2 ^ 53 * 2 ^ 52 + nearest_root (digits_of t * 2 ^ 52)

-- A pattern b of a finite number that is not negative stands for sig_of b * 2 ^ exp_of b units. Its exponent's field has one more than exp_of b,
-- for the leading digit, which so stays in sig_of b, or is 0, as `0 - 1` is.
abbrev pub exp_of : ℕ → ℕ
exp_of b = b / 2 ^ 52 - 1

abbrev pub sig_of : ℕ → ℕ
sig_of b = b - exp_of b * 2 ^ 52

-- r is the pattern of the root of what b is the pattern of
pub record Pattern (b r : ℕ) : Type 0 where
  pub number : T (not (nan_bits binary64 r))
  pub value : from_bits binary64 r ≡ root_within (sig_of b * 2 ^ exp_of b)
