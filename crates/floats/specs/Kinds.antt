-- Which floats the laws are about: no NaN, no -0.0, finite, of a bounded size, from 0 to 1. Assumes nothing.
use Rattle.std.specs.Prelude.{ℕ, ◌*◌, ◌^◌, ◌≤◌, false, not, T, pos, Float}
use Rattle.std.specs.Float.{fin, Format}
use Rattle.std.specs.Float.Ieee.{fits, is_nan, le}
use Rattle.std.specs.Float.Ieee.Scale.{finite}
use Rattle.std.specs.Float.Ieee.Positive.{num, den}
use Rattle.floats.specs.Numbers.{minus_zero}

-- The format holds x, and x is no NaN. It may be an infinity, and it may be -0.0.
pub record Number (f : Format) (x : Float) : Type 0 where
  pub held : T (fits f x)
  pub number : T (not (is_nan x))

-- The format holds x, and x is neither a NaN nor -0.0. It may be an infinity.
pub record Plain (f : Format) (x : Float) : Type 0 where
  pub held : T (fits f x)
  pub number : T (not (is_nan x))
  pub unsigned : T (not (minus_zero x))

-- The format holds x, and x is neither a NaN nor an infinity.
pub record Finite (f : Format) (x : Float) : Type 0 where
  pub held : T (fits f x)
  pub finite : T (finite x)

-- Of these, x is at most 2 ^ k in size.
pub record Within (f : Format) (k : ℕ) (x : Float) : Type 0 where
  pub held : T (fits f x)
  pub finite : T (finite x)
  pub small : num x ≤ 2 ^ k * den x

-- x is a value of the format from 0.0 to 1.0.
pub record Ratio (f : Format) (x : Float) : Type 0 where
  pub held : T (fits f x)
  pub low : T (le (fin false 0 (pos 0)) x)
  pub high : T (le x (fin false 1 (pos 0)))
