-- The numbers of 01: the operations of f64, the least and the greatest by comparison, -0.0 read as +0.0, and which arguments are in range. Assumes nothing.
use Rattle.std.specs.Prelude.{ℕ, zero, suc, Bool, true, false, ◌&&◌, List, get_or, Float}
use Rattle.std.specs.Float.{nan, inf, fin, binary64}
use Rattle.std.specs.Float.Ieee.{add, sub, mul, div, neg, lt, le, eq, of_bits}
use Rattle.floats.specs.Pick.{pick}

-- ---- the operations of f64, each rounded to nearest even
infixl 65 ◌+₆₄◌
infixl 65 ◌-₆₄◌
infixl 70 ◌*₆₄◌
infixl 70 ◌/₆₄◌
abbrev pub ◌+₆₄◌ : Float → Float → Float
a +₆₄ b = add binary64 a b

abbrev pub ◌-₆₄◌ : Float → Float → Float
a -₆₄ b = sub binary64 a b

abbrev pub ◌*₆₄◌ : Float → Float → Float
a *₆₄ b = mul binary64 a b

abbrev pub ◌/₆₄◌ : Float → Float → Float
a /₆₄ b = div binary64 a b

-- ---- constants, by their bits
abbrev pub zero64 : Float
zero64 = of_bits binary64 0

abbrev pub one64 : Float
one64 = of_bits binary64 0x3FF0000000000000

-- 1e6, the size of the largest argument
abbrev pub million : Float
million = of_bits binary64 0x412E848000000000

-- ---- least and greatest pick by comparison
unfoldable pub least_of : Float → Float → Float
least_of a b = pick (lt b a) b a

unfoldable pub greatest_of : Float → Float → Float
greatest_of a b = pick (lt a b) b a

-- ---- the absolute value
unfoldable pub size_of : Float → Float
size_of x = pick (lt x zero64) (neg x) x

-- ---- -0.0
unfoldable pub minus_zero : Float → Bool
minus_zero nan = false
minus_zero (inf s) = false
minus_zero (fin s zero e) = s
minus_zero (fin s (suc m) e) = false

-- -0.0 is read as +0.0; every other value is as it was
unfoldable pub clean_of : Float → Float
clean_of x = pick (eq x zero64) zero64 x

-- ---- every argument is finite, with absolute value at most 1e6
abbrev pub usable : Float → Bool
usable x = le (neg million) x && le x million

-- a test holds of every number below k
unfoldable pub all_to : (ℕ → Bool) → ℕ → Bool
all_to test zero = true
all_to test (suc i) = all_to test i && test i

-- each of the first k numbers of a list is usable
unfoldable pub usable_to : List Float → ℕ → Bool
usable_to xs k = all_to (λ i. usable (get_or xs i nan)) k
