-- A radius, or none. Assumes nothing.
use Rattle.std.specs.Prelude.{Float, Option, None, Some}
use Rattle.floats.specs.Numbers.{least_of, greatest_of}

-- the lesser of two, where there is one
unfoldable pub lower_of : Option Float → Option Float → Option Float
lower_of None b = b
lower_of (Some x) None = Some x
lower_of (Some x) (Some y) = Some (least_of x y)

-- the greater of two, where both are there
unfoldable pub upper_of : Option Float → Option Float → Option Float
upper_of None b = None
upper_of (Some x) None = None
upper_of (Some x) (Some y) = Some (greatest_of x y)
