-- The length of (x, y). Parts that are both below 2 ^ -400 in size are scaled up first, and their length is scaled back. Assumes nothing.
use Rattle.std.specs.Prelude.{Bool, ◌&&◌, from_bits, Float}
use Rattle.std.specs.Float.{binary64}
use Rattle.std.specs.Float.Ieee.{lt}
use Rattle.refusals.specs.Paper.{Paper, answers, onward}
use Rattle.floats.specs.Pick.{pick}
use Rattle.floats.specs.Numbers.{◌+₆₄◌, ◌*₆₄◌, size_of}
use Rattle.numbers.specs.Root.{root_of}

-- 2 ^ -400, 2 ^ 600 and 2 ^ -600
abbrev pub tiny_below : Float
tiny_below = from_bits binary64 0x26F0000000000000

abbrev pub scale_up : Float
scale_up = from_bits binary64 0x6570000000000000

abbrev pub scale_down : Float
scale_down = from_bits binary64 0x1A70000000000000

-- both parts are below 2 ^ -400 in size
unfoldable pub tiny_parts : Float → Float → Bool
tiny_parts x y = lt (size_of x) tiny_below && lt (size_of y) tiny_below

-- 01's rule: the root of the rounded sum of the rounded squares, and 5 where that root is refused
unfoldable pub plain_length : Float → Float → Paper Float
plain_length x y = root_of (x *₆₄ x +₆₄ y *₆₄ y)

-- a length of parts that were scaled up, with one rounding
unfoldable pub scaled_back : Paper Float → Paper Float
scaled_back p = onward p (λ l. answers (l *₆₄ scale_down))

-- the length of (x, y), by 01's rule; that of tiny parts by the same rule on the parts scaled up
unfoldable pub length_of : Float → Float → Paper Float
length_of x y = pick (tiny_parts x y) (scaled_back (plain_length (x *₆₄ scale_up) (y *₆₄ scale_up))) (plain_length x y)
