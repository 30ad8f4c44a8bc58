-- The capsule of a segment and a radius: the points within the radius of the segment, in (r, z). The order of operations is 000's. Assumes nothing.
use Rattle.std.specs.Prelude.{◌&&◌, ◌||◌, Float, Option, None, Some}
use Rattle.std.specs.Float.{binary64}
use Rattle.std.specs.Float.Ieee.{of_bits, neg, lt, le, eq, ne}
use Rattle.refusals.specs.Paper.{Paper, answers, refuses}
use Rattle.floats.specs.Pick.{pick}
use Rattle.floats.specs.Numbers.{◌+₆₄◌, ◌-₆₄◌, ◌*₆₄◌, ◌/₆₄◌, zero64, one64, least_of, greatest_of, size_of}
use Rattle.numbers.specs.Root.{root_of}
use Rattle.numbers.specs.Length.{length_of}
use Rattle.reach.specs.Low.{lower_of}
use Rattle.nose.specs.declared.Point.{Point}

-- a point
abbrev pub pt : Float → Float → Point
pt r z = record { r = r; z = z }

-- 2
abbrev pub two64 : Float
two64 = of_bits binary64 0x4000000000000000

-- 1e-12
abbrev pub on_line : Float
on_line = of_bits binary64 0x3D719799812DEA11

-- ---- the circle about an end
-- a radius less a root; none where the root is refused
abbrev pub less_root : Float → Paper Float → Option Float
less_root r (answers x) = Some (r -₆₄ x)
less_root r (refuses n) = None

-- the least radius of the circle about p on the line z = c, if it reaches the line
unfoldable pub end_at : Point → Float → Float → Option Float
end_at p rn c =
    let dz = p.z -₆₄ c in
    pick (le (size_of dz) rn) (less_root p.r (root_of (greatest_of (rn *₆₄ rn -₆₄ dz *₆₄ dz) zero64))) None

-- ---- the straight side that faces the axis
-- a normal turned so that it faces the axis
unfoldable pub facing : Point → Point
facing n = pick (lt zero64 n.r || (eq n.r zero64 && lt zero64 n.z)) (pt (neg n.r) (neg n.z)) n

-- the normal of a direction of this length; none where it has no length
abbrev pub normal_by : Float → Float → Paper Float → Option Point
normal_by dr dz (answers l) = pick (lt zero64 l) (Some (facing (pt (dz /₆₄ l) (neg dr /₆₄ l)))) None
normal_by dr dz (refuses n) = None

-- the normal of the segment from a to b
unfoldable pub normal_of : Point → Point → Option Point
normal_of a b =
    let dr = b.r -₆₄ a.r in
    let dz = b.z -₆₄ a.z in
    normal_by dr dz (length_of dr dz)

-- p moved by rn along n
unfoldable pub shifted : Point → Float → Point → Point
shifted p rn n = pt (p.r +₆₄ rn *₆₄ n.r) (p.z +₆₄ rn *₆₄ n.z)

-- the radius of the line from p to q at z = c; where it stands on that line, its lesser end
unfoldable pub line_at : Point → Point → Float → Option Float
line_at p q c =
    let t = (c -₆₄ p.z) /₆₄ (q.z -₆₄ p.z) in
    pick (ne q.z p.z)
    (pick (le zero64 t && le t one64) (Some (p.r +₆₄ t *₆₄ (q.r -₆₄ p.r))) None)
    (pick (le (size_of (p.z -₆₄ c)) on_line) (Some (least_of p.r q.r)) None)

-- the segment moved by rn along its normal, if it has one
unfoldable pub side_at : Point → Point → Float → Float → Option Point → Option Float
side_at a b rn c None = None
side_at a b rn c (Some n) = line_at (shifted a rn n) (shifted b rn n) c

-- ---- the capsule
-- its least radius on the line z = c, if it reaches the line
unfoldable pub capsule_min_r : Point → Point → Float → Float → Option Float
capsule_min_r a b rn c = lower_of (lower_of (end_at a rn c) (end_at b rn c)) (side_at a b rn c (normal_of a b))

-- the segment's point with the least radius; its middle where both ends are level
unfoldable pub least_point : Point → Point → Point
least_point a b = pick (lt a.r b.r) a (pick (lt b.r a.r) b (pt a.r ((a.z +₆₄ b.z) /₆₄ two64)))

-- the capsule's lowest point
unfoldable pub capsule_lowest : Point → Point → Float → Point
capsule_lowest a b rn = pt ((least_point a b).r -₆₄ rn) (least_point a b).z
