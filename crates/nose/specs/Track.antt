-- Proved equal to `specs/Nose` (proofs/Tracks); need not be believed.
-- A segment with what no bin changes worked out once: the form the fast passes take. Assumes nothing.
use Rattle.std.specs.Prelude.{Bool, true, false, ◌&&◌, ◌||◌, T, Float, Option, None, Some}
use Rattle.std.specs.Option.{is_some, unwrap_or}
use Rattle.std.specs.Float.Ieee.{lt, le, eq, ne}
use Rattle.floats.specs.Pick.{pick}
use Rattle.floats.specs.Numbers.{◌+₆₄◌, ◌-₆₄◌, ◌*₆₄◌, ◌/₆₄◌, zero64, one64, least_of, greatest_of, size_of}
use Rattle.numbers.specs.Root.{root_of}
use Rattle.stock.specs.declared.ZRange.{ZRange}
use Rattle.reach.specs.declared.Swept.{Swept}
use Rattle.reach.specs.Low.{lower_of, upper_of}
use Rattle.reach.specs.Kinds.{SomeOf}
use Rattle.nose.specs.declared.Point.{Point}
use Rattle.nose.specs.declared.Segment.{Segment}
use Rattle.nose.specs.declared.Capsule.{Capsule}
use Rattle.nose.specs.declared.Track.{Track}
use Rattle.nose.specs.declared.Sample.{Sample}
use Rattle.nose.specs.Capsule.{pt, on_line, less_root, shifted, normal_of, capsule_lowest}
use Rattle.nose.specs.Nose.{in_bin}

-- ---- a capsule of one radius
-- what no line changes, of a segment with this normal, or with none where it has no length: the radius and its square, and of the straight side its start p, how far it goes on, and its lesser end
unfoldable pub capsule_of : Point → Point → Option Point → Float → Capsule
capsule_of a b normal rn =
    let p = shifted a rn (unwrap_or normal (pt zero64 zero64)) in
    let q = shifted b rn (unwrap_or normal (pt zero64 zero64)) in
    record {
      a = a;
      b = b;
      rn = rn;
      rr = rn *₆₄ rn;
      long = is_some normal;
      sloped = ne q.z p.z;
      p = p;
      dr = q.r -₆₄ p.r;
      dz = q.z -₆₄ p.z;
      lowest = least_of p.r q.r;
    }

-- the circle about an end, on the line z = c
unfoldable pub end_on : Point → Float → Float → Float → Option Float
end_on p rn rr c =
    let dz = p.z -₆₄ c in
    pick (le (size_of dz) rn) (less_root p.r (root_of (greatest_of (rr -₆₄ dz *₆₄ dz) zero64))) None

-- the straight side, on the line z = c
unfoldable pub side_on : Capsule → Float → Option Float
side_on w c =
    let t = (c -₆₄ w.p.z) /₆₄ w.dz in
    pick w.sloped
    (pick (le zero64 t && le t one64) (Some (w.p.r +₆₄ t *₆₄ w.dr)) None)
    (pick (le (size_of (w.p.z -₆₄ c)) on_line) (Some w.lowest) None)

-- the capsule, on the line z = c
unfoldable pub capsule_at : Capsule → Float → Option Float
capsule_at w c =
    let ends = lower_of (end_on w.a w.rn w.rr c) (end_on w.b w.rn w.rr c) in
    pick w.long (lower_of ends (side_on w c)) ends

-- a radius that is over top, or none
abbrev pub Over : Float → Option Float → Type 0
Over top = SomeOf (λ x. T (lt top x))

-- ---- a segment
-- the same number, and no zero
unfoldable pub alike_of : Float → Float → Bool
alike_of a b = eq a b && ne b zero64

-- the grown and the shrunk capsule, whether the shrunk one need not be worked out, whether the sag is more than rn, the lowest point, and the z range
unfoldable pub track_of : Segment → Float → Track
track_of s rn =
    let normal = normal_of s.a s.b in
    let g = rn +₆₄ s.sag in
    let h = rn -₆₄ s.sag in
    record {
      grown = capsule_of s.a s.b normal g;
      shrunk = capsule_of s.a s.b normal h;
      same = lt rn s.sag || alike_of g h;
      shy = lt rn s.sag;
      low = capsule_lowest s.a s.b g;
      from = least_of s.a.z s.b.z -₆₄ g;
      to = greatest_of s.a.z s.b.z +₆₄ g;
    }

-- a track on the line z = c; where the sag is more than rn, nothing asks for the shrunk capsule
unfoldable pub sample_at : Track → Float → Sample
sample_at t c = record { grown = capsule_at t.grown c; shrunk = pick t.same (capsule_at t.grown c) (capsule_at t.shrunk c) }

-- ---- a bin
-- one segment more, by its samples at the ends of the bin
unfoldable pub step_of : Swept → Point → Bool → ZRange → Sample → Sample → Swept
step_of acc low shy bin a b =
    record {
      low = lower_of (lower_of (lower_of acc.low (in_bin low bin)) a.grown) b.grown;
      high = pick shy acc.high (lower_of acc.high (upper_of a.shrunk b.shrunk));
    }

-- one segment more; one that stands beside the bin is passed over
unfoldable pub with_track : Swept → Track → ZRange → Swept
with_track acc t bin =
    pick (lt t.to bin.za || lt bin.zb t.from) acc (step_of acc t.low t.shy bin (sample_at t bin.za) (sample_at t bin.zb))
