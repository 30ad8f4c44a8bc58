-- The full look: the radius over all segments of a chain of points, one after the other. It knows no part of the chain, no order of it and no count. The calls look at a part alone and are proved
-- to answer so (`full_at`, `full-range` in proofs/Rules.antt; of the calls in crate `demands`, proofs/Profile.antt). Assumes nothing.
use mathlib.Core.List.{List, [], ◌∷◌, foldl}
use Rattle.std.specs.Prelude.{Float, Option, None}
use Rattle.floats.specs.Numbers.{clean_of}
use Rattle.envelope.specs.declared.segments.Point.{Point}
use Rattle.envelope.specs.declared.Radii.{Radii}
use Rattle.envelope.specs.Envelope.{segment_at, higher, segment_in}

-- the points in order, two numbers each; -0.0 is read as +0.0
unfoldable pub points_of : List Float → List Point
points_of [] = []
points_of (u ∷ []) = []
points_of (u ∷ v ∷ ps) = record { u = clean_of u; v = clean_of v } ∷ points_of ps

-- the line from a point to the next
pub record Segment : Type 0 where
  pub from : Point
  pub to : Point

-- each point with the next
unfoldable pub neighbours : List Point → List Segment
neighbours [] = []
neighbours (p ∷ []) = []
neighbours (p ∷ q ∷ ps) = record { from = p; to = q } ∷ neighbours (q ∷ ps)

-- all segments in order
unfoldable pub segments_of : List Float → List Segment
segments_of ps = neighbours (points_of ps)

-- the highest radius at u over all segments
unfoldable pub full_there : List Float → Float → Option Float
full_there ps u = foldl (λ r g. higher r (segment_at g.from g.to u)) None (segments_of ps)

-- the lowest and the highest radius over lo..hi over all segments
unfoldable pub full_range : List Float → Float → Float → Option Radii
full_range ps lo hi = foldl (λ r g. segment_in r g.from g.to lo hi) None (segments_of ps)
