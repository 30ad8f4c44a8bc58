-- The stored rings, four lent numbers each: reading and writing them, the room for them, and when they are as 01 asks. Assumes nothing.
use Rattle.std.specs.Prelude.{ℕ, zero, suc, ◌+◌, ◌*◌, ◌/◌, ◌%◌, min, Bool, true, not, ◌&&◌, List, [], ◌∷◌, ◌++◌, leb, eqb, length, get_or, set, Float, Option, None, Some}
use Rattle.std.specs.Float.{nan}
use Rattle.std.specs.Float.Ieee.{lt, le}
use Rattle.std.specs.Float.Ieee.Scale.{finite}
use Rattle.refusals.specs.Limits.{ring_limit}
use Rattle.refusals.specs.Paper.{first_of}
use Rattle.refusals.specs.Lent.{over}
use Rattle.floats.specs.Pick.{pick}
use Rattle.floats.specs.Numbers.{zero64, minus_zero}
use Rattle.stock.specs.declared.TurnStockSpec.{TurnStockSpec}
use Rattle.rings.specs.declared.Ring.{Ring}
use Rattle.rings.specs.Ring.{ring, filled, apart, clip}

-- ---- reading

-- the ring at a place of the list
abbrev pub ring_at : List Float → ℕ → Ring
ring_at xs i = ring (get_or xs (4 * i) nan) (get_or xs (4 * i + 1) nan) (get_or xs (4 * i + 2) nan) (get_or xs (4 * i + 3) nan)

-- the first n rings
unfoldable pub rings_of : ℕ → List Float → List Ring
rings_of zero xs = []
rings_of (suc n) xs = rings_of n xs ++ (ring_at xs n ∷ [])

-- z_min..z_max and 0..outer, as a ring
abbrev pub bar_ring : TurnStockSpec → Ring
bar_ring s = ring s.z_min_mm s.z_max_mm zero64 s.outer_radius_mm

-- how many rings so many lent numbers have room for
abbrev pub room_for_rings : ℕ → ℕ
room_for_rings len = min (len / 4) ring_limit

-- ---- writing

-- the numbers of rings, four each
unfoldable pub flat_of : List Ring → List Float
flat_of [] = []
flat_of (q ∷ qs) = q.z0 ∷ q.z1 ∷ q.r0 ∷ q.r1 ∷ flat_of qs

-- the list with these rings at its front, the rest as it was
unfoldable pub store_as : List Float → List Ring → List Float
store_as xs l = over (flat_of l) xs

-- the list with the ring at a place
abbrev pub write : List Float → ℕ → Ring → List Float
write xs n q = set (set (set (set xs (4 * n) q.z0) (4 * n + 1) q.z1) (4 * n + 2) q.r0) (4 * n + 3) q.r1

-- ---- when stored rings are as 01 asks

-- not empty, within the extent e, so that it is finite, and no edge -0.0
unfoldable pub ring_fits : Ring → Ring → Bool
ring_fits e q =
    le e.z0 q.z0 && lt q.z0 q.z1 && le q.z1 e.z1 && le e.r0 q.r0 && lt q.r0 q.r1 && le q.r1 e.r1
    && not (minus_zero q.z0) && not (minus_zero q.z1) && not (minus_zero q.r0) && not (minus_zero q.r1)

-- none of the rings overlaps k
unfoldable pub apart_all : List Ring → Ring → Bool
apart_all [] k = true
apart_all (p ∷ ps) k = apart p k && apart_all ps k

-- each fits, and no two overlap
unfoldable pub store_fits : Ring → List Ring → Bool
store_fits e [] = true
store_fits e (q ∷ qs) = ring_fits e q && apart_all qs q && store_fits e qs

-- the test of refusal 4: no more than the room, and the rest
unfoldable pub count_fits : Ring → List Float → ℕ → Bool
count_fits e xs n = leb n (room_for_rings (length xs)) && store_fits e (rings_of n xs)

-- ---- rings that a move or parts bring

abbrev pub finite_ring : Ring → Bool
finite_ring q = finite q.z0 && finite q.z1 && finite q.r0 && finite q.r1

-- finite and, as given, not empty
abbrev pub good_ring : Ring → Bool
good_ring q = finite_ring q && filled q

-- the place of the first that is not good, the first of them at the place k
unfoldable pub bad_from : ℕ → List Ring → Option ℕ
bad_from k [] = None
bad_from k (q ∷ qs) = pick (good_ring q) (bad_from (suc k) qs) (Some k)

-- what 10 asks of a move's or the parts' rings: the place of the first whole ring that is not good, else of the one that is broken off
unfoldable pub bad_ring : List Float → Option ℕ
bad_ring xs = first_of (bad_from 0 (rings_of (length xs / 4) xs)) (pick (eqb (length xs % 4) 0) None (Some (length xs / 4)))

-- each is finite and, as given, not empty
unfoldable pub all_good : List Ring → Bool
all_good [] = true
all_good (q ∷ qs) = finite_ring q && filled q && all_good qs

-- whole rings, each good: no ring is bad (`Good-none`, proofs/Bad)
unfoldable pub rings_good : List Float → Bool
rings_good xs = eqb (length xs % 4) 0 && all_good (rings_of (length xs / 4) xs)

-- how many of the rings are not empty after clipping
unfoldable pub raised_by : Ring → List Ring → ℕ
raised_by e [] = 0
raised_by e (q ∷ qs) = pick (filled (clip e q)) 1 0 + raised_by e qs
