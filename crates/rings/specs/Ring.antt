-- Rings: half-open rectangles in z and r, what one leaves of another, and what the stored rings leave of a new one, in 000's order. Assumes nothing.
use Rattle.std.specs.Prelude.{ℕ, Bool, true, false, ◌&&◌, ◌||◌, List, [], ◌∷◌, ◌++◌, leb, length, Float}
use Rattle.std.specs.Float.Ieee.{lt, le}
use Rattle.floats.specs.Pick.{pick}
use Rattle.floats.specs.Numbers.{least_of, greatest_of, clean_of}
use Rattle.rings.specs.declared.Ring.{Ring}

abbrev pub ring : Float → Float → Float → Float → Ring
ring a b c d = record { z0 = a; z1 = b; r0 = c; r1 = d }

-- ---- points

-- x lies from a up to b, at a too and at b not
abbrev pub within : Float → Float → Float → Bool
within a b x = le a x && lt x b

-- the point at z and r lies in the ring; a point is any two floats
abbrev pub covers : Ring → Float → Float → Bool
covers q z r = within q.z0 q.z1 z && within q.r0 q.r1 r

-- it lies in one of the rings
unfoldable pub covered : List Ring → Float → Float → Bool
covered [] z r = false
covered (q ∷ qs) z r = covers q z r || covered qs z r

-- ---- two rings

-- not empty
abbrev pub filled : Ring → Bool
filled q = lt q.z0 q.z1 && lt q.r0 q.r1

-- one ends where the other starts, or before it, in z or in r; of two that are not empty, as 000 asks it of what they have in common (`apart-as-000`, proofs/Cover)
abbrev pub apart : Ring → Ring → Bool
apart p k = le p.z1 k.z0 || le k.z1 p.z0 || le p.r1 k.r0 || le k.r1 p.r0

-- what two rings have in common
abbrev pub common : Ring → Ring → Ring
common p k = ring (greatest_of p.z0 k.z0) (least_of p.z1 k.z1) (greatest_of p.r0 k.r0) (least_of p.r1 k.r1)

-- ---- what a ring leaves of a piece

-- the ring, unless it is empty
unfoldable pub kept : Ring → List Ring
kept q = pick (filled q) (q ∷ []) []

-- the parts of the piece p about its part o: before it and behind it in z, then inside it and outside it
abbrev pub before : Ring → Ring → Ring
before p o = ring p.z0 o.z0 p.r0 p.r1

abbrev pub behind : Ring → Ring → Ring
behind p o = ring o.z1 p.z1 p.r0 p.r1

abbrev pub inside : Ring → Ring → Ring
inside p o = ring o.z0 o.z1 p.r0 o.r0

abbrev pub outside : Ring → Ring → Ring
outside p o = ring o.z0 o.z1 o.r1 p.r1

-- those of the four that are not empty, in 000's order
unfoldable pub around : Ring → Ring → List Ring
around p o = kept (before p o) ++ kept (behind p o) ++ kept (inside p o) ++ kept (outside p o)

-- what the ring k leaves of the piece p
unfoldable pub split : Ring → Ring → List Ring
split p k = pick (apart p k) (p ∷ []) (around p (common p k))

-- what it leaves of all pieces
unfoldable pub subtract : List Ring → Ring → List Ring
subtract [] k = []
subtract (p ∷ ps) k = split p k ++ subtract ps k

-- what the rings leave of the pieces, one ring after the other
unfoldable pub subtract_all : List Ring → List Ring → List Ring
subtract_all ps [] = ps
subtract_all ps (k ∷ ks) = subtract_all (subtract ps k) ks

-- never more than so many pieces in hand, after any of the rings
unfoldable pub in_hand : ℕ → List Ring → List Ring → Bool
in_hand most ps [] = true
in_hand most ps (k ∷ ks) = leb (length (subtract ps k)) most && in_hand most (subtract ps k) ks

-- ---- a new ring

-- -0.0 is read as +0.0
abbrev pub clean_ring : Ring → Ring
clean_ring q = ring (clean_of q.z0) (clean_of q.z1) (clean_of q.r0) (clean_of q.r1)

-- the part of the ring q within the extent e, which is a ring too
unfoldable pub clip : Ring → Ring → Ring
clip e q = common (clean_ring q) e

-- what the stored rings leave of a clipped ring
unfoldable pub left : List Ring → Ring → List Ring
left ks c = subtract_all (kept c) ks
