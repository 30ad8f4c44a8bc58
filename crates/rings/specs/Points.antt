-- What the theorems say of points: how many rings cover one, and that no two rings share one. A point is any pair of numbers m * 2 ^ e, however large m and however small e, so that what holds of
-- every point holds of every real (z, r): a ring is half open, and its edges are such numbers. Assumes nothing.
use Rattle.std.specs.Prelude.{ℕ, ◌+◌, ◌≤◌, Bool, true, false, List, [], ◌∷◌, T, Float}
use Rattle.floats.specs.Each.{Each}
use Rattle.rings.specs.declared.Ring.{Ring}
use Rattle.rings.specs.Ring.{covers}

abbrev pub tick : Bool → ℕ
tick true = 1
tick false = 0

-- how many of the rings cover the point
unfoldable pub count : List Ring → Float → Float → ℕ
count [] z r = 0
count (q ∷ qs) z r = tick (covers q z r) + count qs z r

-- every point is in one ring of the list at most
abbrev pub Disjoint : List Ring → Type 0
Disjoint l = (z r : Float) → count l z r ≤ 1

-- no point is in both rings
abbrev pub Parted : Ring → Ring → Type 0
Parted p k = (z r : Float) → T (covers p z r) → T (covers k z r) → ⊥

-- no point is in two rings of the list
abbrev pub AllParted : List Ring → Type 0
AllParted [] = Unit {0}
AllParted (q ∷ qs) = Each (Parted q) qs × AllParted qs
