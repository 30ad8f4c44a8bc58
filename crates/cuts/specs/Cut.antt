-- The single cuts: a nose line, threads and drills, what each reaches in a bin. Assumes nothing.
use Rattle.std.specs.Prelude.{Bool, true, false, ◌&&◌, ◌||◌, List, [], ◌∷◌, Float}
use Rattle.std.specs.Float.Ieee.{le, lt}
use Rattle.floats.specs.Pick.{pick}
use Rattle.floats.specs.Numbers.{◌-₆₄◌, ◌*₆₄◌, ◌/₆₄◌, zero64, least_of, greatest_of, clean_of, usable}
use Rattle.stock.specs.declared.TurnStockSpec.{TurnStockSpec}
use Rattle.stock.specs.declared.TurnSide.{TurnSide}
use Rattle.stock.specs.declared.TurnSide.TheVariants.{Outer, Inner}
use Rattle.stock.specs.declared.ZRange.{ZRange}
use Rattle.stock.specs.Bin.{bin_of}
use Rattle.reach.specs.declared.Reach.{Reach}
use Rattle.reach.specs.declared.Reach.TheVariants.{Passed, Low, Both}
use Rattle.reach.specs.Reach.{Act}
use Rattle.nose.specs.Nose.{segments_good, nose_reach}
use Rattle.cuts.specs.declared.Cut.{Cut}
use Rattle.cuts.specs.declared.Cut.TheVariants.{Line, Thread, ThreadInner, Drill, Arc}

-- the bin does not reach between z0 and z1
unfoldable pub misses : ZRange → Float → Float → Bool
misses b z0 z1 = le b.zb (least_of z0 z1) || le (greatest_of z0 z1) b.za

-- the drill's radius at z: none before its tip, all of it where its point is flat or passed
unfoldable pub drill_at : Float → Float → Float → Float → Float
drill_at z tip r cone =
    pick (lt z tip) zero64
    (pick (le cone zero64) r
    (least_of (greatest_of ((z -₆₄ tip) /₆₄ cone *₆₄ r) zero64) r))

-- the one segment of a nose line, as five numbers
abbrev pub line_of : Float → Float → Float → Float → Float → List Float
line_of ar az br bz sag = ar ∷ az ∷ br ∷ bz ∷ sag ∷ []

abbrev pub side_of : Cut → TurnSide
side_of (Line side rn sag ar az br bz) = side
side_of (Thread z0 z1 r) = Outer
side_of (ThreadInner z0 z1 r) = Inner
side_of (Drill tip r cone) = Inner
side_of Arc = Outer

-- of a thread only the deep bound moves: the crests stay
unfoldable pub thread_reach : ZRange → Float → Float → Float → Reach
thread_reach b z0 z1 r = pick (misses b z0 z1) Passed (Low r)

-- zb at or below the tip is passed over
unfoldable pub drill_reach : ZRange → Float → Float → Float → Reach
drill_reach b tip r cone = pick (le b.zb tip) Passed (Both (drill_at b.zb tip r cone) (drill_at b.za tip r cone))

-- what a cut reaches in a bin
unfoldable pub cut_reach : ZRange → Cut → Reach
cut_reach b (Line side rn sag ar az br bz) = nose_reach side (clean_of rn) (line_of ar az br bz sag) b
cut_reach b (Thread z0 z1 r) = thread_reach b z0 z1 r
cut_reach b (ThreadInner z0 z1 r) = thread_reach b z0 z1 r
cut_reach b (Drill tip r cone) = drill_reach b tip r cone
cut_reach b Arc = Passed

-- the domain: that of a nose; every number usable, a thread's radius not negative, a drill's above 0
abbrev pub thread_good : Float → Float → Float → Bool
thread_good z0 z1 r = usable z0 && usable z1 && usable r && le zero64 r

abbrev pub drill_good : Float → Float → Float → Bool
drill_good tip r cone = usable tip && usable r && usable cone && lt zero64 r

unfoldable pub cut_good : Cut → Bool
cut_good (Line side rn sag ar az br bz) = segments_good rn (line_of ar az br bz sag)
cut_good (Thread z0 z1 r) = thread_good z0 z1 r
cut_good (ThreadInner z0 z1 r) = thread_good z0 z1 r
cut_good (Drill tip r cone) = drill_good tip r cone
cut_good Arc = true

-- -0.0 is read as +0.0; of a line's numbers, where the segment is read
unfoldable pub clean_cut : Cut → Cut
clean_cut (Line side rn sag ar az br bz) = Line side rn sag ar az br bz
clean_cut (Thread z0 z1 r) = Thread (clean_of z0) (clean_of z1) (clean_of r)
clean_cut (ThreadInner z0 z1 r) = ThreadInner (clean_of z0) (clean_of z1) (clean_of r)
clean_cut (Drill tip r cone) = Drill (clean_of tip) (clean_of r) (clean_of cone)
clean_cut Arc = Arc

-- an arc is refused with 13
abbrev pub is_arc : Cut → Bool
is_arc (Line side rn sag ar az br bz) = false
is_arc (Thread z0 z1 r) = false
is_arc (ThreadInner z0 z1 r) = false
is_arc (Drill tip r cone) = false
is_arc Arc = true

abbrev pub cut_act : TurnStockSpec → Cut → Act
cut_act s u = record { side = side_of u; at = λ i. cut_reach (bin_of s i) u }
