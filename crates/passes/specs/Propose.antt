-- Level straight passes, proposed: one for each longest run of bins with the same target of which some bin stands over it. Assumes nothing.
use Rattle.std.specs.Prelude.{◌≡◌, Bool, true, false, not, ◌&&◌, ◌||◌, List, [], ◌∷◌, ◌++◌, ℕ, zero, suc, ◌+◌, ◌*◌, ◌-◌, ◌/◌, min, eqb, ltb, length, take, replicate, set, Float, Result}
use Rattle.std.proofs.lemmas.List.Edits.{sets}
use Rattle.std.specs.Float.{binary64}
use Rattle.std.specs.Float.Ieee.{of_bits, lt, le, eq}
use Rattle.refusals.specs.declared.Refusal.{Refusal}
use Rattle.refusals.specs.Number.{paper_of}
use Rattle.refusals.specs.Paper.{Paper, answers, refuses, demand, onward}
use Rattle.refusals.specs.Lent.{Lent, over}
use Rattle.floats.specs.Pick.{pick}
use Rattle.floats.specs.Numbers.{◌+₆₄◌, ◌-₆₄◌, ◌/₆₄◌, zero64, clean_of, usable}
use Rattle.stock.specs.declared.TurnStockSpec.{TurnStockSpec}
use Rattle.stock.specs.Spec.{clean_spec}
use Rattle.stock.specs.Bin.{bin_of}
use Rattle.stock.specs.Cell.{cell_at, stock_of}
use Rattle.passes.specs.Cuts.{pass_limit}
use Rattle.passes.specs.Check.{lower_at, upper_at, targets_good}
use Rattle.passes.specs.declared.propose.Level.{Level}

-- 2 and 16
abbrev pub two64 : Float
two64 = of_bits binary64 0x4000000000000000

abbrev pub sixteen64 : Float
sixteen64 = of_bits binary64 0x4030000000000000

-- ---- one run of bins, from first to last, of n bins of a clean spec

-- midway between the two radii of its target
unfoldable pub aim_of : List Float → ℕ → Float
aim_of ts i = (lower_at ts i +₆₄ upper_at ts i) /₆₄ two64

-- how far a pass stays away from a step up
abbrev pub inset_of : Float → Float → Float
inset_of cell rn = rn +₆₄ (cell /₆₄ sixteen64)

-- where it starts: before the stock at its first bin, away from the bin before where that stands higher
unfoldable pub pass_start : TurnStockSpec → List Float → Float → ℕ → Float
pass_start s ts rn i =
    pick (eqb i 0) ((bin_of s i).za -₆₄ rn)
    (pick (lt (aim_of ts i) (lower_at ts (i - 1))) ((bin_of s i).za +₆₄ inset_of s.cell_mm rn) (bin_of s i).za)

-- and where it ends
unfoldable pub pass_end : TurnStockSpec → ℕ → List Float → Float → ℕ → Float
pass_end s n ts rn j =
    pick (eqb (j + 1) n) ((bin_of s j).zb +₆₄ rn)
    (pick (lt (aim_of ts j) (lower_at ts (j + 1))) ((bin_of s j).zb -₆₄ inset_of s.cell_mm rn) (bin_of s j).zb)

-- a pass by that aim, from there to there
abbrev pub level_over : TurnStockSpec → ℕ → List Float → Float → ℕ → ℕ → Level
level_over s n ts rn i j = record { rn = rn; r = aim_of ts i +₆₄ rn; a = pass_start s ts rn i; b = pass_end s n ts rn j }

-- none where the start is behind the end
abbrev pub levels_over : TurnStockSpec → ℕ → List Float → Float → ℕ → ℕ → List Level
levels_over s n ts rn i j = pick (le (pass_start s ts rn i) (pass_end s n ts rn j)) (level_over s n ts rn i j ∷ []) []

-- ---- the runs, bin by bin

-- the first bin of the open run, whether some bin of it stands over its target, and the passes so far
pub record Open : Type 0 where
  pub first : ℕ
  pub high : Bool
  pub passes : List Level

-- two neighbours have the same target
abbrev pub same_target : List Float → ℕ → Bool
same_target ts i = eq (lower_at ts i) (lower_at ts (i + 1)) && eq (upper_at ts i) (upper_at ts (i + 1))

-- bin i is the last of its run: the last of all, or the next has another target
unfoldable pub last_of_run : List Float → ℕ → ℕ → Bool
last_of_run ts n i = pick (eqb (i + 1) n) true (not (same_target ts i))

-- bin i stands over its target
abbrev pub stands_over : List Float → List Float → ℕ → Bool
stands_over ts cs i = lt (upper_at ts i) (cell_at cs i).outer.upper_mm

-- with bin i: it counts to the open run, which it may end
unfoldable pub with_bin : TurnStockSpec → ℕ → List Float → Float → List Float → Open → ℕ → Open
with_bin s n ts rn cs o i =
    let high = o.high || stands_over ts cs i in
    pick (last_of_run ts n i)
    (record { first = i + 1; high = false; passes = o.passes ++ pick high (levels_over s n ts rn o.first i) [] })
    (record { first = o.first; high = high; passes = o.passes })

-- after the first k bins
unfoldable pub open_to : TurnStockSpec → ℕ → List Float → Float → List Float → ℕ → Open
open_to s n ts rn cs zero = record { first = 0; high = false; passes = [] }
open_to s n ts rn cs (suc k) = with_bin s n ts rn cs (open_to s n ts rn cs k) k

-- ---- all of them

-- by rising z, as many as there may be and as there is room for
abbrev pub passes_of : TurnStockSpec → ℕ → List Float → List Float → Float → ℕ → List Level
passes_of spec n cs ts rn room = take (min pass_limit room) (open_to (clean_spec spec) n ts (clean_of rn) cs n).passes

-- room for passes: the least of the kinds, of the numbers by sixes and of the parts by twos
abbrev pub pass_room : ℕ → ℕ → ℕ → ℕ
pass_room kinds numbers parts = min kinds (min (numbers / 6) (parts / 2))

-- a nose's radius that is one
abbrev pub nose_good : Float → Bool
nose_good rn = usable rn && le zero64 rn

-- the passes; 1, 2, 3, 25 of the targets, 5 of the nose's radius
unfoldable pub propose_of : TurnStockSpec → List Float → List Float → Float → ℕ → Paper (List Level)
propose_of spec cs ts rn room =
    onward (stock_of spec cs) (λ n.
    demand (targets_good ts n) 25
    (demand (nose_good (clean_of rn)) 5
    (answers (passes_of spec n cs ts rn room))))

abbrev pub pass_count : Paper (List Level) → Paper ℕ
pass_count (answers l) = answers (length l)
pass_count (refuses r) = refuses r

-- a refusal writes nothing
abbrev pub passes_in : Paper (List Level) → List Level
passes_in (answers l) = l
passes_in (refuses r) = []

-- the six numbers of a line: the nose's radius, no sag, the radius and z of its ends
abbrev pub six_of : Level → List Float
six_of p = p.rn ∷ zero64 ∷ p.r ∷ p.a ∷ p.r ∷ p.b ∷ []

-- their numbers, one after the other
unfoldable pub sixes : List Level → List Float
sixes [] = []
sixes (p ∷ l) = six_of p ++ sixes l

-- the answer, and the three lists afterwards: outside lines over the fronts, their parts 0 and 0, the rest as it was
pub record Proposes (p : Paper (List Level)) (r : Result ℕ Refusal) (ks ks' : List ℕ) (xs xs' : List Float) (ps ps' : List ℕ) : Type 0 where
  pub answer : paper_of r ≡ pass_count p
  pub kinds : ks' ≡ over (replicate (length (passes_in p)) 0) ks
  pub numbers : xs' ≡ over (sixes (passes_in p)) xs
  pub parts : ps' ≡ over (replicate (2 * length (passes_in p)) 0) ps

-- of lent lists, at both moments
abbrev pub ProposesLent : Paper (List Level) → (Result ℕ Refusal) → Lent ℕ → Lent Float → Lent ℕ → Type 0
ProposesLent p r kinds numbers parts = Proposes p r kinds.entry.now kinds.exit.now numbers.entry.now numbers.exit.now parts.entry.now parts.exit.now

-- ---- what the functions do. No reader has to believe the rest: `Proposes` follows from it.

-- as many as there may be, in lists of such lengths
abbrev pub level_room : ℕ → ℕ → ℕ → ℕ
level_room kinds numbers parts = min pass_limit (pass_room kinds numbers parts)

abbrev pub room_in : List ℕ → List Float → List ℕ → ℕ
room_in ks xs ps = level_room (length ks) (length xs) (length ps)

-- the three lists with a pass at place k
pub record PutLevel (k : ℕ) (p : Level) (ks ks' : List ℕ) (xs xs' : List Float) (ps ps' : List ℕ) : Type 0 where
  pub kinds : ks' ≡ set ks k 0
  pub numbers : xs' ≡ sets xs (6 * k) (six_of p)
  pub parts : ps' ≡ sets ps (2 * k) (0 ∷ 0 ∷ [])

-- a pass is listed behind k others: it is due, its start is not behind its end, and there is room
unfoldable pub lists : Bool → Level → ℕ → ℕ → Bool
lists due p k room = (due && le p.a p.b) && ltb k room

-- the three lists with it, and how many there are then
pub record ListLevel (due : Bool) (p : Level) (k k' : ℕ) (ks ks' : List ℕ) (xs xs' : List Float) (ps ps' : List ℕ) : Type 0 where
  pub count : k' ≡ pick (lists due p k (room_in ks xs ps)) (k + 1) k
  pub kinds : ks' ≡ pick (lists due p k (room_in ks xs ps)) (set ks k 0) ks
  pub numbers : xs' ≡ pick (lists due p k (room_in ks xs ps)) (sets xs (6 * k) (six_of p)) xs
  pub parts : ps' ≡ pick (lists due p k (room_in ks xs ps)) (sets ps (2 * k) (0 ∷ 0 ∷ [])) ps

-- the three lists with passes over their fronts, and how many they are
pub record Listing (l : List Level) (k : ℕ) (ks ks' : List ℕ) (xs xs' : List Float) (ps ps' : List ℕ) : Type 0 where
  pub count : k ≡ length l
  pub kinds : ks' ≡ over (replicate (length l) 0) ks
  pub numbers : xs' ≡ over (sixes l) xs
  pub parts : ps' ≡ over (replicate (2 * length l) 0) ps

-- of lent lists, at both moments
abbrev pub PutsLevel : ℕ → Level → Lent ℕ → Lent Float → Lent ℕ → Type 0
PutsLevel k p kinds numbers parts = PutLevel k p kinds.entry.now kinds.exit.now numbers.entry.now numbers.exit.now parts.entry.now parts.exit.now

abbrev pub ListsLevel : Bool → Level → ℕ → ℕ → Lent ℕ → Lent Float → Lent ℕ → Type 0
ListsLevel due p k k' kinds numbers parts = ListLevel due p k k' kinds.entry.now kinds.exit.now numbers.entry.now numbers.exit.now parts.entry.now parts.exit.now

-- the passes of the first i bins, as many as there is room for
abbrev pub ListsTo : List Level → ℕ → Lent ℕ → Lent Float → Lent ℕ → Type 0
ListsTo l k kinds numbers parts =
    Listing (take (room_in kinds.entry.now numbers.entry.now parts.entry.now) l) k
    kinds.entry.now kinds.exit.now numbers.entry.now numbers.exit.now parts.entry.now parts.exit.now
