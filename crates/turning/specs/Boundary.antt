-- What a call of the C boundary returns, and what it leaves in its out-parameters. Assumes nothing.
use Rattle.std.specs.Prelude.{◌≡◌, List, ℕ, ◌*◌, ◌/◌, ◌%◌, ◌^◌, length, Float, eqb, Option, None, Some, Result}
use Rattle.std.specs.Borrow.{MutBor}
use denote.Triple.Both.{Both}
use Rattle.floats.specs.Pick.{pick}
use Rattle.refusals.specs.declared.Refusal.{Refusal}
use Rattle.refusals.specs.declared.Refused.{Refused}
use Rattle.refusals.specs.Number.{reason_of}
use Rattle.refusals.specs.Paper.{Paper, Reason, answers, refuses, demand, only, place_or, onward}
use Rattle.refusals.specs.Lent.{Lent, over}
use Rattle.stock.specs.declared.TurnStockSpec.{TurnStockSpec}
use Rattle.stock.specs.declared.Stamp.{Stamp}
use Rattle.stock.specs.declared.TurnStock.{TurnStock}
use Rattle.stock.specs.declared.TurnChange.{TurnChange}
use Rattle.stock.specs.declared.ZRange.{ZRange}
use Rattle.stock.specs.declared.TurnSide.{TurnSide}
use Rattle.stock.specs.declared.TurnSide.TheVariants.{Outer, Inner}
use Rattle.stock.specs.Cell.{new_of, new_cells, stock_of}
use Rattle.stock.specs.Stock.{stamp_of}
use Rattle.blocks.specs.Block.{blocks_in}
use Rattle.blocks.specs.Renew.{renew_of}
use Rattle.changes.specs.declared.ChangeList.{ChangeList}
use Rattle.changes.specs.Change.{room_in, indices_of, numbers_of, count_of, written_of, stamped}
use Rattle.changes.specs.Commit.{Committed, cells_after, numbers_kept}
use Rattle.cuts.specs.Preview.{preview_nose, preview_polygon}
use Rattle.rings.specs.declared.Ring.{Ring}
use Rattle.rings.specs.declared.Removed.{Removed}
use Rattle.rings.specs.Remove.{RingStore, rings_left_after, store_after, removed_paper, removed_tests}
use Rattle.rings.specs.Tests.{list_tests}
use Rattle.profile.specs.Chords as Profile
use Rattle.profile.specs.Chords.{Chord, flat_of}
use Rattle.moves.specs.Move as Move
use Rattle.moves.specs.Move.{Left, parts_of}

-- 0, or the number of the refusal
abbrev pub code_of : {A : Type 0} → Paper A → ℕ
code_of (answers a) = 0
code_of (refuses n) = n.number

-- an out-parameter: a part of the answer, or as it was
abbrev pub out_of : {A B : Type 0} → (A → B) → Paper A → B → B
out_of f (answers a) b = f a
out_of f (refuses n) b = b

-- *position: the place of a refusal that has one, or as it was
abbrev pub place_out : {A : Type 0} → Paper A → ℕ → ℕ
place_out (answers a) k = k
place_out (refuses n) k = place_or k n.place

-- the kept numbers beside cells: those of the cells, or as they were
abbrev pub kept_out : {A : Type 0} → TurnStockSpec → List Float → Paper A → List Float → List Float
kept_out {A} spec cs p bs = out_of (λ (a : A). numbers_kept spec cs) p bs

-- a spec's six numbers, in the order of the header
abbrev pub spec_from : Float → Float → Float → Float → Float → ℕ → TurnStockSpec
spec_from zmin zmax outer bore cell most =
    record {
      z_min_mm = zmin;
      z_max_mm = zmax;
      outer_radius_mm = outer;
      bore_radius_mm = bore;
      cell_mm = cell;
      max_cells = most;
    }

-- an edition kept in a word: its lower half
abbrev pub edition_in : ℕ → ℕ
edition_in w = w % 2 ^ 32

-- a list of so many changes, of a stock of that edition at that generation
abbrev pub list_from : ℕ → ℕ → ℕ → ChangeList
list_from count edition g = record { count = count; stamp = stamp_of edition g }

-- one number out
pub record Gives {A : Type 0} (p : Paper A) (r : ℕ) (x x' : A) : Type 0 where
  pub code : r ≡ code_of p
  pub out : x' ≡ out_of (λ (a : A). a) p x

-- the same, and the place of a refusal
pub record GivesPlace {A : Type 0} (p : Paper A) (r : ℕ) (x x' : A) (q q' : ℕ) : Type 0 where
  pub code : r ≡ code_of p
  pub out : x' ≡ out_of (λ (a : A). a) p x
  pub position : q' ≡ place_out p q

-- a refusal's number, and its place out where it has one
pub record GivesReason (n : Reason) (r q q' : ℕ) : Type 0 where
  pub code : r ≡ n.number
  pub position : q' ≡ place_or q n.place

-- a bin's two ends out
pub record GivesBin (p : Paper ZRange) (r : ℕ) (za za' zb zb' : Float) : Type 0 where
  pub code : r ≡ code_of p
  pub start : za' ≡ out_of (λ (z : ZRange). z.za) p za
  pub end : zb' ≡ out_of (λ (z : ZRange). z.zb) p zb

-- how many cells so many lent numbers are to hold, with so many kept numbers beside them; 1, 2, 3, 20
unfoldable pub new_kept : TurnStockSpec → ℕ → ℕ → Paper ℕ
new_kept spec cells blocks = onward (new_of spec cells) (λ n. demand (eqb blocks (2 * blocks_in n)) 20 (answers n))

-- fresh cells and their kept numbers out, at generation 0
pub record GivesCells (spec : TurnStockSpec) (p : Paper ℕ) (r : ℕ) (cs cs' bs bs' : List Float) (g g' : ℕ) : Type 0 where
  pub code : r ≡ code_of p
  pub cells : cs' ≡ new_cells spec p cs
  pub kept : bs' ≡ kept_out spec cs' p bs
  pub generation : g' ≡ out_of (λ (n : ℕ). 0) p g

-- the kept numbers of cells out
pub record GivesBlocks (spec : TurnStockSpec) (cs : List Float) (p : Paper ℕ) (r : ℕ) (bs bs' : List Float) : Type 0 where
  pub code : r ≡ code_of p
  pub kept : bs' ≡ kept_out spec cs p bs

-- a list out: the count of its changes, and the edition and the generation of its stamp
pub record GivesList (p : Paper ChangeList) (r k k' e e' g g' : ℕ) : Type 0 where
  pub code : r ≡ code_of p
  pub count : k' ≡ out_of (λ (l : ChangeList). l.count) p k
  pub edition : e' ≡ out_of (λ (l : ChangeList). l.stamp.edition) p e
  pub generation : g' ≡ out_of (λ (l : ChangeList). l.stamp.generation) p g

-- changes out, as the list of a stock with this stamp, and the two lists with them over their fronts
pub record GivesChanges (st : Stamp) (p : Paper (List TurnChange)) (r k k' e e' g g' : ℕ) (is is' : List ℕ) (xs xs' : List Float) : Type 0 where
  pub list : GivesList (stamped st (count_of p)) r k k' e e' g g'
  pub indices : is' ≡ over (indices_of (written_of p)) is
  pub numbers : xs' ≡ over (numbers_of (written_of p)) xs

-- the cells, their kept numbers and the generation after a commit, and the place of a refusal
pub record GivesStock (spec : TurnStockSpec) (p : Paper Committed) (r : ℕ) (cs cs' bs bs' : List Float) (g g' q q' : ℕ) : Type 0 where
  pub code : r ≡ code_of p
  pub cells : cs' ≡ cells_after p cs
  pub kept : bs' ≡ kept_out spec cs' p bs
  pub generation : g' ≡ out_of (λ (k : Committed). k.generation) p g
  pub position : q' ≡ place_out p q

-- ---- a side's number

-- 0 is outside, 1 inside; any other is none
abbrev pub side_from : ℕ → Option TurnSide
side_from side = pick (eqb side 0) (Some Outer) (pick (eqb side 1) (Some Inner) None)

-- and so an argument outside its domain, asked for after 1, 2, 3
unfoldable pub by_side : TurnStockSpec → List Float → ℕ → (TurnSide → Paper (List TurnChange)) → Paper (List TurnChange)
by_side spec cs side p = pick (eqb side 0) (p Outer) (pick (eqb side 1) (p Inner) (onward (stock_of spec cs) (λ n. refuses (only 5))))

-- a nose along segments, and a polygon
abbrev pub nose_by_side : TurnStockSpec → List Float → ℕ → Float → List Float → ℕ → Paper (List TurnChange)
nose_by_side spec cs side rn xs room = by_side spec cs side (λ (s : TurnSide). preview_nose spec cs s rn xs room)

abbrev pub polygon_by_side : TurnStockSpec → List Float → ℕ → Float → List Float → ℕ → Paper (List TurnChange)
polygon_by_side spec cs side excess ps room = by_side spec cs side (λ (s : TurnSide). preview_polygon spec cs s excess ps room)

-- a refusal in place of changes
abbrev pub no_changes : Refusal → Paper (List TurnChange)
no_changes c = refuses (reason_of c)

-- ---- rings

-- two numbers out
pub record GivesTwo {A B C : Type 0} (first : A → B) (second : A → C) (p : Paper A) (r : ℕ) (x x' : B) (y y' : C) : Type 0 where
  pub code : r ≡ code_of p
  pub one : x' ≡ out_of first p x
  pub other : y' ≡ out_of second p y

-- the same, and the place of a refusal
pub record GivesTwoPlace {A B C : Type 0} (first : A → B) (second : A → C) (p : Paper A) (r : ℕ) (x x' : B) (y y' : C) (q q' : ℕ) : Type 0 where
  pub code : r ≡ code_of p
  pub one : x' ≡ out_of first p x
  pub other : y' ≡ out_of second p y
  pub position : q' ≡ place_out p q

-- the generation of a stock
abbrev pub generation_in : Paper TurnStock → Paper ℕ
generation_in (answers k) = answers k.stamp.generation
generation_in (refuses r) = refuses r

-- the count of rings and the generation that one ring leaves, the tests that it took, and the place of a refusal
pub record GivesRemoved (a : Result Removed Refused) (r k k' g g' t t' q q' : ℕ) : Type 0 where
  pub stock : GivesTwoPlace (λ (k : TurnStock). k.rings) (λ (k : TurnStock). k.stamp.generation) (removed_paper a) r k k' g g' q q'
  pub tests : t' ≡ out_of (λ (n : ℕ). n) (removed_tests a) t

-- the rings, their count and the generation, the tests m that the ring took, and the place of a refusal
pub record GivesRings (p : Paper RingStore) (m r : ℕ) (xs xs' : List Float) (k k' g g' t t' q q' : ℕ) : Type 0 where
  pub code : r ≡ code_of p
  pub rings : xs' ≡ rings_left_after xs p
  pub count : k' ≡ out_of (λ (s : RingStore). length s.rings) p k
  pub generation : g' ≡ out_of (λ (s : RingStore). s.generation) p g
  pub tests : t' ≡ out_of (λ (s : RingStore). m) p t
  pub position : q' ≡ place_out p q

-- the cells, their kept numbers, the rings, their count and the generation, the tests ms that the rings took, and the place of a refusal
pub record GivesMove (spec : TurnStockSpec) (p : Paper Left) (ms : List ℕ) (r : ℕ) (cs cs' bs bs' xs xs' : List Float) (k k' g g' : ℕ) (ts ts' : List ℕ) (q q' : ℕ) : Type 0 where
  pub code : r ≡ code_of p
  pub cells : cs' ≡ Move.moved_cells p cs
  pub kept : bs' ≡ kept_out spec cs' p bs
  pub rings : xs' ≡ Move.moved_rings p xs
  pub count : k' ≡ out_of (λ (a : Left). length a.rings) p k
  pub generation : g' ≡ out_of (λ (a : Left). a.generation) p g
  pub tests : ts' ≡ out_of (λ (a : Left). ms) p ts
  pub position : q' ≡ place_out p q

-- the kept numbers of the cells, the rings and their count, at generation 0, the tests ms that the rings took, and the place of a refusal
pub record GivesStore (spec : TurnStockSpec) (cs : List Float) (p : Paper (List Ring)) (ms : List ℕ) (r : ℕ) (bs bs' xs xs' : List Float) (k k' g g' : ℕ) (ts ts' : List ℕ) (q q' : ℕ) : Type 0 where
  pub code : r ≡ code_of p
  pub kept : bs' ≡ kept_out spec cs p bs
  pub rings : xs' ≡ store_after xs p
  pub count : k' ≡ out_of (λ (l : List Ring). length l) p k
  pub generation : g' ≡ out_of (λ (l : List Ring). 0) p g
  pub tests : ts' ≡ out_of (λ (l : List Ring). ms) p ts
  pub position : q' ≡ place_out p q

-- the chords of a profile, over the beginning of the lent numbers, and their count
pub record GivesChords (p : Paper (List Chord)) (r : ℕ) (xs xs' : List Float) (k k' : ℕ) : Type 0 where
  pub code : r ≡ code_of p
  pub chords : xs' ≡ over (flat_of (Profile.written_of p)) xs
  pub count : k' ≡ out_of (λ (l : List Chord). length l) p k

-- ---- an answer that may find nothing

-- 1 where something is found, else 0
abbrev pub found_of : {A : Type 0} → Option A → ℕ
found_of (Some a) = 1
found_of None = 0

-- an out-parameter: a part of what is found, or as it was
abbrev pub out_found : {A B : Type 0} → (A → B) → Paper (Option A) → B → B
out_found f (answers (Some a)) b = f a
out_found f (answers None) b = b
out_found f (refuses n) b = b

-- one number out, if it is found
pub record GivesFound {A : Type 0} (p : Paper (Option A)) (r f f' : ℕ) (x x' : A) : Type 0 where
  pub code : r ≡ code_of p
  pub found : f' ≡ out_of (λ (a : Option A). found_of a) p f
  pub out : x' ≡ out_found (λ (a : A). a) p x

-- two numbers out, if they are found
pub record GivesFoundTwo {A : Type 0} (first second : A → Float) (p : Paper (Option A)) (r f f' : ℕ) (x x' y y' : Float) : Type 0 where
  pub code : r ≡ code_of p
  pub found : f' ≡ out_of (λ (a : Option A). found_of a) p f
  pub one : x' ≡ out_found first p x
  pub other : y' ≡ out_found second p y

-- ---- the same of what is lent to a call, at its two moments: what contracts say

-- a number that is lent to be written
abbrev pub Out : Type 0 → Type 0
Out A = Both (MutBor A) (MutBor A)

abbrev pub Hands : {A : Type 0} → Paper A → ℕ → Out A → Type 0
Hands p r x = Gives p r x.entry.now x.exit.now

abbrev pub HandsPlace : {A : Type 0} → Paper A → ℕ → Out A → Out ℕ → Type 0
HandsPlace p r x q = GivesPlace p r x.entry.now x.exit.now q.entry.now q.exit.now

abbrev pub HandsReason : Reason → ℕ → Out ℕ → Type 0
HandsReason n r q = GivesReason n r q.entry.now q.exit.now

abbrev pub HandsTwo : {A B C : Type 0} → (A → B) → (A → C) → Paper A → ℕ → Out B → Out C → Type 0
HandsTwo first second p r x y = GivesTwo first second p r x.entry.now x.exit.now y.entry.now y.exit.now

abbrev pub HandsTwoPlace : {A B C : Type 0} → (A → B) → (A → C) → Paper A → ℕ → Out B → Out C → Out ℕ → Type 0
HandsTwoPlace first second p r x y q = GivesTwoPlace first second p r x.entry.now x.exit.now y.entry.now y.exit.now q.entry.now q.exit.now

abbrev pub HandsBin : Paper ZRange → ℕ → Out Float → Out Float → Type 0
HandsBin p r za zb = GivesBin p r za.entry.now za.exit.now zb.entry.now zb.exit.now

abbrev pub HandsCells : TurnStockSpec → ℕ → Lent Float → Lent Float → Out ℕ → Type 0
HandsCells spec r cells blocks generation =
    GivesCells spec (new_kept spec (length cells.entry.now) (length blocks.entry.now)) r cells.entry.now cells.exit.now blocks.entry.now blocks.exit.now generation.entry.now generation.exit.now

abbrev pub HandsBlocks : TurnStockSpec → List Float → ℕ → Lent Float → Type 0
HandsBlocks spec cs r blocks = GivesBlocks spec cs (renew_of spec cs (length blocks.entry.now)) r blocks.entry.now blocks.exit.now

abbrev pub HandsList : Paper ChangeList → ℕ → Out ℕ → Out ℕ → Out ℕ → Type 0
HandsList p r count edition generation = GivesList p r count.entry.now count.exit.now edition.entry.now edition.exit.now generation.entry.now generation.exit.now

-- with as much room for changes as the two lists have
abbrev pub HandsChanges : Stamp → (ℕ → Paper (List TurnChange)) → ℕ → Lent ℕ → Lent Float → Out ℕ → Out ℕ → Out ℕ → Type 0
HandsChanges st rule r indices records count edition generation =
    GivesChanges st (rule (room_in indices records)) r count.entry.now count.exit.now edition.entry.now edition.exit.now generation.entry.now generation.exit.now indices.entry.now indices.exit.now records.entry.now records.exit.now

-- of the stock that the commit is asked for
abbrev pub HandsStock : TurnStock → (TurnStock → Paper Committed) → ℕ → Lent Float → Lent Float → Out ℕ → Out ℕ → Type 0
HandsStock k rule r cells blocks generation q =
    GivesStock k.spec (rule k) r cells.entry.now cells.exit.now blocks.entry.now blocks.exit.now generation.entry.now generation.exit.now q.entry.now q.exit.now

abbrev pub HandsRemoved : Result Removed Refused → ℕ → Out ℕ → Out ℕ → Out ℕ → Out ℕ → Type 0
HandsRemoved a r count generation tests q =
    GivesRemoved a r count.entry.now count.exit.now generation.entry.now generation.exit.now tests.entry.now tests.exit.now q.entry.now q.exit.now

abbrev pub HandsRings : Paper RingStore → ℕ → ℕ → Lent Float → Out ℕ → Out ℕ → Out ℕ → Out ℕ → Type 0
HandsRings p m r rings count generation tests q =
    GivesRings p m r rings.entry.now rings.exit.now count.entry.now count.exit.now generation.entry.now generation.exit.now tests.entry.now tests.exit.now q.entry.now q.exit.now

-- of the stock that moves, with its rings removed
abbrev pub HandsMove : TurnStock → (TurnStock → Paper Left) → List Float → ℕ → Lent Float → Lent Float → Lent Float → Out ℕ → Out ℕ → Lent ℕ → Out ℕ → Type 0
HandsMove k rule removed r cells blocks rings count generation tests q =
    GivesMove k.spec (rule k) (list_tests k.spec rings.entry.now k.rings removed tests.entry.now) r cells.entry.now cells.exit.now blocks.entry.now blocks.exit.now rings.entry.now rings.exit.now count.entry.now count.exit.now generation.entry.now generation.exit.now tests.entry.now tests.exit.now q.entry.now q.exit.now

-- of a spec, its cells and the rings that are given
abbrev pub HandsStore : TurnStockSpec → List Float → List Float → ℕ → Lent Float → Lent Float → Out ℕ → Out ℕ → Lent ℕ → Out ℕ → Type 0
HandsStore spec cs given r blocks rings count generation tests q =
    GivesStore spec cs (parts_of spec cs (length blocks.entry.now) given rings.entry.now) (list_tests spec rings.entry.now 0 given tests.entry.now) r blocks.entry.now blocks.exit.now rings.entry.now rings.exit.now count.entry.now count.exit.now generation.entry.now generation.exit.now tests.entry.now tests.exit.now q.entry.now q.exit.now

-- with as much room for chords as the list has
abbrev pub HandsChords : (ℕ → Paper (List Chord)) → ℕ → Lent Float → Out ℕ → Type 0
HandsChords rule r segments count = GivesChords (rule (length segments.entry.now / 5)) r segments.entry.now segments.exit.now count.entry.now count.exit.now

abbrev pub HandsFound : {A : Type 0} → Paper (Option A) → ℕ → Out ℕ → Out A → Type 0
HandsFound p r found x = GivesFound p r found.entry.now found.exit.now x.entry.now x.exit.now

abbrev pub HandsFoundTwo : {A : Type 0} → (A → Float) → (A → Float) → Paper (Option A) → ℕ → Out ℕ → Out Float → Out Float → Type 0
HandsFoundTwo first second p r found x y = GivesFoundTwo first second p r found.entry.now found.exit.now x.entry.now x.exit.now y.entry.now y.exit.now
