-- Runs of calls: for each cut a preview into lent lists and a commit from them; and single rings one after the other. Assumes nothing.
use Rattle.std.specs.Prelude.{◌≡◌, List, [], ◌∷◌, ◌++◌, ℕ, ◌/◌, ◌≤◌, length, take, Float, Err, Ok, Result}
use Rattle.refusals.specs.declared.Refused.{Refused}
use Rattle.refusals.specs.declared.Refusal.{Refusal}
use Rattle.refusals.specs.Number.{reason_of, placed_of}
use Rattle.refusals.specs.Paper.{Paper, Reason, answers, refuses}
use Rattle.stock.specs.declared.TurnStockSpec.{TurnStockSpec}
use Rattle.stock.specs.declared.TurnChange.{TurnChange}
use Rattle.stock.specs.declared.TurnStock.{TurnStock}
use Rattle.stock.specs.Spec.{clean_spec}
use Rattle.stock.specs.Stock.{stamp_of, stock_from}
use Rattle.changes.specs.declared.ChangeList.{ChangeList}
use Rattle.changes.specs.Change.{room_of, Proposed}
use Rattle.changes.specs.Commit.{Committed, commit_held, commit_of, apply_of, Applies, AppliesKept}
use Rattle.change_slices.specs.Proposal.{Written}
use Rattle.rings.specs.declared.Ring.{Ring}
use Rattle.rings.specs.Store.{rings_of}
use Rattle.rings.specs.Remove.{remove_ring, Removes}
use Rattle.rings.specs.Tests.{ring_tests}
use Rattle.moves.specs.Move.{move_of, MovesKept}
use Rattle.demands.specs.Tool.{Cutter, cutter_preview}

-- From the cells and the generation k, cuts l, to the cells and the generation m, of a stock with this spec, this edition and so many rings. Each cut was previewed into two lists,
-- whatever those held and however long they were: the call answered a list, by its promise `Proposed`. Then that list was committed, to the stock that was previewed, with kept numbers bs,
-- whatever those were: the call answered the stock at generation g, by its promise `AppliesKept`.
pub data Ran (spec : TurnStockSpec) (edition rings : ℕ) : Committed → List Cutter → Committed → Type 0 where
  start : {k : Committed} → Ran spec edition rings k [] k
  cut : {t : Cutter} {l : List Cutter} {cs cs' bs bs' : List Float} {gen g : ℕ} {list : ChangeList} {is is' : List ℕ} {xs xs' : List Float} {m : Committed}
      → Proposed (stamp_of edition gen) (cutter_preview spec t cs (room_of (length is) (length xs))) (Ok list) is is' xs xs'
      → AppliesKept (stock_from spec edition rings gen) (apply_of (stock_from spec edition rings gen) cs bs list is' xs') (Ok (stock_from spec edition rings g)) cs cs' bs bs'
      → Ran spec edition rings (record { cells = cs'; generation = g }) l m → Ran spec edition rings (record { cells = cs; generation = gen }) (t ∷ l) m

-- The same with the change list as records, in a lent slice however long: `propose` answered a list, by its promise `Written`, and `change_slices::apply` was lent as many
-- records as it counts, as they were left, and its stamp.
pub data RanRecords (spec : TurnStockSpec) (edition rings : ℕ) : Committed → List Cutter → Committed → Type 0 where
  no-records : {k : Committed} → RanRecords spec edition rings k [] k
  records-cut : {t : Cutter} {l : List Cutter} {cs cs' bs bs' : List Float} {gen g : ℕ} {list : ChangeList} {rs rs' : List TurnChange} {m : Committed}
      → Written (stamp_of edition gen) (cutter_preview spec t cs (length rs)) (Ok list) rs rs'
      → AppliesKept (stock_from spec edition rings gen) (commit_of (stock_from spec edition rings gen) cs bs list.stamp (take list.count rs')) (Ok (stock_from spec edition rings g)) cs cs' bs bs'
      → RanRecords spec edition rings (record { cells = cs'; generation = g }) l m → RanRecords spec edition rings (record { cells = cs; generation = gen }) (t ∷ l) m

-- The same where each commit is `commit_unasked`, on n cells that are not asked again.
pub data RanUnasked (spec : TurnStockSpec) (edition rings n : ℕ) : Committed → List Cutter → Committed → Type 0 where
  none-asked : {k : Committed} → RanUnasked spec edition rings n k [] k
  unasked-cut : {t : Cutter} {l : List Cutter} {cs cs' : List Float} {gen g : ℕ} {list : ChangeList} {is is' : List ℕ} {xs xs' : List Float} {m : Committed}
      → Proposed (stamp_of edition gen) (cutter_preview spec t cs (room_of (length is) (length xs))) (Ok list) is is' xs xs'
      → Applies (stock_from spec edition rings gen) (commit_held (clean_spec spec) n cs gen is' xs' list.count) (Ok (stock_from spec edition rings g)) cs cs'
      → RanUnasked spec edition rings n (record { cells = cs'; generation = g }) l m → RanUnasked spec edition rings n (record { cells = cs; generation = gen }) (t ∷ l) m

-- Calls as they are made, whatever they answer: from the cells and the generation k with the kept numbers bs, cuts l, each previewed into two lists with room for a change in each of n cells,
-- and committed from them, with the kept numbers that the call before left. A refusal ends it, and is the answer; else it is what the last commit left.
pub data Tried (spec : TurnStockSpec) (edition rings n : ℕ) : Committed → List Float → List Cutter → Paper Committed → Type 0 where
  all_made : {k : Committed} {bs : List Float} → Tried spec edition rings n k bs [] (answers k)
  not-previewed : {t : Cutter} {l : List Cutter} {cs bs : List Float} {gen : ℕ} {r : Refusal} {is is' : List ℕ} {xs xs' : List Float} → n ≤ room_of (length is) (length xs)
      → Proposed (stamp_of edition gen) (cutter_preview spec t cs (room_of (length is) (length xs))) (Err r) is is' xs xs'
      → Tried spec edition rings n (record { cells = cs; generation = gen }) bs (t ∷ l) (refuses (reason_of r))
  not-committed : {t : Cutter} {l : List Cutter} {cs cs' bs bs' : List Float} {gen : ℕ} {list : ChangeList} {a : (Result TurnStock Refused)} {r : Reason} {is is' : List ℕ} {xs xs' : List Float} → n ≤ room_of (length is) (length xs)
      → Proposed (stamp_of edition gen) (cutter_preview spec t cs (room_of (length is) (length xs))) (Ok list) is is' xs xs'
      → AppliesKept (stock_from spec edition rings gen) (apply_of (stock_from spec edition rings gen) cs bs list is' xs') a cs cs' bs bs' → placed_of a ≡ refuses r
      → Tried spec edition rings n (record { cells = cs; generation = gen }) bs (t ∷ l) (refuses r)
  made : {t : Cutter} {l : List Cutter} {cs cs' bs bs' : List Float} {gen g : ℕ} {list : ChangeList} {is is' : List ℕ} {xs xs' : List Float} {p : Paper Committed} → n ≤ room_of (length is) (length xs)
      → Proposed (stamp_of edition gen) (cutter_preview spec t cs (room_of (length is) (length xs))) (Ok list) is is' xs xs'
      → AppliesKept (stock_from spec edition rings gen) (apply_of (stock_from spec edition rings gen) cs bs list is' xs') (Ok (stock_from spec edition rings g)) cs cs' bs bs'
      → Tried spec edition rings n (record { cells = cs'; generation = g }) bs' l p → Tried spec edition rings n (record { cells = cs; generation = gen }) bs (t ∷ l) p

-- rings in lent memory: the lent numbers, how many rings they hold, and the generation
pub record Store : Type 0 where
  pub numbers : List Float
  pub count : ℕ
  pub generation : ℕ

-- From one store to another by rings qs. Each was handed to `remove_ring`, which answered the stock with m rings at generation h and left ys in the lent numbers, by its promise `Removes`.
pub data RanRings (spec : TurnStockSpec) (edition : ℕ) : Store → List Ring → Store → Type 0 where
  done : {s : Store} → RanRings spec edition s [] s
  ring : {q : Ring} {qs : List Ring} {xs ys : List Float} {n g m h t : ℕ} {s : Store} → Removes (stock_from spec edition n g) xs (remove_ring spec xs n g q) (ring_tests spec xs n q) (Ok (record { stock = stock_from spec edition m h; tests = t })) ys → RanRings spec edition (record { numbers = ys; count = m; generation = h }) qs s
      → RanRings spec edition (record { numbers = xs; count = n; generation = g }) (q ∷ qs) s

-- a stock in lent memory: its cells, and its rings
pub record Held : Type 0 where
  pub cells : List Float
  pub store : Store

-- a move: the changes, so many of two lists, and the rings removed
pub record Move : Type 0 where
  pub indices : List ℕ
  pub numbers : List Float
  pub count : ℕ
  pub removed : List Float

-- its change list, of a stock of this edition at this generation
abbrev pub move_list : ℕ → ℕ → Move → ChangeList
move_list edition g v = record { count = v.count; stamp = stamp_of edition g }

-- the rings of moves, in order
unfoldable pub rings_in : List Move → List Ring
rings_in [] = []
rings_in (v ∷ vs) = rings_of (length v.removed / 4) v.removed ++ rings_in vs

-- From one stock to another by moves. Each was handed to `apply_move`, its list being of the stock that it is committed to, and the call answered the stock with m rings at generation h and left cs' and ys in the lent numbers, by its promise `MovesKept`; the kept numbers bs were whatever they were.
pub data RanMoves (spec : TurnStockSpec) (edition : ℕ) : Held → List Move → Held → Type 0 where
  no-moves : {s : Held} → RanMoves spec edition s [] s
  made_move : {v : Move} {vs : List Move} {cs cs' bs bs' xs ys : List Float} {n g m h : ℕ} {s : Held}
      → MovesKept (stock_from spec edition n g) (move_of (stock_from spec edition n g) cs bs xs (move_list edition g v) v.indices v.numbers v.removed) (Ok (stock_from spec edition m h)) cs cs' bs bs' xs ys
      → RanMoves spec edition (record { cells = cs'; store = record { numbers = ys; count = m; generation = h } }) vs s
      → RanMoves spec edition (record { cells = cs; store = record { numbers = xs; count = n; generation = g } }) (v ∷ vs) s
