-- STOCK FILES, said of the calls: an outcome that meets the promises of `stock_file::take_part`, for parts one after the other, and of `stock_file::finish` behind them. Assumes nothing.
use Rattle.std.specs.Prelude.{Result}
use Prim.Native.Nat.{ℕ, ◌+◌, ◌*◌, ◌^◌, ◌≤◌, ◌<◌}
use mathlib.Core.Logic.{◌⊎◌}
use mathlib.Core.Path.{◌≡◌, ap, ◌∙◌}
use mathlib.Core.Bool.{true}
use mathlib.Core.List.{List, [], ◌++◌}
use lib.Dec.{T}
use lib.ListN.{length, take, get_or}
use lib.Ieee.{Float, nan, binary64, fits}
use Rattle.refusals.specs.Lent.{over}
use Rattle.refusals.specs.declared.Refused.{Refused}
use Rattle.refusals.specs.Number.{placed_of}
use Rattle.refusals.specs.Paper.{answers}
use Rattle.stock.specs.declared.TurnStockSpec.{TurnStockSpec}
use Rattle.stock.specs.Spec.{clean_spec}
use Rattle.stock.specs.Cell.{stock_of}
use Rattle.rings.specs.Store.{rings_of, bar_ring, room_for_rings, count_fits}
use Rattle.stock.specs.Cell.{stock_of}
use Rattle.blocks.specs.Block.{blocks_in}
use Rattle.moves.specs.Move.{parts_of}
use Rattle.lines.specs.File.{joined, pieces_of}
use Rattle.lines.specs.Hands.{hand}
use Rattle.stock_lines.specs.Form.{few_cells, form_of, Counts, written_form, end_line}
use Rattle.stock_lines.specs.First.{CanSay}
use Rattle.stock_lines.specs.Reading.{State, state}
use Rattle.stock_file.specs.declared.Kept.{Kept}
use Rattle.stock_file.specs.Read.{fresh_reading, stopped, spec_of, front_of, stocked_of, told_as, file_in, read_of}
use Rattle.stock_file.specs.Write.{Opening, bar_of, opening, file_of}
use Rattle.stock_file.specs.InParts.{Finished}
use Rattle.stock_file.proofs.Cut.{however-cut}
use Rattle.stock_file.proofs.LineSteps.{reading}
use Rattle.stock_file.proofs.ReadBack as back
use Rattle.stock_file.proofs.Keepable.{Lent64, stock-back, written_back}
use Rattle.stock_file.proofs.Tells.{tells, told-stocked, file_as, told-spelled, told-unique}
use Rattle.stock_file.proofs.Leaves.{Stays, room-left}
use Rattle.stock_file.proofs.Begins as begins
use Rattle.stock_file.proofs.Exactly.{LineExactly, line-exactly}
use Rattle.demands.proofs.FileRings.{parts-as-they-stand}
use Rattle.demands.proofs.FileRoom.{RoomHolds, room-holds}

-- HOWEVER A FILE IS CUT, also with nothing in a part or inside a number: `finish` tells what the whole file tells, and the lent room holds what it leaves
pub file-however-cut : {most : ℕ} {cs rs : List Float} {ps : List (List ℕ)} {r : Result Kept Refused} (f : Finished most cs rs ps r)
    → (placed_of r ≡ read_of most cs rs (joined ps)) × (f.left.job.cells ≡ (file_in cs rs (joined ps)).cells) × (f.left.job.rings ≡ (file_in cs rs (joined ps)).rings)
file-however-cut f = however-cut f

-- READ AFTER WRITE: the file of numbers that can be kept, in a form that can say its edition, read in a room that reaches, is of the form, and leaves its form, its edition, its bar, its counts and its numbers; behind them the room stays
pub file-reads-back : (b : Opening) (cs : List Float) (n : ℕ) (rs : List Float) (m : ℕ) → back.Kept b cs n rs m → (room space : List Float) → 4 * n ≤ length room → 4 * m ≤ length space
    → file_in room space (file_of b cs n rs m) ≡ state (reading b 2 n m (n + m + 2)) (over (back.fours_to cs n) room) (over (back.fours_to rs m) space)
file-reads-back b cs n rs m k room space h g = back.reads-back b cs n rs m k room space h g

-- so `finish` asks 1, 2, 3 and 4 of these numbers, in whatever parts the file came
pub parts-read-back : {most : ℕ} {room space : List Float} {ps : List (List ℕ)} {r : Result Kept Refused} (b : Opening) (cs : List Float) (n : ℕ) (rs : List Float) (m : ℕ) → back.Kept b cs n rs m
    → 4 * n ≤ length room → 4 * m ≤ length space → Finished most room space ps r → joined ps ≡ file_of b cs n rs m
    → placed_of r ≡ told_as (reading b 2 n m (n + m + 2)) most (over (back.fours_to cs n) room) (over (back.fours_to rs m) space)
parts-read-back {most} {room} {space} b cs n rs m k h g f e =
    (however-cut f).0
    ∙ ap (read_of most room space) e
    ∙ ap (λ (x : State). told_as x.reading most x.cells x.rings) (back.reads-back b cs n rs m k room space h g)

-- and a stock that 1 to 4 accept reads back, in each form that can say its edition and have so many cell lines, as the same clean spec, with the reader's limit, as that edition at generation 0, and as the same counts
pub stock-reads-back : (form edition : ℕ) (spec : TurnStockSpec) (cs rs : List Float) (n m most : ℕ) → CanSay form edition → Counts form n → stock_of spec cs ≡ answers n → count_fits (bar_ring (clean_spec spec)) rs m ≡ true → Lent64 spec cs rs → n ≤ most
    → (room space : List Float) → 4 * n ≤ length room → 4 * m ≤ length space
    → read_of most room space (file_of (opening form edition (bar_of spec)) cs n rs m) ≡ answers (stocked_of (spec_of (bar_of spec) most) edition n m)
stock-reads-back form edition spec cs rs n m most says counts e f g h room space w d = stock-back form edition spec cs rs n m most says counts e f g h room space w d

-- the form that is written, by the number of cells, is one of them
pub written-reads-back : (edition : ℕ) (spec : TurnStockSpec) (cs rs : List Float) (n m most : ℕ) → edition < 4294967296 → stock_of spec cs ≡ answers n → count_fits (bar_ring (clean_spec spec)) rs m ≡ true → Lent64 spec cs rs → n ≤ most
    → (room space : List Float) → 4 * n ≤ length room → 4 * m ≤ length space
    → read_of most room space (file_of (opening (written_form n) edition (bar_of spec)) cs n rs m) ≡ answers (stocked_of (spec_of (bar_of spec) most) edition n m)
written-reads-back edition spec cs rs n m most small e f g h room space w d = written_back edition spec cs rs n m most small e f g h room space w d

-- WRITE AFTER READ: bytes that tell a stock, of fewer than 2^64 lines, are its file in the form that its number of cells determines, or, where its edition is 0 and its cells are 4,096 at most, its file in form 1, and there is no third: its edition and its bar, and the numbers that stand first in the lent room
pub file-spelled : (most : ℕ) (cs rs : List Float) (s : List ℕ) (k : Kept) → read_of most cs rs s ≡ answers k → length (pieces_of s) < 2 ^ 64
    → (s ≡ file_as (written_form (file_in cs rs s).reading.cells) (file_in cs rs s)) ⊎ (((file_in cs rs s).reading.edition ≡ 0) × ((file_in cs rs s).reading.cells ≤ few_cells) × (s ≡ file_as 1 (file_in cs rs s)))
file-spelled most cs rs s k e few = told-spelled most cs rs s k e few

-- SO A FILE THAT READS IS THE ONLY ONE OF ITS FORM WITH ITS STOCK, ring order counted: two that leave the same form, edition, bar, counts and numbers are the same bytes
pub file-unique : (most : ℕ) (cs rs : List Float) (s t : List ℕ) (k j : Kept) → read_of most cs rs s ≡ answers k → read_of most cs rs t ≡ answers j → length (pieces_of s) < 2 ^ 64 → length (pieces_of t) < 2 ^ 64
    → (file_in cs rs s).reading.form ≡ (file_in cs rs t).reading.form → (file_in cs rs s).reading.edition ≡ (file_in cs rs t).reading.edition
    → (file_in cs rs s).reading.bar ≡ (file_in cs rs t).reading.bar → (file_in cs rs s).cells ≡ (file_in cs rs t).cells → (file_in cs rs s).reading.cells ≡ (file_in cs rs t).reading.cells → (file_in cs rs s).rings ≡ (file_in cs rs t).rings
    → (file_in cs rs s).reading.rings ≡ (file_in cs rs t).reading.rings → s ≡ t
file-unique most cs rs s t k j e f a b v d p q n r m = told-unique most cs rs s t k j e f a b v d p q n r m

-- THE STOCK THAT IS TOLD: the clean spec of the file's bar with the reader's limit, the file's edition at generation 0, and its counts
pub file-tells : (most : ℕ) (cs rs : List Float) (s : List ℕ) (k : Kept) → read_of most cs rs s ≡ answers k
    → k ≡ stocked_of (spec_of (file_in cs rs s).reading.bar most) (file_in cs rs s).reading.edition (file_in cs rs s).reading.cells (file_in cs rs s).reading.rings
file-tells most cs rs s k e = told-stocked (file_in cs rs s) most k (tells (file_in cs rs s) most k e)

-- A LINE THAT IS REFUSED: whatever follows the bytes p, the file is refused at the line at which p was
pub file-begins-none : (cs rs : List Float) (p t : List ℕ) → stopped (begins.after cs rs p).job ≡ true → file_in cs rs (p ++ t) ≡ (begins.after cs rs p).job
file-begins-none cs rs p t e = begins.begins-none cs rs p t e

-- LINES THAT ARE NOT REFUSED, with enough cell lines, begin some file of the form: with their `end` they are one. Where cell lines are missing, in form 3, they go on with these (`refused-exactly`).
pub file-begins-some : (cs rs : List Float) (p : List ℕ) (b : Opening) (n m l : ℕ) (cs' rs' : List Float) → l + 1 < 2 ^ 64 → (form_of b.form).least ≤ n
    → begins.after cs rs p ≡ hand (state (reading b 1 n m l) cs' rs') [] → file_in cs rs (p ++ end_line l) ≡ state (reading b 2 n m (l + 1)) cs' rs'
file-begins-some cs rs p b n m l cs' rs' h enough e = begins.begins-some cs rs p b n m l cs' rs' h enough e

-- WHAT THE LENT ROOM HOLDS after any read, refused or not: it keeps its length, and the numbers behind those of the lines that were counted stay
pub file-room-left : (cs rs : List Float) (s : List ℕ) → Stays (state fresh_reading cs rs) (file_in cs rs s)
file-room-left cs rs s = room-left cs rs s

-- and number by number: of each cell's and each ring's line before the refused one, in the form that the first line names, its four numbers at its place, as far as the room reaches, of rings 256, and every other number as it was lent
pub file-room : (cs rs : List Float) (s : List ℕ) → length (pieces_of s) + 1 < 2 ^ 64 → RoomHolds cs rs (pieces_of s) (file_in cs rs s)
file-room cs rs s few = room-holds cs rs s few

-- 16 AT LINE k + 1 EXACTLY WHEN the k lines before it begin some file of the form, and with it they begin none, or, where the bytes end in it or before it, they are none: of any bytes of fewer than 2^64 - 1 lines
pub refused-exactly : (most : ℕ) (cs rs : List Float) (s : List ℕ) (k : ℕ) → length (pieces_of s) + 1 < 2 ^ 64 → LineExactly most cs rs s k
refused-exactly most cs rs s k few = line-exactly most cs rs s k few

-- RINGS OF A FILE THAT READS, handed to `from_parts` with its cells and with room for them and for two kept numbers a block, come back as they stand, in order: each lent number is a float of 64 bits
pub rings-come-back : (most : ℕ) (cs rs : List Float) (s : List ℕ) (k : Kept) → read_of most cs rs s ≡ answers k → ((i : ℕ) → T (fits binary64 (get_or (file_in cs rs s).rings i nan)))
    → (xs : List Float) → (file_in cs rs s).reading.rings ≤ room_for_rings (length xs) → (len : ℕ) → ((n : ℕ) → stock_of (spec_of (file_in cs rs s).reading.bar most) (front_of (file_in cs rs s).reading.cells (file_in cs rs s).cells) ≡ answers n → len ≡ 2 * blocks_in n)
    → parts_of (spec_of (file_in cs rs s).reading.bar most) (front_of (file_in cs rs s).reading.cells (file_in cs rs s).cells) len (take (4 * (file_in cs rs s).reading.rings) (file_in cs rs s).rings) xs
    ≡ answers (rings_of (file_in cs rs s).reading.rings (file_in cs rs s).rings)
rings-come-back most cs rs s k e h xs room len two =
    let t = tells (file_in cs rs s) most k e in
    parts-as-they-stand (spec_of (file_in cs rs s).reading.bar most) (front_of (file_in cs rs s).reading.cells (file_in cs rs s).cells) (file_in cs rs s).rings t.count (file_in cs rs s).reading.rings t.stock t.fits h xs room len (two t.count t.stock)
