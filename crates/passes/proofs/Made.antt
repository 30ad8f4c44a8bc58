-- A tool previewed into lent lists, and committed from them. Assumes nothing.
use Rattle.std.specs.Prelude.{Err, Ok, Result}
use mathlib.Core.Path.{◌≡◌, refl, sym, ap, ◌∙◌, subst}
use mathlib.Core.Bool.{Bool, not}
use mathlib.Core.List.{List}
use Prim.Native.Nat.{ℕ, ◌*◌, ◌/◌, ◌≤◌, min}
use Rattle.refusals.specs.declared.Refused.{Refused}
use native.Mathlib.Omega.{arith}
use lib.Dec.{leb}
use lib.ListN.{length}
use lib.Ieee.{Float}
use Rattle.refusals.specs.declared.Refusal.{Refusal}
use Rattle.refusals.specs.Number.{reason_of, placed_of}
use Rattle.refusals.specs.Paper.{Paper, Reason, answers, refuses, demand, onward, onward-answers, onward-refuses}
use Rattle.refusals.specs.Limits.{cell_limit}
use Rattle.stock.specs.declared.TurnStockSpec.{TurnStockSpec}
use Rattle.stock.specs.declared.TurnChange.{TurnChange}
use Rattle.stock.specs.declared.Stamp.{Stamp}
use Rattle.stock.specs.declared.TurnStock.{TurnStock}
use Rattle.stock.specs.Spec.{clean_spec}
use Rattle.stock.specs.Cell.{stock_of}
use Rattle.stock.proofs.Count.{no_answer, same_answer, demanded, stock-length}
use Rattle.reach.specs.Reach.{Act, act_cell}
use Rattle.nose.specs.Nose.{segments_good, nose_act}
use Rattle.polygon.specs.Polygon.{polygon_good, polygon_act}
use Rattle.changes.specs.declared.ChangeList.{ChangeList}
use Rattle.changes.specs.Change.{changes_to, room_of, settled, stamped, count_of, Proposed}
use Rattle.changes.specs.Commit.{Committed, commit_in, commit_held, own_commit, Applies}
use Rattle.changes.proofs.Proposals.{same-listing}
use Rattle.changes.proofs.Proposal.{held-is}
use Rattle.changes.proofs.Written.{left_at, same_outcome}
use Rattle.cuts.specs.Cut.{clean_cut, cut_good, is_arc, cut_act}
use Rattle.cuts.specs.Preview.{proposed, preview_of, preview_cut}
use Rattle.cuts.specs.declared.Tool.{Tool}
use Rattle.cuts.specs.declared.Tool.TheVariants.{Single, Nose, Polygon}
use Rattle.cuts.specs.Tool.{preview_tool}
use Rattle.passes.specs.Cuts.{pass_of, standing, pass_turned}
use Rattle.passes.specs.Steps.{RoomForAll}
use Rattle.passes.proofs.Roomy.{room-same}

-- ---- a preview that answered asked the stock, and there was room for its changes
record Settles (spec : TurnStockSpec) (cs : List Float) (room : ℕ) (l : List TurnChange) : Type 0 where
  bins : ℕ
  stock : stock_of spec cs ≡ answers bins
  fits : settled room l ≡ answers l

module _ (spec : TurnStockSpec) (cs : List Float) (room : ℕ) (l : List TurnChange) where
  fits_by : (a : Act) (n : ℕ) → proposed a cs room n ≡ answers l → settled room l ≡ answers l
  fits_by a n p =
      let k : List TurnChange = changes_to (act_cell a) cs n in
      ap (settled room) (sym (same_answer (demanded (leb (length k) room) 6 (answers k) l p).1)) ∙ p

  by-act : (p : Paper ℕ) → stock_of spec cs ≡ p → (good : Bool) (a : Act) → onward p (λ n. demand good 5 (proposed a cs room n)) ≡ answers l → Settles spec cs room l
  unfolding onward
  by-act (answers n) e good a h = record { bins = n; stock = e; fits = fits_by a n (demanded good 5 (proposed a cs room n) l h).1 }
  by-act (refuses r) e good a h = absurd (no_answer r l h)

  by-cut : (p : Paper ℕ) → stock_of spec cs ≡ p → (arc good : Bool) (a : Act) → onward p (λ n. demand arc 13 (demand good 5 (proposed a cs room n))) ≡ answers l → Settles spec cs room l
  unfolding onward
  by-cut (answers n) e arc good a h = record { bins = n; stock = e; fits = fits_by a n (demanded good 5 (proposed a cs room n) l (demanded arc 13 (demand good 5 (proposed a cs room n)) l h).1).1 }
  by-cut (refuses r) e arc good a h = absurd (no_answer r l h)

  tool-settles : (t : Tool) (ys : List Float) → preview_tool spec cs t ys room ≡ answers l → Settles spec cs room l
  unfolding preview_tool preview_cut preview_of
  tool-settles (Single u) ys e = by-cut (stock_of spec cs) refl (not (is_arc (clean_cut u))) (cut_good (clean_cut u)) (cut_act (clean_spec spec) (clean_cut u)) e
  tool-settles (Nose side rn) ys e = by-act (stock_of spec cs) refl (segments_good rn ys) (nose_act (clean_spec spec) side rn ys) e
  tool-settles (Polygon side excess) ys e = by-act (stock_of spec cs) refl (polygon_good ys excess) (polygon_act (clean_spec spec) side excess ys) e

-- ---- what a proposal counted

counted_none : (st : Stamp) (p : Paper (List TurnChange)) (n : Reason) → refuses n ≡ stamped st (count_of p) → p ≡ refuses n
counted_none st (answers l) n e = absurd (no_answer n (record { count = length l; stamp = st }) e)
counted_none st (refuses m) n e = cc

counted : (st : Stamp) (p : Paper (List TurnChange)) (c : ChangeList) → answers c ≡ stamped st (count_of p) → (l : List TurnChange) × (p ≡ answers l)
counted st (answers l) c e = (l, refl)
counted st (refuses r) c e = absurd (no_answer r c (sym e))

-- ---- and its commit

module _ (k : TurnStock) (cs : List Float) (t : Tool) (ys : List Float) where
  -- the commit of the stock's own list
  own : List TurnChange → Paper Committed
  own l = own_commit k.spec cs k.stamp.generation l

  rule : ℕ → Paper (List TurnChange)
  rule room = preview_tool k.spec cs t ys room

  turned-is : (room : ℕ) → min (length cs) (4 * cell_limit) ≤ 4 * room → pass_turned k.spec (pass_of t ys) (standing k cs) ≡ onward (rule room) own
  unfolding pass_turned own rule
  turned-is room h = ap (λ (p : Paper (List TurnChange)). onward p own) (sym (room-same k.spec cs room h t ys))

  held : (room : ℕ) (is is' : List ℕ) (xs xs' : List Float) → room ≡ room_of (length is) (length xs) → (list : ChangeList) → Proposed k.stamp (rule room) (Ok list) is is' xs xs'
      → onward (rule room) own ≡ commit_held (clean_spec k.spec) (length cs / 4) cs k.stamp.generation is' xs' list.count
  unfolding own_commit own rule
  held room is is' xs xs' er list p =
      let y = counted k.stamp (rule room) list p.answer in
      let l = y.0 in
      let w = tool-settles k.spec cs room l t ys y.1 in
      let bins : w.bins ≡ length cs / 4 = omega (arith, stock-length k.spec cs w.bins w.stock) in
      let fits : settled (room_of (length is) (length xs)) l ≡ rule room = ap (λ (m : ℕ). settled m l) (sym er) ∙ w.fits ∙ sym y.1 in
      ap (λ (q : Paper (List TurnChange)). onward q own) y.1
      ∙ onward-answers l own
      ∙ ap (λ (q : Paper ℕ). onward q (λ n. commit_in (clean_spec k.spec) n cs k.stamp.generation l)) w.stock
      ∙ onward-answers w.bins _
      ∙ ap (λ (m : ℕ). commit_in (clean_spec k.spec) m cs k.stamp.generation l) bins
      ∙ sym (held-is k.stamp list l is is' xs xs' (same-listing k.stamp (settled (room_of (length is) (length xs)) l) (rule room) (Ok list) is is' xs xs' fits p) (clean_spec k.spec) (length cs / 4) cs k.stamp.generation)

  pub made_none : (previewed : Result ChangeList Refusal) (r : Refusal) (x : Result TurnStock Refused) (is is' : List ℕ) (xs xs' : List Float) → RoomForAll cs is xs
      → Proposed k.stamp (preview_tool k.spec cs t ys (room_of (length is) (length xs))) previewed is is' xs xs'
      → previewed ≡ Err r → placed_of x ≡ refuses (reason_of r) → Applies k (pass_turned k.spec (pass_of t ys) (standing k cs)) x cs cs
  unfolding rule
  made_none previewed r x is is' xs xs' full p e h =
      let room = room_of (length is) (length xs) in
      let w = subst (λ (d : Result ChangeList Refusal). Proposed k.stamp (rule room) d is is' xs xs') e p in
      left_at k _ x (reason_of r) cs h (turned-is room full ∙ ap (λ (q : Paper (List TurnChange)). onward q own) (counted_none k.stamp _ _ w.answer) ∙ onward-refuses (reason_of r) own)

  pub made_all : (previewed : Result ChangeList Refusal) (list : ChangeList) (is is' : List ℕ) (xs xs' : List Float) (r : Result TurnStock Refused) (cs' : List Float) → RoomForAll cs is xs
      → Proposed k.stamp (preview_tool k.spec cs t ys (room_of (length is) (length xs))) previewed is is' xs xs'
      → previewed ≡ Ok list → Applies k (commit_held (clean_spec k.spec) (length cs / 4) cs k.stamp.generation is' xs' list.count) r cs cs' → Applies k (pass_turned k.spec (pass_of t ys) (standing k cs)) r cs cs'
  unfolding rule
  made_all previewed list is is' xs xs' r cs' full p e a =
      let room = room_of (length is) (length xs) in
      let w = subst (λ (d : Result ChangeList Refusal). Proposed k.stamp (rule room) d is is' xs xs') e p in
      same_outcome k _ _ r cs cs' (turned-is room full ∙ held room is is' xs xs' refl list w) a
