-- A cut previewed into lent lists, and committed from them. Assumes nothing.
use Rattle.std.proofs.Common.{◌≡◌, ℕ, ◌/◌, Bool, true, false, not, List, length, sym, refl, ap, ◌∙◌, subst, arith, le-leb, Err, Ok, Result}
use lib.Ieee.{Float}
use Rattle.refusals.specs.declared.Refused.{Refused}
use Rattle.refusals.specs.declared.Refusal.{Refusal}
use Rattle.refusals.specs.Number.{reason_of, placed_of}
use Rattle.refusals.specs.Paper.{Paper, Reason, answers, refuses, only, demand, onward, papers, onward-refuses}
use Rattle.stock.specs.declared.TurnStockSpec.{TurnStockSpec}
use Rattle.stock.specs.declared.TurnChange.{TurnChange}
use Rattle.stock.specs.declared.Stamp.{Stamp}
use Rattle.stock.specs.declared.TurnStock.{TurnStock}
use Rattle.stock.specs.Spec.{clean_spec}
use Rattle.stock.specs.Cell.{stock_of}
use Rattle.stock.proofs.Count.{no_answer, stock-length}
use Rattle.reach.specs.Reach.{act_cell}
use Rattle.changes.specs.declared.ChangeList.{ChangeList}
use Rattle.changes.specs.Change.{changes_to, room_of, settled, stamped, count_of, written_of, Proposed}
use Rattle.cuts.specs.declared.Cut.{Cut}
use Rattle.cuts.specs.Cut.{clean_cut, cut_good, is_arc, cut_act}
use Rattle.cuts.specs.Preview.{preview_cut}
use Rattle.changes.specs.Commit.{Committed, commit_in, commit_held, own_commit, Applies}
use Rattle.changes.proofs.Proposals.{of-stock}
use Rattle.changes.proofs.Proposal.{wrote, held-is}
use Rattle.changes.proofs.Written.{left_at, same_outcome}
use Rattle.job_run.specs.Job.{made_cut, ChangesOver}

-- a proposal that is refused
counted_none : (st : Stamp) (p : Paper (List TurnChange)) (n : Reason) → refuses n ≡ stamped st (count_of p) → p ≡ refuses n
counted_none st (answers l) n e = absurd (no_answer n (record { count = length l; stamp = st }) e)
counted_none st (refuses m) n e = cc

module _ (k : TurnStock) (cs : List Float) (cut : Cut) where
  -- the commit of the stock's own list
  own : List TurnChange → Paper Committed
  own l = own_commit k.spec cs k.stamp.generation l

  none_made : (room : ℕ) (r : Refusal) (is is' : List ℕ) (xs xs' : List Float) → Proposed k.stamp (preview_cut k.spec cs cut room) (Err r) is is' xs xs' → onward (preview_cut k.spec cs cut room) own ≡ refuses (reason_of r)
  none_made room r is is' xs xs' p = ap (λ (q : Paper (List TurnChange)). onward q own) (counted_none k.stamp _ _ p.answer) ∙ onward-refuses (reason_of r) own

  -- on the cells that the preview asked for, changes that were proposed are settled, and committed as such
  settles : (n : ℕ) → stock_of k.spec cs ≡ answers n → (list : ChangeList) (l : List TurnChange) (is is' : List ℕ) (xs xs' : List Float) → Proposed k.stamp (settled (room_of (length is) (length xs)) l) (Ok list) is is' xs xs'
      → commit_held (clean_spec k.spec) (length cs / 4) cs k.stamp.generation is' xs' list.count ≡ onward (settled (room_of (length is) (length xs)) l) own
  unfolding own_commit own
  settles n e list l is is' xs xs' q =
      let o = of-stock k.stamp _ list is is' xs xs' q in
      let w = wrote l list.count is is' xs xs' o.tally in
      let bins : length cs / 4 ≡ n = omega (arith, stock-length k.spec cs n e) in
      held-is k.stamp list l is is' xs xs' q (clean_spec k.spec) (length cs / 4) cs k.stamp.generation
      ∙ ap (λ (m : ℕ). commit_in (clean_spec k.spec) m cs k.stamp.generation l) bins
      ∙ sym (simp (papers, e, le-leb (length l) (room_of (length is) (length xs)) w.room))

  -- where the rule asks for a stock, for no arc and for the domain first
  asked : (q : Paper ℕ) → stock_of k.spec cs ≡ q → (t u : Bool) (f : ℕ → List TurnChange) (list : ChangeList) (is is' : List ℕ) (xs xs' : List Float)
      → Proposed k.stamp (onward q (λ n. demand t 13 (demand u 5 (settled (room_of (length is) (length xs)) (f n))))) (Ok list) is is' xs xs'
      → commit_held (clean_spec k.spec) (length cs / 4) cs k.stamp.generation is' xs' list.count ≡ onward (onward q (λ n. demand t 13 (demand u 5 (settled (room_of (length is) (length xs)) (f n))))) own
  unfolding demand onward
  asked (refuses n) e t u f list is is' xs xs' w = absurd (no_answer n list (sym w.answer))
  asked (answers n) e false u f list is is' xs xs' w = absurd (no_answer (only 13) list (sym w.answer))
  asked (answers n) e true false f list is is' xs xs' w = absurd (no_answer (only 5) list (sym w.answer))
  asked (answers n) e true true f list is is' xs xs' w = settles n e list (f n) is is' xs xs' w

  -- the preview asked for the stock and wrote what the lists hold: so the commit is the whole one
  all_made : (list : ChangeList) (is is' : List ℕ) (xs xs' : List Float) → Proposed k.stamp (preview_cut k.spec cs cut (room_of (length is) (length xs))) (Ok list) is is' xs xs'
      → commit_held (clean_spec k.spec) (length cs / 4) cs k.stamp.generation is' xs' list.count ≡ onward (preview_cut k.spec cs cut (room_of (length is) (length xs))) own
  unfolding preview_cut
  all_made list is is' xs xs' p = asked (stock_of k.spec cs) refl (not (is_arc (clean_cut cut))) (cut_good (clean_cut cut)) (λ n. changes_to (act_cell (cut_act (clean_spec k.spec) (clean_cut cut))) cs n) list is is' xs xs' p

  pub made_none : (previewed : Result ChangeList Refusal) (r : Refusal) (is is' : List ℕ) (xs xs' : List Float) (d : Result TurnStock Refused)
      → Proposed k.stamp (preview_cut k.spec cs cut (room_of (length is) (length xs))) previewed is is' xs xs'
      → previewed ≡ Err r → placed_of d ≡ refuses (reason_of r) → Applies k (made_cut k cs cut (room_of (length is) (length xs))) d cs cs
  unfolding made_cut own
  made_none previewed r is is' xs xs' d p e q =
      left_at k _ d (reason_of r) cs q (none_made _ r is is' xs xs' (subst (λ (x : Result ChangeList Refusal). Proposed k.stamp (preview_cut k.spec cs cut (room_of (length is) (length xs))) x is is' xs xs') e p))

  pub made_all : (previewed : Result ChangeList Refusal) (list : ChangeList) (is is' : List ℕ) (xs xs' : List Float) (r : Result TurnStock Refused) (cs' : List Float)
      → Proposed k.stamp (preview_cut k.spec cs cut (room_of (length is) (length xs))) previewed is is' xs xs'
      → previewed ≡ Ok list → Applies k (commit_held (clean_spec k.spec) (length cs / 4) cs k.stamp.generation is' xs' list.count) r cs cs' → Applies k (made_cut k cs cut (room_of (length is) (length xs))) r cs cs'
  unfolding made_cut own
  made_all previewed list is is' xs xs' r cs' p e a =
      let w = subst (λ (d : Result ChangeList Refusal). Proposed k.stamp (preview_cut k.spec cs cut (room_of (length is) (length xs))) d is is' xs xs') e p in
      same_outcome k _ _ r cs cs' (sym (all_made list is is' xs xs' w)) a

-- the lists after the preview
pub made-lists : (st : Stamp) (p : Paper (List TurnChange)) (r : Result ChangeList Refusal) (is is' : List ℕ) (xs xs' : List Float) → Proposed st p r is is' xs xs' → ChangesOver (written_of p) is is' xs xs'
made-lists st p r is is' xs xs' w = record { indices = w.indices; numbers = w.numbers }

-- the preview of a cut that is another by name
pub same-cut : {st : Stamp} {r : (Result ChangeList Refusal)} {is is' : List ℕ} {xs xs' : List Float} (spec : TurnStockSpec) (cs : List Float) (room : ℕ) (c d : Cut) → c ≡ d → Proposed st (preview_cut spec cs d room) r is is' xs xs' → Proposed st (preview_cut spec cs c room) r is is' xs xs'
same-cut spec cs room c d e w = rw e w
