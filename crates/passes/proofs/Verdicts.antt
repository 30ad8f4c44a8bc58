-- The verdict of a check, case by case: from the cuts, from the bins, with the kept numbers, and after what is asked first. Assumes nothing.
use Rattle.std.specs.Prelude.{Option, None, Some, Ok, Err, Result}
use Rattle.std.proofs.Common.{IsErrAnd}
use Rattle.std.proofs.lemmas.Result.{err_from_is_err_and}
use mathlib.Core.Path.{◌≡◌, refl, sym, ap, ◌∙◌, subst}
use mathlib.Core.Bool.{true, false, ◌&&◌}
use mathlib.Core.List.{List}
use Prim.Native.Nat.{ℕ, ◌*◌, ◌/◌, ◌≤◌}
use Rattle.refusals.specs.declared.Refused.{Refused}
use native.Mathlib.Omega.{arith}
use borrow.Author.Tests.{eqb-true, leb-true, eq-eqb, ne_eqb}
use lib.Dec.{eqb, leb}
use lib.ListN.{length}
use lib.Ieee.{Float}
use Rattle.refusals.specs.declared.Refusal.{Refusal}
use Rattle.refusals.specs.Number.{number_of, reason_of, placed_of}
use Rattle.refusals.specs.Paper.{Paper, Reason, answers, refuses, only, demand, onward, place_or, demand-true, demand-false, onward-answers, onward-refuses}
use Rattle.floats.specs.Pick.{pick_true}
use Rattle.stock.specs.declared.TurnStockSpec.{TurnStockSpec}
use Rattle.stock.specs.declared.TurnStock.{TurnStock}
use Rattle.stock.specs.Spec.{clean_spec}
use Rattle.stock.specs.Cell.{stock_of}
use Rattle.stock.specs.Stock.{stock_with}
use Rattle.stock.proofs.Count.{no_answer, same_answer, demanded, and_both, stock-length}
use Rattle.blocks.specs.Block.{blocks_in, blocks_of, match_to, matches_of}
use Rattle.blocks.specs.Renew.{renewed_all}
use Rattle.changes.specs.Commit.{Committed, generation_of, stock_at, numbers_kept}
use Rattle.passes.specs.Cuts.{Cuts, pass_limit, standing, turned_to}
use Rattle.passes.specs.Check.{targets_to, targets_good, first_miss, outside_to, cuts_good, Verdict, cut_at, by_bins, by_cuts, verdict_of, checkable_of, check_of, said_by, said_of, checked_paper, cells_by, cells_left, kept_left, Checks}
use Rattle.passes.specs.Steps.{Turns, said_at, cells_at, Judged, Decided, DecidedKept}
use Rattle.passes.specs.declared.Verdict as verdict
use Rattle.passes.specs.declared.Verdict.TheVariants as is
use Rattle.passes.proofs.InTurn.{stopped}

-- ---- the bins

pub judged-missed : (s : TurnStock) (o : Option ℕ) (i : ℕ) (cs es es' : List Float) → o ≡ Some i → es' ≡ cs → Judged s o (is.BinFails i) cs es es'
judged-missed s o i cs es es' e h = record { answer = sym (ap (λ (x : Option ℕ). said_at s x) e); cells = h ∙ sym (ap (λ (x : Option ℕ). cells_at x cs es) e) }

pub judged-met : (s : TurnStock) (o : Option ℕ) (cs es : List Float) → o ≡ None → Judged s o (is.Yes s) cs es es
judged-met s o cs es e = record { answer = sym (ap (λ (x : Option ℕ). said_at s x) e); cells = sym (ap (λ (x : Option ℕ). cells_at x cs es) e) }

-- ---- the cuts

said_same : (k : TurnStock) (c : Committed) (o : Option ℕ) → said_at (stock_with k k.rings c.generation) o ≡ said_by k (by_bins c o)
said_same k c None = refl
said_same k c (Some i) = refl

cells_same : (c : Committed) (o : Option ℕ) (cs : List Float) → cells_at o cs c.cells ≡ cells_by (by_bins c o) cs
cells_same c None cs = refl
cells_same c (Some i) cs = refl

module _ (k : TurnStock) (cs : List Float) (n : ℕ) (ts : List Float) where
  cut_by : (p : Paper Committed) (q : Reason) (c : Refusal) (j : ℕ) (es' : List Float) → p ≡ refuses q → q.number ≡ number_of c → place_or 0 q.place ≡ j → es' ≡ cs → Decided k cs (by_cuts ts n p) (is.CutFails j c) es'
  cut_by p q c j es' e f g h = record {
    answer = sym (ap (λ (x : Paper Committed). said_by k (by_cuts ts n x)) e ∙ (λ i. said_by k (cut_at (g i) (f i))));
    cells = h ∙ sym (ap (λ (x : Paper Committed). cells_by (by_cuts ts n x) cs) e);
  }

  bins-by : (p : Paper Committed) (s : TurnStock) (v : verdict.Verdict) (es es' : List Float) → answers s ≡ stock_at k (generation_of p) → ((c : Committed) → p ≡ answers c → es ≡ c.cells) → Judged s (first_miss ts es n) v cs es es' → Decided k cs (by_cuts ts n p) v es'
  bins-by (answers c) s v es es' e f w =
      let h = f c refl in
      record {
        answer = w.answer ∙ (λ i. said_at (same_answer e i) (first_miss ts (h i) n)) ∙ said_same k c (first_miss ts c.cells n);
        cells = w.cells ∙ (λ i. cells_at (first_miss ts (h i) n) cs (h i)) ∙ cells_same c (first_miss ts c.cells n) cs;
      }
  bins-by (refuses q) s v es es' e f w = absurd (no_answer q s (sym e))

  module _ (ls : Cuts) (es₀ es es' : List Float) (e₀ : es₀ ≡ cs) (r : Result TurnStock Refused) (t : Turns k (turned_to k.spec ls (standing k es₀) (length ls.kinds)) r es) where
    abbrev made : Paper Committed
    made = turned_to k.spec ls (standing k cs) (length ls.kinds)

    started : Turns k made r es
    started = subst (λ (x : List Float). Turns k (turned_to k.spec ls (standing k x) (length ls.kinds)) r es) e₀ t

    -- a cut is refused
    pub decided-cut : (q : Reason) (c : Refusal) (j : ℕ) → placed_of r ≡ refuses q → q.number ≡ number_of c → place_or 0 q.place ≡ j → es' ≡ cs → Decided k cs (verdict_of k cs n ts ls) (is.CutFails j c) es'
    decided-cut q c j e f g h = cut_by made q c j es' (stopped k made q (sym e ∙ started.answer)) f g h

    -- none is
    pub decided-bins : (s : TurnStock) (v : verdict.Verdict) → r ≡ Ok s → Judged s (first_miss ts es n) v cs es es' → Decided k cs (verdict_of k cs n ts ls) v es'
    decided-bins s v e w = bins-by made s v es es' (sym (ap placed_of e) ∙ started.answer) started.cells w

-- ---- the kept numbers
pub decided-kept : (k : TurnStock) (cs : List Float) (v : Verdict) (r : verdict.Verdict) (es' bs bs' : List Float) (s : TurnStockSpec) (n : ℕ) → Decided k cs v r es' → s ≡ clean_spec k.spec → bs' ≡ renewed_all s n es' bs → length es' ≡ 4 * n → length bs ≡ 2 * blocks_in n → DecidedKept k cs v r es' bs'
unfolding renewed_all
decided-kept k cs v r es' bs bs' s n d e f h l =
    let m : n ≡ length es' / 4 = omega arith in
    record {
      decided = d;
      kept = f
          ∙ pick_true _ _ _ (eq-eqb (length bs) (2 * blocks_in n) l)
          ∙ ap (λ (x : TurnStockSpec). blocks_of x n es') e
          ∙ ap (λ (x : ℕ). blocks_of (clean_spec k.spec) x es') m
          ∙ ap (λ (x : List Float). numbers_kept k.spec x) d.cells;
    }

-- ---- what is asked first

module _ (spec : TurnStockSpec) (cs bs ts : List Float) (kinds : List ℕ) (room numbers : ℕ) where
  abbrev said : Paper ℕ
  said = checkable_of spec cs bs ts kinds room numbers

  -- of so many cells
  abbrev rest : ℕ → Paper ℕ
  rest m = demand (eqb room (4 * m)) 3 (demand (matches_of (clean_spec spec) m cs bs) 20 (demand (eqb numbers (2 * blocks_in m)) 20 (demand (cuts_good kinds && targets_good ts m) 25 (answers m))))

  pub asks-refused : (r : Reason) → stock_of spec cs ≡ refuses r → said ≡ refuses r
  unfolding checkable_of
  asks-refused r e = ap (λ (p : Paper ℕ). onward p rest) e ∙ onward-refuses r rest

  module _ (n : ℕ) (e : stock_of spec cs ≡ answers n) where
    asks : said ≡ rest n
    unfolding checkable_of
    asks = ap (λ (p : Paper ℕ). onward p rest) e ∙ onward-answers n rest

    -- as many cells as there are numbers
    pub cells-long : length cs ≡ 4 * n
    cells-long = stock-length spec cs n e

    pub asks-room : (room ≡ length cs → ⊥) → said ≡ refuses (only 3)
    asks-room h = asks ∙ demand-false _ _ _ (ne_eqb room (4 * n) (λ q. h (q ∙ sym cells-long)))

    module _ (h : room ≡ length cs) where
      roomy : said ≡ demand (matches_of (clean_spec spec) n cs bs) 20 (demand (eqb numbers (2 * blocks_in n)) 20 (demand (cuts_good kinds && targets_good ts n) 25 (answers n)))
      roomy = asks ∙ demand-true _ _ _ (eq-eqb room (4 * n) (h ∙ cells-long))

      pub asks-unmatched : matches_of (clean_spec spec) n cs bs ≡ false → said ≡ refuses (only 20)
      asks-unmatched m = roomy ∙ demand-false _ _ _ m

      module _ (m : matches_of (clean_spec spec) n cs bs ≡ true) where
        blocks-long : length bs ≡ 2 * blocks_in n
        unfolding matches_of
        blocks-long = eqb-true _ _ (and_both (eqb (length bs) (2 * blocks_in n)) (match_to (clean_spec spec) n cs bs (blocks_in n)) m).0

        matched : said ≡ demand (eqb numbers (2 * blocks_in n)) 20 (demand (cuts_good kinds && targets_good ts n) 25 (answers n))
        matched = roomy ∙ demand-true _ _ _ m

        pub asks-count : (numbers ≡ length bs → ⊥) → said ≡ refuses (only 20)
        asks-count d = matched ∙ demand-false _ _ _ (ne_eqb numbers (2 * blocks_in n) (λ q. d (q ∙ sym blocks-long)))

        module _ (d : numbers ≡ length bs) where
          counted : said ≡ demand (cuts_good kinds && targets_good ts n) 25 (answers n)
          counted = matched ∙ demand-true _ _ _ (eq-eqb numbers (2 * blocks_in n) (d ∙ blocks-long))

          pub asks-lists : (cuts_good kinds && targets_good ts n) ≡ false → said ≡ refuses (only 25)
          asks-lists g = counted ∙ demand-false _ _ _ g

          pub asks-is : (cuts_good kinds && targets_good ts n) ≡ true → said ≡ answers n
          asks-is g = counted ∙ demand-true _ _ _ g

  -- what an answer tells
  pub record Asked (n : ℕ) : Type 0 where
    pub cells_are : length cs ≡ 4 * n
    pub room-is : room ≡ 4 * n
    pub numbers-are : numbers ≡ 2 * blocks_in n
    pub few : length kinds ≤ pass_limit
    pub targets : length ts ≡ 2 * n

  asked_by : (n m : ℕ) → stock_of spec cs ≡ answers m → rest m ≡ answers n → Asked n
  asked_by n m e h =
      let a = demanded (eqb room (4 * m)) 3 _ n h in
      let b = demanded (matches_of (clean_spec spec) m cs bs) 20 _ n a.1 in
      let c = demanded (eqb numbers (2 * blocks_in m)) 20 _ n b.1 in
      let d = demanded (cuts_good kinds && targets_good ts m) 25 (answers m) n c.1 in
      let same : m ≡ n = same_answer d.1 in
      let g = and_both (cuts_good kinds) (targets_good ts m) d.0 in
      let k = and_both (leb (length kinds) pass_limit) (outside_to kinds (length kinds)) g.0 in
      let t = and_both (eqb (length ts) (2 * m)) (targets_to ts m) g.1 in
      record {
        cells_are = stock-length spec cs m e ∙ ap (λ (x : ℕ). 4 * x) same;
        room-is = eqb-true _ _ a.0 ∙ ap (λ (x : ℕ). 4 * x) same;
        numbers-are = eqb-true _ _ c.0 ∙ ap (λ (x : ℕ). 2 * blocks_in x) same;
        few = leb-true _ _ k.0;
        targets = eqb-true _ _ t.0 ∙ ap (λ (x : ℕ). 2 * x) same;
      }

  pub asked : (n : ℕ) → said ≡ answers n → Asked n
  unfolding checkable_of onward
  asked n e = go (stock_of spec cs) refl e
    where
      go : (p : Paper ℕ) → stock_of spec cs ≡ p → onward p rest ≡ answers n → Asked n
      go (answers m) s h = asked_by n m s h
      go (refuses r) s h = absurd (no_answer r n h)

-- ---- the check

module _ (k : TurnStock) (cs bs ts : List Float) (ls : Cuts) (room numbers : ℕ) where
  pub checks-refused : (r : Refusal) (x : Result verdict.Verdict Refusal) (es fs : List Float) → IsErrAnd x (λ y. y ≡ r) → checkable_of k.spec cs bs ts ls.kinds room numbers ≡ refuses (reason_of r) → Checks k cs (check_of k cs bs ts ls room numbers) x es es fs fs
  unfolding check_of
  checks-refused r x es fs h e =
      let w = err_from_is_err_and x h in
      let is_err : x ≡ Err r = w.1 ∙ ap Err w.2 in
      let p = ap (λ (q : Paper ℕ). onward q (λ (m : ℕ). answers (verdict_of k cs m ts ls))) e ∙ onward-refuses (reason_of r) (λ (m : ℕ). answers (verdict_of k cs m ts ls)) in
      record { answer = ap checked_paper is_err ∙ sym (ap (λ (q : Paper Verdict). said_of k q) p); cells = sym (ap (λ (q : Paper Verdict). cells_left q cs es) p); kept = sym (ap (λ (q : Paper Verdict). kept_left k.spec q cs fs) p) }

  pub checks-decided : (n : ℕ) (r : verdict.Verdict) (es es' fs fs' : List Float) → checkable_of k.spec cs bs ts ls.kinds room numbers ≡ answers n → DecidedKept k cs (verdict_of k cs n ts ls) r es' fs' → Checks k cs (check_of k cs bs ts ls room numbers) (Ok r) es es' fs fs'
  unfolding check_of
  checks-decided n r es es' fs fs' e d =
      let p = ap (λ (q : Paper ℕ). onward q (λ (m : ℕ). answers (verdict_of k cs m ts ls))) e ∙ onward-answers n (λ (m : ℕ). answers (verdict_of k cs m ts ls)) in
      record {
        answer = ap answers d.decided.answer ∙ sym (ap (λ (q : Paper Verdict). said_of k q) p);
        cells = d.decided.cells ∙ sym (ap (λ (q : Paper Verdict). cells_left q cs es) p);
        kept = d.kept ∙ sym (ap (λ (q : Paper Verdict). kept_left k.spec q cs fs) p);
      }
