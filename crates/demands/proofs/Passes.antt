-- PASSES CHECKED (Req 13), as a reader asks it: when the answer is yes (`yes-exactly`), which cut or bin a no names (`cut-exactly`, `bin-exactly`), and what is left (`old-on-cut`, `old-on-bin`, `refused-leaves`, `yes-leaves`, `yes-answered`). Assumes nothing.
use Rattle.std.specs.Prelude.{Option, None, Some, Result, Ok, Err}
use mathlib.Core.Path.{◌≡◌, refl, sym, ap, ap₂, ◌∙◌, subst}
use mathlib.Core.Bool.{Bool, true, false, false≢true}
use mathlib.Core.List.{List, []}
use Prim.Native.Nat.{ℕ, zero, suc, ◌<◌}
use native.Mathlib.Nat.{not-suc-le-zero}
use native.Mathlib.Omega.{arith}
use borrow.Author.Tests.{ltb-true, ltb-false}
use lib.Dec.{ltb}
use lib.ListN.{length}
use lib.Ieee.{Float}
use Rattle.refusals.specs.declared.Refusal.{Refusal}
use Rattle.refusals.specs.Number.{reason_of}
use Rattle.refusals.specs.Paper.{Paper, Reason, answers, refuses, at, placed, onward, first_of, place_or, onward-answers, onward-refuses, placed-refuses}
use Rattle.floats.specs.Pick.{pick, pick_true}
use Rattle.stock.specs.declared.TurnStockSpec.{TurnStockSpec}
use Rattle.stock.specs.declared.TurnStock.{TurnStock}
use Rattle.stock.specs.Stock.{stock_with}
use Rattle.stock.proofs.Count.{no_answer, same_answer}
use Rattle.changes.specs.Commit.{Committed, numbers_kept}
use Rattle.moves.proofs.Answered.{answered}
use Rattle.passes.specs.declared.Verdict as verdict
use Rattle.passes.specs.declared.Verdict.TheVariants as is
use Rattle.passes.specs.Cuts.{Cuts, standing, pass_at, pass_turned, turned_to}
use Rattle.passes.specs.Check.{meets, first_miss, Verdict, accepted, cut_at, bin_at, by_bins, by_cuts, verdict_of, checkable_of, check_of, Said, says_yes, says_cut, says_bin, checked_paper, said_by, said_of, cells_left, kept_left, Checks}
use Rattle.passes.proofs.Loops.{stays, missed-at}

-- ---- the first bin that does not meet its target

no-some : (k : ℕ) → ◌≡◌ {A = Option ℕ} (Some k) None → ⊥
no-some k h = let z : ◌≡◌ {A = ℕ} 0 1 = cc in omega arith

none_first : (a b : Option ℕ) → first_of a b ≡ None → (a ≡ None) × (b ≡ None)
none_first None b e = (refl, e)
none_first (Some k) b e = absurd (no-some k e)

pick-met : (t : Bool) (k : ℕ) → pick t None (Some k) ≡ None → t ≡ true
unfolding pick
pick-met true k e = refl
pick-met false k e = absurd (no-some k e)

pick-missed : (t : Bool) (k i : ℕ) → pick t None (Some k) ≡ Some i → (t ≡ false) × (k ≡ i)
unfolding pick
pick-missed true k i e = absurd (no-some i (sym e))
pick-missed false k i e = (refl, cc)

module _ (ts cs : List Float) where
  -- bin i is one of n, it does not meet its target, and those before it do
  pub record Missed (n i : ℕ) : Type 0 where
    pub inside : i < n
    pub before : (j : ℕ) → j < i → meets ts cs j ≡ true
    pub here : meets ts cs i ≡ false

  met-one : (m i : ℕ) → i < suc m → ((j : ℕ) → j < m → meets ts cs j ≡ true) → meets ts cs m ≡ true → (t : Bool) → ltb i m ≡ t → meets ts cs i ≡ true
  met-one m i h f e true b = f i (ltb-true i m b)
  met-one m i h f e false b = let z : m ≡ i = omega (arith, ltb-false i m b) in subst (λ (j : ℕ). meets ts cs j ≡ true) z e

  -- none is found: all meet
  pub none-met : (n : ℕ) → first_miss ts cs n ≡ None → (i : ℕ) → i < n → meets ts cs i ≡ true
  unfolding first_miss
  none-met zero e i h = absurd (not-suc-le-zero h)
  none-met (suc m) e i h = let b = none_first (first_miss ts cs m) (pick (meets ts cs m) None (Some m)) e in met-one m i h (none-met m b.0) (pick-met (meets ts cs m) m b.1) (ltb i m) refl

  -- and the other way
  pub met-none : (n : ℕ) → ((i : ℕ) → i < n → meets ts cs i ≡ true) → first_miss ts cs n ≡ None
  unfolding first_miss
  met-none zero f = refl
  met-none (suc m) f = ap₂ first_of (met-none m (λ i h. f i (omega arith))) (pick_true _ None (Some m) (f m (omega arith)))

  missed_more : (m i : ℕ) (o : Option ℕ) → first_miss ts cs m ≡ o → (first_miss ts cs m ≡ Some i → Missed m i) → first_of o (pick (meets ts cs m) None (Some m)) ≡ Some i → Missed (suc m) i
  missed_more m i (Some j) f rec h = let w = rec (f ∙ h) in record { inside = omega (arith, w.inside); before = w.before; here = w.here }
  missed_more m i None f rec h =
      let b = pick-missed (meets ts cs m) m i h in
      subst (Missed (suc m)) b.1 (record { inside = omega arith; before = none-met m f; here = b.0 })

  -- the one that is found is the first
  pub some-missed : (n i : ℕ) → first_miss ts cs n ≡ Some i → Missed n i
  unfolding first_miss
  some-missed zero i e = absurd (no-some i (sym e))
  some-missed (suc m) i e = missed_more m i (first_miss ts cs m) refl (some-missed m i) e

  -- and the other way
  pub missed-some : (n i : ℕ) → Missed n i → first_miss ts cs n ≡ Some i
  missed-some n i w = missed-at ts cs i n w.inside (met-none i w.before) w.here

-- ---- the first cut that is refused

pub same-refusal : {A : Type 0} {r q : Reason} → ◌≡◌ {A = Paper A} (refuses r) (refuses q) → r ≡ q
same-refusal h = cc

module _ (spec : TurnStockSpec) (ls : Cuts) (c : Committed) where
  -- of the first m cuts those before j are accepted in turn, and leave what stands before it; cut j is refused
  pub record Stopped (m j : ℕ) (reason : Reason) : Type 0 where
    pub inside : j < m
    pub before : Committed
    pub turned : turned_to spec ls c j ≡ answers before
    pub refused : pass_turned spec (pass_at ls j) before ≡ refuses reason

  stop-here : (m : ℕ) (d : Committed) (r : Reason) → turned_to spec ls c m ≡ answers d → (p : Paper Committed) → pass_turned spec (pass_at ls m) d ≡ p → placed m p ≡ refuses r → (j : ℕ) × (q : Reason) × (r ≡ at q.number j) × Stopped (suc m) j q
  unfolding placed
  stop-here m d r e (answers x) f h = absurd (no_answer r x (sym h))
  stop-here m d r e (refuses q) f h = (m, q, sym (same-refusal h), record { inside = omega arith; before = d; turned = e; refused = f })

  stop-more : (m : ℕ) (r : Reason) (p : Paper Committed) → turned_to spec ls c m ≡ p → (turned_to spec ls c m ≡ refuses r → (j : ℕ) × (q : Reason) × (r ≡ at q.number j) × Stopped m j q)
      → onward p (λ d. placed m (pass_turned spec (pass_at ls m) d)) ≡ refuses r → (j : ℕ) × (q : Reason) × (r ≡ at q.number j) × Stopped (suc m) j q
  unfolding onward
  stop-more m r (answers d) f rec h = stop-here m d r f (pass_turned spec (pass_at ls m) d) refl h
  stop-more m r (refuses q) f rec h =
      let w = rec (f ∙ h) in
      let s = w.3 in
      (w.0, w.1, w.2, record { inside = omega (arith, s.inside); before = s.before; turned = s.turned; refused = s.refused })

  -- a refusal of cuts in turn is of the first that is refused
  pub turned-stopped : (m : ℕ) (r : Reason) → turned_to spec ls c m ≡ refuses r → (j : ℕ) × (q : Reason) × (r ≡ at q.number j) × Stopped m j q
  unfolding turned_to
  turned-stopped zero r e = absurd (no_answer r c (sym e))
  turned-stopped (suc m) r e = stop-more m r (turned_to spec ls c m) refl (turned-stopped m r) e

  -- and the other way
  pub stopped-turned : (m j : ℕ) (q : Reason) → Stopped m j q → turned_to spec ls c m ≡ refuses (at q.number j)
  unfolding turned_to
  stopped-turned m j q s =
      stays (turned_to spec ls c) (refuses (at q.number j))
      (λ (i : ℕ) (u : turned_to spec ls c i ≡ refuses (at q.number j)). ap (λ (p : Paper Committed). onward p (λ d. placed i (pass_turned spec (pass_at ls i) d))) u ∙ onward-refuses _ _)
      (suc j)
      m
      s.inside
      (ap (λ (p : Paper Committed). onward p (λ d. placed j (pass_turned spec (pass_at ls j) d))) s.turned ∙ onward-answers s.before _ ∙ ap (placed j) s.refused ∙ placed-refuses j q)

-- ---- the verdict, by the cuts and the bins

module _ (ts : List Float) (n : ℕ) where
  bins-yes : (d c : Committed) (o : Option ℕ) → by_bins d o ≡ accepted c → (d ≡ c) × (o ≡ None)
  bins-yes d c None e = (cc, refl)
  bins-yes d c (Some i) e = let z : ◌≡◌ {A = ℕ} 0 1 = cc in absurd (omega arith)

  cuts-yes : (c : Committed) (p : Paper Committed) → by_cuts ts n p ≡ accepted c → (p ≡ answers c) × (first_miss ts c.cells n ≡ None)
  cuts-yes c (answers d) e = let b = bins-yes d c (first_miss ts d.cells n) e in (ap answers b.0, ap (λ (x : Committed). first_miss ts x.cells n) (sym b.0) ∙ b.1)
  cuts-yes c (refuses r) e = let z : ◌≡◌ {A = ℕ} 0 1 = cc in absurd (omega arith)

  bins-cut : (d : Committed) (o : Option ℕ) (j q : ℕ) → by_bins d o ≡ cut_at j q → ⊥
  bins-cut d None j q e = let z : ◌≡◌ {A = ℕ} 0 1 = cc in omega arith
  bins-cut d (Some i) j q e = let z : ◌≡◌ {A = ℕ} 0 1 = cc in omega arith

  cuts-cut : (j q : ℕ) (p : Paper Committed) → by_cuts ts n p ≡ cut_at j q → (r : Reason) × (p ≡ refuses r) × (place_or 0 r.place ≡ j) × (r.number ≡ q)
  cuts-cut j q (answers d) e = absurd (bins-cut d (first_miss ts d.cells n) j q e)
  cuts-cut j q (refuses r) e = (r, refl, cc, cc)

  bins-bin : (d : Committed) (i : ℕ) (o : Option ℕ) → by_bins d o ≡ bin_at i → o ≡ Some i
  bins-bin d i None e = let z : ◌≡◌ {A = ℕ} 0 1 = cc in absurd (omega arith)
  bins-bin d i (Some j) e = let h : j ≡ i = cc in ap Some h

  cuts-bin : (i : ℕ) (p : Paper Committed) → by_cuts ts n p ≡ bin_at i → (c : Committed) × (p ≡ answers c) × (first_miss ts c.cells n ≡ Some i)
  cuts-bin i (answers d) e = (d, refl, bins-bin d i (first_miss ts d.cells n) e)
  cuts-bin i (refuses r) e = let z : ◌≡◌ {A = ℕ} 0 1 = cc in absurd (omega arith)

-- ---- THE VERDICT, exactly when
module _ (k : TurnStock) (cs bs ts : List Float) (ls : Cuts) (room numbers : ℕ) where
  abbrev count : ℕ
  count = length ls.kinds

  abbrev checkable : Paper ℕ
  checkable = checkable_of k.spec cs bs ts ls.kinds room numbers

  -- what is asked first is answered: 1, 2, 3, 20 and 25 are passed; then that is the verdict
  pub asked-then : (n : ℕ) → checkable ≡ answers n → check_of k cs bs ts ls room numbers ≡ answers (verdict_of k cs n ts ls)
  unfolding check_of
  asked-then n e = ap (λ (p : Paper ℕ). onward p (λ m. answers (verdict_of k cs m ts ls))) e ∙ onward-answers n _

  asked-first : (v : Verdict) → check_of k cs bs ts ls room numbers ≡ answers v → (n : ℕ) × (checkable ≡ answers n) × (verdict_of k cs n ts ls ≡ v)
  unfolding check_of
  asked-first v e = let a = answered checkable (λ m. answers (verdict_of k cs m ts ls)) v e in (a.value, a.first, same_answer a.then)

  -- of a stock of so many bins every cut, previewed and committed in turn, is accepted; and every bin then meets its target
  pub record YesBy (c : Committed) : Type 0 where
    pub bins : ℕ
    pub asked : checkable ≡ answers bins
    pub turned : turned_to k.spec ls (standing k cs) count ≡ answers c
    pub met : (i : ℕ) → i < bins → meets ts c.cells i ≡ true

  -- YES EXACTLY THEN, with these cells and this generation
  pub yes-exactly : (c : Committed) → (check_of k cs bs ts ls room numbers ≡ answers (accepted c) → YesBy c) × (YesBy c → check_of k cs bs ts ls room numbers ≡ answers (accepted c))
  yes-exactly c = (
    λ e.
        let a = asked-first (accepted c) e in
        let v = cuts-yes ts a.0 c (turned_to k.spec ls (standing k cs) count) a.2 in
        record { bins = a.0; asked = a.1; turned = v.0; met = none-met ts c.cells a.0 v.1 },
    λ y. asked-then y.bins y.asked ∙ ap answers (ap (by_cuts ts y.bins) y.turned ∙ ap (by_bins c) (met-none ts c.cells y.bins y.met)),
  )

  -- with no cuts it is yes where the bins meet their targets already, and nothing is changed
  pub no-cuts : ls.kinds ≡ [] → (n : ℕ) → checkable ≡ answers n → ((i : ℕ) → i < n → meets ts cs i ≡ true) → check_of k cs bs ts ls room numbers ≡ answers (accepted (standing k cs))
  unfolding turned_to
  no-cuts e n a f = (yes-exactly (standing k cs)).1 (record { bins = n; asked = a; turned = ap (λ (l : List ℕ). turned_to k.spec ls (standing k cs) (length l)) e; met = f })

  -- the cuts before j are accepted in turn, and cut j is refused with the number q
  pub record CutBy (j q : ℕ) : Type 0 where
    pub bins : ℕ
    pub asked : checkable ≡ answers bins
    pub reason : Reason
    pub stopped : Stopped k.spec ls (standing k cs) count j reason
    pub number : reason.number ≡ q

  -- THE FIRST CUT THAT IS REFUSED is named exactly then
  pub cut-exactly : (j q : ℕ) → (check_of k cs bs ts ls room numbers ≡ answers (cut_at j q) → CutBy j q) × (CutBy j q → check_of k cs bs ts ls room numbers ≡ answers (cut_at j q))
  cut-exactly j q = (
    λ e.
        let a = asked-first (cut_at j q) e in
        let v = cuts-cut ts a.0 j q (turned_to k.spec ls (standing k cs) count) a.2 in
        let s = turned-stopped k.spec ls (standing k cs) count v.0 v.1 in
        let place : s.0 ≡ j = sym (ap (λ (r : Reason). place_or 0 r.place) s.2) ∙ v.2 in
        record {
          bins = a.0;
          asked = a.1;
          reason = s.1;
          stopped = subst (λ (i : ℕ). Stopped k.spec ls (standing k cs) count i s.1) place s.3;
          number = sym (ap (λ (r : Reason). r.number) s.2) ∙ v.3;
        },
    λ w. asked-then w.bins w.asked ∙ ap answers (ap (by_cuts ts w.bins) (stopped-turned k.spec ls (standing k cs) count j w.reason w.stopped) ∙ ap (cut_at j) w.number),
  )

  -- every cut is accepted in turn, and bin i is the first that does not meet its target then
  pub record BinBy (i : ℕ) : Type 0 where
    pub bins : ℕ
    pub asked : checkable ≡ answers bins
    pub left : Committed
    pub turned : turned_to k.spec ls (standing k cs) count ≡ answers left
    pub missed : Missed ts left.cells bins i

  -- THE FIRST BIN THAT MISSES is named exactly then
  pub bin-exactly : (i : ℕ) → (check_of k cs bs ts ls room numbers ≡ answers (bin_at i) → BinBy i) × (BinBy i → check_of k cs bs ts ls room numbers ≡ answers (bin_at i))
  bin-exactly i = (
    λ e.
        let a = asked-first (bin_at i) e in
        let v = cuts-bin ts a.0 i (turned_to k.spec ls (standing k cs) count) a.2 in
        record { bins = a.0; asked = a.1; left = v.0; turned = v.1; missed = some-missed ts v.0.cells a.0 i v.2 },
    λ w. asked-then w.bins w.asked ∙ ap answers (ap (by_cuts ts w.bins) w.turned ∙ ap (by_bins w.left) (missed-some ts w.left.cells w.bins i w.missed)),
  )

-- ---- what is left, by the promise of the call

-- a no names a cut or a bin
abbrev is_no : Said → Bool
is_no (says_yes s) = false
is_no (says_cut j q) = true
is_no (says_bin i) = true

same-yes : {s t : TurnStock} → says_yes s ≡ says_yes t → s ≡ t
same-yes e = cc

module _ (k : TurnStock) (cs es es' bs bs' : List Float) where
  left-old : (p : Paper Verdict) (r : Result verdict.Verdict Refusal) (s : Said) → checked_paper r ≡ answers s → is_no s ≡ true → Checks k cs p r es es' bs bs' → (es' ≡ cs) × (bs' ≡ numbers_kept k.spec cs)
  left-old (answers (accepted c)) r s e h w = absurd (false≢true (ap is_no (same_answer (sym w.answer ∙ e)) ∙ h))
  left-old (answers (cut_at j q)) r s e h w = (w.cells, w.kept)
  left-old (answers (bin_at i)) r s e h w = (w.cells, w.kept)
  left-old (refuses q) r s e h w = absurd (no_answer q s (sym w.answer ∙ e))

  -- THE OLD ON NO: where a cut or a bin is named the cells afterwards are the old ones, and the kept numbers are theirs
  pub old-on-cut : (p : Paper Verdict) (j : ℕ) (q : Refusal) → Checks k cs p (Ok (is.CutFails j q)) es es' bs bs' → (es' ≡ cs) × (bs' ≡ numbers_kept k.spec cs)
  old-on-cut p j q w = left-old p (Ok (is.CutFails j q)) (says_cut j (reason_of q).number) refl refl w

  pub old-on-bin : (p : Paper Verdict) (i : ℕ) → Checks k cs p (Ok (is.BinFails i)) es es' bs bs' → (es' ≡ cs) × (bs' ≡ numbers_kept k.spec cs)
  old-on-bin p i w = left-old p (Ok (is.BinFails i)) (says_bin i) refl refl w

  -- a refusal leaves both as they were
  pub refused-leaves : (p : Paper Verdict) (q : Refusal) → Checks k cs p (Err q) es es' bs bs' → (es' ≡ es) × (bs' ≡ bs)
  refused-leaves (answers v) q w = absurd (no_answer (reason_of q) (said_by k v) w.answer)
  refused-leaves (refuses r) q w = (w.cells, w.kept)

  -- on yes the stock is the old one at the generation that the cuts leave, and the cells and the kept numbers are theirs
  pub yes-leaves : (p : Paper Verdict) (s : TurnStock) → Checks k cs p (Ok (is.Yes s)) es es' bs bs'
      → (c : Committed) × (p ≡ answers (accepted c)) × (s ≡ stock_with k k.rings c.generation) × (es' ≡ c.cells) × (bs' ≡ numbers_kept k.spec c.cells)
  yes-leaves (answers (accepted c)) s w = (c, refl, same-yes (same_answer w.answer), w.cells, w.kept)
  yes-leaves (answers (cut_at j q)) s w = absurd (false≢true (ap is_no (same_answer w.answer)))
  yes-leaves (answers (bin_at i)) s w = absurd (false≢true (ap is_no (same_answer w.answer)))
  yes-leaves (refuses q) s w = absurd (no_answer q (says_yes s) (sym w.answer))

  -- and where the rule says yes no other answer keeps the promise
  pub yes-answered : (p : Paper Verdict) (c : Committed) (r : Result verdict.Verdict Refusal) → p ≡ answers (accepted c) → Checks k cs p r es es' bs bs' → (r ≡ Ok (is.Yes (stock_with k k.rings c.generation))) × (es' ≡ c.cells) × (bs' ≡ numbers_kept k.spec c.cells)
  yes-answered p c r e w = (
    said r (w.answer ∙ ap (said_of k) e),
    w.cells ∙ ap (λ (x : Paper Verdict). cells_left x cs es) e,
    w.kept ∙ ap (λ (x : Paper Verdict). kept_left k.spec x cs bs) e,
  )
    where
      said : (x : Result verdict.Verdict Refusal) → checked_paper x ≡ answers (says_yes (stock_with k k.rings c.generation)) → x ≡ Ok (is.Yes (stock_with k k.rings c.generation))
      said (Ok (is.Yes s)) h = ap (λ (x : TurnStock). Ok (is.Yes x)) (same-yes (same_answer h))
      said (Ok (is.CutFails j q)) h = absurd (false≢true (sym (ap is_no (same_answer h))))
      said (Ok (is.BinFails i)) h = absurd (false≢true (sym (ap is_no (same_answer h))))
      said (Err q) h = absurd (no_answer (reason_of q) (says_yes (stock_with k k.rings c.generation)) h)
