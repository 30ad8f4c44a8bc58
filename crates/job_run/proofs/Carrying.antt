-- What a line answers and leaves, by what its rule says. Assumes nothing.
use Rattle.std.proofs.Common.{◌≡◌, ℕ, ◌*◌, ◌/◌, ◌<◌, ◌≤◌, min, Bool, true, false, eqb, ltb, leb, List, [], ◌++◌, length, take, drop, sym, refl, ap, ◌∙◌, subst, arith, take-append-drop, length-take-le, take_all, le-ltb, lt-ltb, eq-eqb, ne_eqb, le-leb, leb-false, leb-true, Err, Ok, Result, IsErrAnd}
use Rattle.refusals.specs.declared.Refused.{Refused}
use borrow.Author.Tests.{lt-leb}
use Rattle.std.proofs.lemmas.Result.{err_from_is_err_and}
use lib.Ieee.{Float}
use Rattle.refusals.specs.declared.Refusal.{Refusal}
use Rattle.refusals.specs.declared.Refusal.TheVariants.{CellsDoNotFit}
use Rattle.refusals.specs.Number.{number_of, reason_of, paper_of, placed_of}
use Rattle.refusals.specs.Paper.{Paper, Reason, answers, refuses, only, onward, papers, onward-answers}
use Rattle.refusals.specs.Lent.{over}
use Rattle.refusals.proofs.OneToOne.{one-reason}
use Rattle.stock.specs.declared.TurnStockSpec.{TurnStockSpec}
use Rattle.stock.specs.declared.TurnStock.{TurnStock}
use Rattle.stock.specs.declared.TurnChange.{TurnChange}
use Rattle.stock.specs.Spec.{clean_spec, cells_of}
use Rattle.stock.specs.Cell.{new_of, new_cells, fresh_cell, cells_like}
use Rattle.stock.specs.Stock.{new_stock, stock_with, stock_made, Filled}
use Rattle.stock.proofs.Cells.{length-like}
use Rattle.stock.proofs.Count.{no_answer, same_answer}
use Rattle.stock.proofs.Fresh.{new_is}
use Rattle.floats.specs.Pick.{pick, picks}
use Rattle.changes.specs.Change.{numbers_of, written_of}
use Rattle.cuts.specs.declared.Cut.{Cut}
use Rattle.cuts.specs.Preview.{preview_cut}
use Rattle.changes.specs.Commit.{Committed, Applies}
use Rattle.rings.specs.declared.Ring.{Ring}
use Rattle.rings.specs.declared.Removed.{Removed}
use Rattle.rings.specs.Store.{store_as}
use Rattle.rings.specs.Remove.{RingStore, remove_ring, removed_paper, counts_of, rings_left_after, Removes}
use Rattle.job_words.specs.declared.Line.{Line}
use Rattle.job_words.specs.declared.Line.TheVariants as line
use Rattle.job_words.specs.Kind.{line_of}
use Rattle.job_run.specs.declared.line.Job.{Job}
use Rattle.job_run.specs.Job.{Stand, stand, line_limit, made_cut, bar_line, cut_line, removing_line, first_line, later_line, job_line, line_changes, job_changes, Carries, CarriesCells, CarriesRings, ChangesOver}

-- refused: all stays
pub refused : (p : Paper Stand) (r : Refusal) (cs rs : List Float) → p ≡ refuses (reason_of r) → Carries p (Err r) cs cs rs rs
refused p r cs rs e = rw e (record { answer = refl; cells = refl; rings = refl })

-- so with a place, which a job does not tell
refused_as : (p : Paper Stand) (r : Refusal) (n : Reason) (cs rs : List Float) → number_of r ≡ n.number → p ≡ refuses n → Carries p (Err r) cs cs rs rs
refused_as p r n cs rs q e = rw e (record { answer = ap (λ (k : ℕ). refuses (only k)) q; cells = refl; rings = refl })

-- accepted
pub went : (p : Paper Stand) (j : Job) (cs cs' rs rs' : List Float) → p ≡ answers (stand j cs' rs') → Carries p (Ok j) cs cs' rs rs'
went p j cs cs' rs rs' e = rw e (record { answer = refl; cells = refl; rings = refl })

-- refused by a call in it
pub exits : (d : Result Job Refusal) (r : Refusal) → IsErrAnd d (λ y. y ≡ r) → d ≡ Err r
exits d r h = let p = err_from_is_err_and d h in p.1 ∙ ap Err p.2

-- ---- a bar
module _ (edition : ℕ) (spec : TurnStockSpec) (cs : List Float) where
  pub bar-refused : (c : Result ℕ Refusal) (r : Refusal) → paper_of c ≡ cells_of spec → c ≡ Err r → CarriesCells (bar_line edition spec cs) (Err r) cs cs
  unfolding bar_line
  bar-refused c r e q rs =
      let k : cells_of spec ≡ refuses (reason_of r) = sym e ∙ ap paper_of q in
      refused _ r cs rs (simp (papers, k))

  pub bar-short : (c : Result ℕ Refusal) (n : ℕ) → paper_of c ≡ cells_of spec → c ≡ Ok n → length cs / 4 < n → CarriesCells (bar_line edition spec cs) (Err CellsDoNotFit) cs cs
  unfolding bar_line
  bar-short c n e q h rs =
      let k : cells_of spec ≡ answers n = sym e ∙ ap paper_of q in
      refused _ CellsDoNotFit cs rs (simp (papers, k, lt-leb (4 * n) (length cs) (omega arith)))

  -- the front of n cells, filled
  module _ (c : Result ℕ Refusal) (n : ℕ) (f : Result TurnStock Refusal) (part' : List Float) (e : paper_of c ≡ cells_of spec) (q : c ≡ Ok n) (h : n ≤ length cs / 4) (w : Filled spec edition f (take (4 * n) cs) part') where
    cells_are : cells_of spec ≡ answers n
    cells_are = sym e ∙ ap paper_of q

    fits : answers n ≡ new_of spec (length (take (4 * n) cs))
    fits = new_is spec (length (take (4 * n) cs)) n cells_are (length-take-le (4 * n) cs (omega arith))

    filled : part' ≡ cells_like (fresh_cell (clean_spec spec)) n
    filled = w.cells ∙ ap (λ (p : Paper ℕ). new_cells spec p (take (4 * n) cs)) (sym fits)

    -- it is not refused: the cells are counted, and as many are lent
    pub bar-unrefused : (r : Refusal) → f ≡ Err r → ⊥
    bar-unrefused r m = no_answer (reason_of r) (new_stock spec edition) (sym (ap paper_of m) ∙ w.answer ∙ ap (stock_made spec edition) (sym fits))

    pub bar-made : (k : TurnStock) → f ≡ Ok k → CarriesCells (bar_line edition spec cs) (Ok (record { stock = k; cells = n })) cs (part' ++ drop (4 * n) cs)
    unfolding bar_line over
    bar-made k m rs =
        let s : k ≡ new_stock spec edition = same_answer (sym (ap paper_of m) ∙ w.answer ∙ ap (stock_made spec edition) (sym fits)) in
        let z = length-like (fresh_cell (clean_spec spec)) n in
        went _ _ cs _ rs rs (rw (filled, s) (simp (papers, cells_are, le-leb (4 * n) (length cs) (omega arith), z)))

-- where an answer goes on
onward-is : {A B : Type 0} (p : Paper A) (a : A) (f : A → Paper B) → p ≡ answers a → onward p f ≡ f a
onward-is p a f e = rw e (onward-answers a f)

-- ---- a cut

-- the job's cells, of a list that may have fewer
front : (n : ℕ) (cs : List Float) → take (min (4 * n) (length cs)) cs ≡ take (4 * n) cs
front n cs = by (leb (4 * n) (length cs)) refl
  where
    by : (t : Bool) → leb (4 * n) (length cs) ≡ t → take (min (4 * n) (length cs)) cs ≡ take (4 * n) cs
    by true e = let q : min (4 * n) (length cs) ≡ 4 * n = omega (arith, leb-true (4 * n) (length cs) e) in ap (λ (k : ℕ). take k cs) q
    by false e =
        let h = leb-false (4 * n) (length cs) e in
        take_all (min (4 * n) (length cs)) cs (omega arith) ∙ sym (take_all (4 * n) cs (omega arith))

-- two refusals that are the same
pub same_number : {A : Type 0} {m n : Reason} → ◌≡◌ {A = Paper A} (refuses m) (refuses n) → m ≡ n
same_number h = cc

-- what an answer of a commit says of its rule
commit-refused : (k : TurnStock) (p : Paper Committed) (a : Result TurnStock Refused) (n : Reason) (cs cs' : List Float) → placed_of a ≡ refuses n → Applies k p a cs cs' → (p ≡ refuses n) × (cs' ≡ cs)
commit-refused k (answers c) a n cs cs' e w = absurd (no_answer n _ (sym e ∙ w.answer))
commit-refused k (refuses m) a n cs cs' e w = (ap refuses (sym (same_number {A = TurnStock} (sym e ∙ w.answer))), w.cells)

-- the cells and the generation that were left
record CutLeft (k : TurnStock) (p : Paper Committed) (a : TurnStock) (cs' : List Float) : Type 0 where
  generation : ℕ
  rule : p ≡ answers (record { cells = cs'; generation = generation })
  stock : a ≡ stock_with k k.rings generation

commit-went : (k : TurnStock) (p : Paper Committed) (a : TurnStock) (cs cs' : List Float) → Applies k p (Ok a) cs cs' → CutLeft k p a cs'
commit-went k (answers c) a cs cs' w = record { generation = c.generation; rule = ap (λ (xs : List Float). answers (record { cells = xs; generation = c.generation })) (sym w.cells); stock = same_answer w.answer }
commit-went k (refuses n) a cs cs' w = absurd (no_answer n a (sym w.answer))

module _ (j : Job) (cut : Cut) (room : ℕ) (cs : List Float) (e : ℕ) (b : e ≡ min (4 * j.cells) (length cs)) (a : Result TurnStock Refused) (part' : List Float) (w : Applies j.stock (made_cut j.stock (take e cs) cut room) a (take e cs) part') where
  of-job : Applies j.stock (made_cut j.stock (take (4 * j.cells) cs) cut room) a (take e cs) part'
  of-job = subst (λ (xs : List Float). Applies j.stock (made_cut j.stock xs cut room) a (take e cs) part') (ap (λ (k : ℕ). take k cs) b ∙ front j.cells cs) w

  pub cut-refused : (r : Refusal) (n : Reason) → number_of r ≡ n.number → placed_of a ≡ refuses n → CarriesCells (cut_line j cut room cs) (Err r) cs (part' ++ drop e cs)
  unfolding cut_line
  cut-refused r n t q rs =
      let k = commit-refused _ _ a n _ _ q of-job in
      let s : part' ++ drop e cs ≡ cs = ap (λ (xs : List Float). xs ++ drop e cs) k.1 ∙ take-append-drop e cs in
      rw s (refused_as _ r n cs rs t (simp (papers, k.0)))

  pub cut-went : (after : TurnStock) → a ≡ Ok after → length part' ≡ length (take e cs)
      → CarriesCells (cut_line j cut room cs) (Ok (record { stock = after; cells = j.cells })) cs (part' ++ drop e cs)
  unfolding cut_line over
  cut-went after q l rs =
      let k = commit-went _ _ after _ _ (subst (λ (x : Result TurnStock Refused). Applies j.stock (made_cut j.stock (take (4 * j.cells) cs) cut room) x (take e cs) part') q of-job) in
      let z : length part' ≡ e = l ∙ length-take-le e cs (omega arith) in
      went _ _ cs _ rs rs (rw k.stock (onward-is _ _ _ k.rule ∙ simp z))

-- the lists of the job's own cells
pub lists_of : (j : Job) (cut : Cut) (room : ℕ) (cs : List Float) (e : ℕ) → e ≡ min (4 * j.cells) (length cs) → (is is' : List ℕ) (xs xs' : List Float)
    → ChangesOver (written_of (preview_cut j.stock.spec (take e cs) cut room)) is is' xs xs' → ChangesOver (written_of (preview_cut j.stock.spec (take (4 * j.cells) cs) cut room)) is is' xs xs'
lists_of j cut room cs e b is is' xs xs' w = subst (λ (ys : List Float). ChangesOver (written_of (preview_cut j.stock.spec ys cut room)) is is' xs xs') (ap (λ (k : ℕ). take k cs) b ∙ front j.cells cs) w

-- no changes: the lists stay
pub unlisted : (l : List TurnChange) (is : List ℕ) (xs : List Float) → l ≡ [] → ChangesOver l is is xs xs
unfolding over numbers_of
unlisted l is xs e = rw e (record { indices = refl; numbers = refl })

-- ---- a ring

-- what an answer says of the rule
ring-none : (k : TurnStock) (p : Paper RingStore) {t : ℕ} (d : Result Removed Refused) (n : Reason) (rs rs' : List Float) → removed_paper d ≡ refuses n → Removes k rs p t d rs' → (p ≡ refuses n) × (rs' ≡ rs)
unfolding counts_of rings_left_after onward
ring-none k (answers s) d n rs rs' e w = absurd (no_answer n _ (sym e ∙ w.answer))
ring-none k (refuses m) d n rs rs' e w = (ap refuses (sym (same_number {A = TurnStock} (sym e ∙ w.answer))), w.store)

-- the store that was left
pub record Left (k : TurnStock) (p : Paper RingStore) (a : TurnStock) (rs rs' : List Float) : Type 0 where
  pub store : RingStore
  pub rule : p ≡ answers store
  pub stock : a ≡ stock_with k (length store.rings) store.generation
  pub lent : rs' ≡ store_as rs store.rings

ring-left : (k : TurnStock) (p : Paper RingStore) {t : ℕ} (a : Removed) (rs rs' : List Float) → Removes k rs p t (Ok a) rs' → Left k p a.stock rs rs'
unfolding counts_of rings_left_after onward
ring-left k (answers s) a rs rs' w = record { store = s; rule = refl; stock = same_answer w.answer; lent = w.store }
ring-left k (refuses m) a rs rs' w = absurd (no_answer m a.stock (sym w.answer))

module _ (j : Job) (q : Ring) (rs rs' : List Float) (t : ℕ) (d : Result Removed Refused) (w : Removes j.stock rs (remove_ring j.stock.spec rs j.stock.rings j.stock.stamp.generation q) t d rs') where
  pub ring-refused : (r : Refusal) (n : Reason) → number_of r ≡ n.number → removed_paper d ≡ refuses n → CarriesRings (removing_line j q) (Err r) rs rs'
  unfolding removing_line
  ring-refused r n t e cs =
      let k = ring-none _ _ d n rs rs' e w in
      rw k.1 (refused_as _ r n cs rs t (simp (papers, k.0)))

  pub ring-went : (a : Removed) → d ≡ Ok a → CarriesRings (removing_line j q) (Ok (record { stock = a.stock; cells = j.cells })) rs rs'
  unfolding removing_line
  ring-went a e cs =
      let k = ring-left _ _ a rs rs' (subst (λ (x : Result Removed Refused). Removes j.stock rs (remove_ring j.stock.spec rs j.stock.rings j.stock.stamp.generation q) t x rs') e w) in
      rw k.lent (went _ _ cs cs rs _ (onward-is _ _ _ k.rule ∙ ap (λ (x : TurnStock). answers (stand (record { stock = x; cells = j.cells }) cs (store_as rs k.store.rings))) (sym k.stock)))

-- ---- a line by its kind
pub first-bar : (edition : ℕ) (l : Line) (spec : TurnStockSpec) (cs cs' : List Float) (r : Result Job Refusal) → l ≡ line.Bar spec → CarriesCells (bar_line edition spec cs) r cs cs' → CarriesCells (first_line edition l cs) r cs cs'
unfolding first_line
first-bar edition l spec cs cs' r e w rs = rw e (w rs)

pub later-cut : (j : Job) (l : Line) (cut : Cut) (room : ℕ) (cs cs' rs : List Float) (r : Result Job Refusal) → l ≡ line.Cutting cut → CarriesCells (cut_line j cut room cs) r cs cs' → Carries (later_line j l room cs rs) r cs cs' rs rs
unfolding later_line
later-cut j l cut room cs cs' rs r e w = rw e (w rs)

pub later-ring : (j : Job) (l : Line) (q : Ring) (room : ℕ) (cs rs rs' : List Float) (r : Result Job Refusal) → l ≡ line.Removing q → CarriesRings (removing_line j q) r rs rs' → Carries (later_line j l room cs rs) r cs cs rs rs'
unfolding later_line
later-ring j l q room cs rs rs' r e w = rw e (w cs)

-- its changes
pub later-lists : (j : Job) (l : Line) (cut : Cut) (room : ℕ) (cs : List Float) (is is' : List ℕ) (xs xs' : List Float) → l ≡ line.Cutting cut → ChangesOver (written_of (preview_cut j.stock.spec (take (4 * j.cells) cs) cut room)) is is' xs xs' → ChangesOver (line_changes j l room cs) is is' xs xs'
unfolding line_changes
later-lists j l cut room cs is is' xs xs' e w = rw e w

-- a rule that comes to another has its outcome
pub same_outcome : (p q : Paper Stand) (r : Result Job Refusal) (cs cs' rs rs' : List Float) → p ≡ q → Carries q r cs cs' rs rs' → Carries p r cs cs' rs rs'
same_outcome p q r cs cs' rs rs' e w = rw e w

-- ---- the bytes of a line
module _ (j : Job) (s : List ℕ) (room : ℕ) (cs rs : List Float) where
  pub line-long : line_limit ≤ length s → job_line j s room cs rs ≡ refuses (only 15)
  unfolding job_line
  line-long h = simp (papers, le-ltb (length s) line_limit h)

  pub line_first : (l : Line) → length s < line_limit → l ≡ line_of s → j.cells ≡ 0 → job_line j s room cs rs ≡ first_line j.stock.stamp.edition l cs rs
  unfolding job_line
  line_first l h e z = rw e (simp (papers, picks, lt-ltb (length s) line_limit h, eq-eqb j.cells 0 z))

  pub line-later : (l : Line) → length s < line_limit → l ≡ line_of s → (j.cells ≡ 0 → ⊥) → job_line j s room cs rs ≡ later_line j l room cs rs
  unfolding job_line
  line-later l h e z = rw e (simp (papers, picks, lt-ltb (length s) line_limit h, ne_eqb j.cells 0 z))

module _ (j : Job) (s : List ℕ) (room : ℕ) (cs : List Float) where
  pub changes-long : line_limit ≤ length s → job_changes j s room cs ≡ []
  unfolding job_changes
  changes-long h = simp (picks, le-ltb (length s) line_limit h)

  pub changes-first : length s < line_limit → j.cells ≡ 0 → job_changes j s room cs ≡ []
  unfolding job_changes
  changes-first h z = simp (picks, lt-ltb (length s) line_limit h, eq-eqb j.cells 0 z)

  pub changes-later : (l : Line) → length s < line_limit → l ≡ line_of s → (j.cells ≡ 0 → ⊥) → (is is' : List ℕ) (xs xs' : List Float) → ChangesOver (line_changes j l room cs) is is' xs xs' → ChangesOver (job_changes j s room cs) is is' xs xs'
  unfolding job_changes
  changes-later l h e z is is' xs xs' w =
      let q : pick (ltb (length s) line_limit) (pick (eqb j.cells 0) [] (line_changes j (line_of s) room cs)) [] ≡ line_changes j l room cs = simp (picks, lt-ltb (length s) line_limit h, ne_eqb j.cells 0 z) (ap (λ (x : Line). line_changes j x room cs) (sym e)) in
      rw q w

-- ---- two outcomes that meet the promise are the same
same-carried : (r r' : Result Job Refusal) → paper_of r ≡ paper_of r' → r ≡ r'
same-carried (Ok j) (Ok k) e = ap Ok (same_answer e)
same-carried (Ok j) (Err c) e = absurd (no_answer (reason_of c) j (sym e))
same-carried (Err c) (Ok j) e = absurd (no_answer (reason_of c) j e)
same-carried (Err c) (Err d) e = ap Err (one-reason c d (same_number {A = Job} e))

pub once : (p : Paper Stand) (r r' : Result Job Refusal) (cs cs₁ cs₂ rs rs₁ rs₂ : List Float) → Carries p r cs cs₁ rs rs₁ → Carries p r' cs cs₂ rs rs₂ → (r ≡ r') × (cs₁ ≡ cs₂) × (rs₁ ≡ rs₂)
once p r r' cs cs₁ cs₂ rs rs₁ rs₂ a b = (same-carried r r' (a.answer ∙ sym b.answer), a.cells ∙ sym b.cells, a.rings ∙ sym b.rings)

pub lists-once : (l : List TurnChange) (is is₁ is₂ : List ℕ) (xs xs₁ xs₂ : List Float) → ChangesOver l is is₁ xs xs₁ → ChangesOver l is is₂ xs xs₂ → (is₁ ≡ is₂) × (xs₁ ≡ xs₂)
lists-once l is is₁ is₂ xs xs₁ xs₂ a b = (a.indices ∙ sym b.indices, a.numbers ∙ sym b.numbers)
