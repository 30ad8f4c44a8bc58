-- From a library's answer to a call's number and out-parameters. Assumes nothing.
use Rattle.std.specs.Prelude.{Bool, true, false, None, Some, Result, Err}
use Rattle.std.proofs.lemmas.Option.{same_Some}
use mathlib.Core.Path.{◌≡◌, refl, sym, ap, ◌∙◌, subst}
use mathlib.Core.List.{List}
use Prim.Native.Nat.{ℕ, ◌/◌}
use lib.ListN.{length}
use lib.Ieee.{Float}
use Rattle.refusals.specs.declared.Refused.{Refused}
use lib.Dec.{eqb}
use Rattle.floats.specs.Pick.{pick}
use Rattle.refusals.specs.declared.Refusal.{Refusal}
use Rattle.refusals.specs.Number.{reason_of, paper_of, placed_of}
use Rattle.refusals.specs.Paper.{Paper, answers, refuses, only, onward}
use Rattle.stock.specs.declared.TurnStockSpec.{TurnStockSpec}
use Rattle.stock.specs.declared.Stamp.{Stamp}
use Rattle.stock.specs.declared.TurnStock.{TurnStock}
use Rattle.stock.specs.declared.TurnChange.{TurnChange}
use Rattle.stock.specs.declared.TurnSide.{TurnSide}
use Rattle.stock.specs.declared.TurnSide.TheVariants.{Outer, Inner}
use Rattle.stock.specs.Cell.{stock_of}
use Rattle.stock.specs.Stock.{stock_from}
use Rattle.changes.specs.declared.ChangeList.{ChangeList}
use Rattle.changes.specs.Change.{Proposed}
use Rattle.changes.proofs.Proposals.{left, as-list}
use Rattle.changes.specs.Commit.{Committed, generation_of, stock_at, apply_of, cells_after, kept_after, AppliesKept}
use Rattle.changes.specs.Difference.{difference_of}
use Rattle.cuts.specs.declared.Cut.{Cut}
use Rattle.cuts.specs.Preview.{preview_cut}
use Rattle.rings.specs.declared.Removed.{Removed}
use Rattle.rings.specs.declared.Ring.{Ring}
use Rattle.rings.specs.Remove as Remove
use Rattle.rings.specs.Remove.{RingStore, counts_of, stock_after, Removes}
use Rattle.rings.specs.Tests.{list_tests}
use Rattle.profile.specs.Chords as Profile
use Rattle.profile.specs.Chords.{Chord, segments_of, Segmented}
use Rattle.moves.specs.Move as Move
use Rattle.moves.specs.Move.{Left, moved_cells, moved_kept, told_tests, MovesTold, stock_stored, parts_of, rebuilt_kept, RebuildsTold}
use Rattle.turning.specs.Boundary.{code_of, out_of, place_out, kept_out, Gives, GivesPlace, GivesList, GivesChanges, GivesStock, side_from, by_side, GivesTwoPlace, generation_in, GivesRemoved, GivesRings, GivesMove, GivesStore, GivesChords}

-- an answer that says what the rule says
pub gives-changes : (st : Stamp) (p : Paper (List TurnChange)) (a : Result ChangeList Refusal) (r k k' e e' g g' : ℕ) (is is' : List ℕ) (xs xs' : List Float) → GivesList (paper_of a) r k k' e e' g g' → Proposed st p a is is' xs xs' → GivesChanges st p r k k' e e' g g' is is' xs xs'
gives-changes st p a r k k' e e' g g' is is' xs xs' h q = record {
  list = subst (λ (z : Paper ChangeList). GivesList z r k k' e e' g g') q.answer h;
  indices = q.indices;
  numbers = q.numbers;
}

pub gives-stock : (s : TurnStock) (p : Paper Committed) (a : Result TurnStock Refused) (r : ℕ) (cs cs' bs bs' : List Float) (g g' j j' : ℕ) → GivesPlace (generation_in (placed_of a)) r g g' j j' → AppliesKept s p a cs cs' bs bs' → GivesStock s.spec p r cs cs' bs bs' g g' j j'
gives-stock s p a r cs cs' bs bs' g g' j j' h q = record {
  code = h.code ∙ ap (λ (z : Paper TurnStock). code_of (generation_in z)) q.left.answer ∙ same_code p;
  cells = q.left.cells;
  kept = q.kept ∙ same_kept p ∙ ap (λ (x : List Float). kept_out s.spec x p bs) (sym q.left.cells);
  generation = h.out ∙ ap (λ (z : Paper TurnStock). out_of (λ (n : ℕ). n) (generation_in z) g) q.left.answer ∙ same-generation p;
  position = h.position ∙ ap (λ (z : Paper TurnStock). place_out (generation_in z) j) q.left.answer ∙ same_place p;
}
  where
    same_kept : (p : Paper Committed) → kept_after s p bs ≡ kept_out s.spec (cells_after p cs) p bs
    same_kept (answers k) = refl
    same_kept (refuses n) = refl

    same_place : (p : Paper Committed) → place_out (generation_in (stock_at s (generation_of p))) j ≡ place_out p j
    same_place (answers k) = refl
    same_place (refuses n) = refl

    same_code : (p : Paper Committed) → code_of (generation_in (stock_at s (generation_of p))) ≡ code_of p
    same_code (answers k) = refl
    same_code (refuses n) = refl

    same-generation : (p : Paper Committed) → out_of (λ (n : ℕ). n) (generation_in (stock_at s (generation_of p))) g ≡ out_of (λ (k : Committed). k.generation) p g
    same-generation (answers k) = refl
    same-generation (refuses n) = refl

pub gives-rings : (s : TurnStock) (p : Paper RingStore) (a : Result Removed Refused) (r : ℕ) (xs xs' : List Float) (k k' g g' t t' j j' m : ℕ) → GivesRemoved a r k k' g g' t t' j j' → Removes s xs p m a xs' → GivesRings p m r xs xs' k k' g g' t t' j j'
unfolding counts_of onward
gives-rings s p a r xs xs' k k' g g' t t' j j' m h q = record {
  code = h.stock.code ∙ ap code_of q.answer ∙ same_code p;
  rings = q.store;
  count = h.stock.one ∙ ap (λ (z : Paper TurnStock). out_of (λ (c : TurnStock). c.rings) z k) q.answer ∙ same_count p;
  generation = h.stock.other ∙ ap (λ (z : Paper TurnStock). out_of (λ (c : TurnStock). c.stamp.generation) z g) q.answer ∙ same-generation p;
  tests = h.tests ∙ ap (λ (z : Paper ℕ). out_of (λ (n : ℕ). n) z t) q.tests ∙ same_tests p;
  position = h.stock.position ∙ ap (λ (z : Paper TurnStock). place_out z j) q.answer ∙ same_place p;
}
  where
    same_tests : (p : Paper RingStore) → out_of (λ (n : ℕ). n) (onward p (λ _. answers m)) t ≡ out_of (λ (s : RingStore). m) p t
    same_tests (answers a) = refl
    same_tests (refuses n) = refl

    same_place : (p : Paper RingStore) → place_out (stock_after s (counts_of p)) j ≡ place_out p j
    same_place (answers a) = refl
    same_place (refuses n) = refl

    same_code : (p : Paper RingStore) → code_of (stock_after s (counts_of p)) ≡ code_of p
    same_code (answers a) = refl
    same_code (refuses n) = refl

    same_count : (p : Paper RingStore) → out_of (λ (c : TurnStock). c.rings) (stock_after s (counts_of p)) k ≡ out_of (λ (s : RingStore). length s.rings) p k
    same_count (answers a) = refl
    same_count (refuses n) = refl

    same-generation : (p : Paper RingStore) → out_of (λ (c : TurnStock). c.stamp.generation) (stock_after s (counts_of p)) g ≡ out_of (λ (s : RingStore). s.generation) p g
    same-generation (answers a) = refl
    same-generation (refuses n) = refl

pub gives_move : (s : TurnStock) (p : Paper Left) (a : Result TurnStock Refused) (r : ℕ) (cs cs' bs bs' xs xs' removed : List Float) (k k' g g' j j' : ℕ) (ts ts' : List ℕ) → GivesTwoPlace (λ (k : TurnStock). k.rings) (λ (k : TurnStock). k.stamp.generation) (placed_of a) r k k' g g' j j' → MovesTold s p removed a cs cs' bs bs' xs xs' ts ts'
    → GivesMove s.spec p (list_tests s.spec xs s.rings removed ts) r cs cs' bs bs' xs xs' k k' g g' ts ts' j j'
gives_move s p a r cs cs' bs bs' xs xs' removed k k' g g' j j' ts ts' h q = record {
  code = h.code ∙ ap code_of q.moves.left.answer ∙ same_code p;
  cells = q.moves.left.cells;
  kept = q.moves.kept ∙ same_kept p ∙ ap (λ (x : List Float). kept_out s.spec x p bs) (sym q.moves.left.cells);
  rings = q.moves.left.rings;
  count = h.one ∙ ap (λ (z : Paper TurnStock). out_of (λ (c : TurnStock). c.rings) z k) q.moves.left.answer ∙ same_count p;
  generation = h.other ∙ ap (λ (z : Paper TurnStock). out_of (λ (c : TurnStock). c.stamp.generation) z g) q.moves.left.answer ∙ same-generation p;
  tests = q.tests ∙ same_tests p;
  position = h.position ∙ ap (λ (z : Paper TurnStock). place_out z j) q.moves.left.answer ∙ same_place p;
}
  where
    same_tests : (p : Paper Left) → told_tests p (list_tests s.spec xs s.rings removed ts) ts ≡ out_of (λ (a : Left). list_tests s.spec xs s.rings removed ts) p ts
    same_tests (answers a) = refl
    same_tests (refuses n) = refl

    same_kept : (p : Paper Left) → moved_kept s p bs ≡ kept_out s.spec (moved_cells p cs) p bs
    same_kept (answers a) = refl
    same_kept (refuses n) = refl

    same_place : (p : Paper Left) → place_out (stock_after s (Move.counts_of p)) j ≡ place_out p j
    same_place (answers a) = refl
    same_place (refuses n) = refl

    same_code : (p : Paper Left) → code_of (stock_after s (Move.counts_of p)) ≡ code_of p
    same_code (answers a) = refl
    same_code (refuses n) = refl

    same_count : (p : Paper Left) → out_of (λ (c : TurnStock). c.rings) (stock_after s (Move.counts_of p)) k ≡ out_of (λ (s : Left). length s.rings) p k
    same_count (answers a) = refl
    same_count (refuses n) = refl

    same-generation : (p : Paper Left) → out_of (λ (c : TurnStock). c.stamp.generation) (stock_after s (Move.counts_of p)) g ≡ out_of (λ (s : Left). s.generation) p g
    same-generation (answers a) = refl
    same-generation (refuses n) = refl

pub gives-store : (spec : TurnStockSpec) (edition : ℕ) (cs : List Float) (p : Paper (List Ring)) (a : Result TurnStock Refused) (r : ℕ) (bs bs' xs xs' given : List Float) (k k' g g' j j' : ℕ) (ts ts' : List ℕ) → GivesTwoPlace (λ (k : TurnStock). k.rings) (λ (k : TurnStock). k.stamp.generation) (placed_of a) r k k' g g' j j' → RebuildsTold spec edition cs p given a bs bs' xs xs' ts ts'
    → GivesStore spec cs p (list_tests spec xs 0 given ts) r bs bs' xs xs' k k' g g' ts ts' j j'
unfolding Remove.count_of onward
gives-store spec edition cs p a r bs bs' xs xs' given k k' g g' j j' ts ts' h q = record {
  code = h.code ∙ ap code_of q.rebuilds.answer ∙ same_code p;
  kept = q.rebuilds.kept ∙ same_kept p;
  rings = q.rebuilds.store;
  count = h.one ∙ ap (λ (z : Paper TurnStock). out_of (λ (c : TurnStock). c.rings) z k) q.rebuilds.answer ∙ same_count p;
  generation = h.other ∙ ap (λ (z : Paper TurnStock). out_of (λ (c : TurnStock). c.stamp.generation) z g) q.rebuilds.answer ∙ same-generation p;
  tests = q.tests ∙ same_tests p;
  position = h.position ∙ ap (λ (z : Paper TurnStock). place_out z j) q.rebuilds.answer ∙ same_place p;
}
  where
    same_tests : (p : Paper (List Ring)) → told_tests p (list_tests spec xs 0 given ts) ts ≡ out_of (λ (l : List Ring). list_tests spec xs 0 given ts) p ts
    same_tests (answers l) = refl
    same_tests (refuses n) = refl

    same_kept : (p : Paper (List Ring)) → rebuilt_kept spec cs p bs ≡ kept_out spec cs p bs
    same_kept (answers l) = refl
    same_kept (refuses n) = refl

    same_place : (p : Paper (List Ring)) → place_out (stock_stored spec edition (Remove.count_of p)) j ≡ place_out p j
    same_place (answers l) = refl
    same_place (refuses n) = refl

    same_code : (p : Paper (List Ring)) → code_of (stock_stored spec edition (Remove.count_of p)) ≡ code_of p
    same_code (answers l) = refl
    same_code (refuses n) = refl

    same_count : (p : Paper (List Ring)) → out_of (λ (c : TurnStock). c.rings) (stock_stored spec edition (Remove.count_of p)) k ≡ out_of (λ (l : List Ring). length l) p k
    same_count (answers l) = refl
    same_count (refuses n) = refl

    same-generation : (p : Paper (List Ring)) → out_of (λ (c : TurnStock). c.stamp.generation) (stock_stored spec edition (Remove.count_of p)) g ≡ out_of (λ (l : List Ring). 0) p g
    same-generation (answers l) = refl
    same-generation (refuses n) = refl

pub gives-chords : (ps : List Float) (tol : Float) (a : Result ℕ Refusal) (r : ℕ) (xs xs' : List Float) (k k' : ℕ) → Gives (paper_of a) r k k' → Segmented ps tol a xs xs' → GivesChords (segments_of ps tol (length xs / 5)) r xs xs' k k'
unfolding Profile.count_of
gives-chords ps tol a r xs xs' k k' h q = record {
  code = h.code ∙ ap code_of q.answer ∙ same_code (segments_of ps tol (length xs / 5));
  chords = q.out;
  count = h.out ∙ ap (λ (z : Paper ℕ). out_of (λ (n : ℕ). n) z k) q.answer ∙ same_count (segments_of ps tol (length xs / 5));
}
  where
    same_code : (p : Paper (List Chord)) → code_of (Profile.count_of p) ≡ code_of p
    same_code (answers l) = refl
    same_code (refuses n) = refl

    same_count : (p : Paper (List Chord)) → out_of (λ (n : ℕ). n) (Profile.count_of p) k ≡ out_of (λ (l : List Chord). length l) p k
    same_count (answers l) = refl
    same_count (refuses n) = refl

-- ---- a side's number
module _ (spec : TurnStockSpec) (cs : List Float) (side : ℕ) (p : TurnSide → Paper (List TurnChange)) where
  pub by-some : (t : TurnSide) → side_from side ≡ Some t → by_side spec cs side p ≡ p t
  unfolding by_side pick
  by-some t e = by (eqb side 0) (eqb side 1) e
    where
      by : (a b : Bool) → pick a (Some Outer) (pick b (Some Inner) None) ≡ Some t → pick a (p Outer) (pick b (p Inner) (onward (stock_of spec cs) (λ n. refuses (only 5)))) ≡ p t
      by true b e = ap p (same_Some Outer t e)
      by false true e = ap p (same_Some Inner t e)
      by false false e = cc

  pub by-none : side_from side ≡ None → by_side spec cs side p ≡ onward (stock_of spec cs) (λ n. refuses (only 5))
  unfolding by_side pick
  by-none e = by (eqb side 0) (eqb side 1) e
    where
      by : (a b : Bool) → pick a (Some Outer) (pick b (Some Inner) None) ≡ None → pick a (p Outer) (pick b (p Inner) (onward (stock_of spec cs) (λ n. refuses (only 5)))) ≡ onward (stock_of spec cs) (λ n. refuses (only 5))
      by true b e = cc
      by false true e = cc
      by false false e = refl

-- ---- the spec that a call makes of its six numbers, and the stock of it
module _ (s s' : TurnStockSpec) where
  pub same_store : (edition : ℕ) (cs given : List Float) (a : Result TurnStock Refused) (bs bs' xs xs' : List Float) (ts ts' : List ℕ) → s ≡ s' → RebuildsTold s edition cs (parts_of s cs (length bs) given xs) given a bs bs' xs xs' ts ts' → RebuildsTold s' edition cs (parts_of s' cs (length bs) given xs) given a bs bs' xs xs' ts ts'
  same_store edition cs given a bs bs' xs xs' ts ts' e q = subst (λ (x : TurnStockSpec). RebuildsTold x edition cs (parts_of x cs (length bs) given xs) given a bs bs' xs xs' ts ts') e q

  pub same-stock : (k : TurnStock) (edition rings g : ℕ) → k ≡ stock_from s edition rings g → s ≡ s' → k ≡ stock_from s' edition rings g
  same-stock k edition rings g h e = h ∙ ap (λ (x : TurnStockSpec). stock_from x edition rings g) e

-- ---- what is said of one stock is said of the same
module _ (k k' : TurnStock) where
  pub same-preview : (cs : List Float) (u : Cut) (room : ℕ) (a : Result ChangeList Refusal) (is is' : List ℕ) (xs xs' : List Float) → k ≡ k' → Proposed k.stamp (preview_cut k.spec cs u room) a is is' xs xs' → Proposed k'.stamp (preview_cut k'.spec cs u room) a is is' xs xs'
  same-preview cs u room a is is' xs xs' e q = subst (λ (x : TurnStock). Proposed x.stamp (preview_cut x.spec cs u room) a is is' xs xs') e q

  pub same_by : (f : TurnStockSpec → Paper (List TurnChange)) (a : Result ChangeList Refusal) (is is' : List ℕ) (xs xs' : List Float) → k ≡ k' → Proposed k.stamp (f k.spec) a is is' xs xs' → Proposed k'.stamp (f k'.spec) a is is' xs xs'
  same_by f a is is' xs xs' e q = subst (λ (x : TurnStock). Proposed x.stamp (f x.spec) a is is' xs xs') e q

  pub same-difference : (cs ds : List Float) (room : ℕ) (a : Result ChangeList Refusal) (is is' : List ℕ) (xs xs' : List Float) → k ≡ k' → Proposed k.stamp (difference_of k.spec cs ds room) a is is' xs xs' → Proposed k'.stamp (difference_of k'.spec cs ds room) a is is' xs xs'
  same-difference cs ds room a is is' xs xs' e q = subst (λ (x : TurnStock). Proposed x.stamp (difference_of x.spec cs ds room) a is is' xs xs') e q

  pub same-commit : (l l' : ChangeList) (is : List ℕ) (xs : List Float) (a : Result TurnStock Refused) (cs cs' bs bs' : List Float) → k ≡ k' → l ≡ l' → AppliesKept k (apply_of k cs bs l is xs) a cs cs' bs bs' → AppliesKept k' (apply_of k' cs bs l' is xs) a cs cs' bs bs'
  same-commit l l' is xs a cs cs' bs bs' e f q = subst (λ (y : ChangeList). AppliesKept k' (apply_of k' cs bs y is xs) a cs cs' bs bs') f (subst (λ (x : TurnStock). AppliesKept x (apply_of x cs bs l is xs) a cs cs' bs bs') e q)

  pub same_move : (l l' : ChangeList) (f : TurnStock → ChangeList → Paper Left) (removed : List Float) (a : Result TurnStock Refused) (cs cs' bs bs' xs xs' : List Float) (ts ts' : List ℕ) → k ≡ k' → l ≡ l' → MovesTold k (f k l) removed a cs cs' bs bs' xs xs' ts ts' → MovesTold k' (f k' l') removed a cs cs' bs bs' xs xs' ts ts'
  same_move l l' f removed a cs cs' bs bs' xs xs' ts ts' e h q = subst (λ (y : ChangeList). MovesTold k' (f k' y) removed a cs cs' bs bs' xs xs' ts ts') h (subst (λ (x : TurnStock). MovesTold x (f x l) removed a cs cs' bs bs' xs xs' ts ts') e q)

  pub same-ring : (f : TurnStock → Paper RingStore) (m : TurnStock → ℕ) (a : Result Removed Refused) (xs xs' : List Float) → k ≡ k' → Removes k xs (f k) (m k) a xs' → Removes k' xs (f k') (m k') a xs'
  same-ring f m a xs xs' e q = subst (λ (x : TurnStock). Removes x xs (f x) (m x) a xs') e q

-- a refusal in place of a list
pub no-list : (st : Stamp) (p : Paper (List TurnChange)) (r : Refusal) (is : List ℕ) (xs : List Float) → p ≡ refuses (reason_of r) → Proposed st p (Err r) is is xs xs
no-list st p r is xs e = as-list {t = Err r} refl (left p r is xs e)
