-- A move of a list of records: what its rings say, and what is left where they are taken. Assumes nothing.
use Rattle.std.specs.Prelude.{Result, Err, Ok}
use Rattle.std.proofs.Common.{IsErrAnd}
use Rattle.std.proofs.lemmas.Result.{err_from_is_err_and}
use mathlib.Core.Path.{◌≡◌, refl, sym, ap, ◌∙◌, subst}
use mathlib.Core.Bool.{Bool, true, false, false≢true}
use mathlib.Core.List.{List}
use Prim.Native.Nat.{ℕ, ◌/◌}
use lib.ListN.{length}
use lib.Ieee.{Float}
use Rattle.refusals.specs.Number.{placed_of}
use Rattle.refusals.specs.declared.Refused.{Refused}
use Rattle.refusals.specs.Paper.{Paper, Reason, answers, refuses, onward}
use Rattle.floats.specs.Pick.{pick}
use Rattle.stock.specs.declared.TurnStockSpec.{TurnStockSpec}
use Rattle.stock.specs.declared.TurnChange.{TurnChange}
use Rattle.stock.specs.declared.TurnStock.{TurnStock}
use Rattle.stock.specs.declared.Stamp.{Stamp}
use Rattle.stock.specs.Spec.{clean_spec}
use Rattle.stock.specs.Cell.{stock_of}
use Rattle.stock.proofs.Bins.{HeldSpec, HeldList}
use Rattle.stock.proofs.Count.{demanded}
use Rattle.blocks.specs.Block.{matches_of}
use Rattle.rings.specs.declared.RingCount.{RingCount}
use Rattle.rings.specs.Remove.{stock_after, remove_rings}
use Rattle.rings.specs.Tests.{list_tests}
use Rattle.changes.specs.Commit.{pass_all, put_all, numbers_kept}
use Rattle.changes.proofs.Decided.{answering}
use Rattle.moves.specs.Move.{Left, RingsLeft, movable_of, rings_moved, taken_of, move_in, counts_of, moved_cells, moved_rings, moved_kept, MovesKept, counts_left, rings_left_after, TakesRings, is_moved, told_tests, MovesTold}
use Rattle.moves.proofs.Answered.{answered}
use Rattle.moves.proofs.Told.{told-where, moved-rings}
use Rattle.change_slices.specs.Move.{move_list_of}
use Rattle.change_slices.specs.Kept.{renewed_over, WrittenKept, taken_for, Takes, TakesTold}
use Rattle.change_slices.proofs.Renewed.{cells_in, renewable}

-- ---- rings that are taken
moved-is : (r : Result RingCount Refused) → is_moved r ≡ answering (placed_of r)
moved-is (Ok c) = refl
moved-is (Err r) = refl

left_is : (q : Paper RingsLeft) → answering (counts_left q) ≡ answering q
left_is (answers t) = refl
left_is (refuses x) = refl

moved_as : (q : Paper RingsLeft) (r : Result RingCount Refused) → placed_of r ≡ counts_left q → is_moved r ≡ answering q
moved_as q r e = moved-is r ∙ ap answering e ∙ left_is q

module _ (k : TurnStock) (cs bs xs : List Float) (st : Stamp) (removed : List Float) where
  -- the kept numbers match then
  movable-matched : (n : ℕ) (u : Unit {0}) → movable_of k n cs bs xs st removed ≡ answers u → matches_of (clean_spec k.spec) n cs bs ≡ true
  unfolding movable_of
  movable-matched n u e = (demanded _ _ _ _ (demanded _ _ _ _ (demanded _ _ _ _ e).1).1).0

  taken-matched : (n : ℕ) (p : Paper (Unit {0})) → answering (taken_of k n cs bs xs st p removed) ≡ true → matches_of (clean_spec k.spec) n cs bs ≡ true
  unfolding taken_of onward
  taken-matched n p = go (movable_of k n cs bs xs st removed) refl
    where
      go : (m : Paper (Unit {0})) → movable_of k n cs bs xs st removed ≡ m → answering (onward m (λ _. onward p (λ _. rings_moved k xs removed))) ≡ true → matches_of (clean_spec k.spec) n cs bs ≡ true
      go (answers u) e y = movable-matched n u e
      go (refuses x) e y = absurd (false≢true y)

  module _ (p : Paper (Unit {0})) where
    -- refused before anything else is looked at
    pub take_none : (x : Reason) (r : Result RingCount Refused) → stock_of k.spec cs ≡ refuses x → placed_of r ≡ refuses x → is_moved r ≡ false → Takes k cs bs st p removed r xs xs
    unfolding taken_for onward
    take_none x r e er f =
        let q : taken_for k cs bs xs st p removed ≡ refuses x = ap (λ (m : Paper ℕ). onward m (λ n. taken_of k n cs bs xs st p removed)) e in
        record { taken = record { answer = er ∙ ap counts_left (sym q); rings = ap (λ (m : Paper RingsLeft). rings_left_after m xs) (sym q) }; keeps = λ y. absurd (false≢true (sym f ∙ y)) }

    pub take_all : (n : ℕ) (r : Result RingCount Refused) (xs' : List Float) → HeldSpec k.spec → HeldList cs → HeldList bs → stock_of k.spec cs ≡ answers n → TakesRings (taken_of k n cs bs xs st p removed) r xs xs' → Takes k cs bs st p removed r xs xs'
    unfolding taken_for onward
    take_all n r xs' hs hc hb e t =
        let q : taken_for k cs bs xs st p removed ≡ taken_of k n cs bs xs st p removed = ap (λ (m : Paper ℕ). onward m (λ j. taken_of k j cs bs xs st p removed)) e in
        record { taken = subst (λ (m : Paper RingsLeft). TakesRings m r xs xs') (sym q) t; keeps = λ y. renewable k cs bs n hs hc hb e (taken-matched n p (sym (moved_as (taken_of k n cs bs xs st p removed) r t.answer) ∙ y)) }

    -- where a `?` stands behind them: a refusal of theirs is the answer, and past it they are taken
    pub takes-on : (t : Result RingCount Refused) (xs' : List Float) → Takes k cs bs st p removed t xs xs' → (r : Result RingCount Refused) (x : Refused) → t ≡ Err x → IsErrAnd r (λ c. c ≡ x) → Takes k cs bs st p removed r xs xs' × (false ≡ is_moved r)
    takes-on t xs' s r x e h =
        let c = err_from_is_err_and r h in
        let v : r ≡ Err x = c.1 ∙ ap Err c.2 in
        (subst (λ (b : Result RingCount Refused). Takes k cs bs st p removed b xs xs') (e ∙ sym v) s, sym (ap is_moved v))

    pub takes-past : (t : Result RingCount Refused) (xs' : List Float) → Takes k cs bs st p removed t xs xs' → (c : RingCount) → t ≡ Ok c → Takes k cs bs st p removed (Ok c) xs xs'
    takes-past t xs' s c e = subst (λ (b : Result RingCount Refused). Takes k cs bs st p removed b xs xs') e s

    -- the rings that are taken are those of the list
    rings-for : (a : RingsLeft) → taken_for k cs bs xs st p removed ≡ answers a → remove_rings k.spec xs k.rings removed ≡ answers a.rings
    unfolding taken_for taken_of
    rings-for a h =
        let n = answered _ _ _ h in
        let m = answered _ _ _ n.then in
        let q = answered _ _ _ m.then in
        moved-rings k xs removed a q.then

    pub take-told : (r : Result RingCount Refused) (xs' : List Float) (t : Bool) (ts ts' : List ℕ) → Takes k cs bs st p removed r xs xs' → t ≡ is_moved r → ts' ≡ pick t (list_tests k.spec xs' k.rings removed ts) ts → TakesTold k cs bs st p removed r xs xs' ts ts'
    take-told r xs' t ts ts' s f e =
        record {
          takes = s;
          tests = told-where (taken_for k cs bs xs st p removed) (λ (a : RingsLeft). a.rings) t k.spec xs xs' k.rings removed ts ts' e
              (λ a h. (f ∙ moved_as (taken_for k cs bs xs st p removed) r s.taken.answer ∙ ap answering h, s.taken.rings ∙ ap (λ (q : Paper RingsLeft). rings_left_after q xs) h, rings-for a h))
              (λ x h. f ∙ moved_as (taken_for k cs bs xs st p removed) r s.taken.answer ∙ ap answering h);
        }

  -- ---- what is left
  module _ (l : List TurnChange) where
    abbrev done : RingsLeft → Paper Left
    done t = answers (record { cells = put_all cs l; rings = t.rings; generation = t.generation })

    counts-done : (q : Paper RingsLeft) → counts_of (onward q done) ≡ counts_left q
    unfolding onward
    counts-done (answers t) = refl
    counts-done (refuses x) = refl

    rings-done : (q : Paper RingsLeft) → moved_rings (onward q done) xs ≡ rings_left_after q xs
    unfolding onward
    rings-done (answers t) = refl
    rings-done (refuses x) = refl

    cells-done : (q : Paper RingsLeft) → moved_cells (onward q done) cs ≡ pick (answering q) (put_all cs l) cs
    unfolding onward pick
    cells-done (answers t) = refl
    cells-done (refuses x) = refl

    kept-done : (q : Paper RingsLeft) (new : List Float) → (answering q ≡ true → new ≡ numbers_kept k.spec (put_all cs l)) → pick (answering q) new bs ≡ moved_kept k (onward q done) bs
    unfolding onward pick
    kept-done (answers t) new e = e refl
    kept-done (refuses x) new e = refl

    -- the rule of a move, by the rings that its changes leave
    list-is : move_list_of k cs bs xs st l removed ≡ onward (taken_for k cs bs xs st (pass_all (clean_spec k.spec) (length cs / 4) cs l) removed) done
    unfolding move_list_of taken_for move_in onward
    list-is = go (stock_of k.spec cs) refl
      where
        go : (q : Paper ℕ) → stock_of k.spec cs ≡ q → onward q (λ n. move_in k n cs bs xs st l removed) ≡ onward (onward q (λ n. taken_of k n cs bs xs st (pass_all (clean_spec k.spec) (length cs / 4) cs l) removed)) done
        go (answers n) e = ap (λ (j : ℕ). onward (taken_of k n cs bs xs st (pass_all (clean_spec k.spec) j cs l) removed) done) (cells_in k cs n e)
        go (refuses x) e = refl

    pub move-done : (s : TurnStockSpec) (p : Paper (Unit {0})) (r : Result RingCount Refused) (t : Bool) (m : Result TurnStock Refused) (cs' bs' xs' : List Float) → s ≡ clean_spec k.spec → p ≡ pass_all s (length cs / 4) cs l → Takes k cs bs st p removed r xs xs' → t ≡ is_moved r → WrittenKept t s (length cs / 4) l cs cs' bs bs'
        → placed_of m ≡ stock_after k (placed_of r) → MovesKept k (move_list_of k cs bs xs st l removed) m cs cs' bs bs' xs xs'
    move-done s p r t m cs' bs' xs' es ep a et w em = subst (λ (x : Paper Left). MovesKept k x m cs cs' bs bs' xs xs') (sym list-is) (record { left = record { answer = em ∙ ap (stock_after k) (b.taken.answer ∙ sym (counts-done q)); cells = w.cells ∙ ap (λ (x : Bool). pick x (put_all cs l) cs) ok ∙ sym (cells-done q); rings = b.taken.rings ∙ sym (rings-done q) }; kept = w.kept ∙ ap (λ (x : Bool). pick x fresh bs) ok ∙ kept-done q fresh all })
      where
        q : Paper RingsLeft
        q = taken_for k cs bs xs st (pass_all (clean_spec k.spec) (length cs / 4) cs l) removed

        b : Takes k cs bs st (pass_all (clean_spec k.spec) (length cs / 4) cs l) removed r xs xs'
        b = subst (λ (x : Paper (Unit {0})). Takes k cs bs st x removed r xs xs') (ep ∙ ap (λ (x : TurnStockSpec). pass_all x (length cs / 4) cs l) es) a

        ok : t ≡ answering q
        ok = et ∙ moved_as q r b.taken.answer

        fresh : List Float
        fresh = renewed_over s (length cs / 4) (put_all cs l) bs l

        all : answering q ≡ true → fresh ≡ numbers_kept k.spec (put_all cs l)
        all y = ap (λ (x : TurnStockSpec). renewed_over x (length cs / 4) (put_all cs l) bs l) es ∙ b.keeps (moved_as q r b.taken.answer ∙ y) l

    tests-done : (q : Paper RingsLeft) (new old : List ℕ) → told_tests q new old ≡ told_tests (onward q done) new old
    unfolding onward
    tests-done (answers t) new old = refl
    tests-done (refuses x) new old = refl

    -- the same, with the tests
    pub move-told : (s : TurnStockSpec) (p : Paper (Unit {0})) (r : Result RingCount Refused) (t : Bool) (m : Result TurnStock Refused) (cs' bs' xs' : List Float) (ts ts' : List ℕ) → s ≡ clean_spec k.spec → p ≡ pass_all s (length cs / 4) cs l → TakesTold k cs bs st p removed r xs xs' ts ts' → t ≡ is_moved r
        → WrittenKept t s (length cs / 4) l cs cs' bs bs' → placed_of m ≡ stock_after k (placed_of r) → MovesTold k (move_list_of k cs bs xs st l removed) removed m cs cs' bs bs' xs xs' ts ts'
    move-told s p r t m cs' bs' xs' ts ts' es ep a et w em =
        let new = list_tests k.spec xs k.rings removed ts in
        let q = taken_for k cs bs xs st (pass_all (clean_spec k.spec) (length cs / 4) cs l) removed in
        record {
          moves = move-done s p r t m cs' bs' xs' es ep a.takes et w em;
          tests = a.tests ∙ ap (λ (x : Paper (Unit {0})). told_tests (taken_for k cs bs xs st x removed) new ts) (ep ∙ ap (λ (x : TurnStockSpec). pass_all x (length cs / 4) cs l) es) ∙ tests-done q new ts ∙ sym (ap (λ (x : Paper Left). told_tests x new ts) list-is);
        }
