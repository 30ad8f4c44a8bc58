-- What a move answers and leaves, by what its rule says. Assumes nothing.
use Rattle.std.specs.Prelude.{None, Some, Result, Ok, Err}
use Rattle.std.proofs.Common.{IsErrAnd}
use Rattle.std.proofs.lemmas.Result.{err_from_is_err_and}
use mathlib.Core.Path.{◌≡◌, refl, sym, ap, ap₂, ◌∙◌, subst}
use mathlib.Core.Bool.{true, false, false≢true}
use mathlib.Core.List.{List}
use Prim.Native.Nat.{ℕ, ◌+◌, ◌-◌, ◌/◌, ◌≤◌, ◌<◌}
use Rattle.refusals.specs.declared.Refused.{Refused}
use native.Mathlib.Omega.{arith}
use borrow.Author.Tests.{le-leb, lt-leb}
use lib.ListN.{length}
use lib.Ieee.{Float}
use Rattle.refusals.specs.Number.{reason_in, placed_of}
use Rattle.refusals.specs.Paper.{Paper, Reason, answers, refuses, only, at, onward, demand-true, demand_none-some, onward-answers, onward-refuses, papers}
use Rattle.refusals.specs.Limits.{last_generation}
use Rattle.stock.specs.declared.TurnStockSpec.{TurnStockSpec}
use Rattle.stock.specs.declared.TurnStock.{TurnStock}
use Rattle.stock.specs.declared.Stamp.{Stamp}
use Rattle.stock.specs.declared.TurnChange.{TurnChange}
use Rattle.stock.specs.Spec.{clean_spec}
use Rattle.stock.specs.Cell.{stock_of}
use Rattle.stock.specs.Stock.{same_stamp}
use Rattle.stock.proofs.Count.{no_answer}
use Rattle.blocks.specs.Block.{matches_of}
use Rattle.changes.specs.declared.ChangeList.{ChangeList}
use Rattle.changes.specs.Change.{room_of, changes_from}
use Rattle.rings.specs.declared.Ring.{Ring}
use Rattle.rings.specs.Store.{bar_ring, rings_of, count_fits, bad_ring, raised_by}
use Rattle.rings.specs.declared.RingCount.{RingCount}
use Rattle.rings.specs.Remove.{remove_rings, StoresAs, stock_after}
use Rattle.rings.proofs.Adding.{accepted, refused}
use Rattle.changes.specs.Commit.{pass_all, first_refusal, put_all, put_held}
use Rattle.changes.proofs.Written.{refusal-held, put-held}
use Rattle.moves.specs.Move.{Left, RingsLeft, generation_after, movable_of, rings_moved, taken_of, move_in, move_of, counts_of, moved_cells, moved_rings, counts_left, rings_left_after, TakesRings, is_moved, Moves}
use Rattle.moves.specs.Then.{Shifts}

-- ---- what is asked first, refusal by refusal
module _ (k : TurnStock) (n : ℕ) (cs bs xs : List Float) (st : Stamp) (removed : List Float) where
  pub refuses-4 : count_fits (bar_ring (clean_spec k.spec)) xs k.rings ≡ false → movable_of k n cs bs xs st removed ≡ refuses (only 4)
  unfolding movable_of
  refuses-4 e = simp (papers, e)

  module _ (fit : count_fits (bar_ring (clean_spec k.spec)) xs k.rings ≡ true) where
    pub refuses-19 : same_stamp st k.stamp ≡ false → movable_of k n cs bs xs st removed ≡ refuses (only 19)
    unfolding movable_of
    refuses-19 e = simp (papers, fit, e)

    module _ (own : same_stamp st k.stamp ≡ true) where
      pub refuses-20 : matches_of (clean_spec k.spec) n cs bs ≡ false → movable_of k n cs bs xs st removed ≡ refuses (only 20)
      unfolding movable_of
      refuses-20 e = simp (papers, fit, own, e)

      module _ (match : matches_of (clean_spec k.spec) n cs bs ≡ true) where
        pub refuses-10 : (j : ℕ) → bad_ring removed ≡ Some j → movable_of k n cs bs xs st removed ≡ refuses (at 10 j)
        unfolding movable_of
        refuses-10 j e = demand-true _ _ _ fit ∙ demand-true _ _ _ own ∙ demand-true _ _ _ match ∙ demand_none-some _ _ _ _ e

        pub movable-is : bad_ring removed ≡ None → movable_of k n cs bs xs st removed ≡ answers tt
        unfolding movable_of
        movable-is e = simp (papers, fit, own, match, e)

-- ---- the rings, taken

-- a refusal leaves them
pub takes_none : (p : Paper RingsLeft) (r : Result RingCount Refused) (x : Reason) (xs xs' : List Float) → placed_of r ≡ refuses x → p ≡ refuses x → xs' ≡ xs → TakesRings p r xs xs'
takes_none p r x xs xs' a e f = record { answer = a ∙ sym (ap counts_left e); rings = f ∙ sym (ap (λ (q : Paper RingsLeft). rings_left_after q xs) e) }

module _ (k : TurnStock) (xs removed : List Float) (raised : ℕ) (rise : raised ≡ raised_by (bar_ring (clean_spec k.spec)) (rings_of (length removed / 4) removed)) where
  after : generation_after k.spec k.stamp.generation removed ≡ k.stamp.generation + 1 + raised
  unfolding generation_after
  after = ap (λ (j : ℕ). k.stamp.generation + 1 + j) (sym rise)

  pub refuses-12 : k.stamp.generation ≤ last_generation → last_generation - k.stamp.generation ≤ raised → rings_moved k xs removed ≡ refuses (only 12)
  unfolding rings_moved
  refuses-12 b h = simp (papers, lt-leb (generation_after k.spec k.stamp.generation removed) last_generation (over after))
    where
      over : generation_after k.spec k.stamp.generation removed ≡ k.stamp.generation + 1 + raised → last_generation < generation_after k.spec k.stamp.generation removed
      over a = omega arith

  module _ (few : raised < last_generation - k.stamp.generation) (t : Result ℕ Refused) (xs' : List Float) (s : StoresAs xs (remove_rings k.spec xs k.rings removed) t xs') where
    -- past 12, what the rings answer is left
    left-of : List Ring → Paper RingsLeft
    left-of rs = answers (record { rings = rs; generation = generation_after k.spec k.stamp.generation removed })

    goes_on : rings_moved k xs removed ≡ onward (remove_rings k.spec xs k.rings removed) left-of
    unfolding rings_moved left-of
    goes_on = demand-true _ _ _ (le-leb (generation_after k.spec k.stamp.generation removed) last_generation (within after))
      where
        within : generation_after k.spec k.stamp.generation removed ≡ k.stamp.generation + 1 + raised → generation_after k.spec k.stamp.generation removed ≤ last_generation
        within a = omega arith

    pub refuses-11 : (x : Reason) (r : Result RingCount Refused) → placed_of r ≡ refuses x → placed_of t ≡ refuses x → TakesRings (rings_moved k xs removed) r xs xs'
    refuses-11 x r a e =
        let y = refused xs (remove_rings k.spec xs k.rings removed) t xs' x s e in
        takes_none (rings_moved k xs removed) r x xs xs' a (goes_on ∙ ap (λ (q : Paper (List Ring)). onward q left-of) y.0 ∙ onward-refuses x left-of) y.1

    pub takes_all : (m : ℕ) → t ≡ Ok m → TakesRings (rings_moved k xs removed) (Ok (record { rings = m; generation = k.stamp.generation + 1 + raised })) xs xs'
    unfolding left-of
    takes_all m e =
        let y = accepted xs (remove_rings k.spec xs k.rings removed) t xs' m s e in
        let rule : rings_moved k xs removed ≡ left-of y.rings = goes_on ∙ ap (λ (q : Paper (List Ring)). onward q left-of) y.rule ∙ onward-answers y.rings left-of in
        record {
          answer = (ap₂ (λ (j g : ℕ). let c : RingCount = record { rings = j; generation = g } in answers c) y.count (sym after)) ∙ sym (ap counts_left rule);
          rings = y.store ∙ sym (ap (λ (q : Paper RingsLeft). rings_left_after q xs) rule);
        }

-- ---- the rings of a move whose changes say p
module _ (k : TurnStock) (n : ℕ) (cs bs xs : List Float) (st : Stamp) (p : Paper (Unit {0})) (removed : List Float) where
  pub taken-stops : (x : Reason) → movable_of k n cs bs xs st removed ≡ refuses x → taken_of k n cs bs xs st p removed ≡ refuses x
  unfolding taken_of
  taken-stops x e = simp (papers, e)

  pub taken-change : (x : Reason) → movable_of k n cs bs xs st removed ≡ answers tt → p ≡ refuses x → taken_of k n cs bs xs st p removed ≡ refuses x
  unfolding taken_of
  taken-change x e f = simp (papers, e, f)

  pub taken_is : movable_of k n cs bs xs st removed ≡ answers tt → p ≡ answers tt → taken_of k n cs bs xs st p removed ≡ rings_moved k xs removed
  unfolding taken_of
  taken_is e f = simp (papers, e, f)

-- a rule that comes to another has its outcome
pub same-rings : (p q : Paper RingsLeft) (r : Result RingCount Refused) (xs xs' : List Float) → p ≡ q → TakesRings q r xs xs' → TakesRings p r xs xs'
same-rings p q r xs xs' e a = subst (λ (b : Paper RingsLeft). TakesRings b r xs xs') (sym e) a

-- ---- an answer that is no refusal, and one that is
pub moved_as : (r : Result RingCount Refused) (b : RingCount) → placed_of r ≡ answers b → is_moved r ≡ true
moved_as (Ok c) b h = refl
moved_as (Err r) b h = absurd (no_answer (reason_in r) b h)

pub moved-not : (r : Result RingCount Refused) (x : Reason) → placed_of r ≡ refuses x → is_moved r ≡ false
moved-not (Ok c) x h = absurd (no_answer x _ (sym h))
moved-not (Err r) x h = refl

-- where a `?` stands behind the rings: a refusal of theirs is the answer, and past it they are taken
module _ {p : Paper RingsLeft} {xs xs' : List Float} (t : Result RingCount Refused) (s : TakesRings p t xs xs') where
  pub handed-on : (r : Result RingCount Refused) (x : Refused) → t ≡ Err x → IsErrAnd r (λ c. c ≡ x) → TakesRings p r xs xs' × (is_moved r ≡ false)
  handed-on r x e h =
      let c = err_from_is_err_and r h in
      let v : r ≡ Err x = c.1 ∙ ap Err c.2 in
      (subst (λ (b : Result RingCount Refused). TakesRings p b xs xs') (e ∙ sym v) s, ap is_moved v)

  pub past_it : (c : RingCount) → t ≡ Ok c → TakesRings p (Ok c) xs xs'
  past_it c e = subst (λ (b : Result RingCount Refused). TakesRings p b xs xs') e s

-- ---- the whole of it

-- what was said of the lent changes is said of their list
pub told_of : (s : TurnStockSpec) (k : TurnStock) (n : ℕ) (cs : List Float) (is : List ℕ) (ys : List Float) (j : ℕ) (q : Paper (Unit {0})) → s ≡ clean_spec k.spec → j ≤ room_of (length is) (length ys) → q ≡ first_refusal s n cs is ys j
    → q ≡ pass_all (clean_spec k.spec) n cs (changes_from is ys j)
told_of s k n cs is ys j q e h t = t ∙ ap (λ (x : TurnStockSpec). first_refusal x n cs is ys j) e ∙ sym (refusal-held is ys j h (clean_spec k.spec) n cs)

-- the after-cells written from such a list
pub put_is : (is : List ℕ) (ys : List Float) (k : ℕ) (cs cs' : List Float) → k ≤ room_of (length is) (length ys) → cs' ≡ put_held cs is ys k → cs' ≡ put_all cs (changes_from is ys k)
put_is is ys k cs cs' h e = e ∙ put-held is ys k h cs

module _ (k : TurnStock) (n : ℕ) (cs bs xs : List Float) (st : Stamp) (l : List TurnChange) (removed : List Float) (p : Paper (Unit {0})) (found : p ≡ pass_all (clean_spec k.spec) n cs l) (r : Result RingCount Refused) (xs' : List Float) (t : TakesRings (taken_of k n cs bs xs st p removed) r xs xs') where
  with-cells : RingsLeft → Paper Left
  with-cells a = answers (record { cells = put_all cs l; rings = a.rings; generation = a.generation })

  rule : move_in k n cs bs xs st l removed ≡ onward (taken_of k n cs bs xs st p removed) with-cells
  unfolding move_in with-cells
  rule = ap (λ (q : Paper (Unit {0})). onward (taken_of k n cs bs xs st q removed) with-cells) (sym found)

  -- the answer and the rings are those of the whole move, the cells by whether it is one
  shifts_by : (q : Paper RingsLeft) → taken_of k n cs bs xs st p removed ≡ q → (cs' : List Float) → (is_moved r ≡ true → cs' ≡ put_all cs l) → (is_moved r ≡ false → cs' ≡ cs) → Shifts (move_in k n cs bs xs st l removed) r cs cs' xs xs'
  unfolding with-cells
  shifts_by (answers a) e cs' put stay =
      let m : move_in k n cs bs xs st l removed ≡ with-cells a = rule ∙ ap (λ (q : Paper RingsLeft). onward q with-cells) e ∙ onward-answers a with-cells in
      let says : placed_of r ≡ counts_left (answers a) = t.answer ∙ ap counts_left e in
      record {
        answer = says ∙ sym (ap counts_of m);
        cells = put (moved_as r _ says) ∙ sym (ap (λ (q : Paper Left). moved_cells q cs) m);
        rings = t.rings ∙ ap (λ (q : Paper RingsLeft). rings_left_after q xs) e ∙ sym (ap (λ (q : Paper Left). moved_rings q xs) m);
      }
  shifts_by (refuses x) e cs' put stay =
      let m : move_in k n cs bs xs st l removed ≡ refuses x = rule ∙ ap (λ (q : Paper RingsLeft). onward q with-cells) e ∙ onward-refuses x with-cells in
      let says : placed_of r ≡ refuses x = t.answer ∙ ap counts_left e in
      record {
        answer = says ∙ sym (ap counts_of m);
        cells = stay (moved-not r x says) ∙ sym (ap (λ (q : Paper Left). moved_cells q cs) m);
        rings = t.rings ∙ ap (λ (q : Paper RingsLeft). rings_left_after q xs) e ∙ sym (ap (λ (q : Paper Left). moved_rings q xs) m);
      }

  pub shifts_none : is_moved r ≡ false → Shifts (move_in k n cs bs xs st l removed) r cs cs xs xs'
  shifts_none f = shifts_by _ refl cs (λ y. absurd (false≢true (sym f ∙ y))) (λ _. refl)

  pub shifts-all : is_moved r ≡ true → (cs' : List Float) → cs' ≡ put_all cs l → Shifts (move_in k n cs bs xs st l removed) r cs cs' xs xs'
  shifts-all y cs' e = shifts_by _ refl cs' (λ _. e) (λ f. absurd (false≢true (sym f ∙ y)))

-- ---- the rule of a move of the lent lists
module _ (k : TurnStock) (cs bs xs : List Float) (list : ChangeList) (is : List ℕ) (ys : List Float) (removed : List Float) where
  pub move-refused : (r : Reason) → stock_of k.spec cs ≡ refuses r → move_of k cs bs xs list is ys removed ≡ refuses r
  unfolding move_of
  move-refused r e = simp (papers, e)

  pub move-short : (n : ℕ) → stock_of k.spec cs ≡ answers n → room_of (length is) (length ys) < list.count → move_of k cs bs xs list is ys removed ≡ refuses (only 6)
  unfolding move_of
  move-short n e h = simp (papers, e, lt-leb list.count (room_of (length is) (length ys)) h)

  pub move-is : (n : ℕ) → stock_of k.spec cs ≡ answers n → list.count ≤ room_of (length is) (length ys) → move_of k cs bs xs list is ys removed ≡ move_in k n cs bs xs list.stamp (changes_from is ys list.count) removed
  unfolding move_of
  move-is n e h = simp (papers, e, le-leb list.count (room_of (length is) (length ys)) h)

-- from the counts of rings and commits to the stock that has them
pub moves_from : {k : TurnStock} {p : Paper Left} {cs cs' xs xs' : List Float} {t : Result RingCount Refused} {r : Result TurnStock Refused} → placed_of r ≡ stock_after k (placed_of t) → Shifts p t cs cs' xs xs' → Moves k p r cs cs' xs xs'
moves_from {k} e s = record { answer = e ∙ ap (stock_after k) s.answer; cells = s.cells; rings = s.rings }
