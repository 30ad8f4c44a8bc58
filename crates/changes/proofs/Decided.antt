-- How a list that is decided change by change comes out: as the rule of the whole list has it. Assumes nothing.
use Rattle.std.specs.Prelude.{Option, None, Some, Err, Ok, Result}
use Rattle.std.proofs.Common.{IsErrAnd}
use Rattle.std.proofs.lemmas.Result.{err_from_is_err_and}
use mathlib.Core.Path.{◌≡◌, refl, sym, ◌∙◌, ap, ap₂}
use mathlib.Core.Bool.{Bool, true, false, not, ◌&&◌, ◌||◌, false≢true}
use mathlib.Core.List.{List, [], ◌∷◌, ◌++◌}
use Prim.Native.Nat.{ℕ, suc, ◌+◌, ◌≤◌, ◌<◌, min}
use Rattle.refusals.specs.Number.{placed_of}
use Rattle.refusals.specs.declared.Refused.{Refused}
use native.Mathlib.Omega.{arith}
use borrow.Author.Tests.{lt-ltb, le-ltb}
use lib.Dec.{ltb}
use lib.ListN.{length}
use lib.Ieee.{Float}
use Rattle.refusals.specs.Paper.{Paper, Reason, answers, refuses, demand, demand_at, demand_none, placed, onward, onward-refuses, only, demand-true, demand-false, demand_none-none, papers}
use Rattle.refusals.specs.Limits.{last_generation, last_place}
use Rattle.floats.specs.Pick.{pick, pick_true}
use Rattle.stock.specs.declared.TurnStockSpec.{TurnStockSpec}
use Rattle.stock.specs.declared.TurnChange.{TurnChange}
use Rattle.stock.specs.declared.Stamp.{Stamp}
use Rattle.stock.specs.declared.TurnStock.{TurnStock}
use Rattle.stock.specs.Spec.{clean_spec}
use Rattle.stock.specs.Cell.{cell_at, cell_fits, same_cell}
use Rattle.changes.specs.Change.{room_of, change_from, change_held, changes_from}
use Rattle.changes.specs.Commit.{only_removes, applies_to, passes, each_from, fall_after, first_fall, pass_all, put_all, commit_in, asked_stock, commit_of, Committed, generation_of, stock_at, cells_after, Applies}
use Rattle.changes.specs.Decide.{applies, rises, Decides, on_cells, step_of, steps_of, outcome_of, raised_of, is_accepted}
use Rattle.changes.proofs.Passed.{from_next, further}
use Rattle.changes.proofs.Falls.{rises-none, from-length}
use Rattle.stock.proofs.Count.{and_both}

-- ---- how the changes that are left decide it

-- the place of the first fall of those, behind the last one if there is any, the first of them at the place k
unfoldable fall_from : Bool → ℕ → ℕ → List TurnChange → Option ℕ
fall_from true k i l = fall_after k i l
fall_from false k i [] = None
fall_from false k i (c ∷ l) = fall_after (suc k) c.index l

-- a list that is decided so far, with the changes that are left
unfoldable with_rest : List Float → Decides → List TurnChange → Paper (Unit {0})
with_rest cs d l =
    demand_none (pick d.rises (fall_from d.any d.count d.last l) (Some d.fall)) 7
    (onward d.found (λ _. each_from d.spec d.n cs d.count l))

-- no more changes: the fall that is found, if any
fall-end : (r any : Bool) (k i f : ℕ) (q : Paper (Unit {0})) → demand_at r 7 f q ≡ demand_none (pick r (fall_from any k i []) (Some f)) 7 q
unfolding demand_at demand_none pick fall_from fall_after
fall-end true true k i f q = refl
fall-end true false k i f q = refl
fall-end false any k i f q = refl

-- the next index is above the last one, if there is any
fall-on : (r any : Bool) (k k' i f : ℕ) (c : TurnChange) (l : List TurnChange) → k' ≡ suc k
    → pick (r && (not any || ltb i c.index)) (fall_from true k' c.index l) (Some (pick r k f)) ≡ pick r (fall_from any k i (c ∷ l)) (Some f)
unfolding pick fall_from fall_after
fall-on true true k k' i f c l e = ap (λ (m : ℕ). pick (ltb i c.index) (fall_after m c.index l) (Some k)) e
fall-on true false k k' i f c l e = ap (λ (m : ℕ). fall_after m c.index l) e
fall-on false any k k' i f c l e = refl

first-is : (l : List TurnChange) → fall_from false 0 0 l ≡ first_fall l
unfolding fall_from first_fall
first-is [] = refl
first-is (c ∷ l) = refl

-- a place that is not the last has one behind it
next_place : (k m : ℕ) → k + suc m ≤ last_place → min (k + 1) last_place ≡ suc k
next_place k m h = omega arith

next-room : (k m : ℕ) → k + suc m ≤ last_place → min (k + 1) last_place + m ≤ last_place
next-room k m h = omega arith

from_first : (l : List TurnChange) → length l ≤ last_place → 0 + length l ≤ last_place
from_first l h = omega arith

module _ (cs : List Float) where
  found-end : (s : TurnStockSpec) (n k : ℕ) (q : Paper (Unit {0})) → onward q (λ _. each_from s n cs k []) ≡ q
  unfolding onward each_from
  found-end s n k (answers tt) = refl
  found-end s n k (refuses r) = refl

  found-on : (s : TurnStockSpec) (n k k' : ℕ) (c : TurnChange) (l : List TurnChange) (q : Paper (Unit {0})) → k' ≡ suc k
      → onward (onward q (λ _. placed k (passes s n cs c))) (λ _. each_from s n cs k' l) ≡ onward q (λ _. each_from s n cs k (c ∷ l))
  unfolding onward each_from
  found-on s n k k' c l (answers a) e = ap (λ (m : ℕ). onward (placed k (passes s n cs c)) (λ _. each_from s n cs m l)) e
  found-on s n k k' c l (refuses r) e = refl

  -- after the last change, and one change on
  comes-end : (d : Decides) → outcome_of d ≡ with_rest cs d []
  unfolding outcome_of with_rest
  comes-end d =
      fall-end d.rises d.any d.count d.last d.fall d.found
      ∙ ap (λ (q : Paper (Unit {0})). demand_none (pick d.rises (fall_from d.any d.count d.last []) (Some d.fall)) 7 q) (sym (found-end d.spec d.n d.count d.found))

  comes-on : (d : Decides) (c : TurnChange) (l : List TurnChange) → d.count + suc (length l) ≤ last_place → with_rest cs (step_of cs d c) l ≡ with_rest cs d (c ∷ l)
  unfolding with_rest
  comes-on d c l h =
      let e = next_place d.count (length l) h in
      ap (λ (o : Option ℕ). demand_none o 7 (onward (onward d.found (λ _. placed d.count (passes d.spec d.n cs c))) (λ _. each_from d.spec d.n cs (min (d.count + 1) last_place) l)))
      (fall-on d.rises d.any d.count (min (d.count + 1) last_place) d.last d.fall c l e)
      ∙ ap (λ (q : Paper (Unit {0})). demand_none (pick d.rises (fall_from d.any d.count d.last (c ∷ l)) (Some d.fall)) 7 q)
      (found-on d.spec d.n d.count (min (d.count + 1) last_place) c l d.found e)

  comes : (d : Decides) (l : List TurnChange) → d.count + length l ≤ last_place → outcome_of (steps_of cs d l) ≡ with_rest cs d l
  comes d [] h = comes-end d
  comes d (c ∷ l) h = comes (step_of cs d c) l (next-room d.count (length l) h) ∙ comes-on d c l h

  -- ---- from the first change on, of a list that a machine can hold

  pub outcome-is : (s : TurnStockSpec) (n : ℕ) (l : List TurnChange) → length l ≤ last_place → outcome_of (steps_of cs (on_cells s n) l) ≡ pass_all s n cs l
  unfolding with_rest onward pass_all
  outcome-is s n l h = comes (on_cells s n) l (from_first l h) ∙ ap (λ (o : Option ℕ). demand_none o 7 (each_from s n cs 0 l)) (pick_true true (fall_from false 0 0 l) (Some 0) refl ∙ first-is l)

  -- ---- the lent lists, change by change
  sides : (p q r m : Paper (Unit {0})) → q ≡ onward r (λ _. m) → onward p (λ _. q) ≡ onward (onward p (λ _. r)) (λ _. m)
  unfolding onward
  sides (answers a) q r m e = e
  sides (refuses k) q r m e = refl

  each_more : (s : TurnStockSpec) (n k : ℕ) (l m : List TurnChange) → each_from s n cs k (l ++ m) ≡ onward (each_from s n cs k l) (λ _. each_from s n cs (k + length l) m)
  unfolding onward each_from
  each_more s n k [] m =
      let e : k ≡ k + 0 = omega arith in
      ap (λ (j : ℕ). each_from s n cs j m) e
  each_more s n k (c ∷ l) m =
      let e : suc k + length l ≡ k + length (c ∷ l) = omega arith in
      sides (placed k (passes s n cs c)) (each_from s n cs (suc k) (l ++ m)) (each_from s n cs (suc k) l) (each_from s n cs (k + length (c ∷ l)) m) (each_more s n (suc k) l m ∙ ap (λ (j : ℕ). onward (each_from s n cs (suc k) l) (λ _. each_from s n cs j m)) e)

  module _ (s : TurnStockSpec) (n : ℕ) (is : List ℕ) (xs : List Float) where
    each-one : (i : ℕ) → each_from s n cs 0 (changes_from is xs (i + 1)) ≡ onward (each_from s n cs 0 (changes_from is xs i)) (λ _. placed i (passes s n cs (change_from is xs i)))
    unfolding each_from
    each-one i =
        let p = each_from s n cs 0 (changes_from is xs i) in
        let e : 0 + length (changes_from is xs i) ≡ i = omega (arith, from-length is xs i) in
        ap (each_from s n cs 0) (from_next is xs i)
        ∙ each_more s n 0 (changes_from is xs i) (change_from is xs i ∷ [])
        ∙ ap (λ (j : ℕ). onward p (λ _. each_from s n cs j (change_from is xs i ∷ []))) e
        ∙ ap (λ (q : Paper (Unit {0})). onward p (λ _. q)) (found-end s n (suc i) (placed i (passes s n cs (change_from is xs i))))

    -- one change more
    pub each_next : (i : ℕ) (p p' : Paper (Unit {0})) (c : TurnChange) → p ≡ each_from s n cs 0 (changes_from is xs i) → i < room_of (length is) (length xs) → c ≡ change_held is xs i → p' ≡ onward p (λ _. placed i (passes s n cs c)) → p' ≡ each_from s n cs 0 (changes_from is xs (i + 1))
    each_next i p p' c at h held on =
        on
        ∙ ap₂ (λ (q : Paper (Unit {0})) (x : TurnChange). onward q (λ _. placed i (passes s n cs x))) at (held ∙ pick_true _ _ _ (lt-ltb _ _ h))
        ∙ sym (each-one i)

    -- one that does not pass is the first of any longer list
    pub each-stops : (j k : ℕ) (r : Reason) → j ≤ k → each_from s n cs 0 (changes_from is xs j) ≡ refuses r → each_from s n cs 0 (changes_from is xs k) ≡ refuses r
    each-stops j k r h e =
        let o = further is xs j k h in
        ap (each_from s n cs 0) o.is-more
        ∙ each_more s n 0 (changes_from is xs j) o.rest
        ∙ ap (λ (q : Paper (Unit {0})). onward q (λ _. each_from s n cs (0 + length (changes_from is xs j)) o.rest)) e
        ∙ onward-refuses r _

-- where the indices rise, the list is decided by the first change that does not pass
pub rising-is : (s : TurnStockSpec) (n : ℕ) (cs : List Float) (l : List TurnChange) → rises l ≡ true → each_from s n cs 0 l ≡ pass_all s n cs l
unfolding pass_all
rising-is s n cs l r = sym (demand_none-none (first_fall l) 7 (each_from s n cs 0 l) (rises-none l r))

-- ---- 21, 22, 23
module _ (n : ℕ) (cs : List Float) (c : TurnChange) where
  pub no-bin : n ≤ c.index → refuses (only 21) ≡ applies_to n cs c
  unfolding applies_to
  no-bin h = sym (demand-false _ _ _ (le-ltb _ _ h))

  module _ (h : c.index < n) where
    pub holds-other : same_cell (cell_at cs c.index) c.before ≡ false → refuses (only 22) ≡ applies_to n cs c
    unfolding applies_to
    holds-other s = sym (demand-true _ _ _ (lt-ltb _ _ h) ∙ demand-false _ _ _ s)

    module _ (s : same_cell (cell_at cs c.index) c.before ≡ true) where
      pub adds : only_removes c.before c.after ≡ false → refuses (only 23) ≡ applies_to n cs c
      unfolding applies_to
      adds r = sym (demand-true _ _ _ (lt-ltb _ _ h) ∙ demand-true _ _ _ s ∙ demand-false _ _ _ r)

      pub asked-all : only_removes c.before c.after ≡ true → answers tt ≡ applies_to n cs c
      unfolding applies_to
      asked-all r = sym (demand-true _ _ _ (lt-ltb _ _ h) ∙ demand-true _ _ _ s ∙ demand-true _ _ _ r)

-- three tests that hold at once are each met
pub at_once : (n : ℕ) (cs : List Float) (c : TurnChange) → applies n cs c ≡ true → applies_to n cs c ≡ answers tt
unfolding applies applies_to
at_once n cs c e =
    let b = and_both (ltb c.index n && same_cell (cell_at cs c.index) c.before) (only_removes c.before c.after) e in
    let a = and_both (ltb c.index n) (same_cell (cell_at cs c.index) c.before) b.0 in
    demand-true _ _ _ a.0 ∙ demand-true _ _ _ a.1 ∙ demand-true _ _ _ b.1

-- a change that fits and applies passes, and adds no refusal to those before it
passes-by : (s : TurnStockSpec) (n : ℕ) (cs : List Float) (c : TurnChange) → cell_fits s c.after ≡ true → applies n cs c ≡ true → passes s n cs c ≡ answers tt
unfolding passes
passes-by s n cs c f a = demand-true _ _ _ f ∙ at_once n cs c a

goes_on : (i : ℕ) (p q : Paper (Unit {0})) → q ≡ answers tt → p ≡ answers tt → q ≡ onward q (λ _. placed i p)
unfolding onward placed
goes_on i p q e h = rw (e, h) refl

pub each-passes : (cs : List Float) (s : TurnStockSpec) (n : ℕ) (is : List ℕ) (xs : List Float) (i : ℕ) (c : TurnChange) → each_from s n cs 0 (changes_from is xs i) ≡ answers tt → i < room_of (length is) (length xs) → c ≡ change_held is xs i → cell_fits s c.after ≡ true → applies n cs c ≡ true
    → each_from s n cs 0 (changes_from is xs (i + 1)) ≡ answers tt
each-passes cs s n is xs i c at h held f a =
    let q = each_from s n cs 0 (changes_from is xs i) in
    sym (each_next cs s n is xs i q q c refl h held (goes_on i (passes s n cs c) q at (passes-by s n cs c f a))) ∙ at

-- ---- the generation after changes that pass
pub raised-stops : (r : Reason) (gen : ℕ) → raised_of (refuses r) gen ≡ refuses r
unfolding raised_of
raised-stops r gen = onward-refuses r (λ (_ : Unit {0}). demand (ltb gen last_generation) 12 (answers (gen + 1)))

pub raised-spent : (gen : ℕ) → gen ≡ last_generation → raised_of (answers tt) gen ≡ refuses (only 12)
unfolding raised_of
raised-spent gen h = simp (papers, le-ltb gen last_generation (omega arith))

pub raised-next : (gen : ℕ) → gen < last_generation → raised_of (answers tt) gen ≡ answers (gen + 1)
unfolding raised_of
raised-next gen h = simp (papers, lt-ltb gen last_generation h)

-- ---- what is answered of the whole list is the commit's answer
pub raised-in : (s : TurnStockSpec) (n : ℕ) (cs : List Float) (gen : ℕ) (l : List TurnChange) → raised_of (pass_all s n cs l) gen ≡ generation_of (commit_in s n cs gen l)
unfolding raised_of commit_in demand onward
raised-in s n cs gen l = at-pass (pass_all s n cs l)
  where
    at_test : (t : Bool) → demand t 12 (answers (gen + 1)) ≡ generation_of (demand t 12 (answers (record { cells = put_all cs l; generation = gen + 1 })))
    at_test true = refl
    at_test false = refl

    at-pass : (p : Paper (Unit {0})) → onward p (λ _. demand (ltb gen last_generation) 12 (answers (gen + 1)))
        ≡ generation_of (onward p (λ _. demand (ltb gen last_generation) 12 (answers (record { cells = put_all cs l; generation = gen + 1 }))))
    at-pass (answers a) = at_test (ltb gen last_generation)
    at-pass (refuses r) = refl

-- ---- what a commit leaves, by its answer

-- whether a paper answers
abbrev pub answering : {A : Type 0} → Paper A → Bool
answering (answers a) = true
answering (refuses r) = false

accepted-is : (r : Result TurnStock Refused) → is_accepted r ≡ answering (placed_of r)
accepted-is (Ok k) = refl
accepted-is (Err c) = refl

-- one that is handed on is none
pub handed_on : (r : Result TurnStock Refused) (e : Refused) → IsErrAnd r (λ y. y ≡ e) → is_accepted r ≡ false
handed_on r e h = let p = err_from_is_err_and r h in ap is_accepted p.1

answering-is : (p : Paper Committed) → answering (generation_of p) ≡ answering p
answering-is (answers k) = refl
answering-is (refuses r) = refl

at-is : (k : TurnStock) (p : Paper ℕ) → answering (stock_at k p) ≡ answering p
at-is k (answers g) = refl
at-is k (refuses r) = refl

-- a commit that answers leaves every after-cell in its bin
module _ (cs : List Float) (gen : ℕ) (l : List TurnChange) where
  abbrev pub Puts : Paper Committed → Type 0
  Puts p = answering p ≡ true → cells_after p cs ≡ put_all cs l

  puts-test : (t : Bool) → Puts (demand t 12 (answers (record { cells = put_all cs l; generation = gen + 1 })))
  unfolding demand
  puts-test true e = refl
  puts-test false e = absurd (false≢true e)

  pub puts-in : (s : TurnStockSpec) (n : ℕ) → Puts (commit_in s n cs gen l)
  unfolding commit_in onward
  puts-in s n = at-pass (pass_all s n cs l)
    where
      at-pass : (p : Paper (Unit {0})) → Puts (onward p (λ _. demand (ltb gen last_generation) 12 (answers (record { cells = put_all cs l; generation = gen + 1 }))))
      at-pass (answers a) = puts-test (ltb gen last_generation)
      at-pass (refuses r) = λ e. absurd (false≢true e)

-- so of a list that a stock is asked for
pub puts-all : (k : TurnStock) (cs bs : List Float) (st : Stamp) (l : List TurnChange) → Puts cs k.stamp.generation l (commit_of k cs bs st l)
unfolding onward commit_of
puts-all k cs bs st l = at-stock (asked_stock k cs bs st)
  where
    s : TurnStockSpec
    s = clean_spec k.spec

    at-stock : (p : Paper ℕ) → Puts cs k.stamp.generation l (onward p (λ n. commit_in s n cs k.stamp.generation l))
    at-stock (answers n) = puts-in cs k.stamp.generation l s n
    at-stock (refuses r) = λ e. absurd (false≢true e)

leaves : (p : Paper Committed) (cs : List Float) → answering p ≡ false → cells_after p cs ≡ cs
leaves (answers k) cs e = absurd (false≢true (sym e))
leaves (refuses r) cs e = refl

-- the answer is accepted and the cells are written, or it is a refusal and they are as they were
module _ (k : TurnStock) (p : Paper Committed) (cs : List Float) (r : Result TurnStock Refused) (e : placed_of r ≡ stock_at k (generation_of p)) where
  pub accepted-as : is_accepted r ≡ answering p
  accepted-as = accepted-is r ∙ ap answering e ∙ at-is k (generation_of p) ∙ answering-is p

  pub written : (gen : ℕ) (l : List TurnChange) → Puts cs gen l p → is_accepted r ≡ true → (cs' : List Float) → cs' ≡ put_all cs l → Applies k p r cs cs'
  written gen l puts a cs' q = record { answer = e; cells = q ∙ sym (puts (sym accepted-as ∙ a)) }

  pub refused : is_accepted r ≡ false → Applies k p r cs cs
  refused a = record { answer = e; cells = sym (leaves p cs (sym accepted-as ∙ a)) }
