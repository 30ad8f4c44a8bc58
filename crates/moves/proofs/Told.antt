-- The tests that a move and a rebuild tell: those of the rings as they were before. Assumes nothing.
use Rattle.std.specs.Prelude.{Err, Ok, Result}
use mathlib.Core.Path.{◌≡◌, refl, sym, ap, ◌∙◌}
use mathlib.Core.Bool.{Bool, true, false}
use mathlib.Core.List.{List}
use Prim.Native.Nat.{ℕ}
use lib.Ieee.{Float}
use Rattle.refusals.specs.Number.{placed_of}
use Rattle.refusals.specs.declared.Refused.{Refused}
use Rattle.refusals.specs.Paper.{Paper, Reason, answers, refuses, onward}
use Rattle.floats.specs.Pick.{pick, pick_true, pick-false}
use Rattle.stock.specs.declared.TurnStockSpec.{TurnStockSpec}
use Rattle.stock.specs.declared.TurnStock.{TurnStock}
use Rattle.stock.proofs.Count.{no_answer, same_answer, demanded}
use Rattle.changes.specs.declared.ChangeList.{ChangeList}
use Rattle.rings.specs.declared.Ring.{Ring}
use Rattle.rings.specs.Store.{store_as}
use Rattle.rings.specs.declared.RingCount.{RingCount}
use Rattle.rings.specs.Remove.{remove_rings, count_of, store_after, StoresAs}
use Rattle.rings.specs.Tests.{list_tests}
use Rattle.rings.proofs.Listed.{tests-after}
use Rattle.moves.specs.Move.{Left, RingsLeft, generation_after, rings_moved, move_of, parts_of, counts_of, moved_rings, is_moved, told_tests}
use Rattle.moves.specs.Then.{Shifts, is_stored}
use Rattle.moves.proofs.Answered.{answered}
use Rattle.moves.proofs.Moving.{moved_as, moved-not}
use Rattle.moves.proofs.Accepted.{taken}
use Rattle.moves.proofs.FromParts.{parts}

-- told of the rings afterwards where a rule answers, they are those of the rings before
module _ {A : Type 0} (p : Paper A) (l : A → List Ring) (t : Bool) (spec : TurnStockSpec) (xs xs' : List Float) (n : ℕ) (removed : List Float) (ts ts' : List ℕ) (e : ts' ≡ pick t (list_tests spec xs' n removed ts) ts) where
  pub told-where : ((a : A) → p ≡ answers a → (t ≡ true) × (xs' ≡ store_as xs (l a)) × (remove_rings spec xs n removed ≡ answers (l a))) → ((x : Reason) → p ≡ refuses x → t ≡ false) → ts' ≡ told_tests p (list_tests spec xs n removed ts) ts
  told-where ok off = go p refl
    where
      go : (q : Paper A) → p ≡ q → ts' ≡ told_tests p (list_tests spec xs n removed ts) ts
      go (answers a) f =
          let y = ok a f in
          e ∙ pick_true _ _ _ y.0 ∙ ap (λ (zs : List Float). list_tests spec zs n removed ts) y.1 ∙ tests-after spec xs n removed (l a) ts y.2 ∙ sym (ap (λ (q : Paper A). told_tests q (list_tests spec xs n removed ts) ts) f)
      go (refuses x) f = e ∙ pick-false _ _ _ (off x f) ∙ sym (ap (λ (q : Paper A). told_tests q (list_tests spec xs n removed ts) ts) f)

-- the rings of a move are those of its list
pub moved-rings : (k : TurnStock) (xs removed : List Float) (a : RingsLeft) → rings_moved k xs removed ≡ answers a → remove_rings k.spec xs k.rings removed ≡ answers a.rings
unfolding rings_moved
moved-rings k xs removed a h =
    let d = demanded _ _ _ _ h in
    let r = answered _ _ _ d.1 in
    let t : ◌≡◌ {A = RingsLeft} (record { rings = r.value; generation = generation_after k.spec k.stamp.generation removed }) a = same_answer r.then in
    r.first ∙ ap (λ (x : RingsLeft). answers x.rings) t

-- ---- a move
pub moved_told : (k : TurnStock) (cs bs xs : List Float) (list : ChangeList) (is : List ℕ) (ys removed : List Float) (r : Result RingCount Refused) (cs' xs' : List Float) (t : Bool) (ts ts' : List ℕ) → Shifts (move_of k cs bs xs list is ys removed) r cs cs' xs xs' → t ≡ is_moved r
    → ts' ≡ pick t (list_tests k.spec xs' k.rings removed ts) ts → ts' ≡ told_tests (move_of k cs bs xs list is ys removed) (list_tests k.spec xs k.rings removed ts) ts
moved_told k cs bs xs list is ys removed r cs' xs' t ts ts' s f e =
    told-where (move_of k cs bs xs list is ys removed) (λ (a : Left). a.rings) t k.spec xs xs' k.rings removed ts ts' e
    (λ a h. (f ∙ moved_as r _ (s.answer ∙ ap counts_of h), s.rings ∙ ap (λ (p : Paper Left). moved_rings p xs) h, (taken k cs bs xs list is ys removed a h).rule))
    (λ x h. f ∙ moved-not r x (s.answer ∙ ap counts_of h))

-- ---- a rebuild
stored-as : (r : Result ℕ Refused) (n : ℕ) → placed_of r ≡ answers n → is_stored r ≡ true
stored-as (Ok m) n h = refl
stored-as (Err c) n h = absurd (no_answer _ n h)

stored-not : (r : Result ℕ Refused) (x : Reason) → placed_of r ≡ refuses x → is_stored r ≡ false
stored-not (Ok m) x h = absurd (no_answer x m (sym h))
stored-not (Err c) x h = refl

pub rebuilt-told : (spec : TurnStockSpec) (cs : List Float) (len : ℕ) (given xs xs' : List Float) (r : Result ℕ Refused) (t : Bool) (ts ts' : List ℕ) → StoresAs xs (parts_of spec cs len given xs) r xs' → t ≡ is_stored r
    → ts' ≡ pick t (list_tests spec xs' 0 given ts) ts → ts' ≡ told_tests (parts_of spec cs len given xs) (list_tests spec xs 0 given ts) ts
unfolding count_of onward
rebuilt-told spec cs len given xs xs' r t ts ts' s f e =
    told-where (parts_of spec cs len given xs) (λ (l : List Ring). l) t spec xs xs' 0 given ts ts' e
    (λ l h. (f ∙ stored-as r _ (s.answer ∙ ap count_of h), s.store ∙ ap (store_after xs) h, (parts spec cs len xs given l h).rule))
    (λ x h. f ∙ stored-not r x (s.answer ∙ ap count_of h))
