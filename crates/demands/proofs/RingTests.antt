-- Demand 3 of Req 14's ring work: the tests that each accepted ring takes are those of 01's steps, and how many they can be. The promises say that what a call tells is what is defined: `Removes` of `remove_ring`, `list_tests` of a list, `MovesTold` and `RebuildsTold` of a move and of
-- a rebuild. Assumes nothing.
use Rattle.std.specs.Prelude.{Ok}
use Prim.Native.Nat.{ℕ, ◌*◌, ◌≤◌, ◌<◌}
use native.Mathlib.Omega.{arith}
use mathlib.Core.Path.{◌≡◌, refl, sym}
use mathlib.Core.Logic.{◌⊎◌}
use mathlib.Core.Bool.{Bool, true, false, ◌&&◌}
use mathlib.Core.List.{List, [], ◌∷◌, ◌++◌}
use lib.ListN.{length}
use lib.Ieee.{Float}
use Rattle.refusals.specs.Paper.{Paper, answers, refuses, onward}
use Rattle.floats.specs.Each.{Each}
use Rattle.stock.specs.declared.TurnStock.{TurnStock}
use Rattle.stock.specs.Spec.{clean_spec}
use Rattle.stock.proofs.Count.{same_answer, no_answer, demanded}
use Rattle.rings.specs.declared.Ring.{Ring}
use Rattle.rings.specs.Ring.{filled, kept, in_hand, clip, left}
use Rattle.rings.specs.Store.{bar_ring, rings_of}
use Rattle.rings.specs.Remove.{RingStore, room_for, added, remove_ring, Removes}
use Rattle.rings.specs.Tests.{tests_for, while_stored, tests_list, ring_tests}
use Rattle.rings.proofs.InHand.{kept-few}
use Rattle.rings.proofs.Tested.{tests-most, tests-least, tests-first, tests-empty, no-tests}
use Rattle.rings.proofs.Adding.{added-room}

and-fst : (a b : Bool) → (a && b) ≡ true → a ≡ true
and-fst true b e = refl
and-fst false b e = e

-- 11 bounds the pieces in hand of an accepted ring
accepted-hand : (room : ℕ) (ks : List Ring) (c : Ring) (l : List Ring) → added room ks c ≡ answers l → in_hand 256 (kept c) ks ≡ true
unfolding added room_for
accepted-hand room ks c l a = and-fst _ _ (demanded (room_for room ks c) 11 (answers (ks ++ left ks c)) l a).0

-- ---- of any rings ks stored before, in 01's steps
module _ (e : Ring) (ks : List Ring) (q : Ring) where
  -- 256 for each ring at most, where the ring is accepted
  pub at_most : (room : ℕ) (l : List Ring) → added room ks (clip e q) ≡ answers l → tests_for e ks q ≤ 256 * length ks
  unfolding tests_for
  at_most room l a = tests-most (kept (clip e q)) ks (let f = kept-few (clip e q) in omega arith) (accepted-hand room ks (clip e q) l a)

  -- one for each ring at least, where something is left of it
  pub at_least : 0 < length (left ks (clip e q)) → length ks ≤ tests_for e ks q
  unfolding tests_for left
  at_least h = tests-least (kept (clip e q)) ks h

  -- none exactly where no ring is stored before it, or where it is empty after clipping
  pub none-when : tests_for e ks q ≡ 0 → (ks ≡ []) ⊎ (filled (clip e q) ≡ false)
  unfolding tests_for
  none-when z = no-tests (clip e q) ks z

  pub none-empty : filled (clip e q) ≡ false → tests_for e ks q ≡ 0
  unfolding tests_for
  none-empty f = tests-empty (clip e q) ks f

pub none_first : (e q : Ring) → tests_for e [] q ≡ 0
unfolding tests_for
none_first e q = tests-first (kept (clip e q))

-- ---- of a list: each of its numbers is 65,536 at most
pub list-most : (e : Ring) (room : ℕ) (ks qs : List Ring) → room ≤ 256 → length ks ≤ room → Each (λ (t : ℕ). t ≤ 65536) (tests_list e room ks qs)
unfolding tests_list
list-most e room ks [] r h = tt
list-most e room ks (q ∷ qs) r h = go (added room ks (clip e q)) refl (λ l. list-most e room l qs r)
  where
    go : (p : Paper (List Ring)) → added room ks (clip e q) ≡ p → ((l : List Ring) → length l ≤ room → Each (λ (t : ℕ). t ≤ 65536) (tests_list e room l qs)) → Each (λ (t : ℕ). t ≤ 65536) (while_stored p (λ l. tests_for e ks q ∷ tests_list e room l qs))
    go (answers l) a k = (let m = at_most e ks q room l a in omega arith, k l (added-room room ks (clip e q) l a).1)
    go (refuses n) a k = tt

-- ---- what `remove_ring` tells of an accepted ring
module _ (k k' : TurnStock) (xs ys : List Float) (q : Ring) (t : ℕ) (a : Removes k xs (remove_ring k.spec xs k.rings k.stamp.generation q) (ring_tests k.spec xs k.rings q) (Ok (record { stock = k'; tests = t })) ys) where
  -- what is told is what is defined
  pub told-ring : t ≡ tests_for (bar_ring (clean_spec k.spec)) (rings_of k.rings xs) q
  unfolding ring_tests onward
  told-ring = go (remove_ring k.spec xs k.rings k.stamp.generation q) a.tests
    where
      m : ℕ
      m = tests_for (bar_ring (clean_spec k.spec)) (rings_of k.rings xs) q

      go : (p : Paper RingStore) → answers t ≡ onward p (λ _. answers m) → t ≡ m
      go (answers s) h = same_answer h
      go (refuses x) h = absurd (no_answer x t (sym h))
