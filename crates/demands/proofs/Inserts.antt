-- Whether an insert touches, said of the calls: an outcome that meets the promise of `insert::excess` or `insert::penetration` and answers is the best over the candidates, one that answers
-- nothing has no candidate that gives anything, and one of `insert::eroded` is the least over the samples, less the tolerance. `Greatest` is excess, `Least` penetration. Assumes nothing.
use Rattle.std.specs.Prelude.{Option, None, Some, Ok}
use mathlib.Core.Path.{◌≡◌, sym}
use mathlib.Core.Bool.{Bool, true, false}
use mathlib.Core.List.{List}
use Prim.Native.Nat.{ℕ}
use lib.Dec.{T}
use lib.ListN.{get_or}
use lib.Ieee.{Float, nan, binary64, fits, lt}
use Rattle.refusals.specs.Number.{paper_of}
use Rattle.refusals.specs.Paper.{answers, demand}
use Rattle.floats.specs.Numbers.{clean_of}
use Rattle.stock.proofs.Count.{same_answer, no_answer}
use Rattle.insert.specs.declared.Which.{Which}
use Rattle.insert.specs.declared.Which.TheVariants.{Least}
use Rattle.insert.specs.Insert.{touch_asks, eroded_asks, touch_at, touch_of, touched, offset_of, eroded_of}
use Rattle.insert.proofs.Best.{Reached, Candidate, touch-best, nothing-exactly}
use Rattle.insert.proofs.Eroding.{Offset, eroded-below}

module _ (w : Which) (ps gs : List Float) (t : Float) where
  -- what is answered is what the rule gives of the clean tolerance
  answered : (r : Option Float) → answers r ≡ touched w ps gs t → r ≡ touch_of w ps gs (clean_of t)
  unfolding touched demand
  answered r e = go (touch_asks ps gs t) e
    where
      go : (b : Bool) → answers r ≡ demand b 14 (answers (touch_of w ps gs (clean_of t))) → r ≡ touch_of w ps gs (clean_of t)
      go true e = same_answer e
      go false e = absurd (no_answer _ _ (sym e))

  -- excess and penetration are attained
  pub touch-attained : (x : Float) → paper_of (Ok (Some x)) ≡ touched w ps gs t → Reached (touch_at w ps gs (clean_of t)) (Candidate w ps gs (clean_of t)) x
  touch-attained x e = (touch-best w ps gs (clean_of t)).attained x (sym (answered (Some x) e))

  -- and no candidate has more
  pub touch-most : (x : Float) → paper_of (Ok (Some x)) ≡ touched w ps gs t → (u y : Float) → Candidate w ps gs (clean_of t) u → touch_at w ps gs (clean_of t) u ≡ Some y → lt x y ≡ false
  touch-most x e u y c g = rw (← answered (Some x) e) at ((touch-best w ps gs (clean_of t)).most u y c g)

  -- nothing is answered where no candidate gives anything
  pub touch-nothing : paper_of (Ok None) ≡ touched w ps gs t → (u : Float) → Candidate w ps gs (clean_of t) u → touch_at w ps gs (clean_of t) u ≡ None
  touch-nothing e = (nothing-exactly w ps gs (clean_of t)).0 (sym (answered None e))

-- what is eroded is the least radius over the samples, which all have one, less the tolerance
pub eroded-least : (ps : List Float) (held : (i : ℕ) → T (fits binary64 (get_or ps i nan))) (u t x : Float) → paper_of (Ok (Some x)) ≡ eroded_of ps u t → Offset ps held Least (clean_of t) (clean_of u) x
unfolding eroded_of demand
eroded-least ps held u t x e = go (eroded_asks ps u t) e
  where
    go : (b : Bool) → answers (Some x) ≡ demand b 14 (answers (offset_of Least ps (clean_of t) (clean_of u))) → Offset ps held Least (clean_of t) (clean_of u) x
    go true e = eroded-below ps held Least (clean_of t) (clean_of u) x (sym (same_answer e))
    go false e = absurd (no_answer _ _ (sym e))
