-- The places of the rows: what is read at one, and what a write leaves at the others. Assumes nothing.
use Rattle.std.specs.Prelude.{Option, None, Some}
use mathlib.Core.Path.{◌≡◌, sym, ap, ap₂, ◌∙◌}
use mathlib.Core.Bool.{Bool, true, false}
use mathlib.Core.List.{List}
use Prim.Native.Nat.{ℕ, ◌+◌, ◌*◌, ◌≤◌, ◌<◌}
use native.Mathlib.Omega.{arith}
use lib.ListN.{length, get_or, set, replicate, length-replicate, get_or-replicate, get_or-eq_default}
use lib.Seq.{get_or-set_same, get_or-set_other}
use lib.Ieee.{Float, nan}
use Rattle.floats.specs.Pick.{pick, pick_true, pick-false}
use Rattle.cuts.specs.Rows.{low_at, row_at, Room, Unfilled, PutLow, PutRow}

module _ (xs : List Float) (is : List Bool) (k : ℕ) where
  -- past the end of the flags there is nothing
  pub low-past : length is ≤ k → low_at xs is k ≡ None
  unfolding low_at
  low-past h = pick-false _ _ _ (get_or-eq_default is false h)

  -- and where the flag says so
  pub low-none : get_or is k false ≡ false → low_at xs is k ≡ None
  unfolding low_at
  low-none e = pick-false _ _ _ e

  -- else the number, and no number past the end of the numbers
  pub low-some : get_or is k false ≡ true → low_at xs is k ≡ Some (get_or xs k nan)
  unfolding low_at
  low-some e = pick_true _ _ _ e

  pub low-nan : get_or is k false ≡ true → length xs ≤ k → low_at xs is k ≡ Some nan
  low-nan e h = low-some e ∙ ap Some (get_or-eq_default xs nan h)

  -- nothing, put there
  pub put-none : {o : Option Float} → o ≡ None → k < length is → PutLow xs is xs (set is k false) k o
  unfolding low_at
  put-none e h = record {
    here = pick-false _ _ _ (get_or-set_same is k false false h) ∙ sym e;
    others = λ m n. ap (λ (b : Bool). pick b (Some (get_or xs m nan)) None) (get_or-set_other is k m false false n);
  }

  -- a radius, put there
  pub put_some : {o : Option Float} (x : Float) → o ≡ Some x → k < length xs → k < length is → PutLow xs is (set xs k x) (set is k true) k o
  unfolding low_at
  put_some x e h g = record {
    here = pick_true _ _ _ (get_or-set_same is k true false g) ∙ ap Some (get_or-set_same xs k x nan h) ∙ sym e;
    others = λ m n. ap₂ (λ (b : Bool) (y : Float). pick b (Some y) None) (get_or-set_other is k m true false n) (get_or-set_other xs k m x nan n);
  }

-- low and high of a bin, put at their places one after the other
pub put_both : {xs ys zs : List Float} {is js ks : List Bool} (i : ℕ) (l h : Option Float) → PutLow xs is ys js (2 * i) l → PutLow ys js zs ks (2 * i + 1) h → PutRow (row_at xs is) (row_at zs ks) i (record { low = l; high = h })
put_both i l h p q = record {
  here = λ d. record { low = (q.others (2 * i) (λ e. omega arith) ∙ p.here) d; high = q.here d };
  others = λ j n d. record {
    low = (q.others (2 * j) (λ e. omega arith) ∙ p.others (2 * j) (λ e. n (omega arith))) d;
    high = (q.others (2 * j + 1) (λ e. n (omega arith)) ∙ p.others (2 * j + 1) (λ e. omega arith)) d;
  };
}

-- ---- fresh rows
module _ (m n : ℕ) (x : Float) (h : 2 * n ≤ m) where
  pub fresh-room : Room n (replicate m x) (replicate m false)
  fresh-room = record { numbers = simp length-replicate h; flags = simp length-replicate h }

  pub fresh-empty : Unfilled 0 n (row_at (replicate m x) (replicate m false))
  unfolding low_at
  fresh-empty j o l = λ d. record {
    low = pick-false (get_or (replicate m false) (2 * j) false) (Some (get_or (replicate m x) (2 * j) nan)) None (get_or-replicate m (2 * j) false false (omega arith)) d;
    high = pick-false (get_or (replicate m false) (2 * j + 1) false) (Some (get_or (replicate m x) (2 * j + 1) nan)) None (get_or-replicate m (2 * j + 1) false false (omega arith)) d;
  }
