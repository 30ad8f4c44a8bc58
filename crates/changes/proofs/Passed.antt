-- The first changes of the lent lists: one more, that their indices rise, and their after-cells put. Assumes nothing.
use mathlib.Core.Path.{◌≡◌, refl, sym, ap, ◌∙◌}
use mathlib.Core.Bool.{Bool, true, false, ◌&&◌}
use mathlib.Core.List.{List, [], ◌∷◌, ◌++◌, append_assoc, append-nil, foldl-append}
use Prim.Native.Nat.{ℕ, zero, suc, ◌+◌, ◌-◌, ◌*◌, ◌/◌, ◌≤◌, ◌<◌}
use native.Mathlib.Nat.{add-zero, add-suc}
use native.Mathlib.Numerals.{add-one}
use native.Mathlib.Omega.{arith}
use lib.Dec.{ltb}
use lib.ListN.{length, get_or}
use lib.Seq.{sets, length-sets}
use lib.Ieee.{Float}
use Rattle.stock.specs.declared.TurnChange.{TurnChange}
use Rattle.floats.specs.Pick.{pick, pick_true, pick-false}
use Rattle.stock.specs.declared.TurnCell.{TurnCell}
use Rattle.stock.specs.Cell.{four_of, put_cell}
use Rattle.changes.specs.Change.{change_from, changes_from}
use Rattle.changes.specs.Commit.{put_all}
use Rattle.changes.specs.Decide.{rises_after, rises}

-- ---- where the two cells of change j start in the numbers
pub before_at : (j : ℕ) → 8 * j ≡ 4 * (2 * j)
before_at j = omega arith

pub after-at : (j : ℕ) → 8 * j + 4 ≡ 4 * (2 * j + 1)
after-at j = omega arith

-- ---- the first changes of the lent lists
module _ (is : List ℕ) (xs : List Float) where
  pub from_next : (j : ℕ) → changes_from is xs (j + 1) ≡ changes_from is xs j ++ (change_from is xs j ∷ [])
  unfolding changes_from
  from_next j = rw (add-one j)

  -- more of them have the fewer at their front
  pub record Onward (j k : ℕ) : Type 0 where
    pub rest : List TurnChange
    pub is-more : changes_from is xs k ≡ changes_from is xs j ++ rest

  onward-by : (j d : ℕ) → Onward j (j + d)
  unfolding changes_from
  onward-by j zero = record { rest = []; is-more = ap (changes_from is xs) (add-zero j) ∙ sym (append-nil (changes_from is xs j)) }
  onward-by j (suc d) =
      let o = onward-by j d in
      record {
        rest = o.rest ++ (change_from is xs (j + d) ∷ []);
        is-more = ap (changes_from is xs) (add-suc j d) ∙ ap (λ (l : List TurnChange). l ++ (change_from is xs (j + d) ∷ [])) o.is-more ∙ append_assoc (changes_from is xs j) o.rest (change_from is xs (j + d) ∷ []);
      }

  pub further : (j k : ℕ) → j ≤ k → Onward j k
  further j k h =
      let e : j + (k - j) ≡ k = omega arith in
      rw e at (onward-by j (k - j))

-- ---- rising indices
and-swap : (a b c : Bool) → (a && (b && c)) ≡ ((a && b) && c)
and-swap true b c = refl
and-swap false b c = refl

and-true : (a : Bool) → (a && true) ≡ a
and-true true = refl
and-true false = refl

rises-after : (i : ℕ) (l : List TurnChange) (c d : TurnChange) → rises_after i (l ++ (c ∷ d ∷ [])) ≡ (rises_after i (l ++ (c ∷ [])) && ltb c.index d.index)
unfolding rises_after
rises-after i [] c d = ap (λ (t : Bool). ltb i c.index && t) (and-true (ltb c.index d.index)) ∙ ap (λ (t : Bool). t && ltb c.index d.index) (sym (and-true (ltb i c.index)))
rises-after i (e ∷ l) c d = ap (λ (t : Bool). ltb i e.index && t) (rises-after e.index l c d) ∙ and-swap (ltb i e.index) (rises_after e.index (l ++ (c ∷ []))) (ltb c.index d.index)

rises-two : (l : List TurnChange) (c d : TurnChange) → rises (l ++ (c ∷ d ∷ [])) ≡ (rises (l ++ (c ∷ [])) && ltb c.index d.index)
unfolding rises rises_after
rises-two [] c d = and-true (ltb c.index d.index)
rises-two (e ∷ l) c d = rises-after e.index l c d

-- one change, or none
pub rises-one : (is : List ℕ) (xs : List Float) (k : ℕ) → k ≤ 1 → rises (changes_from is xs k) ≡ true
unfolding rises rises_after changes_from
rises-one is xs zero h = refl
rises-one is xs (suc zero) h = refl
rises-one is xs (suc (suc k)) h = absurd (omega arith)

-- one change more
pub rises_next : (is : List ℕ) (xs : List Float) (i : ℕ) → 0 < i → rises (changes_from is xs (i + 1)) ≡ (rises (changes_from is xs i) && ltb (get_or is (i - 1) 0) (get_or is i 0))
unfolding changes_from
rises_next is xs zero h = absurd (omega arith)
rises_next is xs (suc i) h =
    let e : suc i - 1 ≡ i = omega arith in
    ap rises (ap (changes_from is xs) (add-one (suc i)) ∙ append_assoc (changes_from is xs i) (change_from is xs i ∷ []) (change_from is xs (suc i) ∷ []))
    ∙ rises-two (changes_from is xs i) (change_from is xs i) (change_from is xs (suc i))
    ∙ ap (λ (j : ℕ). rises (changes_from is xs i ++ (change_from is xs i ∷ [])) && ltb (get_or is j 0) (get_or is (suc i) 0)) (sym e)

-- ---- one after-cell more
pub put_next : (cs : List Float) (is : List ℕ) (xs : List Float) (i : ℕ) → put_all cs (changes_from is xs (i + 1)) ≡ put_cell (put_all cs (changes_from is xs i)) (change_from is xs i).index (change_from is xs i).after
put_next cs is xs i = ap (put_all cs) (from_next is xs i) ∙ foldl-append _ _ (changes_from is xs i) (change_from is xs i ∷ [])

put_same : (cs : List Float) (i : ℕ) (c : TurnCell) → length (put_cell cs i c) ≡ length cs
unfolding put_cell
put_same cs i c = go (ltb i (length cs / 4))
  where
    go : (t : Bool) → length (pick t (sets cs (4 * i) (four_of c)) cs) ≡ length cs
    go true = ap length (pick_true true _ _ refl) ∙ length-sets cs (4 * i) (four_of c)
    go false = ap length (pick-false false _ _ refl)

-- a commit keeps the number of cells
pub put-length : (l : List TurnChange) (cs : List Float) → length (put_all cs l) ≡ length cs
put-length [] cs = refl
put-length (c ∷ l) cs = put-length l (put_cell cs c.index c.after) ∙ put_same cs c.index c.after
