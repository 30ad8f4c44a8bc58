-- What a file tells does not depend on the bar that stands in its reading before the first line. Assumes nothing.
use Rattle.std.specs.Prelude.{Option, Some, None}
use Prim.Native.Nat.{ℕ, ◌+◌, ◌%◌, ◌^◌, ◌<◌}
use native.Mathlib.Omega.{arith}
use mathlib.Core.Path.{◌≡◌, refl, sym, ap, ◌∙◌}
use mathlib.Core.Bool.{Bool, true, false}
use mathlib.Core.List.{List, [], ◌∷◌}
use lib.Dec.{eqb, ltb}
use lib.ListN.{length}
use lib.Ieee.{Float}
use Rattle.floats.specs.Pick.{pick_true, pick-false}
use Rattle.text.proofs.Parting.{some}
use Rattle.lines.specs.File.{pieces_of, ended, line_on_bytes, over_pieces}
use Rattle.stock_lines.specs.declared.Bar.{Bar}
use Rattle.stock_lines.specs.declared.Reading.{Reading}
use Rattle.stock_lines.specs.declared.form.First.{First}
use Rattle.stock_lines.specs.First.{first_of}
use Rattle.stock_lines.specs.Reading.{State, state, refusing, begun}
use Rattle.stock_lines.proofs.Readings.{line_first}
use Rattle.stock_file.specs.Read.{fresh_reading, on_long, told_as, file_in}
use Rattle.stock_file.proofs.Ends.{told_line}
use Rattle.stock_file.proofs.Spelt.{walk, stopped-walk}

-- a reading before its first line, with any bar
abbrev pub fresh : Bar → Reading
fresh b = record { stage = 0; form = 0; edition = 0; bar = b; cells = 0; rings = 0; lines = 0; refused = false }

-- two states that tell the same, in the same room
pub record SameTold (a b : State) : Type 0 where
  pub told : (most : ℕ) → told_as a.reading most a.cells a.rings ≡ told_as b.reading most b.cells b.rings
  pub cells : a.cells ≡ b.cells
  pub rings : a.rings ≡ b.rings

same-state : {a b : State} → a ≡ b → SameTold a b
same-state e = record { told = λ most. ap (λ (x : State). told_as x.reading most x.cells x.rings) e; cells = ap (λ (x : State). x.cells) e; rings = ap (λ (x : State). x.rings) e }

module _ (b b' : Bar) (cs rs : List Float) where
  abbrev st : Bar → State
  st x = state (fresh x) cs rs

  -- both refused at the first line
  both : {x y : State} → x ≡ on_long (st b) → y ≡ on_long (st b') → SameTold x y
  unfolding refusing
  both {x} {y} e f =
      let one : 1 ≡ (0 + 1) % 2 ^ 64 = omega arith in
      record {
        told = λ most.
            ap (λ (z : State). told_as z.reading most z.cells z.rings) e
            ∙ sym (told_line (refusing (fresh b)) most cs rs 1 refl one)
            ∙ told_line (refusing (fresh b')) most cs rs 1 refl one
            ∙ sym (ap (λ (z : State). told_as z.reading most z.cells z.rings) f);
        cells = ap (λ (z : State). z.cells) e ∙ sym (ap (λ (z : State). z.cells) f);
        rings = ap (λ (z : State). z.rings) e ∙ sym (ap (λ (z : State). z.rings) f);
      }

  -- the end in its place
  at_end : (x : Bar) (l : List ℕ) → walk (st x) (l ∷ []) ≡ on_long (st x)
  unfolding over_pieces ended
  at_end x l = by (eqb (length l) 0) refl
    where
      by : (t : Bool) → eqb (length l) 0 ≡ t → walk (st x) (l ∷ []) ≡ on_long (st x)
      by true e = pick-false _ _ _ refl ∙ pick_true _ _ _ e ∙ pick_true _ _ _ refl
      by false e = pick-false _ _ _ refl ∙ pick-false _ _ _ e

  module _ (l m : List ℕ) (ls : List (List ℕ)) where
    too_long : (x : Bar) → ltb (length l) 128 ≡ false → walk (st x) (l ∷ m ∷ ls) ≡ on_long (st x)
    unfolding over_pieces line_on_bytes refusing
    too_long x e = ap (λ (y : State). walk y (m ∷ ls)) (pick-false _ _ _ refl ∙ pick-false _ _ _ e) ∙ stopped-walk (m ∷ ls) (on_long (st x)) refl

    first : (x : Bar) (f : Option First) → ltb (length l) 128 ≡ true → first_of l ≡ f → walk (st x) (l ∷ m ∷ ls) ≡ walk (state (begun (fresh x) f) cs rs) (m ∷ ls)
    unfolding over_pieces line_on_bytes
    first x f e q = ap (λ (y : State). walk y (m ∷ ls)) (pick-false _ _ _ refl ∙ pick_true _ _ _ e ∙ line_first (st x) l refl ∙ ap (λ (g : Option First). state (begun (fresh x) g) cs rs) q)

    no-first : (x : Bar) → ltb (length l) 128 ≡ true → first_of l ≡ None → walk (st x) (l ∷ m ∷ ls) ≡ on_long (st x)
    unfolding begun refusing
    no-first x e q = first x None e q ∙ stopped-walk (m ∷ ls) (on_long (st x)) refl

    a-line : SameTold (walk (st b) (l ∷ m ∷ ls)) (walk (st b') (l ∷ m ∷ ls))
    unfolding begun
    a-line = by (ltb (length l) 128) refl (first_of l) refl
      where
        by : (t : Bool) → ltb (length l) 128 ≡ t → (f : Option First) → first_of l ≡ f → SameTold (walk (st b) (l ∷ m ∷ ls)) (walk (st b') (l ∷ m ∷ ls))
        by false e f q = both (too_long b e) (too_long b' e)
        by true e None q = both (no-first b e q) (no-first b' e q)
        by true e (Some x) q = same-state (first b (Some x) e q ∙ sym (first b' (Some x) e q))

  pieces : (ls : List (List ℕ)) → 0 < length ls → SameTold (walk (st b) ls) (walk (st b') ls)
  pieces [] h = absurd (omega arith)
  pieces (l ∷ []) h = both (at_end b l) (at_end b' l)
  pieces (l ∷ m ∷ ls) h = a-line l m ls

-- from a reading with any bar, a whole file tells and leaves the same
pub any-bar : (b : Bar) (cs rs : List Float) (s : List ℕ) → SameTold (walk (state (fresh b) cs rs) (pieces_of s)) (file_in cs rs s)
any-bar b cs rs s = pieces b fresh_reading.bar cs rs (pieces_of s) (some 10 s)
