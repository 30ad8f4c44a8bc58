-- Write after read: bytes that tell a stock are the bytes of its file. Assumes nothing.
use Prim.Native.Nat.{ℕ, ◌≤◌, ◌<◌}
use native.Mathlib.Omega.{arith}
use mathlib.Core.Path.{◌≡◌, refl, sym, ap, ◌∙◌}
use mathlib.Core.Bool.{Bool, true, false, true≢false}
use mathlib.Core.List.{List, [], ◌∷◌, ◌++◌}
use lib.Dec.{eqb, ltb}
use lib.ListN.{length}
use borrow.Author.Tests.{eqb-true, ltb-false}
use Rattle.floats.specs.Pick.{pick_true, pick-false}
use Rattle.text.specs.Parts.{into_first}
use Rattle.text.proofs.Parting.{parted-end, parted-here, parted-on, some}
use Rattle.lines.specs.File.{pieces_of, ended, line_on_bytes, over_pieces}
use Rattle.stock_lines.specs.Reading.{State, refusing, on_line}
use Rattle.stock_file.specs.Read.{stopped, on_long, on_end}

-- ---- the bytes of pieces

-- pieces with a newline between them
unfoldable pub parted : List (List ℕ) → List ℕ
parted [] = []
parted (l ∷ []) = l
parted (l ∷ m ∷ ls) = l ++ (10 ∷ parted (m ∷ ls))

into : (b : ℕ) (ps : List (List ℕ)) → 0 < length ps → parted (into_first b ps) ≡ b ∷ parted ps
unfolding parted into_first
into b [] h = absurd (omega arith)
into b (l ∷ []) h = refl
into b (l ∷ m ∷ ls) h = refl

newline-before : (ps : List (List ℕ)) → 0 < length ps → parted ([] ∷ ps) ≡ 10 ∷ parted ps
unfolding parted
newline-before [] h = absurd (omega arith)
newline-before (l ∷ ls) h = refl

-- the pieces of some bytes are all of them
pub pieces-all : (s : List ℕ) → parted (pieces_of s) ≡ s
unfolding parted
pieces-all [] = ap parted (parted-end 10)
pieces-all (b ∷ s) = by (eqb b 10) refl (pieces-all s)
  where
    by : (t : Bool) → eqb b 10 ≡ t → parted (pieces_of s) ≡ s → parted (pieces_of (b ∷ s)) ≡ b ∷ s
    by true e r = ap parted (parted-here 10 b s e) ∙ newline-before (pieces_of s) (some 10 s) ∙ ap (λ (x : List ℕ). 10 ∷ x) r ∙ ap (λ (x : ℕ). x ∷ s) (sym (eqb-true _ _ e))
    by false e r = ap parted (parted-on 10 b s e) ∙ into b (pieces_of s) (some 10 s) ∙ ap (λ (x : List ℕ). b ∷ x) r

-- ---- a file that is not refused at its end was refused nowhere

abbrev pub walk : State → List (List ℕ) → State
walk st ls = over_pieces stopped on_line on_long on_end st ls

pub stopped-walk : (ls : List (List ℕ)) (st : State) → stopped st ≡ true → walk st ls ≡ st
unfolding over_pieces line_on_bytes ended
stopped-walk [] st e = refl
stopped-walk (l ∷ []) st e = pick_true _ _ _ e
stopped-walk (l ∷ m ∷ ls) st e = ap (λ (x : State). walk x (m ∷ ls)) (pick_true _ _ _ e) ∙ stopped-walk (m ∷ ls) st e

pub went_on : (ls : List (List ℕ)) (st : State) → stopped (walk st ls) ≡ false → stopped st ≡ false
went_on ls st h = by (stopped st) refl
  where
    by : (t : Bool) → stopped st ≡ t → stopped st ≡ false
    by false e = e
    by true e = absurd (true≢false (sym e ∙ ap stopped (sym (stopped-walk ls st e)) ∙ h))

-- the last piece is empty, behind `end`
pub record Last (l : List ℕ) (st : State) : Type 0 where
  pub nothing : l ≡ []
  pub end : 2 ≤ st.reading.stage
  pub same : walk st (l ∷ []) ≡ st

pub last-piece : (l : List ℕ) (st : State) → stopped (walk st (l ∷ [])) ≡ false → Last l st
unfolding over_pieces ended refusing
last-piece l st h = by (eqb (length l) 0) refl (ltb st.reading.stage 2) refl
  where
    go : stopped st ≡ false
    go = went_on (l ∷ []) st h

    empty : (l : List ℕ) → length l ≡ 0 → l ≡ []
    empty [] e = refl
    empty (b ∷ l) e = absurd (omega arith)

    by : (t : Bool) → eqb (length l) 0 ≡ t → (u : Bool) → ltb st.reading.stage 2 ≡ u → Last l st
    by true e false f = record { nothing = empty l (eqb-true _ _ e); end = ltb-false _ _ f; same = pick-false _ _ _ go ∙ pick_true _ _ _ e ∙ pick-false _ _ _ f }
    by true e true f = absurd (true≢false (ap stopped (sym (pick-false _ _ _ go ∙ pick_true _ _ _ e ∙ pick_true _ _ _ f)) ∙ h))
    by false e u f = absurd (true≢false (ap stopped (sym (pick-false _ _ _ go ∙ pick-false _ _ _ e)) ∙ h))

-- a line before it was taken, and was not too long
pub next-piece : (l m : List ℕ) (ls : List (List ℕ)) (st : State) → stopped (walk st (l ∷ m ∷ ls)) ≡ false → walk st (l ∷ m ∷ ls) ≡ walk (on_line st l) (m ∷ ls)
unfolding over_pieces line_on_bytes refusing
next-piece l m ls st h = by (ltb (length l) 128) refl
  where
    go : stopped st ≡ false
    go = went_on (l ∷ m ∷ ls) st h

    by : (t : Bool) → ltb (length l) 128 ≡ t → walk (line_on_bytes stopped on_line on_long st l) (m ∷ ls) ≡ walk (on_line st l) (m ∷ ls)
    by true e = ap (λ (x : State). walk x (m ∷ ls)) (pick-false _ _ _ go ∙ pick_true _ _ _ e)
    by false e =
        let q : line_on_bytes stopped on_line on_long st l ≡ on_long st = pick-false _ _ _ go ∙ pick-false _ _ _ e in
        absurd (true≢false (ap stopped (sym (stopped-walk (m ∷ ls) (on_long st) refl)) ∙ ap (λ (x : State). stopped (walk x (m ∷ ls))) (sym q) ∙ h))
