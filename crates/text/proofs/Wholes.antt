-- A whole number read from the left: what is read so far, and what is left. Assumes nothing.
use Rattle.std.proofs.Common.{◌≡◌, ℕ, ◌+◌, ◌-◌, ◌*◌, ◌<◌, ◌≤◌, Bool, true, false, ◌&&◌, leb, List, [], ◌∷◌, length, get_or, drop, refl, subst, add-one, arith, drop-cons, le-leb, leb-true, None, Option, Some}
use lib.Seq.{drop-length}
use borrow.Author.Tests.{lt-leb}
use Rattle.floats.specs.Pick.{pick, pick_true, pick-false}
use Rattle.text.proofs.Chosen.{yes, no}
use Rattle.text.specs.Whole.{digit, all_digits, spelt, is_whole, whole_of}

unfoldable pub whole_from : ℕ → List ℕ → (Option ℕ)
whole_from v d = pick (all_digits d) (pick (leb (spelt v d) 1000000000) (Some (spelt v d)) None) None

pick_same : {A : Type 0} (t : Bool) (a : A) → pick t a a ≡ a
pick_same true a = pick_true true a a refl
pick_same false a = pick-false false a a refl

both : (t : Bool) (u : Bool) (a b : Option ℕ) → pick (pick t u false) a b ≡ pick t (pick u a b) b
both true u a b = simp yes
both false u a b = simp no

pub whole-empty : (s : List ℕ) → length s < 1 → whole_of s ≡ None
unfolding whole_of is_whole
whole-empty s h = simp (lt-leb _ _ h, no)

pub whole_long : (s : List ℕ) → 10 < length s → whole_of s ≡ None
unfolding whole_of is_whole
whole_long s h = simp (lt-leb _ _ h, no, pick_same)

pub whole-start : (s : List ℕ) → 1 ≤ length s → length s ≤ 10 → whole_of s ≡ whole_from 0 s
unfolding whole_of is_whole whole_from
whole-start s h k = simp (both, le-leb _ _ h, le-leb _ _ k, yes)

digit_low : (b : ℕ) → b < 48 → digit b ≡ false
digit_low b h = simp (lt-leb _ _ h)

and-false : (t : Bool) → (t && false) ≡ false
and-false true = refl
and-false false = refl

digit-high : (b : ℕ) → 57 < b → digit b ≡ false
digit-high b h = simp (lt-leb _ _ h, and-false)

digit-in : (b : ℕ) → 48 ≤ b → b ≤ 57 → digit b ≡ true
digit-in b h k = simp (le-leb _ _ h, le-leb _ _ k)

no_digit : (v : ℕ) (s : List ℕ) (i : ℕ) → i < length s → digit (get_or s i 0) ≡ false → whole_from v (drop i s) ≡ None
unfolding whole_from all_digits
no_digit v s i h e = rw (drop-cons s i 0 h) (simp (e, no))

pub whole-low : (v : ℕ) (s : List ℕ) (i : ℕ) → i < length s → get_or s i 0 < 48 → whole_from v (drop i s) ≡ None
whole-low v s i h k = no_digit v s i h (digit_low _ k)

pub whole-high : (v : ℕ) (s : List ℕ) (i : ℕ) → i < length s → 57 < get_or s i 0 → whole_from v (drop i s) ≡ None
whole-high v s i h k = no_digit v s i h (digit-high _ k)

pub whole-step : (v : ℕ) (s : List ℕ) (i w : ℕ) → i < length s → 48 ≤ get_or s i 0 → get_or s i 0 ≤ 57 → w ≡ get_or s i 0 - 48
    → whole_from v (drop i s) ≡ whole_from (v * 10 + w) (drop (i + 1) s)
unfolding whole_from all_digits spelt
whole-step v s i w h k l e = rw (e, add-one i, drop-cons s i 0 h) (simp (digit-in _ k l, yes))

grows : (v : ℕ) (d : List ℕ) → v ≤ spelt v d
unfolding spelt
grows v [] = omega arith
grows v (b ∷ d) = let h : v * 10 + (b - 48) ≤ spelt (v * 10 + (b - 48)) d = grows (v * 10 + (b - 48)) d in omega arith

pub whole-over : (v : ℕ) (d : List ℕ) → 1000000000 < v → whole_from v d ≡ None
unfolding whole_from
whole-over v d h =
    let k : 1000000000 < spelt v d = omega (arith, grows v d) in
    simp (lt-leb _ _ k, no, pick_same)

pub whole-end : (v : ℕ) (s : List ℕ) (i : ℕ) → length s ≤ i → i ≤ length s → v ≤ 1000000000 → whole_from v (drop i s) ≡ Some v
unfolding whole_from all_digits spelt
whole-end v s i g l h =
    let e : i ≡ length s = omega arith in
    rw (e, drop-length s) (simp (le-leb _ _ h, yes))

-- ---- the size of what was read

never : (v : ℕ) → ◌≡◌ {A = (Option ℕ)} None (Some v) → ⊥
never v e = let z : ◌≡◌ {A = ℕ} 0 1 = cc in omega arith

chosen : (a b d e : Bool) (n v : ℕ) → pick (pick a (pick b (pick d e false) false) false) (Some n) None ≡ Some v → (e ≡ true) × (n ≡ v)
unfolding pick
chosen true true true true n v q = (refl, cc)
chosen true true true false n v q = absurd (never v q)
chosen true true false e n v q = absurd (never v q)
chosen true false d e n v q = absurd (never v q)
chosen false b d e n v q = absurd (never v q)

-- a whole number that was read is in range
pub whole-size : (s : List ℕ) (v : ℕ) → whole_of s ≡ Some v → v ≤ 1000000000
unfolding whole_of is_whole
whole-size s v q =
    let k : (leb (spelt 0 s) 1000000000 ≡ true) × (spelt 0 s ≡ v) = chosen _ _ _ _ _ v q in
    subst (λ (n : ℕ). n ≤ 1000000000) k.1 (leb-true _ _ k.0)
