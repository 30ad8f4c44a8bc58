-- A number's sign and its size. Assumes nothing.
use Rattle.std.proofs.Common.{◌≡◌, ℕ, zero, suc, ◌-◌, ◌<◌, ◌≤◌, List, [], ◌∷◌, length, get_or, take, drop, ℤ, pos, ◌-ℤ◌, neg_ℤ, sym, refl, ap, ◌∙◌, subst, arith, length-drop, take_all, w64, SFits, to_z, of_z, eq-eqb, ne_eqb, None}
use lib.IntN.{+ℤ_idl}
use mir.ValLaws.{to_z_pos, to_z-of_z}
use Rattle.text.proofs.Chosen.{yes, no}
use Rattle.job_words.specs.Number.{field_number, positive, negative}
use Rattle.text.specs.Whole.{whole_of}

pub number-empty : (f : List ℕ) → length f < 1 → field_number f ≡ None
unfolding field_number
number-empty [] h = refl
number-empty (b ∷ s) h = absurd (omega arith)

pub number-minus : (f : List ℕ) → 1 ≤ length f → get_or f 0 0 ≡ 45 → field_number f ≡ negative (whole_of (drop 1 f))
unfolding field_number
number-minus [] h e = absurd (omega arith)
number-minus (b ∷ s) h e = simp (eq-eqb _ _ e, yes)

pub number-plus : (f : List ℕ) → 1 ≤ length f → (get_or f 0 0 ≡ 45 → ⊥) → field_number f ≡ positive (whole_of f)
unfolding field_number
number-plus [] h e = absurd (omega arith)
number-plus (b ∷ s) h e = simp (ne_eqb _ _ e, no)

small : (v : ℕ) → v ≤ 1000000000 → to_z w64 v ≡ pos v
small v h = to_z_pos w64 v (omega arith)

neg-fits : (v : ℕ) → v ≤ 1000000000 → SFits w64 (neg_ℤ (pos v))
neg-fits zero h = record { sfits = omega arith }
neg-fits (suc n) h = record { sfits = omega arith }

minus : (v : ℕ) → v ≤ 1000000000 → pos 0 -ℤ to_z w64 v ≡ neg_ℤ (pos v)
minus v h = ap (λ (z : ℤ). pos 0 -ℤ z) (small v h) ∙ +ℤ_idl (neg_ℤ (pos v))

pub minus-fits : (v : ℕ) → v ≤ 1000000000 → SFits w64 (pos 0 -ℤ to_z w64 v)
minus-fits v h = subst (SFits w64) (sym (minus v h)) (neg-fits v h)

pub minus_is : (v : ℕ) → v ≤ 1000000000 → to_z w64 (of_z w64 (pos 0 -ℤ to_z w64 v)) ≡ neg_ℤ (pos v)
minus_is v h = to_z-of_z w64 _ (minus-fits v h) ∙ minus v h

-- what follows the first byte, as the code lends it
pub rest-is : (f : List ℕ) → take (length f - 1) (drop 1 f) ≡ drop 1 f
rest-is f = take_all (length f - 1) (drop 1 f) (simp length-drop (omega arith))
