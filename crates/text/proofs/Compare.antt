-- Two lists of bytes compared from the left. Assumes nothing.
use Rattle.std.proofs.Common.{◌≡◌, ℕ, Bool, true, false, T, eqb, List, [], ◌∷◌, sym, refl, ◌∙◌, subst, eq-eqb, eqb-true}
use Rattle.std.specs.Bool.{Decides}
use Rattle.floats.specs.Pick.{pick_true, pick-false}
use Rattle.text.proofs.Chosen.{yes}
use Rattle.text.specs.Same.{same_bytes}

-- what is compared with itself is the same
pub same_self : (a : List ℕ) → same_bytes a a ≡ true
unfolding same_bytes
same_self [] = refl
same_self (x ∷ xs) = simp (eq-eqb x x refl, yes, same_self xs)

-- what is the same is equal
pub same_true : (a b : List ℕ) → same_bytes a b ≡ true → a ≡ b
unfolding same_bytes
same_true [] [] e = refl
same_true [] (y ∷ ys) e = absurd (subst T (sym e) tt)
same_true (x ∷ xs) [] e = absurd (subst T (sym e) tt)
same_true (x ∷ xs) (y ∷ ys) e = by (eqb x y) refl (same_true xs ys)
  where
    by : (t : Bool) → eqb x y ≡ t → (same_bytes xs ys ≡ true → xs ≡ ys) → x ∷ xs ≡ y ∷ ys
    by true f r =
        let p : x ≡ y = eqb-true x y f in
        let q : xs ≡ ys = r (sym (pick_true _ _ _ f) ∙ e) in
        cc
    by false f r = absurd (subst T (sym (sym (pick-false _ _ _ f) ∙ e)) tt)

-- what says whether two lists are equal says whether they are the same
pub same_decided : (r : Bool) (a b : List ℕ) → Decides r (a ≡ b) → r ≡ same_bytes a b
same_decided true a b h = let p : a ≡ b = h.0 refl in sym (subst (λ (x : List ℕ). same_bytes a x ≡ true) p (same_self a))
same_decided false a b h = by (same_bytes a b) refl
  where
    by : (t : Bool) → same_bytes a b ≡ t → false ≡ same_bytes a b
    by true e = h.1 (same_true a b e) ∙ sym e
    by false e = sym e
