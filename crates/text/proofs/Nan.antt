-- What equals itself is no nan. Assumes nothing.
use Rattle.std.proofs.Common.{◌≡◌, ℕ, ◌*◌, Bool, true, false, not, T, ℤ, sym, refl, ◌∙◌, subst, eq-eqb}
use lib.Ieee.{Float, nan, inf, fin, binary64, to_bits, is_nan, eq, up, down}

pub itself : (x : Float) → eq x x ≡ true → T (not (is_nan x))
unfolding eq is_nan
itself nan e = subst T (sym e) tt
itself (inf s) e = tt
itself (fin s m d) e = tt

beq-self : (s : Bool) → eq (inf s) (inf s) ≡ true
unfolding eq
beq-self true = refl
beq-self false = refl

fin-self : (s : Bool) (m : ℕ) (d : ℤ) → eq (fin s m d) (fin s m d) ≡ true
unfolding eq
fin-self true m d = simp (eq-eqb (m * up d * down d) (m * up d * down d) refl)
fin-self false m d = simp (eq-eqb (m * up d * down d) (m * up d * down d) refl)

pub other : (x : Float) → eq x x ≡ false → 0x7FF8000000000000 ≡ to_bits binary64 x
unfolding eq to_bits
other nan e = refl
other (inf s) e = absurd (subst T (sym (beq-self s) ∙ e) tt)
other (fin s m d) e = absurd (subst T (sym (fin-self s m d) ∙ e) tt)
