-- A job in parts. Assumes nothing.
use Prim.Native.Nat.{ℕ}
use mathlib.Core.Path.{◌≡◌, refl}
use mathlib.Core.Bool.{Bool, true, false}
use mathlib.Core.List.{List, [], ◌∷◌, ◌++◌}
use lib.Dec.{eqb, ltb}
use lib.ListN.{length}
use Rattle.text.proofs.Chosen.{yes, no}
use Rattle.lines.specs.Hands.{Hand, hand, byte_on, takes}

module _ {A : Type 0} (stopped : A → Bool) (on_line : A → List ℕ → A) (on_long : A → A) where
  -- two parts in turn are their concatenation
  pub parts : (s t : List ℕ) (j : Hand A) → takes stopped on_line on_long j (s ++ t) ≡ takes stopped on_line on_long (takes stopped on_line on_long j s) t
  unfolding takes
  parts [] t j = refl
  parts (b ∷ s) t j = parts s t (byte_on stopped on_line on_long j b)

  -- a part with nothing in it changes nothing
  pub nothing : (j : Hand A) → takes stopped on_line on_long j [] ≡ j
  unfolding takes
  nothing j = refl

  -- a job that has stopped takes no byte
  pub stopped-takes : (s : List ℕ) (a : A) (h : List ℕ) → stopped a ≡ true → takes stopped on_line on_long (hand a h) s ≡ hand a h
  unfolding takes byte_on
  stopped-takes [] a h e = refl
  stopped-takes (b ∷ s) a h e = simp (e, yes) (stopped-takes s a h e)

  pub byte-newline : (a : A) (h : List ℕ) (b : ℕ) → stopped a ≡ false → eqb b 10 ≡ true → byte_on stopped on_line on_long (hand a h) b ≡ hand (on_line a h) []
  unfolding byte_on
  byte-newline a h b e f = simp (e, f, no, yes)

  pub byte-held : (a : A) (h : List ℕ) (b : ℕ) → stopped a ≡ false → eqb b 10 ≡ false → ltb (length h) 127 ≡ true
      → byte_on stopped on_line on_long (hand a h) b ≡ hand a (h ++ (b ∷ []))
  unfolding byte_on
  byte-held a h b e f g = simp (e, f, g, no, yes)

  pub byte-long : (a : A) (h : List ℕ) (b : ℕ) → stopped a ≡ false → eqb b 10 ≡ false → ltb (length h) 127 ≡ false
      → byte_on stopped on_line on_long (hand a h) b ≡ hand (on_long a) []
  unfolding byte_on
  byte-long a h b e f g = simp (e, f, g, no)
