-- The lines that are written have no newline in them but the last byte. Assumes nothing.
use Prim.Native.Nat.{ℕ, zero, suc, ◌/◌, ◌%◌}
use native.Mathlib.Omega.{arith}
use mathlib.Core.Path.{◌≡◌, refl, sym, subst}
use mathlib.Core.Bool.{Bool, true, false}
use mathlib.Core.List.{List, [], ◌∷◌, ◌++◌}
use lib.Dec.{ltb, eqb}
use lib.Ieee.{Float, binary64, to_bits}
use borrow.Author.Tests.{eqb-false, ltb-true, ltb-false}
use Rattle.text.specs.Digits.{glyph_of, digits, decimal_of, hex_of}
use Rattle.text.specs.Digits as spelling
use Rattle.text.proofs.Spelling.{glyph-low, glyph-high}
use Rattle.floats.specs.Pick.{pick_true, pick-false}
use Rattle.stock_lines.specs.declared.Bar.{Bar}
use Rattle.stock_lines.specs.Form.{form_of, fields_text, bar_numbers, cell_prefix, ring_prefix, end_text, edition_text, stock_text}

pub data Free : List ℕ → Type 0 where
  none : Free []
  more : {b : ℕ} {s : List ℕ} → (b ≡ 10 → ⊥) → Free s → Free (b ∷ s)

-- a byte that is no newline
byte : (b : ℕ) {s : List ℕ} → eqb b 10 ≡ false → Free s → Free (b ∷ s)
byte b e f = more (eqb-false b 10 e) f

free-append : {s t : List ℕ} → Free s → Free t → Free (s ++ t)
free-append none g = g
free-append (more n f) g = more n (free-append f g)

glyph-free : (d : ℕ) → glyph_of d ≡ 10 → ⊥
glyph-free d e = by (ltb d 10) refl
  where
    by : (t : Bool) → ltb d 10 ≡ t → ⊥
    by true f = omega (arith, glyph-low d (ltb-true _ _ f))
    by false f = omega (arith, glyph-high d (ltb-false _ _ f))

digits-free : (b k n : ℕ) → Free (digits b k n)
unfolding digits
digits-free b zero n = none
digits-free b (suc k) n = free-append (digits-free b k (n / b)) (more (glyph-free (n % b)) none)

hex-free : (x : Float) → Free (hex_of x)
unfolding hex_of
hex-free x = digits-free 16 16 (to_bits binary64 x)

decimal-free : (n : ℕ) → Free (decimal_of n)
unfolding decimal_of
decimal-free n = digits-free 10 (suc (spelling.more 19 (n / 10))) n

fields-then-free : (xs : List Float) {t : List ℕ} → Free t → Free (fields_text xs t)
unfolding fields_text
fields-then-free [] f = f
fields-then-free (x ∷ xs) f = free-append (more (λ e. omega arith) (hex-free x)) (fields-then-free xs f)

fields_free : (xs : List Float) → Free (fields_text xs [])
fields_free xs = fields-then-free xs none

pub ring-free : (xs : List Float) → Free (ring_prefix ++ fields_text xs [])
ring-free xs = byte 114 refl (byte 105 refl (byte 110 refl (byte 103 refl (fields_free xs))))

pub cell_free : (form n : ℕ) (xs : List Float) → Free (cell_prefix form n ++ fields_text xs [])
cell_free form n xs =
    free-append (byte 99 refl (byte 101 refl (byte 108 refl (byte 108 refl (byte 9 refl (digits-free 10 (form_of form).digits n)))))) (fields_free xs)

pub end-free : (n : ℕ) → Free (end_text n)
end-free n = byte 101 refl (byte 110 refl (byte 100 refl (byte 9 refl (decimal-free n))))

edition-free : (form edition : ℕ) → Free (edition_text form edition)
unfolding edition_text
edition-free form edition = by (form_of form).edition refl
  where
    by : (t : Bool) → (form_of form).edition ≡ t → Free (edition_text form edition)
    by true e = subst Free (sym (pick_true _ _ _ e)) (byte 9 refl (digits-free 16 8 edition))
    by false e = subst Free (sym (pick-false _ _ _ e)) none

pub first-free : (form edition : ℕ) (b : Bar) → Free (stock_text form b edition)
first-free form edition b =
    free-append (byte 115 refl (byte 116 refl (byte 111 refl (byte 99 refl (byte 107 refl (byte 9 refl (digits-free 10 1 form))))))) (fields-then-free (bar_numbers b) (edition-free form edition))
