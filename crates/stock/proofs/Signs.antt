-- Cells that fit a solid bar, by the sign's bit of their numbers; cells that fit a tube, by comparisons alone. Assumes nothing.
use Rattle.std.proofs.Common.{◌≡◌, ℕ, zero, suc, ◌+◌, ◌*◌, ◌<◌, ◌≤◌, Bool, true, false, not, ◌&&◌, T, ltb, ℤ, sym, refl, ◌∙◌, lt_of_le_of_lt, arith, ltb-true, le-ltb, lt-ltb, leb-false}
use mathlib.Core.Bool.{false≢true}
use lib.Bits.{bit_or, or_lt, or_add_and, and_le_l, and_le_r}
use lib.Ieee.{Float, nan, inf, fin, binary64, lt, eq, le, fits, is_nan, to_bits, of_bits, of_fields, odd, up, down}
use lib.Ieee.Bits.{is_true}
use borrow.Author.Tests.{not-true}
use Rattle.floats.specs.Numbers.{zero64, minus_zero}
use Rattle.floats.proofs.Bools.{so, to-false}
use Rattle.floats.proofs.Anywhere.{le-chain, le-number-l, le-number-r}
use Rattle.floats.proofs.Bounding.{not-lt, eq-le, clash, lt-le-chain}
use Rattle.floats.proofs.Cleared.{no_zero}
use Rattle.floats.proofs.Signs.{clear-bit}
use Rattle.stock.specs.declared.TurnStockSpec.{TurnStockSpec}
use Rattle.stock.specs.declared.TurnCell.{TurnCell}
use Rattle.stock.specs.Cell.{between, cell_fits}
use Rattle.stock.specs.Signs.{sign_bit, Solid, ordered}
use Rattle.stock.proofs.Passes.{HeldCell}

-- ---- one number

added : (t a b : ℕ) → t + a + b ≡ t + (0 + a + b)
added t a b = omega arith

-- a sign adds its weight
sign-more : (m : ℕ) (e : ℤ) → to_bits binary64 (fin true m e) ≡ sign_bit + to_bits binary64 (fin false m e)
unfolding to_bits
sign-more m e = added _ _ _

signed-not : (m : ℕ) (e : ℤ) → ltb (to_bits binary64 (fin true m e)) sign_bit ≡ true → ⊥
signed-not m e t = omega (arith, sign-more m e, ltb-true (to_bits binary64 (fin true m e)) sign_bit t)

-- what has no sign is not below zero
unsigned-over : (m : ℕ) (e : ℤ) → le zero64 (fin false m e) ≡ true
unsigned-over m e = is_true _ (not-lt (fin false m e) zero64 (unfold is_nan in refl) (unfold is_nan of_bits of_fields odd in refl) (unfold lt of_bits of_fields odd in le-ltb (m * up e * 1) (0 * 1 * down e) (nothing (down e) (m * up e * 1))))
  where
    nothing : (a b : ℕ) → 0 * 1 * a ≤ b
    nothing a b = omega arith

-- at or above zero, and not -0.0
pub record Over (x : Float) : Type 0 where
  pub low : le zero64 x ≡ true
  pub unsigned : minus_zero x ≡ false

-- a number whose bits lack the sign's
small-over : (x : Float) → is_nan x ≡ false → ltb (to_bits binary64 x) sign_bit ≡ true → Over x
unfolding is_nan minus_zero
small-over nan n t = absurd (false≢true (sym n))
small-over (inf true) n t = absurd (false≢true (unfold to_bits in t))
small-over (inf false) n t = record { low = unfold le lt eq of_bits of_fields odd in refl; unsigned = refl }
small-over (fin true m e) n t = absurd (signed-not m e t)
small-over (fin false zero e) n t = record { low = unsigned-over zero e; unsigned = refl }
small-over (fin false (suc m) e) n t = record { low = unsigned-over (suc m) e; unsigned = refl }

over-small : (x : Float) → T (fits binary64 x) → Over x → to_bits binary64 x < sign_bit
over-small x h o = leb-false sign_bit (to_bits binary64 x) (clear-bit x h o.low ∙ o.unsigned)

-- ---- numbers joined

or-over-l : (a b : ℕ) → a ≤ bit_or a b
or-over-l a b = omega (arith, or_add_and a b, and_le_r a b)

or-over-r : (a b : ℕ) → b ≤ bit_or a b
or-over-r a b = omega (arith, or_add_and a b, and_le_l a b)

same : (a b : Bool) → (a ≡ true → b ≡ true) → (b ≡ true → a ≡ true) → a ≡ b
same true b f g = sym (f refl)
same false true f g = g refl
same false false f g = refl

both : {a b : Bool} → a ≡ true → b ≡ true → (a && b) ≡ true
both p q = rw (p, q)

and-two : (a b : Bool) → (a && b) ≡ true → (a ≡ true) × (b ≡ true)
and-two true b e = (refl, e)
and-two false b e = absurd (false≢true e)

five : (a b c d e : Bool) → (a && b && c && d && e) ≡ true → (a ≡ true) × (b ≡ true) × (c ≡ true) × (d ≡ true) × (e ≡ true)
five a b c d e t =
    let h4 = and-two (a && b && c && d) e t in
    let h3 = and-two (a && b && c) d h4.0 in
    let h2 = and-two (a && b) c h3.0 in
    let h1 = and-two a b h2.0 in
    (h1.0, h1.1, h2.1, h3.1, h4.1)

-- above zero is no zero
apart : (x : Float) → T (lt zero64 x) → eq x zero64 ≡ false
apart x t = to-false (eq x zero64) (λ e. clash zero64 x t (eq-le x zero64 e))

-- below the sign's weight are both
pub or-small : (x y : ℕ) → ltb (bit_or x y) sign_bit ≡ (ltb x sign_bit && ltb y sign_bit)
or-small x y =
    same (ltb (bit_or x y) sign_bit) (ltb x sign_bit && ltb y sign_bit)
    (λ t. let h = ltb-true (bit_or x y) sign_bit t in both (lt-ltb x sign_bit (lt_of_le_of_lt (or-over-l x y) h)) (lt-ltb y sign_bit (lt_of_le_of_lt (or-over-r x y) h)))
    (λ t. let h = and-two (ltb x sign_bit) (ltb y sign_bit) t in lt-ltb (bit_or x y) sign_bit (or_lt 63 x y (ltb-true x sign_bit h.0) (ltb-true y sign_bit h.1)))

-- ---- one cell

module _ (s : TurnStockSpec) (c : TurnCell) where
  abbrev bore : Float
  bore = s.bore_radius_mm

  abbrev most : Float
  most = s.outer_radius_mm

  abbrev ol : Float
  ol = c.outer.lower_mm

  abbrev ou : Float
  ou = c.outer.upper_mm

  abbrev il : Float
  il = c.inner.lower_mm

  abbrev iu : Float
  iu = c.inner.upper_mm

  -- a cell that fits: what is said of its numbers
  record Fit : Type 0 where
    a0 : le bore ol ≡ true
    a1 : le ol ou ≡ true
    a2 : le ou most ≡ true
    a3 : minus_zero ol ≡ false
    a4 : minus_zero ou ≡ false
    b0 : le bore il ≡ true
    b1 : le il iu ≡ true
    b2 : le iu most ≡ true
    b3 : minus_zero il ≡ false
    b4 : minus_zero iu ≡ false

  of-fit : cell_fits s c ≡ true → Fit
  unfolding cell_fits
  of-fit t =
      let p = and-two (le bore ol && le ol ou && le ou most && not (minus_zero ol) && not (minus_zero ou)) (le bore il && le il iu && le iu most && not (minus_zero il) && not (minus_zero iu)) t in
      let a = five (le bore ol) (le ol ou) (le ou most) (not (minus_zero ol)) (not (minus_zero ou)) p.0 in
      let b = five (le bore il) (le il iu) (le iu most) (not (minus_zero il)) (not (minus_zero iu)) p.1 in
      record { a0 = a.0; a1 = a.1; a2 = a.2; a3 = not-true (minus_zero ol) a.3; a4 = not-true (minus_zero ou) a.4; b0 = b.0; b1 = b.1; b2 = b.2; b3 = not-true (minus_zero il) b.3; b4 = not-true (minus_zero iu) b.4 }

  to-fit : Fit → cell_fits s c ≡ true
  unfolding cell_fits
  to-fit f = rw (f.a0, f.a1, f.a2, f.a3, f.a4, f.b0, f.b1, f.b2, f.b3, f.b4)

  -- the comparisons of both pairs alone
  record Order : Type 0 where
    outer-pair : le ol ou ≡ true
    outer-most : le ou most ≡ true
    inner-pair : le il iu ≡ true
    inner-most : le iu most ≡ true

  of-ordered : ordered s c ≡ true → Order
  unfolding ordered
  of-ordered t =
      let p = and-two (le ol ou && le ou most && le il iu) (le iu most) t in
      let q = and-two (le ol ou && le ou most) (le il iu) p.0 in
      let r = and-two (le ol ou) (le ou most) q.0 in
      record { outer-pair = r.0; outer-most = r.1; inner-pair = q.1; inner-most = p.1 }

  fit-ordered : cell_fits s c ≡ true → ordered s c ≡ true
  unfolding ordered
  fit-ordered t = let f = of-fit t in rw (f.a1, f.a2, f.b1, f.b2)

  -- one that is not ordered does not fit
  pub unordered : ordered s c ≡ false → (r : ℕ) → (ordered s c && ltb r sign_bit) ≡ cell_fits s c
  unordered t r = rw t (same false (cell_fits s c) (λ e. absurd (false≢true e)) (λ e. sym t ∙ fit-ordered e))

  -- none of the numbers of one that is ordered is a NaN
  pub ordered-numbers : ordered s c ≡ true → (is_nan ol ≡ false) × (is_nan ou ≡ false) × (is_nan il ≡ false) × (is_nan iu ≡ false)
  ordered-numbers t =
      let o = of-ordered t in
      (le-number-l ol ou (so o.outer-pair), le-number-r ol ou (so o.outer-pair), le-number-l il iu (so o.inner-pair), le-number-r il iu (so o.inner-pair))

  -- their bits, joined one after the other
  abbrev two : ℕ
  two = bit_or (to_bits binary64 ol) (to_bits binary64 ou)

  abbrev three : ℕ
  three = bit_or two (to_bits binary64 il)

  abbrev joined : ℕ
  joined = bit_or three (to_bits binary64 iu)

  -- the bits of one that is ordered lack the sign's exactly if it fits
  pub solid-fits : Solid s → HeldCell c → ordered s c ≡ true → (ordered s c && ltb joined sign_bit) ≡ cell_fits s c
  solid-fits z h t = rw t (same (ltb joined sign_bit) (cell_fits s c) there back)
    where
      o : Order
      o = of-ordered t

      low : (x : Float) → Over x → le bore x ≡ true
      low x v = is_true _ (le-chain bore zero64 x (not-lt zero64 bore (unfold is_nan of_bits of_fields odd in refl) (le-number-r zero64 bore (so z.clear)) z.none) (so v.low))

      there : ltb joined sign_bit ≡ true → cell_fits s c ≡ true
      there e =
          let n = ordered-numbers t in
          let p = and-two (ltb three sign_bit) (ltb (to_bits binary64 iu) sign_bit) (sym (or-small three (to_bits binary64 iu)) ∙ e) in
          let q = and-two (ltb two sign_bit) (ltb (to_bits binary64 il) sign_bit) (sym (or-small two (to_bits binary64 il)) ∙ p.0) in
          let r = and-two (ltb (to_bits binary64 ol) sign_bit) (ltb (to_bits binary64 ou) sign_bit) (sym (or-small (to_bits binary64 ol) (to_bits binary64 ou)) ∙ q.0) in
          let vol = small-over ol n.0 r.0 in
          let vou = small-over ou n.1 r.1 in
          let vil = small-over il n.2 q.1 in
          let viu = small-over iu n.3 p.1 in
          to-fit (record { a0 = low ol vol; a1 = o.outer-pair; a2 = o.outer-most; a3 = vol.unsigned; a4 = vou.unsigned; b0 = low il vil; b1 = o.inner-pair; b2 = o.inner-most; b3 = vil.unsigned; b4 = viu.unsigned })

      over : (x y : Float) → le zero64 x ≡ true → le x y ≡ true → le zero64 y ≡ true
      over x y p q = is_true _ (le-chain zero64 x y (so p) (so q))

      small : (x : Float) → T (fits binary64 x) → le zero64 x ≡ true → minus_zero x ≡ false → ltb (to_bits binary64 x) sign_bit ≡ true
      small x k p q = lt-ltb _ _ (over-small x k (record { low = p; unsigned = q }))

      back : cell_fits s c ≡ true → ltb joined sign_bit ≡ true
      back e =
          let f = of-fit e in
          let zol = over bore ol z.clear f.a0 in
          let zil = over bore il z.clear f.b0 in
          or-small three (to_bits binary64 iu)
          ∙ both
          (or-small two (to_bits binary64 il) ∙ both (or-small (to_bits binary64 ol) (to_bits binary64 ou) ∙ both (small ol h.outer-lower zol f.a3) (small ou h.outer-upper (over ol ou zol f.a1) f.a4)) (small il h.inner-lower zil f.b3))
          (small iu h.inner-upper (over il iu zil f.b1) f.b4)

  -- in a tube no zero passes the comparisons
  pub tube-fits : HeldCell c → lt zero64 bore ≡ true → between s c ≡ cell_fits s c
  unfolding between
  tube-fits h z = same (between s c) (cell_fits s c) there back
    where
      above : (x : Float) → T (fits binary64 x) → T (le bore x) → minus_zero x ≡ false
      above x k t = sym (no_zero x k (apart x (lt-le-chain zero64 bore x (so z) t)))

      there : between s c ≡ true → cell_fits s c ≡ true
      there t =
          let p = and-two (le bore ol && le ol ou && le ou most && le bore il && le il iu) (le iu most) t in
          let q = five (le bore ol) (le ol ou) (le ou most) (le bore il) (le il iu) p.0 in
          to-fit (record {
            a0 = q.0;
            a1 = q.1;
            a2 = q.2;
            a3 = above ol h.outer-lower (so q.0);
            a4 = above ou h.outer-upper (le-chain bore ol ou (so q.0) (so q.1));
            b0 = q.3;
            b1 = q.4;
            b2 = p.1;
            b3 = above il h.inner-lower (so q.3);
            b4 = above iu h.inner-upper (le-chain bore il iu (so q.3) (so q.4));
          })

      back : cell_fits s c ≡ true → between s c ≡ true
      back t = let f = of-fit t in rw (f.a0, f.a1, f.a2, f.b0, f.b1, f.b2)

-- one cell more of a solid bar
pub solid-more : (ok : Bool) (bits : ℕ) (t : Bool) (r : ℕ) (before fits : Bool) → (ok && ltb bits sign_bit) ≡ before → (t && ltb r sign_bit) ≡ fits → ((ok && t) && ltb (bit_or bits r) sign_bit) ≡ (before && fits)
solid-more ok bits t r before fits e f = rw (or-small bits r, ← e, ← f) (turn ok t (ltb bits sign_bit) (ltb r sign_bit))
  where
    turn : (a b c d : Bool) → ((a && b) && (c && d)) ≡ ((a && c) && (b && d))
    turn false b c d = refl
    turn true true c d = refl
    turn true false true d = refl
    turn true false false d = refl
