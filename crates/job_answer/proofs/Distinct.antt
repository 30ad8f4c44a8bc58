-- Different cells give different lines. Assumes nothing.
use Prim.Native.Nat.{ℕ, ◌<◌}
use native.Mathlib.Omega.{arith}
use mathlib.Core.Path.{◌≡◌, ap}
use mathlib.Core.List.{◌++◌}
use lib.Dec.{T}
use lib.Ieee.{Float, binary64, fits}
use lib.ListN.{length, drop, length-append}
use Rattle.text.specs.Digits.{decimal_of}
use Rattle.text.specs.Lines.{four_fields}
use Rattle.text.proofs.Spelling.{four-long}
use Rattle.text.proofs.Distinct.{Both, cancel, decimal-distinct, next_field}
use Rattle.job_answer.specs.Lines.{cell_line}

-- what a line tells: the index and the four bounds
pub record Tells (i j : ℕ) (a b c d a' b' c' d' : Float) : Type 0 where
  pub index : i ≡ j
  pub outer-lower : a ≡ a'
  pub outer-upper : b ≡ b'
  pub inner-lower : c ≡ c'
  pub inner-upper : d ≡ d'

-- two cells that differ, or stand at two places, have different lines
pub cells-distinct : (i j : ℕ) (a b c d a' b' c' d' : Float)
    → i < 18446744073709551616 → j < 18446744073709551616
    → T (fits binary64 a) → T (fits binary64 b) → T (fits binary64 c) → T (fits binary64 d)
    → T (fits binary64 a') → T (fits binary64 b') → T (fits binary64 c') → T (fits binary64 d')
    → cell_line i a b c d ≡ cell_line j a' b' c' d' → Tells i j a b c d a' b' c' d'
unfolding cell_line
cells-distinct i j a b c d a' b' c' d' hi hj ha hb hc hd ka kb kc kd e =
    let e1 : decimal_of i ++ four_fields a b c d ≡ decimal_of j ++ four_fields a' b' c' d' = ap (drop 5) e in
    let n : length (decimal_of i) ≡ length (decimal_of j) =
    omega (arith, length-append (decimal_of i) (four_fields a b c d), length-append (decimal_of j) (four_fields a' b' c' d'), ap length e1, four-long a b c d, four-long a' b' c' d') in
    let w : Both (decimal_of i ≡ decimal_of j) (four_fields a b c d ≡ four_fields a' b' c' d') = cancel (decimal_of i) (decimal_of j) (four_fields a b c d) (four_fields a' b' c' d') n e1 in
    let wa = next_field a a' _ _ ha ka w.right in
    let wb = next_field b b' _ _ hb kb wa.right in
    let wc = next_field c c' _ _ hc kc wb.right in
    let wd = next_field d d' _ _ hd kd wc.right in
    record { index = decimal-distinct i j hi hj w.left; outer-lower = wa.left; outer-upper = wb.left; inner-lower = wc.left; inner-upper = wd.left }
