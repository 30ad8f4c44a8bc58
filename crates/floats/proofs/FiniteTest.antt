-- What the code tests for a finite number: x - x equals itself exactly where x is neither an infinity nor a NaN. Assumes nothing.
use Prim.Native.Nat.{ℕ, zero, suc, ◌+◌, ◌-◌, ◌*◌, ◌^◌}
use mathlib.Core.Path.{◌≡◌, refl, ◌∙◌, ap}
use mathlib.Core.Bool.{Bool, true, false, not, ◌&&◌, cond, beq, not-not}
use lib.Dec.{ltb, eqb, eqb_refl}
use lib.Ieee.{Float, nan, inf, fin, Format, binary64, up, down, eq, sum, sub, round, units, odd, is_nan, low, prec, emax}
use lib.Ieee.Scale.{finite}
use lib.Ieee.Bits.{is_true}
use lib.Ieee.Fits.{round_is}

-- a number equals itself, and a NaN does not
self_eq : (y : Float) → eq y y ≡ not (is_nan y)
unfolding eq is_nan
self_eq nan = refl
self_eq (inf true) = refl
self_eq (inf false) = refl
self_eq (fin true m e) = ap (λ (b : Bool). b && true) (is_true (eqb (m * up e * down e) (m * up e * down e)) (eqb_refl (m * up e * down e)))
self_eq (fin false m e) = ap (λ (b : Bool). b && true) (is_true (eqb (m * up e * down e) (m * up e * down e)) (eqb_refl (m * up e * down e)))

-- what is rounded is no NaN
odd_number : (d : ℕ) (s : Bool) (q k l : ℕ) → is_nan (odd d s q k l) ≡ false
unfolding odd is_nan
odd_number d s zero k l = refl
odd_number d s (suc q) k l = refl

units_number : (f : Format) (s : Bool) (q k : ℕ) → is_nan (units f s q k) ≡ false
unfolding units is_nan
units_number f s q k = go (ltb (q * 2 ^ k) (2 ^ (low f + suc (emax f))))
  where
    go : (t : Bool) → is_nan (cond t (odd (suc (prec f)) s q k (low f)) (inf s)) ≡ false
    go true = odd_number (suc (prec f)) s q k (low f)
    go false = refl

round_number : (f : Format) (s : Bool) (a b : ℕ) → is_nan (round f s a b) ≡ false
round_number f s a b = ap is_nan (round_is f s a b) ∙ units_number f s _ _

sum_number : (f : Format) (s : Bool) (a : ℕ) (t : Bool) (b c : ℕ) → is_nan (sum f s a t b c) ≡ false
unfolding sum
sum_number f s a t b c = go (beq s t) (ltb a b)
  where
    go : (x y : Bool) → is_nan (cond x (round f s (a + b) c) (cond y (round f t (b - a) c) (round f (s && ltb b a) (a - b) c))) ≡ false
    go true y = round_number f s (a + b) c
    go false true = round_number f t (b - a) c
    go false false = round_number f (s && ltb b a) (a - b) c

sub_self : (x : Float) → is_nan (sub binary64 x x) ≡ not (finite x)
unfolding sub is_nan
sub_self nan = refl
sub_self (inf true) = refl
sub_self (inf false) = refl
sub_self (fin s m e) = sum_number binary64 s (m * up e * down e) (not s) (m * up e * down e) (down e * down e)

pub finite-test : (x : Float) → eq (sub binary64 x x) (sub binary64 x x) ≡ finite x
finite-test x = self_eq (sub binary64 x x) ∙ ap not (sub_self x) ∙ not-not (finite x)
