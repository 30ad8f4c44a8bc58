-- Texts put one behind the other, with how long they are at most. Assumes nothing.
use Prim.Native.Nat.{ℕ, ◌+◌, ◌/◌, ◌%◌, ◌≤◌}
use native.Mathlib.Omega.{arith}
use mathlib.Core.Path.{◌≡◌, refl, sym, ap, ◌∙◌}
use mathlib.Core.Bool.{Bool, true, false}
use mathlib.Core.List.{List, [], ◌∷◌, ◌++◌}
use lib.Dec.{eqb}
use lib.ListN.{length, take, drop, length-append}
use lib.Seq.{sets-eq, take-append_seam}
use lib.Ieee.{Float}
use borrow.Author.Tests.{eq-eqb, ne_eqb}
use Rattle.floats.specs.Pick.{pick, pick_true, pick-false}
use Rattle.stock.specs.declared.TurnSide.{TurnSide}
use Rattle.stock.specs.declared.TurnSide.TheVariants.{Outer, Inner}
use Rattle.stock.specs.declared.TurnStockSpec.{TurnStockSpec}
use Rattle.text.specs.Digits.{digits, decimal_of}
use Rattle.text.specs.Wrote.{Wrote, Put, WroteLine}
use Rattle.text.proofs.Sets.{and_then, put-wrote, retext, reput}
use Rattle.text.proofs.Spelling.{digits-length, decimal-short}
use Rattle.picture.specs.declared.decimals.Tail.{Tail}
use Rattle.picture.specs.declared.Stretch.{Stretch}
use Rattle.picture.specs.Decimals.{units_of, tail_of, tail_with, fraction_text, units_text, length_text}
use Rattle.picture.specs.Steps.{near_end, start_text, radius_text, turn_text}

-- ---- decimals

module _ (f : ℕ) where
  pub tail-one : f % 1000 ≡ 0 → tail_with 1 (f / 1000) ≡ tail_of f
  unfolding tail_of
  tail-one e = sym (pick_true _ _ _ (eq-eqb _ _ e))

  pub tail-two : (f % 1000 ≡ 0 → ⊥) → f % 100 ≡ 0 → tail_with 2 (f / 100) ≡ tail_of f
  unfolding tail_of
  tail-two a e = sym (pick-false _ _ _ (ne_eqb _ _ a) ∙ pick_true _ _ _ (eq-eqb _ _ e))

  pub tail-three : (f % 1000 ≡ 0 → ⊥) → (f % 100 ≡ 0 → ⊥) → f % 10 ≡ 0 → tail_with 3 (f / 10) ≡ tail_of f
  unfolding tail_of
  tail-three a b e = sym (pick-false _ _ _ (ne_eqb _ _ a) ∙ (pick-false _ _ _ (ne_eqb _ _ b) ∙ pick_true _ _ _ (eq-eqb _ _ e)))

  pub tail-four : (f % 1000 ≡ 0 → ⊥) → (f % 100 ≡ 0 → ⊥) → (f % 10 ≡ 0 → ⊥) → tail_with 4 f ≡ tail_of f
  unfolding tail_of
  tail-four a b d = sym (pick-false _ _ _ (ne_eqb _ _ a) ∙ (pick-false _ _ _ (ne_eqb _ _ b) ∙ pick-false _ _ _ (ne_eqb _ _ d)))

pub fraction-none : {l : List ℕ} {i : ℕ} (f : ℕ) → f ≡ 0 → Wrote l i (fraction_text f) l i
unfolding fraction_text
fraction-none f e = retext (sym (pick_true _ _ _ (eq-eqb f 0 e))) (record { text = refl; end = omega arith })

pub fraction-some : {l m o : List ℕ} {i a r : ℕ} (f : ℕ) (t : Tail) → (f ≡ 0 → ⊥) → t ≡ tail_of f → t.places ≤ 4 → i ≤ 20 → Put l i (46 ∷ []) m a → Put m a (digits 10 t.places t.of) o r
    → Wrote l i (fraction_text f) o r × (r ≤ i + 5)
unfolding fraction_text
fraction-some f t h e s g p q =
    let u = put-wrote 1 refl (omega arith) p in
    let v = put-wrote t.places (digits-length 10 t.places t.of) (omega (arith, u.end)) q in
    let long = digits-length 10 t.places t.of in
    (retext (ap (λ (x : Tail). (46 ∷ []) ++ digits 10 x.places x.of) e ∙ sym (pick-false _ _ _ (ne_eqb f 0 h))) (and_then u v), omega (arith, u.end, v.end, long))

-- where a number in decimal ends at the front
pub decimal-end : {l m : List ℕ} {a : ℕ} (n : ℕ) → Put l 0 (decimal_of n) m a → a ≤ 20
decimal-end n p = let w = put-wrote (length (decimal_of n)) refl (omega (arith, decimal-short n)) p in omega (arith, w.end, decimal-short n)

pub units-put : {l m o : List ℕ} {a r : ℕ} (n : ℕ) → Put l 0 (decimal_of (n / 10000)) m a → Wrote m a (fraction_text (n % 10000)) o r × (r ≤ a + 5) → WroteLine l (units_text n) o r
unfolding units_text
units-put n p q =
    let w = put-wrote (length (decimal_of (n / 10000))) refl (omega (arith, decimal-short (n / 10000))) p in
    record { wrote = and_then w q.0; within = omega (arith, decimal-end _ p, q.1) }

wrote-front : {l t m : List ℕ} {j : ℕ} → j ≤ length l → Wrote l 0 t m j → take j m ≡ t
wrote-front {l} {t} {m} {j} h w =
    let k : j ≡ length t = omega (arith, w.end) in
    rw (k, w.text, sets-eq t l 0 (omega (arith, h, k))) (take-append_seam t (drop (0 + length t) l))

pub length-put : {l m b p q : List ℕ} {n u i j : ℕ} (x : Float) → length l ≡ 128 → u ≡ units_of x → WroteLine l (units_text u) m n → b ≡ take n m → Put p i b q j → Put p i (length_text x) q j
unfolding length_text
length-put x h e w f g = reput (f ∙ (wrote-front (omega (arith, w.within)) w.wrote ∙ ap units_text e)) g

-- ---- how long

tail-small : (f : ℕ) → (tail_of f).places ≤ 4
unfolding tail_of pick
tail-small f = by (eqb (f % 1000) 0) (eqb (f % 100) 0) (eqb (f % 10) 0)
  where
    by : (a b c : Bool) → (pick a (tail_with 1 (f / 1000)) (pick b (tail_with 2 (f / 100)) (pick c (tail_with 3 (f / 10)) (tail_with 4 f)))).places ≤ 4
    by true b c = omega arith
    by false true c = omega arith
    by false false true = omega arith
    by false false false = omega arith

fraction-short : (f : ℕ) → length (fraction_text f) ≤ 5
unfolding fraction_text pick
fraction-short f = by (eqb f 0)
  where
    by : (a : Bool) → length (pick a [] ((46 ∷ []) ++ digits 10 (tail_of f).places (tail_of f).of)) ≤ 5
    by true = omega arith
    by false = omega (arith, digits-length 10 (tail_of f).places (tail_of f).of, tail-small f)

pub length-short : (x : Float) → length (length_text x) ≤ 25
unfolding length_text units_text
length-short x = omega (arith, length-append (decimal_of (units_of x / 10000)) (fraction_text (units_of x % 10000)), decimal-short (units_of x / 10000), fraction-short (units_of x % 10000))

-- ---- the parts of a step

-- a letter and a length
pub lettered : {l m o : List ℕ} {i a r : ℕ} (b : ℕ) (x : Float) → i ≤ 52 → Put l i (b ∷ []) m a → Put m a (length_text x) o r → Wrote l i ((b ∷ []) ++ length_text x) o r × (r ≤ i + 26)
lettered b x h p q =
    let u = put-wrote 1 refl (omega arith) p in
    let v = put-wrote (length (length_text x)) refl (omega (arith, u.end, length-short x)) q in
    (and_then u v, omega (arith, u.end, v.end, length-short x))

pub start-put : {l m n o p : List ℕ} {a b c r : ℕ} (x y : Float) → Put l 0 (77 ∷ []) m a → Put m a (length_text x) n b → Put n b (32 ∷ []) o c → Put o c (length_text y) p r
    → Wrote l 0 (start_text x y) p r × (r ≤ 52)
start-put x y p q s t =
    let u = put-wrote 1 refl (omega arith) p in
    let v = put-wrote (length (length_text x)) refl (omega (arith, u.end, length-short x)) q in
    let w = put-wrote 1 refl (omega (arith, u.end, v.end, length-short x)) s in
    let z = put-wrote (length (length_text y)) refl (omega (arith, u.end, v.end, w.end, length-short x, length-short y)) t in
    (and_then u (and_then v (and_then w z)), omega (arith, u.end, v.end, w.end, z.end, length-short x, length-short y))

module _ {l m : List ℕ} {r : ℕ} (spec : TurnStockSpec) (s : Stretch) (k : ℕ) (radius : Float) where
  pub turn-later : (side : TurnSide) → (k ≡ 0 → ⊥) → Wrote l 0 (radius_text radius) m r → Wrote l 0 (turn_text side spec s k radius) m r
  unfolding turn_text
  turn-later Outer h w = retext (sym (pick-false _ _ _ (ne_eqb k 0 h))) w
  turn-later Inner h w = w

  pub turn-outer : {side : TurnSide} {x : Float} → side ≡ Outer → k ≡ 0 → x ≡ near_end spec s → Wrote l 0 (start_text x radius) m r → Wrote l 0 (turn_text side spec s k radius) m r
  unfolding turn_text
  turn-outer e h f w =
      retext
      (ap (λ (y : Float). start_text y radius) f ∙ (sym (pick_true _ _ _ (eq-eqb k 0 h)) ∙ ap (λ (y : TurnSide). turn_text y spec s k radius) (sym e)))
      w

  pub turn-inner : {side : TurnSide} → side ≡ Inner → Wrote l 0 (radius_text radius) m r → Wrote l 0 (turn_text side spec s k radius) m r
  unfolding turn_text
  turn-inner e w = retext (ap (λ (y : TurnSide). turn_text y spec s k radius) (sym e)) w
