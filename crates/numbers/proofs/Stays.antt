-- Where each part is zero, or 2 ^ -511 or more in size, the length is 01's to the bit: `length-stays`. Tiny parts are scaled by a power of two, and so is all that comes of them. Assumes nothing.
use Rattle.std.proofs.Common.{◌≡◌, ℕ, zero, ◌+◌, ◌-◌, ◌*◌, ◌^◌, ◌<◌, ◌≤◌, Bool, true, false, T, ◌⊎◌, negsuc, sym, refl, ap, ◌∙◌, subst, ap₂, inl, inr, le_trans, le_of_eq, le_refl, lt_of_lt_of_le, lt_of_le_of_lt, le_of_lt, mul-le-mul_right, mul_assoc, add-mul, mul-le-mul, le_antisymm, lt_of_mul-lt-mul_right, mul-le-mul_left, mul-lt-mul_of_pos_right, mul-pos, zero-mul, mul-one, mul_right_comm, arith, lit<, lit≤, pow_pos, pow_mono, pow-add, shl_lt}
use lib.Pow.{pow-lt}
use lib.Ieee.{Float, fin, binary64, fits, le, lt, eq}
use lib.Ieee.Scale.{grid_scale, normal_of_fraction}
use Rattle.refusals.specs.Paper.{answers}
use Rattle.floats.specs.Numbers.{◌+₆₄◌, ◌*₆₄◌, size_of, zero64}
use Rattle.floats.specs.Kinds.{Finite, Plain, Within}
use Rattle.floats.proofs.Keys.{top, mag, below-pow, key-fin}
use Rattle.floats.proofs.Order.{of_le, key-unique}
use Rattle.floats.proofs.Rounded.{rounded, snap, rounded-mono, rounded-same, rounded-zero, snap-exact}
use Rattle.floats.proofs.Signed.{zero+, number-finite, mul-number, product}
use Rattle.floats.proofs.Within.{size-finite, finite-size, within-size, size-within, within-weaken, within-mul, within-add}
use Rattle.floats.proofs.Ratio.{plain-positive}
use Rattle.floats.proofs.Zeros.{mul-plain}
use Rattle.numbers.specs.Root.{Nearer}
use Rattle.numbers.specs.Length.{scale_up, scale_down, tiny_parts, plain_length, length_of}
use Rattle.numbers.proofs.Pack.{sq-mul}
use Rattle.numbers.proofs.Units.{mul-size, nonneg-key, square-nonneg, add-size, product-least, finite-sized, size-key, zero-size}
use Rattle.numbers.proofs.Squares.{rounded-grid, normal-digits}
use Rattle.numbers.proofs.Sizes.{root-bounded, root-finite, root-nonneg, root-plain, root-nearer, root-key, near-mono}
use Rattle.numbers.proofs.Ruled.{Squared, within-squared, plain-answers, first_part, second-part, plain-zero}
use Rattle.numbers.proofs.Tiny.{Scaled, length-cases, tiny-within, scaled_exact, up-finite, length-tiny, length-plain, scaled-size, down_is, down-finite, down-size}
use Rattle.numbers.proofs.Lengths.{long-finite, scaled-zero, length-finite, length-nonneg}

-- ---- what is rounded in the normal range, and scaled
rounded-scale : (a c t : ℕ) → 0 < c → 2 ^ 52 * c ≤ a * 2 ^ 1074 → rounded binary64 (a * 2 ^ t) c < top binary64 → rounded binary64 (a * 2 ^ t) c ≡ rounded binary64 a c * 2 ^ t
rounded-scale a c t C r h =
    let more : a * c ≤ a * 2 ^ t * c = mul-le-mul_right c (le_trans (le_of_eq (sym (mul-one a))) (mul-le-mul_left a (pow_pos t))) in
    let small : rounded binary64 a c < top binary64 = lt_of_le_of_lt (rounded-mono binary64 a c (a * 2 ^ t) c C C more) h in
    rounded-grid binary64 (a * 2 ^ t) c h ∙ grid_scale binary64 a c t C (normal_of_fraction binary64 a c C r) ∙ ap (λ (n : ℕ). n * 2 ^ t) (sym (rounded-grid binary64 a c small))

-- zero, or as large as that
abbrev Kept : ℕ → ℕ → Type 0
Kept c a = (a ≡ 0) ⊎ (2 ^ c ≤ a)

module _ {x : Float} (p : Finite binary64 x) (h : mag binary64 x < 2 ^ 674) (q : Finite binary64 (x *₆₄ scale_up)) (s : Finite binary64 ((x *₆₄ scale_up) *₆₄ (x *₆₄ scale_up))) where
  square-kept : Kept 563 (mag binary64 x) → Kept 52 (mag binary64 (x *₆₄ x))
  square-kept (inl e) = inl (mul-size p p ∙ ap (λ (n : ℕ). product binary64 n n) e ∙ rounded-zero binary64 (2 ^ 1074 * 2 ^ 1074) (mul-pos (pow_pos 1074) (pow_pos 1074)))
  square-kept (inr k) = inr (le_trans (product-least 52 (mag binary64 x) (mag binary64 x) (lit≤ tt) (le_trans (le_of_eq (sym (pow-add 2 52 1074) ∙ pow-add 2 563 563)) (mul-le-mul k k))) (le_of_eq (sym (mul-size p p))))

  square-scaled : Kept 563 (mag binary64 x) → mag binary64 ((x *₆₄ scale_up) *₆₄ (x *₆₄ scale_up)) ≡ mag binary64 (x *₆₄ x) * 2 ^ 1200
  square-scaled k = go k
    where
      X : ℕ
      X = mag binary64 x

      W : ℕ
      W = 2 ^ 1074 * 2 ^ 1074

      W+ : 0 < W
      W+ = mul-pos (pow_pos 1074) (pow_pos 1074)

      is : mag binary64 ((x *₆₄ scale_up) *₆₄ (x *₆₄ scale_up)) ≡ rounded binary64 (X * X * 2 ^ 1200) W
      is = mul-size q q ∙ ap (λ (n : ℕ). rounded binary64 (n * n) W) (scaled-size p h) ∙ ap (λ (n : ℕ). rounded binary64 n W) (sq-mul X (2 ^ 600) ∙ ap (λ (n : ℕ). X * X * n) (sym (pow-add 2 600 600)))

      go : Kept 563 X → mag binary64 ((x *₆₄ scale_up) *₆₄ (x *₆₄ scale_up)) ≡ mag binary64 (x *₆₄ x) * 2 ^ 1200
      go (inl e) =
          is
          ∙ ap (λ (n : ℕ). rounded binary64 n W) (ap (λ (n : ℕ). n * n * 2 ^ 1200) e ∙ zero-mul (2 ^ 1200))
          ∙ rounded-zero binary64 W W+
          ∙ sym (ap (λ (n : ℕ). n * 2 ^ 1200) (mul-size p p ∙ ap (λ (n : ℕ). product binary64 n n) e ∙ rounded-zero binary64 W W+) ∙ zero-mul (2 ^ 1200))
      go (inr k) =
          is
          ∙ rounded-scale (X * X) W 1200 W+ (le_trans (le_of_eq (sym (mul_assoc (2 ^ 52) (2 ^ 1074) (2 ^ 1074)))) (mul-le-mul_right (2 ^ 1074) (le_trans (le_of_eq (sym (pow-add 2 52 1074) ∙ pow-add 2 563 563)) (mul-le-mul k k)))) (lt_of_le_of_lt (le_of_eq (sym is)) (size-finite s))
          ∙ ap (λ (n : ℕ). n * 2 ^ 1200) (sym (mul-size p p))

-- the sum of two squares
snap-scale : (n : ℕ) → Kept 52 n → snap binary64 (n * 2 ^ 1200) < top binary64 → snap binary64 (n * 2 ^ 1200) ≡ snap binary64 n * 2 ^ 1200
snap-scale n (inl e) h =
    ap (λ (m : ℕ). snap binary64 m) (ap (λ (m : ℕ). m * 2 ^ 1200) e ∙ zero-mul (2 ^ 1200)) ∙ rounded-zero binary64 (2 ^ 1074) (pow_pos 1074)
    ∙ sym (ap (λ (m : ℕ). m * 2 ^ 1200) (ap (λ (m : ℕ). snap binary64 m) e ∙ rounded-zero binary64 (2 ^ 1074) (pow_pos 1074)) ∙ zero-mul (2 ^ 1200))
snap-scale n (inr k) h = rounded-scale n (2 ^ 1074) 1200 (pow_pos 1074) (mul-le-mul_right (2 ^ 1074) k) h

sum_kept : (a b : ℕ) → Kept 52 a → Kept 52 b → Kept 52 (a + b)
sum_kept a b (inl d) (inl e) = inl (omega arith)
sum_kept a b (inr d) e = inr (le_trans d (let g : a ≤ a + b = omega arith in g))
sum_kept a b (inl d) (inr e) = inr (le_trans e (let g : b ≤ a + b = omega arith in g))

-- ---- nearness, and scaled
nearer-back : (N R Y P : ℕ) → 0 < P → Nearer (N * (P * P)) (R * P) (Y * P) → Nearer N R Y
nearer-back N R Y P P+ w = record {
  above = λ h. lt_of_mul-lt-mul_right (P * P) (lt_of_le_of_lt (le_of_eq (mul_right_comm N 4 (P * P))) (lt_of_lt_of_le (w.above (mul-lt-mul_of_pos_right h P+)) (le_of_eq square)));
  under = λ h. lt_of_mul-lt-mul_right (P * P) (lt_of_le_of_lt (le_of_eq (sym square)) (lt_of_lt_of_le (w.under (mul-lt-mul_of_pos_right h P+)) (le_of_eq (mul_right_comm N (P * P) 4))));
}
  where
    square : (R * P + Y * P) * (R * P + Y * P) ≡ (R + Y) * (R + Y) * (P * P)
    square = ap (λ (n : ℕ). n * n) (sym (add-mul R Y P)) ∙ sq-mul (R + Y) P

scaled-large : {z : Float} → Finite binary64 z → mag binary64 z < 2 ^ 674 → 2 ^ 563 ≤ mag binary64 z → 2 ^ 1163 ≤ mag binary64 (z *₆₄ scale_up)
scaled-large p t h = le_trans (le_of_eq (pow-add 2 563 600)) (le_trans (mul-le-mul_right (2 ^ 600) h) (le_of_eq (sym (scaled-size p t))))

tiny-low : {z : Float} → Finite binary64 z → mag binary64 z < 2 ^ 674 → Within binary64 0 z
tiny-low p h = within-size p (le_trans (le_of_lt h) (pow_mono {i = 674} {j = 1074} (lit≤ tt)))

-- ---- tiny parts, each zero or 2 ^ -511 or more
module _ {x y l r : Float} (s : Scaled x y l) (S : Squared x y) (e : plain_length x y ≡ answers r) (a : Kept 563 (mag binary64 x)) (b : Kept 563 (mag binary64 y)) where
  abbrev N : ℕ
  N = mag binary64 (x *₆₄ x +₆₄ y *₆₄ y)

  sum-scaled : mag binary64 ((x *₆₄ scale_up) *₆₄ (x *₆₄ scale_up) +₆₄ (y *₆₄ scale_up) *₆₄ (y *₆₄ scale_up)) ≡ N * 2 ^ 1200
  sum-scaled =
      let t = s.parts in
      let A = mag binary64 (x *₆₄ x) in
      let B = mag binary64 (y *₆₄ y) in
      let c = square-scaled s.first s.first-tiny t.first t.first-square a in
      let d = square-scaled s.second s.second-tiny t.second t.second-square b in
      let is : mag binary64 ((x *₆₄ scale_up) *₆₄ (x *₆₄ scale_up) +₆₄ (y *₆₄ scale_up) *₆₄ (y *₆₄ scale_up)) ≡ snap binary64 ((A + B) * 2 ^ 1200) =
      add-size t.first-square t.second-square (square-nonneg t.first) (square-nonneg t.second) ∙ ap₂ (λ (m n : ℕ). snap binary64 (m + n)) c d ∙ ap (λ (n : ℕ). snap binary64 n) (sym (add-mul A B (2 ^ 1200))) in
      is
      ∙ snap-scale (A + B) (sum_kept A B (square-kept s.first s.first-tiny t.first t.first-square a) (square-kept s.second s.second-tiny t.second t.second-square b)) (lt_of_le_of_lt (le_of_eq (sym is)) (size-finite t.both))
      ∙ ap (λ (n : ℕ). n * 2 ^ 1200) (sym (add-size S.first-square S.second-square (square-nonneg S.first) (square-nonneg S.second)))

  long-large : (2 ^ 563 ≤ mag binary64 x) ⊎ (2 ^ 563 ≤ mag binary64 y) → 2 ^ 1163 ≤ mag binary64 s.long
  long-large (inl h) = let k = scaled-large s.first s.first-tiny h in le_trans k (first_part s.parts s.is (le_trans (pow_mono {i = 563} {j = 1163} (lit≤ tt)) k))
  long-large (inr h) = let k = scaled-large s.second s.second-tiny h in le_trans k (second-part s.parts s.is (le_trans (pow_mono {i = 563} {j = 1163} (lit≤ tt)) k))

  -- scaling back loses nothing
  back-exact : 2 ^ 1163 ≤ mag binary64 s.long → mag binary64 s.long ≡ mag binary64 l * 2 ^ 600
  back-exact k =
      let q = long-finite s in
      let d = normal-digits q (le_trans (pow_mono {i = 563} {j = 1163} (lit≤ tt)) k) in
      let m = d.0 in
      let h = d.1 in
      let far : 1163 ≤ 53 + h = below-pow 1163 (53 + h) (le_trans k (le_trans (le_of_eq d.4) (le_of_lt (shl_lt 53 h d.3)))) in
      let g : h ≡ h - 600 + 600 = split h far in
      let i : m * 2 ^ h ≡ m * 2 ^ (h - 600) * 2 ^ 600 = ap (λ (n : ℕ). m * n) (ap (λ (n : ℕ). 2 ^ n) g ∙ pow-add 2 (h - 600) 600) ∙ sym (mul_assoc m (2 ^ (h - 600)) (2 ^ 600)) in
      let Y = m * 2 ^ (h - 600) in
      let small : Y < top binary64 = lt_of_le_of_lt (le_trans (le_of_eq (sym (mul-one Y))) (le_trans (mul-le-mul_left Y (pow_pos 600)) (le_of_eq (sym (d.4 ∙ i))))) (size-finite q) in
      let j : mag binary64 l ≡ Y =
      ap (λ (z : Float). mag binary64 z) (sym s.back)
      ∙ mul-size q down-finite
      ∙ ap₂ (λ (m n : ℕ). product binary64 m n) (d.4 ∙ i) down-size
      ∙ rounded-same binary64 (Y * 2 ^ 600 * 2 ^ 474) (2 ^ 1074 * 2 ^ 1074) Y (2 ^ 1074) (mul-pos (pow_pos 1074) (pow_pos 1074)) (pow_pos 1074) (cross Y)
      ∙ snap-exact binary64 m (h - 600) d.3 small in
      d.4 ∙ i ∙ ap (λ (n : ℕ). n * 2 ^ 600) (sym j)
    where
      split : (h : ℕ) → 1163 ≤ 53 + h → h ≡ h - 600 + 600
      split h k = omega arith

      cross : (Y : ℕ) → Y * 2 ^ 600 * 2 ^ 474 * 2 ^ 1074 ≡ Y * (2 ^ 1074 * 2 ^ 1074)
      cross Y = ap (λ (n : ℕ). n * 2 ^ 1074) (mul_assoc Y (2 ^ 600) (2 ^ 474) ∙ ap (λ (n : ℕ). Y * n) (sym (pow-add 2 600 474))) ∙ mul_assoc Y (2 ^ 1074) (2 ^ 1074)

  root-small : mag binary64 r < 2 ^ 1100
  unfolding plain_length
  root-small =
      let X = tiny-low s.first s.first-tiny in
      let Y = tiny-low s.second s.second-tiny in
      lt_of_le_of_lt (size-within (root-bounded 1 (x *₆₄ x +₆₄ y *₆₄ y) r (unfold fits in tt) (within-weaken (lit≤ tt) (within-add (within-mul X X (lit≤ tt)) (within-mul Y Y (lit≤ tt)) (lit< tt))) e)) (pow-lt {i = 1075} {j = 1100} (lit< tt))

  same_size : 2 ^ 1163 ≤ mag binary64 s.long → Finite binary64 l → mag binary64 l ≡ mag binary64 r
  unfolding plain_length
  same_size k f =
      let q = root-finite S.both e in
      let v = r *₆₄ scale_up in
      let z = scaled_exact q root-small in
      let U : Finite binary64 v = finite-size (mul-number q up-finite) (lt_of_le_of_lt (le_of_eq z) (lt_of_lt_of_le (mul-lt-mul_of_pos_right root-small (pow_pos 600)) (le_trans (le_of_eq (sym (pow-add 2 1100 600))) (unfold top in pow_mono {i = 1700} {j = 2098} (lit≤ tt))))) in
      let c : mag binary64 ((x *₆₄ scale_up) *₆₄ (x *₆₄ scale_up) +₆₄ (y *₆₄ scale_up) *₆₄ (y *₆₄ scale_up)) * 2 ^ 1074 ≡ N * 2 ^ 1074 * (2 ^ 600 * 2 ^ 600) = ap (λ (n : ℕ). n * 2 ^ 1074) (sum-scaled ∙ ap (λ (n : ℕ). N * n) (pow-add 2 600 600)) ∙ mul_right_comm N (2 ^ 600 * 2 ^ 600) (2 ^ 1074) in
      let w : Nearer (N * 2 ^ 1074 * (2 ^ 600 * 2 ^ 600)) (mag binary64 l * 2 ^ 600) (mag binary64 r * 2 ^ 600) =
      subst (λ (n : ℕ). Nearer n (mag binary64 l * 2 ^ 600) (mag binary64 r * 2 ^ 600)) c
      (subst (λ (n : ℕ). Nearer (mag binary64 ((x *₆₄ scale_up) *₆₄ (x *₆₄ scale_up) +₆₄ (y *₆₄ scale_up) *₆₄ (y *₆₄ scale_up)) * 2 ^ 1074) n (mag binary64 r * 2 ^ 600)) (back-exact k)
      (subst (λ (n : ℕ). Nearer (mag binary64 ((x *₆₄ scale_up) *₆₄ (x *₆₄ scale_up) +₆₄ (y *₆₄ scale_up) *₆₄ (y *₆₄ scale_up)) * 2 ^ 1074) (mag binary64 s.long) n) z (root-nearer s.parts.both s.is U))) in
      let i : Nearer (N * 2 ^ 1074) (mag binary64 l) (mag binary64 r) = nearer-back (N * 2 ^ 1074) (mag binary64 l) (mag binary64 r) (2 ^ 600) (pow_pos 600) w in
      let j : Nearer (N * 2 ^ 1074) (mag binary64 r) (mag binary64 l) = root-nearer S.both e f in
      le_antisymm (near-mono (N * 2 ^ 1074) (N * 2 ^ 1074) (mag binary64 l) (mag binary64 r) (le_refl (N * 2 ^ 1074)) i j) (near-mono (N * 2 ^ 1074) (N * 2 ^ 1074) (mag binary64 r) (mag binary64 l) (le_refl (N * 2 ^ 1074)) j i)

-- what `length` gives of tiny parts is no -0.0
scaled-plain : {x y l : Float} → Scaled x y l → Plain binary64 l
unfolding plain_length
scaled-plain s =
    let d = subst (λ (z : Float). T (lt zero+ z)) (sym down_is) (unfold lt in tt) in
    let c = subst (λ (z : Float). T (le zero+ z)) (sym down_is) (unfold le lt eq in tt) in
    subst (λ (z : Float). Plain binary64 z) s.back
    (mul-plain (root-plain s.parts.both s.is) (plain-positive binary64 scale_down down-finite d) (long-finite s) down-finite (root-nonneg s.parts.both s.is) c)

-- a part that is zero, or 2 ^ -511 or more in size
abbrev pub Clear : Float → Type 0
Clear x = T (eq x zero64) ⊎ T (le (fin false 1 (negsuc 510)) (size_of x))

least_size : mag binary64 (fin false 1 (negsuc 510)) ≡ 2 ^ 563
unfolding mag
least_size = refl

clear_kept : {x : Float} → Finite binary64 x → Clear x → Kept 563 (mag binary64 x)
clear_kept p (inl h) = inl ((zero-size p).0 h)
clear_kept {x} p (inr h) =
    let w : Finite binary64 (fin false 1 (negsuc 510)) = record { held = unfold fits in tt; finite = tt } in
    inr (le_trans (le_of_eq (sym least_size)) (off (top binary64) (mag binary64 (fin false 1 (negsuc 510))) (mag binary64 x) (of_le (number-finite w) (number-finite (finite-sized p)) h) (key-fin binary64 false 1 (negsuc 510)) (size-key p)))
  where
    off : (o a b : ℕ) {i j : ℕ} → i ≤ j → i ≡ o + a → j ≡ o + b → a ≤ b
    off o a b h e g = omega arith

-- there the length is 01's, to the bit
pub length-stays : (x y : Float) → T (fits binary64 x) → T (fits binary64 y) → Clear x → Clear y → length_of x y ≡ plain_length x y
unfolding plain_length
length-stays x y f g cx cy = go (tiny_parts x y) refl
  where
    same : (s : Squared x y) {l r : Float} → Scaled x y l → plain_length x y ≡ answers r → length_of x y ≡ answers l → Kept 563 (mag binary64 x) → Kept 563 (mag binary64 y) → mag binary64 l ≡ mag binary64 r
    same S {l} {r} s e i (inl a) (inl b) = (scaled-zero s).1 (a, b) ∙ sym (plain-zero S e a b)
    same S {l} {r} s e i (inr a) b = same_size s S e (inr a) b (long-large s S e (inr a) b (inl a)) (length-finite x y l f g i)
    same S {l} {r} s e i (inl a) (inr b) = same_size s S e (inl a) (inr b) (long-large s S e (inl a) (inr b) (inr b)) (length-finite x y l f g i)

    tiny : (l : Float) → length_of x y ≡ answers l → Scaled x y l → length_of x y ≡ plain_length x y
    tiny l i s =
        let S = within-squared (tiny-within s.first s.first-tiny) (tiny-within s.second s.second-tiny) in
        let a = plain-answers S in
        let k = same S s a.1 i (clear_kept s.first cx) (clear_kept s.second cy) in
        i ∙ ap answers (key-unique (scaled-plain s) (root-plain S.both a.1) (nonneg-key (number-finite (length-finite x y l f g i)) (length-nonneg x y l f g i) ∙ ap (λ (n : ℕ). top binary64 + n) k ∙ sym (root-key S.both a.1))) ∙ sym a.1

    go : (b : Bool) → tiny_parts x y ≡ b → length_of x y ≡ plain_length x y
    go false t = length-plain x y f g t
    go true t =
        let a = length-tiny x y f g t in
        elim (length-cases x y (a.0 *₆₄ scale_down) f g a.2) [
          | inl r ↦ a.2 ∙ sym r.is
          | inr s ↦ tiny (a.0 *₆₄ scale_down) a.2 s
        ]
