-- What the written rings cover, and when none is written. Assumes nothing.
use Prim.Native.Nat.{ℕ, ◌+◌, ◌≤◌}
use native.Mathlib.Omega.{arith}
use mathlib.Core.Path.{◌≡◌, refl, sym, ap, ap₂, ◌∙◌}
use mathlib.Core.Bool.{Bool, true, false, not, ◌&&◌, cond}
use mathlib.Core.List.{List, [], ◌∷◌, ◌++◌}
use lib.ListN.{length, length-append}
use lib.Ieee.{Float, le, lt}
use lib.Ieee.Fits.{and_i}
use lib.Ieee.Bits.{is_true}
use borrow.Author.Tests.{ltb-true, ltb-false}
use Rattle.refusals.specs.Limits.{piece_limit}
use Rattle.floats.specs.Each.{Each}
use Rattle.floats.proofs.Bounding.{le_same, lt-number-l}
use Rattle.rings.specs.declared.Ring.{Ring}
use Rattle.rings.specs.Ring.{covers, covered, kept, in_hand, left}
use Rattle.rings.specs.Points.{tick, count, Disjoint}
use Rattle.rings.proofs.Cover.{Full, full-z, full-r, count-append, covered-count, left-covers, left-disjoint, added_full}
use Rattle.lines.specs.File.{joined}
use Rattle.side_by_side.specs.Compared.{ring_texts, pieces_text, left_texts, left_all, each_in_hand}
use Rattle.side_by_side.proofs.Texts.{line_of, ring_long, rings-texts}
use Rattle.side_by_side.proofs.Pieces.{leaves-yes}

-- ---- the text of the rings that are left

pub both : (a b : Bool) → (a && b) ≡ true → (a ≡ true) × (b ≡ true)
both true b e = (refl, e)
both false b e = let z : false ≡ true = e in let y : ◌≡◌ {A = ℕ} 0 1 = cc in absurd (omega arith)

no_text : [] ≡ ring_texts []
unfolding ring_texts
no_text = refl

pub left-texts : (ks qs : List Ring) → each_in_hand ks qs ≡ true → joined (left_texts ks qs) ≡ ring_texts (left_all ks qs)
unfolding left_texts left_all each_in_hand joined
left-texts ks [] e = no_text
left-texts ks (q ∷ qs) e =
    let h = both (in_hand piece_limit (kept q) ks) (each_in_hand ks qs) e in
    ap₂ ◌++◌ (ap pieces_text (leaves-yes ks q h.0)) (left-texts ks qs h.1) ∙ sym (rings-texts (left ks q) (left_all ks qs))

-- no line, no ring
pub no_lines : (l : List Ring) → ring_texts l ≡ [] → l ≡ []
unfolding ring_texts
no_lines [] e = refl
no_lines (q ∷ l) e =
    let n : length (line_of q ++ ring_texts l) ≡ 0 = ap length e in
    absurd (omega (arith, length-append (line_of q) (ring_texts l), ring_long q.z0 q.z1 q.r0 q.r1))

-- ---- points

-- of a list of which no two share a point: one where it covers the point, else none
pub count-is : (l : List Ring) → Disjoint l → (z r : Float) → count l z r ≡ tick (covered l z r)
count-is l d z r = go (covered l z r) refl
  where
    go : (t : Bool) → covered l z r ≡ t → count l z r ≡ tick t
    go true e = let h = ltb-true 0 (count l z r) (sym (covered-count l z r) ∙ e) in omega (arith, d z r)
    go false e = let h = ltb-false 0 (count l z r) (sym (covered-count l z r) ∙ e) in omega arith

module _ (ks : List Ring) (f : Each Full ks) where
  pub count_left : (qs : List Ring) (z r : Float) → count (left_all ks qs) z r ≡ cond (covered ks z r) 0 (count qs z r)
  unfolding left_all count
  count_left [] z r = go (covered ks z r)
    where
      go : (t : Bool) → ◌≡◌ {A = ℕ} 0 (cond t 0 0)
      go true = refl
      go false = refl
  count_left (q ∷ qs) z r =
      count-append (left ks q) (left_all ks qs) z r
      ∙ ap₂ ◌+◌ (count-is (left ks q) (left-disjoint ks q f) z r ∙ ap tick (left-covers ks q f z r)) (count_left qs z r)
      ∙ go (covered ks z r) (covers q z r)
    where
      go : (s t : Bool) → tick (t && not s) + cond s 0 (count qs z r) ≡ cond s 0 (tick t + count qs z r)
      go true true = refl
      go true false = refl
      go false true = refl
      go false false = refl

  -- the rings left of others, of which no two share a point: each point that the others cover and these do not, once
  pub points-left : (qs : List Ring) → Disjoint qs → (z r : Float) → count (left_all ks qs) z r ≡ tick (covered qs z r && not (covered ks z r))
  points-left qs d z r = count_left qs z r ∙ ap (λ (n : ℕ). cond (covered ks z r) 0 n) (count-is qs d z r) ∙ go (covered ks z r) (covered qs z r)
    where
      go : (s t : Bool) → cond s 0 (tick t) ≡ tick (t && not s)
      go true true = refl
      go true false = refl
      go false true = refl
      go false false = refl

  each-behind : (s t : List Ring) → Each Full (s ++ t) → Each Full t
  each-behind [] t a = a
  each-behind (q ∷ s) t a = each-behind s t a.1

  each-join : (s t : List Ring) → Each Full s → Each Full t → Each Full (s ++ t)
  each-join [] t a b = b
  each-join (q ∷ s) t a b = (a.0, each-join s t a.1 b)

  -- none of them is empty
  pub full-left : (qs : List Ring) → Each Full (left_all ks qs)
  unfolding left_all
  full-left [] = tt
  full-left (q ∷ qs) = each-join (left ks q) (left_all ks qs) (each-behind ks (left ks q) (added_full ks q f)) (full-left qs)

-- a ring that is not empty covers its corner
corner : (q : Ring) → Full q → covers q q.z0 q.r0 ≡ true
corner q f =
    let z = full-z q f in
    let r = full-r q f in
    is_true (covers q q.z0 q.r0)
    (and_i (le q.z0 q.z0 && lt q.z0 q.z1) (le q.r0 q.r0 && lt q.r0 q.r1)
    (and_i (le q.z0 q.z0) (lt q.z0 q.z1) (le_same q.z0 (lt-number-l q.z0 q.z1 z)) z)
    (and_i (le q.r0 q.r0) (lt q.r0 q.r1) (le_same q.r0 (lt-number-l q.r0 q.r1 r)) r))

-- so rings that cover no point are none
no-points : (l : List Ring) → Each Full l → ((z r : Float) → count l z r ≡ 0) → l ≡ []
unfolding count
no-points [] f h = refl
no-points (q ∷ l) f h =
    let e : tick (covers q q.z0 q.r0) + count l q.z0 q.r0 ≡ 0 = h q.z0 q.r0 in
    let g : tick (covers q q.z0 q.r0) ≡ 1 = ap tick (corner q f.0) in
    absurd (omega arith)

none-covers : (l : List Ring) → l ≡ [] → (z r : Float) → count l z r ≡ 0
unfolding count
none-covers l h z r = ap (λ (k : List Ring). count k z r) h

-- ---- two stores
module _ (ks qs : List Ring) (f : Each Full ks) (g : Each Full qs) (d : Disjoint ks) (e : Disjoint qs) where
  -- what either covers and the other does not, each point once
  pub points-both : (z r : Float) → count (left_all ks qs ++ left_all qs ks) z r ≡ tick (covered qs z r && not (covered ks z r)) + tick (covered ks z r && not (covered qs z r))
  points-both z r = count-append (left_all ks qs) (left_all qs ks) z r ∙ ap₂ ◌+◌ (points-left ks f qs e z r) (points-left qs g ks d z r)

  -- no two of them share a point
  pub apart-both : Disjoint (left_all ks qs ++ left_all qs ks)
  apart-both z r = rw (points-both z r) (go (covered qs z r) (covered ks z r))
    where
      go : (s t : Bool) → tick (s && not t) + tick (t && not s) ≤ 1
      go true true = omega arith
      go true false = omega arith
      go false true = omega arith
      go false false = omega arith

  -- where every point that these cover is one of those, none is left
  pub none_left : ((z r : Float) → covered qs z r ≡ true → covered ks z r ≡ true) → left_all ks qs ≡ []
  none_left h = no-points (left_all ks qs) (full-left ks f qs) (λ z r. points-left ks f qs e z r ∙ go z r (covered qs z r) refl)
    where
      go : (z r : Float) (t : Bool) → covered qs z r ≡ t → tick (covered qs z r && not (covered ks z r)) ≡ 0
      go z r true p = ap₂ (λ (s t : Bool). tick (s && not t)) p (h z r p)
      go z r false p = ap (λ (s : Bool). tick (s && not (covered ks z r))) p

  -- and the other way round
  pub left-none : left_all ks qs ≡ [] → (z r : Float) → covered qs z r ≡ true → covered ks z r ≡ true
  left-none h z r p = go (covered ks z r) refl
    where
      go : (t : Bool) → covered ks z r ≡ t → covered ks z r ≡ true
      go true c = c
      go false c =
          let a : tick (covered qs z r && not (covered ks z r)) ≡ 0 = sym (points-left ks f qs e z r) ∙ none-covers (left_all ks qs) h z r in
          let b : tick (covered qs z r && not (covered ks z r)) ≡ 1 = ap₂ (λ (s t : Bool). tick (s && not t)) p c in
          absurd (omega arith)
