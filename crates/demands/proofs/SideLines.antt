-- Each ring that is written of two stocks reads back from its line. Assumes nothing.
use mathlib.Core.Path.{◌≡◌}
use mathlib.Core.Bool.{Bool, true, false, ◌&&◌}
use mathlib.Core.List.{List, [], ◌∷◌, ◌++◌}
use Prim.Native.Nat.{ℕ}
use lib.Dec.{T}
use lib.Ieee.{Float, binary64, fits, to_bits, lt}
use Rattle.floats.specs.Pick.{pick}
use Rattle.floats.specs.Numbers.{least_of, greatest_of}
use Rattle.floats.specs.Each.{Each}
use Rattle.floats.proofs.Bools.{so}
use Rattle.floats.proofs.Folds.{each_append}
use Rattle.stock.proofs.Count.{and_both}
use Rattle.rings.specs.declared.Ring.{Ring}
use Rattle.rings.specs.Ring.{apart, common, kept, before, behind, inside, outside, left}
use Rattle.rings.specs.Store.{ring_fits, apart_all, store_fits}
use Rattle.rings.proofs.Cover.{Full, each-kept, each-left-of}
use Rattle.rings.proofs.Fitting.{fits-of, store-full}
use Rattle.text.specs.Lines.{newline, ring_line}
use Rattle.stock_lines.specs.Form.{holds, line_of, fields_text, ring_prefix}
use Rattle.stock_lines.proofs.Forms.{none, more}
use Rattle.stock_lines.proofs.EachLine.{reads}
use Rattle.stock_file.proofs.Keepable.{plus}
use Rattle.side_by_side.specs.Compared.{left_all}
use Rattle.demands.proofs.FileRings.{Held}

-- a number that a file keeps: of 64 bits, and not -0.0
record Edge (x : Float) : Type 0 where
  held : T (fits binary64 x)
  signed : to_bits binary64 x ≡ 0x8000000000000000 → ⊥

-- a ring that a file keeps
record Keepable (q : Ring) : Type 0 where
  full : Full q
  z0 : Edge q.z0
  z1 : Edge q.z1
  r0 : Edge q.r0
  r1 : Edge q.r1

-- ---- what is left of rings that a file keeps, it keeps

one_of : (t : Bool) (a b : Float) → Edge a → Edge b → Edge (pick t a b)
unfolding pick
one_of true a b p q = p
one_of false a b p q = q

greatest : (a b : Float) → Edge a → Edge b → Edge (greatest_of a b)
unfolding greatest_of
greatest a b p q = one_of (lt a b) b a q p

least : (a b : Float) → Edge a → Edge b → Edge (least_of a b)
unfolding least_of
least a b p q = one_of (lt b a) b a q p

parts : (p k : Ring) → Keepable p → Keepable k → apart p k ≡ false → (Full (before p (common p k)) → Keepable (before p (common p k))) × (Full (behind p (common p k)) → Keepable (behind p (common p k)))
    × (Full (inside p (common p k)) → Keepable (inside p (common p k))) × (Full (outside p (common p k)) → Keepable (outside p (common p k)))
parts p k a b e =
    let x = greatest p.z0 k.z0 a.z0 b.z0 in
    let y = least p.z1 k.z1 a.z1 b.z1 in
    let u = greatest p.r0 k.r0 a.r0 b.r0 in
    let v = least p.r1 k.r1 a.r1 b.r1 in (
      λ f. record { full = f; z0 = a.z0; z1 = x; r0 = a.r0; r1 = a.r1 },
      λ f. record { full = f; z0 = y; z1 = a.z1; r0 = a.r0; r1 = a.r1 },
      λ f. record { full = f; z0 = x; z1 = y; r0 = a.r0; r1 = u },
      λ f. record { full = f; z0 = x; z1 = y; r0 = v; r1 = a.r1 },
    )

-- a property that what a ring leaves of another keeps
module _ (P : Ring → Type 0) (full : (q : Ring) → P q → Full q)
    (parts : (p k : Ring) → P p → P k → apart p k ≡ false → (Full (before p (common p k)) → P (before p (common p k))) × (Full (behind p (common p k)) → P (behind p (common p k)))
    × (Full (inside p (common p k)) → P (inside p (common p k))) × (Full (outside p (common p k)) → P (outside p (common p k)))) where
  pub each_left : (ks qs : List Ring) → Each P ks → Each P qs → Each P (left_all ks qs)
  unfolding left left_all
  each_left ks [] a b = tt
  each_left ks (q ∷ qs) a b = each_append P (left ks q) (left_all ks qs) (each-left-of P full parts (kept q) ks (each-kept P q (λ _. b.0)) a) (each_left ks qs a b.1)

-- ---- a store that passes refusal 4's test, of numbers of 64 bits, is of such rings

edge : (x : Float) → T (fits binary64 x) → (to_bits binary64 x ≡ 0x8000000000000000 → ⊥) → Edge x
edge x h u = record { held = h; signed = u }

stored : (e : Ring) (l : List Ring) → store_fits e l ≡ true → Each Full l → Each Held l → Each Keepable l
unfolding store_fits
stored e [] t f h = tt
stored e (q ∷ l) t f h =
    let b = and_both (ring_fits e q && apart_all l q) (store_fits e l) t in
    let w = fits-of e q (so (and_both (ring_fits e q) (apart_all l q) b.0).0) in
    let g = h.0 in (
      record {
        full = f.0;
        z0 = edge q.z0 g.z0 (plus q.z0 g.z0 w.u0);
        z1 = edge q.z1 g.z1 (plus q.z1 g.z1 w.u1);
        r0 = edge q.r0 g.r0 (plus q.r0 g.r0 w.u2);
        r1 = edge q.r1 g.r1 (plus q.r1 g.r1 w.u3);
      },
      stored e l b.1 f.1 h.1,
    )

-- ---- lines

-- the line of a ring, without its newline, reads as the ring's edges
abbrev pub ReadsBack : Ring → Type 0
ReadsBack q = (s : List ℕ) → s ++ newline ≡ ring_line q.z0 q.z1 q.r0 q.r1 → line_of ring_prefix 4 s ≡ holds (q.z0 ∷ q.z1 ∷ q.r0 ∷ q.r1 ∷ [])

reads-back : (q : Ring) → Keepable q → ReadsBack q
unfolding ring_line fields_text
reads-back q w s e =
    reads ring_prefix s (q.z0 ∷ q.z1 ∷ q.r0 ∷ q.r1 ∷ []) (more w.z0.held w.z0.signed (more w.z1.held w.z1.signed (more w.r0.held w.r0.signed (more w.r1.held w.r1.signed none)))) e

all_back : (l : List Ring) → Each Keepable l → Each ReadsBack l
all_back [] a = tt
all_back (q ∷ l) a = (reads-back q a.0, all_back l a.1)

-- LINES: each ring that is left of qs reads back from its line
pub compared-lines : (e : Ring) (ks qs : List Ring) → store_fits e ks ≡ true → store_fits e qs ≡ true → Each Held ks → Each Held qs → Each ReadsBack (left_all ks qs)
compared-lines e ks qs f g h k = all_back (left_all ks qs) (each_left Keepable (λ q w. w.full) parts ks qs (stored e ks f (store-full e ks f) h) (stored e qs g (store-full e qs g) k))
