-- A block whose bins all have material has its ends for its kept numbers. Assumes nothing.
use mathlib.Core.Path.{◌≡◌, refl, sym, ap, ◌∙◌, subst}
use mathlib.Core.Bool.{Bool, true, false, ◌&&◌, false≢true}
use mathlib.Core.List.{List}
use mathlib.Core.Logic.{◌⊎◌, inl, inr}
use Prim.Native.Nat.{ℕ, zero, suc, ◌+◌, ◌*◌, ◌-◌, ◌≤◌, ◌<◌}
use native.Mathlib.Nat.{eq-or-lt_of_le}
use native.Mathlib.Omega.{arith}
use lib.Dec.{T, ltb}
use borrow.Author.Tests.{ltb-true, ltb-false}
use lib.Ieee.{Float, nan, inf, fin, binary64, add, is_nan, lt, le, eq}
use lib.Ieee.Bits.{is_true}
use Rattle.refusals.specs.Limits.{block_bins}
use Rattle.floats.specs.Pick.{pick_true}
use Rattle.floats.specs.Numbers.{◌+₆₄◌, least_of, greatest_of}
use Rattle.floats.proofs.Anywhere.{le-chain, eq-turns}
use Rattle.floats.proofs.Bounding.{eq-le, lt-number-l, lt-number-r, lt-le-chain, le-lt-chain, le_same, greatest-over, least_under}
use Rattle.floats.proofs.Lattice.{least-keeps, greatest-keeps}
use Rattle.floats.proofs.Bools.{so, same_tests}
use Rattle.stock.specs.declared.TurnStockSpec.{TurnStockSpec}
use Rattle.stock.specs.Cell.{cell_at}
use Rattle.queries.specs.declared.Band.{Band}
use Rattle.queries.specs.Material.{band, most_of}
use Rattle.queries.specs.Envelope.{join_of}
use Rattle.blocks.specs.declared.ends.Ends.{Ends}
use Rattle.blocks.specs.Block.{no_material, block_with, fold_from, block_to, block_end, block_of, same_block}
use Rattle.blocks.specs.Lots.{Lot, one, two, gathered, one_ends, join_ends, ends_in, two_at, four_at, lot_to, all_held}
use Rattle.blocks.proofs.Tested.{level-of}

-- ---- what holds of each bin of a lot
All : (Band → Type 0) → Lot → Type 0
All P (one b) = P b
All P (two l r) = All P l × All P r

all_map : (P Q : Band → Type 0) → ((b : Band) → P b → Q b) → (t : Lot) → All P t → All Q t
unfolding All
all_map P Q h (one b) p = h b p
all_map P Q h (two l r) p = (all_map P Q h l p.0, all_map P Q h r p.1)

Real : (Band → Float) → Band → Type 0
Real f b = is_nan (f b) ≡ false

-- a sum that is a number is of numbers
sum_number : (x y : Float) → is_nan (add binary64 x y) ≡ false → (is_nan x ≡ false) × (is_nan y ≡ false)
unfolding add is_nan
sum_number nan y h = absurd (false≢true (sym h))
sum_number (inf s) nan h = absurd (false≢true (sym h))
sum_number (inf s) (inf t) h = (refl, refl)
sum_number (inf s) (fin t n d) h = (refl, refl)
sum_number (fin s m e) nan h = absurd (false≢true (sym h))
sum_number (fin s m e) (inf t) h = (refl, refl)
sum_number (fin s m e) (fin t n d) h = (refl, refl)

sum-real : (f : Band → Float) (t : Lot) → is_nan (gathered ◌+₆₄◌ f t) ≡ false → All (Real f) t
unfolding All Real gathered
sum-real f (one b) h = h
sum-real f (two l r) h = let p = sum_number (gathered ◌+₆₄◌ f l) (gathered ◌+₆₄◌ f r) h in (sum-real f l p.0, sum-real f r p.1)

-- what equals itself is a number
self-number : (x : Float) → eq x x ≡ true → is_nan x ≡ false
unfolding eq is_nan
self-number nan h = absurd (false≢true h)
self-number (inf s) h = refl
self-number (fin s m e) h = refl

-- ---- one of the two ways: upwards by the greatest, downwards by the least
record Way (op : Float → Float → Float) : Type 1 where
  upto : Float → Float → Bool
  over : (a b : Float) → is_nan a ≡ false → is_nan b ≡ false → T (upto a (op a b)) × T (upto b (op a b))
  keeps : (P : Float → Type 0) (a b : Float) → P a → P b → P (op a b)
  chain : (a b c : Float) → T (upto a b) → T (upto b c) → T (upto a c)
  self : (a : Float) → is_nan a ≡ false → T (upto a a)
  both : (a b : Float) → T (upto a b) → T (upto b a) → T (le a b) × T (le b a)

up : Way greatest_of
up = record { upto = λ a b. le a b; over = greatest-over; keeps = λ P a b p q. greatest-keeps P p q; chain = le-chain; self = le_same; both = λ a b p q. (p, q) }

down : Way least_of
down = record { upto = λ a b. le b a; over = least_under; keeps = λ P a b p q. least-keeps P p q; chain = λ a b c p q. le-chain c b a q p; self = le_same; both = λ a b p q. (q, p) }

-- numbers that lie level are equal to the same
eq-level : (k a b : Float) → T (le a b) → T (le b a) → eq k a ≡ eq k b
eq-level k a b p q =
    same_tests (eq k a) (eq k b)
    (λ h. level-of k b (le-chain k a b (eq-le k a h) p) (le-chain b a k q (eq-turns k a h)))
    (λ h. level-of k a (le-chain k b a (eq-le k b h) q) (le-chain a b k p (eq-turns k b h)))

module _ (op : Float → Float → Float) (w : Way op) (f : Band → Float) where
  -- ---- a lot
  top : Lot → Float
  top t = gathered op f t

  top-number : (t : Lot) → All (Real f) t → is_nan (top t) ≡ false
  unfolding top gathered All Real
  top-number (one b) h = h
  top-number (two l r) h = w.keeps (λ x. is_nan x ≡ false) (top l) (top r) (top-number l h.0) (top-number r h.1)

  top-over : (t : Lot) → All (Real f) t → All (λ b. T (w.upto (f b) (top t))) t
  unfolding top gathered All Real
  top-over (one b) h = w.self (f b) h
  top-over (two l r) h =
      let o = w.over (top l) (top r) (top-number l h.0) (top-number r h.1) in (
        all_map (λ b. T (w.upto (f b) (top l))) (λ b. T (w.upto (f b) (op (top l) (top r)))) (λ b p. w.chain (f b) (top l) (op (top l) (top r)) p o.0) l (top-over l h.0),
        all_map (λ b. T (w.upto (f b) (top r))) (λ b. T (w.upto (f b) (op (top l) (top r)))) (λ b p. w.chain (f b) (top r) (op (top l) (top r)) p o.1) r (top-over r h.1),
      )

  top-under : (z : Float) (t : Lot) → All (λ b. T (w.upto (f b) z)) t → T (w.upto (top t) z)
  unfolding top gathered All
  top-under z (one b) h = h
  top-under z (two l r) h = w.keeps (λ x. T (w.upto x z)) (top l) (top r) (top-under z l h.0) (top-under z r h.1)

  -- ---- a run of bins in turn, onto g
  module _ (g : Float) (x : ℕ → Band) where
    run : ℕ → Float
    run zero = g
    run (suc m) = op (run m) (f (x m))

    run-number : is_nan g ≡ false → (m : ℕ) → ((k : ℕ) → k < m → Real f (x k)) → is_nan (run m) ≡ false
    unfolding run Real
    run-number ng zero h = ng
    run-number ng (suc m) h = w.keeps (λ y. is_nan y ≡ false) (run m) (f (x m)) (run-number ng m (λ k p. h k (omega arith))) (h m (omega arith))

    run-start : is_nan g ≡ false → (m : ℕ) → ((k : ℕ) → k < m → Real f (x k)) → T (w.upto g (run m))
    unfolding run Real
    run-start ng zero h = w.self g ng
    run-start ng (suc m) h =
        let l : (k : ℕ) → k < m → Real f (x k) = λ k p. h k (omega arith) in
        w.chain g (run m) (op (run m) (f (x m))) (run-start ng m l) (w.over (run m) (f (x m)) (run-number ng m l) (h m (omega arith))).0

    run-over : is_nan g ≡ false → (m : ℕ) → ((k : ℕ) → k < m → Real f (x k)) → (k : ℕ) → k < m → T (w.upto (f (x k)) (run m))
    unfolding run Real
    run-over ng zero h k p = absurd (none k p)
      where
        none : (i : ℕ) → i < 0 → ⊥
        none i q = omega arith
    run-over ng (suc m) h k p = go (eq-or-lt_of_le (omega arith)) (w.over (run m) (f (x m)) (run-number ng m (λ i q. h i (omega arith))) (h m (omega arith))) (run-over ng m (λ i q. h i (omega arith)) k)
      where
        go : (k ≡ m) ⊎ (k < m) → T (w.upto (run m) (op (run m) (f (x m)))) × T (w.upto (f (x m)) (op (run m) (f (x m)))) → (k < m → T (w.upto (f (x k)) (run m))) → T (w.upto (f (x k)) (op (run m) (f (x m))))
        go (inl e) o r = subst (λ (i : ℕ). T (w.upto (f (x i)) (op (run m) (f (x m))))) (sym e) o.1
        go (inr q) o r = w.chain (f (x k)) (run m) (op (run m) (f (x m))) (r q) o.0

    run-under : (z : Float) (m : ℕ) → T (w.upto g z) → ((k : ℕ) → k < m → T (w.upto (f (x k)) z)) → T (w.upto (run m) z)
    unfolding run
    run-under z zero s h = s
    run-under z (suc m) s h = w.keeps (λ y. T (w.upto y z)) (run m) (f (x m)) (run-under z m s (λ k p. h k (omega arith))) (h m (omega arith))

    -- a lot of the same bins comes to the same
    run-top : (m : ℕ) (t : Lot) → ((P : Band → Type 0) → All P t → (k : ℕ) → k < m → P (x k)) → ((P : Band → Type 0) → ((k : ℕ) → k < m → P (x k)) → All P t)
        → is_nan g ≡ false → All (Real f) t → (k : Float) → eq k (op g (top t)) ≡ eq k (run m)
    unfolding top
    run-top m t out into ng h k =
        let r = out (Real f) h in
        let o = w.over g (top t) ng (top-number t h) in
        let there : T (w.upto (op g (top t)) (run m)) = w.keeps (λ y. T (w.upto y (run m))) g (top t) (run-start ng m r) (top-under (run m) t (into (λ b. T (w.upto (f b) (run m))) (run-over ng m r))) in
        let back : T (w.upto (run m) (op g (top t))) = run-under (op g (top t)) m o.0 (λ i p. w.chain (f (x i)) (top t) (op g (top t)) (out (λ b. T (w.upto (f b) (top t))) (top-over t h) i p) o.1) in
        let b = w.both (op g (top t)) (run m) there back in
        eq-level k (op g (top t)) (run m) b.0 b.1

-- ---- the bins of a lot
module _ (cs : List Float) (a : ℕ) where
  bin_of : ℕ → Band
  bin_of k = most_of (cell_at cs (a + k))

  four-out : (P : Band → Type 0) (m : ℕ) → All P (four_at cs (a + m)) → (r : ℕ) → r < 4 → P (bin_of (m + r))
  unfolding All bin_of
  four-out P m h zero p = let e : a + m ≡ a + (m + 0) = omega arith in subst (λ (i : ℕ). P (most_of (cell_at cs i))) e h.0.0
  four-out P m h (suc zero) p = let e : a + m + 1 ≡ a + (m + 1) = omega arith in subst (λ (i : ℕ). P (most_of (cell_at cs i))) e h.0.1
  four-out P m h (suc (suc zero)) p = let e : a + m + 2 ≡ a + (m + 2) = omega arith in subst (λ (i : ℕ). P (most_of (cell_at cs i))) e h.1.0
  four-out P m h (suc (suc (suc zero))) p = let e : a + m + 2 + 1 ≡ a + (m + 3) = omega arith in subst (λ (i : ℕ). P (most_of (cell_at cs i))) e h.1.1
  four-out P m h (suc (suc (suc (suc r)))) p = absurd (omega arith)

  four-into : (P : Band → Type 0) (m : ℕ) → ((r : ℕ) → r < 4 → P (bin_of (m + r))) → All P (four_at cs (a + m))
  unfolding All bin_of
  four-into P m h =
      let e0 : a + (m + 0) ≡ a + m = omega arith in
      let e1 : a + (m + 1) ≡ a + m + 1 = omega arith in
      let e2 : a + (m + 2) ≡ a + m + 2 = omega arith in
      let e3 : a + (m + 3) ≡ a + m + 2 + 1 = omega arith in (
        (subst (λ (i : ℕ). P (most_of (cell_at cs i))) e0 (h 0 (omega arith)), subst (λ (i : ℕ). P (most_of (cell_at cs i))) e1 (h 1 (omega arith))),
        (subst (λ (i : ℕ). P (most_of (cell_at cs i))) e2 (h 2 (omega arith)), subst (λ (i : ℕ). P (most_of (cell_at cs i))) e3 (h 3 (omega arith))),
      )

  lot-out : (P : Band → Type 0) (m : ℕ) → All P (lot_to cs a m) → (k : ℕ) → k < 4 * m + 4 → P (bin_of k)
  unfolding lot_to All
  lot-out P zero h k p = let e : a ≡ a + 0 = omega arith in let q : 0 + k ≡ k = omega arith in subst (λ (i : ℕ). P (bin_of i)) q (four-out P 0 (subst (λ (i : ℕ). All P (four_at cs i)) e h) k (omega arith))
  lot-out P (suc m) h k p = go (ltb k (4 * suc m)) refl (λ q. lot-out P m h.1 k q)
    where
      go : (t : Bool) → ltb k (4 * suc m) ≡ t → (k < 4 * m + 4 → P (bin_of k)) → P (bin_of k)
      go false q f = let e : 4 * suc m + (k - 4 * suc m) ≡ k = omega (arith, ltb-false k (4 * suc m) q) in subst (λ (i : ℕ). P (bin_of i)) e (four-out P (4 * suc m) h.0 (k - 4 * suc m) (omega (arith, ltb-false k (4 * suc m) q)))
      go true q f = f (omega (arith, ltb-true k (4 * suc m) q))

  lot-into : (P : Band → Type 0) (m : ℕ) → ((k : ℕ) → k < 4 * m + 4 → P (bin_of k)) → All P (lot_to cs a m)
  unfolding lot_to All
  lot-into P zero h = let e : a + 0 ≡ a = omega arith in subst (λ (i : ℕ). All P (four_at cs i)) e (four-into P 0 (λ r p. h (0 + r) (omega arith)))
  lot-into P (suc m) h = (four-into P (4 * suc m) (λ r p. h (4 * suc m + r) (omega arith)), lot-into P m (λ k p. h k (omega arith)))

-- ---- the ends of lots
pub two_ends : (cs : List Float) (i : ℕ) (b0 b1 : Band) (e0 e1 e : Ends) → b0 ≡ most_of (cell_at cs i) → b1 ≡ most_of (cell_at cs (i + 1)) → e0 ≡ one_ends b0 → e1 ≡ one_ends b1 → e ≡ join_ends e0 e1 → e ≡ ends_in (two_at cs i)
unfolding ends_in gathered
two_ends cs i b0 b1 e0 e1 e p0 p1 q0 q1 qe = qe ∙ (λ j. join_ends (q0 j) (q1 j)) ∙ (λ j. join_ends (one_ends (p0 j)) (one_ends (p1 j)))

-- of two lots
pub joined-ends : (l r : Lot) (x y e : Ends) → x ≡ ends_in l → y ≡ ends_in r → e ≡ join_ends x y → e ≡ ends_in (two l r)
unfolding ends_in gathered
joined-ends l r x y e p q h = h ∙ (λ j. join_ends (p j) (q j))

pub lot-start : (cs : List Float) (a : ℕ) (e : Ends) → e ≡ ends_in (four_at cs a) → e ≡ ends_in (lot_to cs a 0)
unfolding lot_to
lot-start cs a e p = p

pub lot-more : (cs : List Float) (a k : ℕ) (e f r : Ends) → 1 ≤ k → e ≡ ends_in (lot_to cs a (k - 1)) → f ≡ ends_in (four_at cs (a + 4 * k)) → r ≡ join_ends f e → r ≡ ends_in (lot_to cs a (k + 1 - 1))
unfolding lot_to ends_in gathered
lot-more cs a k e f r b p q h =
    let m : k + 1 - 1 ≡ suc (k - 1) = omega arith in
    let n : k ≡ suc (k - 1) = omega arith in
    rw m (joined-ends (four_at cs (a + 4 * suc (k - 1))) (lot_to cs a (k - 1)) f e r (q ∙ ap (λ (x : ℕ). ends_in (four_at cs (a + 4 * x))) n) p h)

-- ---- the whole block
and-two : (a b : Bool) → (a && b) ≡ true → (a ≡ true) × (b ≡ true)
and-two true b e = (refl, e)
and-two false b e = absurd (false≢true e)

all_both : (P Q : Band → Type 0) (t : Lot) → All P t → All Q t → All (λ b. P b × Q b) t
unfolding All
all_both P Q (one b) p q = (p, q)
all_both P Q (two l r) p q = (all_both P Q l p.0 q.0, all_both P Q r p.1 q.1)

module _ (s : TurnStockSpec) (cs : List Float) (a : ℕ) where
  abbrev lot : Lot
  lot = lot_to cs a 15

  abbrev bore : Band → Float
  bore b = b.bore

  abbrev outer : Band → Float
  outer b = b.outer

  abbrev found : Ends
  found = ends_in lot

  -- where every bin has material the fold is a least and a greatest
  fold-run : (m : ℕ) → ((k : ℕ) → k < m → T (lt (bin_of cs a k).bore (bin_of cs a k).outer))
      → block_to s cs a m ≡ band (run least_of down bore s.outer_radius_mm (bin_of cs a) m) (run greatest_of up outer s.bore_radius_mm (bin_of cs a) m)
  unfolding fold_from block_with run bin_of
  fold-run zero h = refl
  fold-run (suc m) h = pick_true _ _ _ (is_true _ (h m (omega arith))) ∙ ap (λ (k : Band). join_of k (bin_of cs a m)) (fold-run m (λ k p. h k (omega arith)))

  record Held : Type 0 where
    spec : T (lt s.bore_radius_mm s.outer_radius_mm)
    apart : T (lt found.most.bore found.least.outer)
    bores : All (Real bore) lot
    outers : All (Real outer) lot

  held : all_held s found ≡ true → Held
  unfolding ends_in
  held t =
      let p = and-two (lt s.bore_radius_mm s.outer_radius_mm && lt found.most.bore found.least.outer && eq found.sums.bore found.sums.bore) (eq found.sums.outer found.sums.outer) t in
      let q = and-two (lt s.bore_radius_mm s.outer_radius_mm && lt found.most.bore found.least.outer) (eq found.sums.bore found.sums.bore) p.0 in
      let r = and-two (lt s.bore_radius_mm s.outer_radius_mm) (lt found.most.bore found.least.outer) q.0 in
      record {
        spec = so r.0;
        apart = so r.1;
        bores = sum-real bore lot (self-number found.sums.bore q.1);
        outers = sum-real outer lot (self-number found.sums.outer p.1);
      }

  material : Held → All (λ b. T (lt b.bore b.outer)) lot
  unfolding ends_in top le up gathered down
  material h =
      all_map
      (λ b. T (le b.bore (gathered greatest_of bore lot)) × T (le (gathered least_of outer lot) b.outer))
      (λ b. T (lt b.bore b.outer))
      (λ b p. le-lt-chain b.bore (gathered greatest_of bore lot) b.outer p.0 (lt-le-chain (gathered greatest_of bore lot) (gathered least_of outer lot) b.outer h.apart p.1))
      lot
      (all_both (λ b. T (le b.bore (gathered greatest_of bore lot))) (λ b. T (le (gathered least_of outer lot) b.outer)) lot (top-over greatest_of up bore lot h.bores) (top-over least_of down outer lot h.outers))

  -- A BLOCK WHOSE BINS ALL HAVE MATERIAL: kept numbers equal its ends exactly where they equal the fold
  pub whole_same : all_held s found ≡ true → (k : Band) → same_block k (join_of (no_material s) (band found.least.bore found.most.outer)) ≡ same_block k (block_to s cs a 64)
  unfolding ends_in top
  whole_same t k =
      let h = held t in
      let x = bin_of cs a in
      let out : (P : Band → Type 0) → All P lot → (i : ℕ) → i < 64 → P (x i) = λ P p i q. lot-out cs a P 15 p i q in
      let into : (P : Band → Type 0) → ((i : ℕ) → i < 64 → P (x i)) → All P lot = λ P p. lot-into cs a P 15 p in
      (λ j.
      run-top greatest_of up outer s.bore_radius_mm x 64 lot out into (lt-number-l _ _ h.spec) h.outers k.outer j
      && run-top least_of down bore s.outer_radius_mm x 64 lot out into (lt-number-r _ _ h.spec) h.bores k.bore j)
      ∙ ap (λ (b : Band). same_block k b) (sym (fold-run 64 (out (λ b. T (lt b.bore b.outer)) (material h))))

-- the same of what the calls find
pub whole-found : (s : TurnStockSpec) (cs : List Float) (a : ℕ) (k : Band) (e : Ends) (t : Bool) (m n b : Band) → e ≡ ends_in (lot_to cs a 15) → t ≡ all_held s e → t ≡ true → m ≡ no_material s → n ≡ band e.least.bore e.most.outer → b ≡ join_of m n
    → same_block k b ≡ same_block k (block_to s cs a 64)
whole-found s cs a k e t m n b pe pt h pm pn pb =
    ap (λ (x : Band). same_block k x) (pb ∙ (λ j. join_of (pm j) (pn j)) ∙ ap (λ (x : Ends). join_of (no_material s) (band x.least.bore x.most.outer)) pe)
    ∙ whole_same s cs a (ap (all_held s) (sym pe) ∙ sym pt ∙ h) k

-- what `joined` makes, of its parts
pub ends-made : (a b : Ends) (g0 g1 l0 l1 : Float) → g0 ≡ greatest_of a.most.bore b.most.bore → g1 ≡ greatest_of a.most.outer b.most.outer → l0 ≡ least_of a.least.bore b.least.bore → l1 ≡ least_of a.least.outer b.least.outer
    → ◌≡◌ {A = Ends} (record { most = band g0 g1; least = band l0 l1; sums = band (a.sums.bore +₆₄ b.sums.bore) (a.sums.outer +₆₄ b.sums.outer) }) (join_ends a b)
ends-made a b g0 g1 l0 l1 p q r t = λ j. record { most = band (p j) (q j); least = band (r j) (t j); sums = band (a.sums.bore +₆₄ b.sums.bore) (a.sums.outer +₆₄ b.sums.outer) }

-- block j by its bins
pub block-is : (s : TurnStockSpec) (n : ℕ) (cs : List Float) (k : Band) (j e m : ℕ) → e ≡ block_end n j → m ≡ e - block_bins * j → same_block k (block_to s cs (block_bins * j) m) ≡ same_block k (block_of s n cs j)
unfolding block_of
block-is s n cs k j e m p q = ap (λ (x : ℕ). same_block k (block_to s cs (block_bins * j) x)) (q ∙ ap (λ (x : ℕ). x - block_bins * j) p)
