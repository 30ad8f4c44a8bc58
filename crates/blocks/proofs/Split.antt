-- A fold over bins is that over its first bins and then over the others, and over bins whose cells fit it is the join of what was found with a fold of their own. Assumes nothing.
use mathlib.Core.Path.{◌≡◌, refl, sym, ap, ◌∙◌}
use mathlib.Core.Bool.{Bool, true, false}
use mathlib.Core.List.{List}
use Prim.Native.Nat.{ℕ, zero, suc, ◌+◌, ◌-◌, ◌≤◌, ◌<◌}
use native.Mathlib.Nat.{add-zero, add-suc}
use native.Mathlib.Omega.{arith}
use lib.Dec.{T}
use lib.Ieee.Bits.{is_true}
use borrow.Author.Tests.{not-true}
use lib.Ieee.{Float, binary64, lt, le}
use Rattle.floats.specs.Pick.{pick, pick-false}
use Rattle.floats.specs.Numbers.{least_of, greatest_of}
use Rattle.floats.specs.Kinds.{Number, Plain}
use Rattle.floats.proofs.Order.{number-of, le-self, le_trans, le→nlt}
use Rattle.floats.proofs.Lattice.{least-plain, greatest-plain, least-assoc, greatest-assoc, least-comm, greatest-comm, least-le-l, greatest-ge-l}
use Rattle.stock.specs.declared.TurnStockSpec.{TurnStockSpec}
use Rattle.stock.specs.declared.TurnCell.{TurnCell}
use Rattle.stock.specs.Cell.{cell_at}
use Rattle.reach.proofs.Fit.{CellFit}
use Rattle.queries.specs.declared.Band.{Band}
use Rattle.queries.specs.Material.{band, most_of}
use Rattle.queries.specs.Envelope.{join_of}
use Rattle.blocks.specs.Block.{no_material, block_with, fold_from, block_to}

-- the first m bins, then m' more
pub fold-split : (k : Band) (cs : List Float) (a m m' : ℕ) → fold_from k cs a (m + m') ≡ fold_from (fold_from k cs a m) cs (a + m) m'
unfolding fold_from
fold-split k cs a m zero = ap (λ (x : ℕ). fold_from k cs a x) (add-zero m)
fold-split k cs a m (suc m') =
    let e : a + (m + m') ≡ a + m + m' = omega arith in
    ap (λ (x : ℕ). fold_from k cs a x) (add-suc m m')
    ∙ (λ j. block_with (fold-split k cs a m m' j) (most_of (cell_at cs (e j))))

-- the bins from a to b, then those from b to c
pub fold-glue : (k : Band) (cs : List Float) (a b c : ℕ) → a ≤ b → b ≤ c → fold_from (fold_from k cs a (b - a)) cs b (c - b) ≡ fold_from k cs a (c - a)
fold-glue k cs a b c h h' =
    let e1 : b ≡ a + (b - a) = omega arith in
    let e2 : b - a + (c - b) ≡ c - a = omega arith in
    ap (λ (x : ℕ). fold_from (fold_from k cs a (b - a)) cs x (c - b)) e1 ∙ sym (fold-split k cs a (b - a) (c - b)) ∙ ap (λ (x : ℕ). fold_from k cs a x) e2

-- a fold looks at no other cells
pub fold_same : (k : Band) (cs cs' : List Float) (a m : ℕ) → ((i : ℕ) → i < m → cell_at cs (a + i) ≡ cell_at cs' (a + i)) → fold_from k cs a m ≡ fold_from k cs' a m
unfolding fold_from
fold_same k cs cs' a zero h = refl
fold_same k cs cs' a (suc m) h =
    let r = fold_same k cs cs' a m (λ i p. h i (omega arith)) in
    let e = h m (omega arith) in
    (λ j. block_with (r j) (most_of (e j)))

-- ---- the first of two, where it is no greater, and where it is no less
least-left : {a b : Float} → Number binary64 a → Number binary64 b → T (le a b) → least_of a b ≡ a
unfolding least_of
least-left {a} {b} p q h = pick-false _ _ _ (not-true _ (is_true _ (le→nlt p q h)))

greatest-left : {a b : Float} → Number binary64 a → Number binary64 b → T (le b a) → greatest_of a b ≡ a
unfolding greatest_of
greatest-left {a} {b} p q h = pick-false _ _ _ (not-true _ (is_true _ (le→nlt q p h)))

-- ---- bands from which nothing is lost: no bore above the outer radius of the stock, no outer radius below its bore
module _ (s : TurnStockSpec) where
  pub record Fair (k : Band) : Type 0 where
    pub bore : Plain binary64 k.bore
    pub outer : Plain binary64 k.outer
    pub high : T (le k.bore s.outer_radius_mm)
    pub low : T (le s.bore_radius_mm k.outer)

  -- the numbers of a spec from which the fold starts
  pub record Ends : Type 0 where
    pub bore : Plain binary64 s.bore_radius_mm
    pub outer : Plain binary64 s.outer_radius_mm

  pub none-fair : Ends → Fair (no_material s)
  none-fair E = record { bore = E.outer; outer = E.bore; high = le-self (number-of E.outer); low = le-self (number-of E.bore) }

  pub cell-fair : (c : TurnCell) → CellFit s c → Fair (most_of c)
  cell-fair c f = record {
    bore = f.inner.lower;
    outer = f.outer.upper;
    high = le_trans (number-of f.inner.lower) (number-of f.inner.upper) f.bar f.inner.in_order f.inner.to-outer;
    low = le_trans f.bore (number-of f.outer.lower) (number-of f.outer.upper) f.outer.from-bore f.outer.in_order;
  }

  pub join-fair : Ends → (k b : Band) → Fair k → Fair b → Fair (join_of k b)
  join-fair E k b p q = record {
    bore = least-plain p.bore q.bore;
    outer = greatest-plain p.outer q.outer;
    high = le_trans (number-of (least-plain p.bore q.bore)) (number-of p.bore) (number-of E.outer) (least-le-l (number-of p.bore) (number-of q.bore)) p.high;
    low = le_trans (number-of E.bore) (number-of p.outer) (number-of (greatest-plain p.outer q.outer)) p.low (greatest-ge-l (number-of p.outer) (number-of q.outer));
  }

  pick-fair : (t : Bool) (k b : Band) → Fair k → Fair b → Fair (pick t b k)
  unfolding pick
  pick-fair true k b p q = q
  pick-fair false k b p q = p

  pub with-fair : Ends → (k : Band) (c : TurnCell) → Fair k → CellFit s c → Fair (block_with k (most_of c))
  unfolding block_with
  with-fair E k c p f = pick-fair (lt c.inner.lower_mm c.outer.upper_mm) k (join_of k (most_of c)) p (join-fair E k (most_of c) p (cell-fair c f))

  pub fold-fair : Ends → (k : Band) (cs : List Float) (a m : ℕ) → Fair k → ((i : ℕ) → i < m → CellFit s (cell_at cs (a + i))) → Fair (fold_from k cs a m)
  unfolding fold_from
  fold-fair E k cs a zero p f = p
  fold-fair E k cs a (suc m) p f = with-fair E (fold_from k cs a m) (cell_at cs (a + m)) (fold-fair E k cs a m p (λ i h. f i (omega arith))) (f m (omega arith))

  -- no material adds nothing
  pub join-nothing : Ends → (k : Band) → Fair k → join_of k (no_material s) ≡ k
  join-nothing E k p =
      let x = least-left (number-of p.bore) (number-of E.outer) p.high in
      let y = greatest-left (number-of p.outer) (number-of E.bore) p.low in
      (λ i. band (x i) (y i))

  -- and onto no material a band is itself
  pub nothing-join : Ends → (k : Band) → Fair k → join_of (no_material s) k ≡ k
  nothing-join E k p =
      let x = least-comm E.outer p.bore ∙ least-left (number-of p.bore) (number-of E.outer) p.high in
      let y = greatest-comm E.bore p.outer ∙ greatest-left (number-of p.outer) (number-of E.bore) p.low in
      (λ i. band (x i) (y i))

  pub join-assoc : (k x b : Band) → Fair k → Fair x → Fair b → join_of (join_of k x) b ≡ join_of k (join_of x b)
  join-assoc k x b p q r =
      let u = least-assoc p.bore q.bore r.bore in
      let v = greatest-assoc p.outer q.outer r.outer in
      (λ i. band (u i) (v i))

  -- one bin more, onto a join
  pub with-join : (k x : Band) (c : TurnCell) → Fair k → Fair x → CellFit s c → block_with (join_of k x) (most_of c) ≡ join_of k (block_with x (most_of c))
  unfolding block_with pick
  with-join k x c p q f = go (lt c.inner.lower_mm c.outer.upper_mm)
    where
      go : (t : Bool) → pick t (join_of (join_of k x) (most_of c)) (join_of k x) ≡ join_of k (pick t (join_of x (most_of c)) x)
      go true = join-assoc k x (most_of c) p q (cell-fair c f)
      go false = refl

  -- a fold onto k is k joined with the fold of its own
  pub fold-join : Ends → (k : Band) (cs : List Float) (a m : ℕ) → Fair k → ((i : ℕ) → i < m → CellFit s (cell_at cs (a + i))) → fold_from k cs a m ≡ join_of k (block_to s cs a m)
  unfolding fold_from
  fold-join E k cs a zero p f = sym (join-nothing E k p)
  fold-join E k cs a (suc m) p f =
      let f' : (i : ℕ) → i < m → CellFit s (cell_at cs (a + i)) = λ i h. f i (omega arith) in
      ap (λ (x : Band). block_with x (most_of (cell_at cs (a + m)))) (fold-join E k cs a m p f')
      ∙ with-join k (block_to s cs a m) (cell_at cs (a + m)) p (fold-fair E (no_material s) cs a m (none-fair E) f') (f m (omega arith))
