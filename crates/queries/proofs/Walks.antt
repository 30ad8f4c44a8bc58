-- The bins that are looked at for a height, and the walk over them. Assumes nothing.
use Rattle.std.specs.Prelude.{Option}
use mathlib.Core.Path.{◌≡◌, refl, sym, ap, ap₂, ◌∙◌}
use mathlib.Core.Bool.{Bool, true, false, ◌&&◌}
use mathlib.Core.List.{List}
use Prim.Native.Nat.{ℕ, ◌+◌, ◌-◌, ◌≤◌, ◌<◌}
use native.Mathlib.Numerals.{add-one}
use native.Mathlib.Omega.{arith}
use lib.Dec.{ltb}
use lib.Ieee.{Float}
use borrow.Author.Tests.{lt-ltb, le-ltb, ltb-true}
use Rattle.floats.specs.Pick.{pick, pick_true, pick-false}
use Rattle.stock.specs.declared.TurnStockSpec.{TurnStockSpec}
use Rattle.stock.specs.declared.TurnCell.{TurnCell}
use Rattle.stock.specs.Cell.{cell_at}
use Rattle.queries.specs.declared.Band.{Band}
use Rattle.queries.specs.declared.BinSpan.{BinSpan}
use Rattle.queries.specs.Material.{most_of}
use Rattle.queries.specs.Envelope.{bin_at, holds_z, first_at, last_at, bins_at, shown_of, together, most_over}

-- ---- which bins
not-both : (a b : Bool) → b ≡ false → (a && b) ≡ false
not-both true b e = e
not-both false b e = refl

module _ (s : TurnStockSpec) (n : ℕ) (z : Float) (i : ℕ) (e : i ≡ bin_at s n z) where
  at_first : first_at s n z ≡ pick (ltb 0 i && holds_z s (i - 1) z) (i - 1) i
  unfolding first_at
  at_first = ap (λ (j : ℕ). pick (ltb 0 j && holds_z s (j - 1) z) (j - 1) j) (sym e)

  -- the bin of z is the first of all
  pub first-start : i ≡ 0 → i ≡ first_at s n z
  first-start h = sym (at_first ∙ pick-false _ _ _ (ap (λ (t : Bool). t && holds_z s (i - 1) z) (le-ltb 0 i (omega arith))))

  -- the bin before it holds z
  pub first-before : (i ≡ 0 → ⊥) → holds_z s (i - 1) z ≡ true → i - 1 ≡ first_at s n z
  first-before p h = sym (at_first ∙ pick_true _ _ _ (ap (λ (t : Bool). t && holds_z s (i - 1) z) (lt-ltb 0 i (omega (arith, p))) ∙ h))

  -- it does not
  pub first_alone : holds_z s (i - 1) z ≡ false → i ≡ first_at s n z
  first_alone h = sym (at_first ∙ pick-false _ _ _ (not-both (ltb 0 i) _ h))

  at_last : last_at s n z ≡ pick (ltb (i + 1) n && holds_z s (i + 1) z) (i + 1) i
  unfolding last_at
  at_last = ap (λ (j : ℕ). pick (ltb (j + 1) n && holds_z s (j + 1) z) (j + 1) j) (sym e)

  -- the bin of z is the last of all
  pub last_end : n ≤ i + 1 → i ≡ last_at s n z
  last_end h = sym (at_last ∙ pick-false _ _ _ (ap (λ (t : Bool). t && holds_z s (i + 1) z) (le-ltb (i + 1) n h)))

  -- the bin behind it holds z
  pub last-behind : i + 1 < n → holds_z s (i + 1) z ≡ true → i + 1 ≡ last_at s n z
  last-behind p h = sym (at_last ∙ pick_true _ _ _ (ap (λ (t : Bool). t && holds_z s (i + 1) z) (lt-ltb (i + 1) n p) ∙ h))

  -- it does not
  pub last-alone : holds_z s (i + 1) z ≡ false → i ≡ last_at s n z
  last-alone h = sym (at_last ∙ pick-false _ _ _ (not-both (ltb (i + 1) n) _ h))

-- the first is the bin of z or the one before it
pub first-near : (s : TurnStockSpec) (n : ℕ) (z : Float) → (first_at s n z ≤ bin_at s n z) × (bin_at s n z ≤ first_at s n z + 1)
unfolding first_at pick
first-near s n z = go (ltb 0 (bin_at s n z) && holds_z s (bin_at s n z - 1) z) (bin_at s n z)
  where
    go : (t : Bool) (i : ℕ) → (pick t (i - 1) i ≤ i) × (i ≤ pick t (i - 1) i + 1)
    go true i = (omega arith, omega arith)
    go false i = (omega arith, omega arith)

-- the last is not before the bin of z
pub last-over : (s : TurnStockSpec) (n : ℕ) (z : Float) → bin_at s n z ≤ last_at s n z
unfolding last_at pick
last-over s n z = go (ltb (bin_at s n z + 1) n && holds_z s (bin_at s n z + 1) z) (bin_at s n z)
  where
    go : (t : Bool) (i : ℕ) → i ≤ pick t (i + 1) i
    go true i = omega arith
    go false i = omega arith

-- and it is one of n
pub last-near : (s : TurnStockSpec) (n : ℕ) (z : Float) → 0 < n → last_at s n z < n
unfolding last_at pick
last-near s n z h = go (bin_at s n z) (omega arith) (ltb (bin_at s n z + 1) n) refl (holds_z s (bin_at s n z + 1) z)
  where
    go : (i : ℕ) → i < n → (t : Bool) → ltb (i + 1) n ≡ t → (b : Bool) → pick (t && b) (i + 1) i < n
    go i k true e true = ltb-true (i + 1) n e
    go i k true e false = k
    go i k false e b = k

pub same_span : {a b c d : ℕ} → a ≡ c → b ≡ d → ◌≡◌ {A = BinSpan} (record { first = a; last = b }) (record { first = c; last = d })
same_span p q = cc

-- the bins that are looked at are some of the n
pub span-room : (s : TurnStockSpec) (n : ℕ) (z : Float) {r : BinSpan} → 0 < n → r ≡ bins_at s n z → (r.first ≤ r.last) × (r.last < n)
span-room s n z {r} h e =
    let a : r.first ≡ first_at s n z = ap (λ (b : BinSpan). b.first) e in
    let b : r.last ≡ last_at s n z = ap (λ (b : BinSpan). b.last) e in
    (omega (arith, (first-near s n z).0, last-over s n z), omega (arith, last-near s n z h))

-- ---- what they show
pub most-more : (cs : List Float) (a k : ℕ) → most_over cs a (k + 1) ≡ together (most_over cs a k) (shown_of (most_of (cell_at cs (a + k))))
unfolding most_over
most-more cs a k = ap (most_over cs a) (add-one k)

-- one bin on
pub walk-on : (cs : List Float) (a k : ℕ) (seen one next : Option Band) {c : TurnCell} {b : Band} → seen ≡ most_over cs a k → c ≡ cell_at cs (a + k) → b ≡ most_of c → one ≡ shown_of b → next ≡ together seen one → next ≡ most_over cs a (k + 1)
walk-on cs a k seen one next p ec eb q e = e ∙ ap₂ together p (q ∙ ap shown_of (eb ∙ ap most_of ec)) ∙ sym (most-more cs a k)
