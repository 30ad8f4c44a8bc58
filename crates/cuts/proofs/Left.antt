-- Cells that a cut leaves, told from the most that it reaches. Assumes nothing.
use mathlib.Core.Path.{◌≡◌, refl, sym, ap, ◌∙◌, subst}
use mathlib.Core.Bool.{Bool, true, false, not, ◌&&◌, ◌||◌}
use mathlib.Core.List.{List}
use Prim.Native.Nat.{ℕ}
use borrow.Author.Tests.{not-true, not-false}
use lib.Dec.{T}
use lib.Ieee.{Float, binary64, fits, lt, le, eq, of_bits, of_fields, odd}
use lib.Ieee.Fits.{mul-fits}
use Rattle.floats.specs.Pick.{pick, pick_true, pick-false}
use Rattle.floats.specs.Numbers.{◌-₆₄◌, ◌*₆₄◌, ◌/₆₄◌, zero64, least_of, greatest_of}
use Rattle.floats.specs.Kinds.{Number}
use Rattle.floats.proofs.Order.{lt-never, lt_trans, lt-le-trans, le_lt_trans, le_trans}
use Rattle.floats.proofs.Exact.{plain-zero}
use Rattle.floats.proofs.Lattice.{least-keeps, greatest-keeps}
use Rattle.floats.proofs.Within.{number-l, number-r}
use Rattle.stock.specs.declared.TurnStockSpec.{TurnStockSpec}
use Rattle.stock.specs.declared.TurnCell.{TurnCell}
use Rattle.stock.specs.declared.TurnSide.{TurnSide}
use Rattle.stock.specs.declared.TurnSide.TheVariants.{Outer, Inner}
use Rattle.stock.specs.declared.ZRange.{ZRange}
use Rattle.stock.specs.Bin.{bin_of}
use Rattle.stock.specs.Cell.{cell_at, same_cell}
use Rattle.stock.proofs.Count.{and_both}
use Rattle.reach.specs.declared.Reach.TheVariants.{Low, Both}
use Rattle.reach.specs.Reach.{deeper, shallower, deep_of, sure_of, limit_of, with_pair, own_of, cut_by, cut_cell, act_cell}
use Rattle.stock.proofs.Passes.{HeldCell}
use Rattle.cuts.specs.Cut.{drill_at}
use Rattle.cuts.specs.declared.list.Source.{Source}
use Rattle.cuts.specs.declared.list.Source.TheVariants as source
use Rattle.cuts.specs.Source.{source_side, source_reach, source_act, drill_both, Leaves, LeavesCell, SameTo}
use Rattle.floats.proofs.Bools.{so}
use Rattle.floats.proofs.Anywhere.{eq-turns}
use Rattle.floats.proofs.Bounding.{eq-le, clash}

abbrev N : Float → Type 0
N = Number binary64

abbrev Held : Float → Type 0
Held x = T (fits binary64 x)

-- ---- tests
fails : (b : Bool) → (T b → ⊥) → b ≡ false
fails true h = absurd (h tt)
fails false h = refl

never : {b : Bool} → b ≡ false → T b → ⊥
never e t = absurd (subst T e t)

first : (a b : Bool) → T a → T (a || b)
first true b t = tt
first false b t = absurd t

-- what lies below, lies at most as high
at_most : (x y : Float) → T (lt x y) → T (le x y)
unfolding le
at_most x y h = first (lt x y) (eq x y) h

-- the greater of two is the first, where the second is not above it
kept : (x y : Float) → lt x y ≡ false → greatest_of x y ≡ x
unfolding greatest_of
kept x y e = pick-false _ y x e

-- ---- a thread: the deep bound stays where it is not passed
pub outer-left : (r : Float) (c : TurnCell) → lt (greatest_of r c.inner.lower_mm) c.outer.lower_mm ≡ false → cut_cell Outer c (Low r) ≡ c
unfolding cut_cell cut_by own_of with_pair deeper shallower deep_of sure_of limit_of least_of
outer-left r c e = rw (pick-false _ (greatest_of r c.inner.lower_mm) c.outer.lower_mm e) refl

pub inner-left : (r : Float) (c : TurnCell) → lt c.inner.upper_mm (least_of r c.outer.upper_mm) ≡ false → cut_cell Inner c (Low r) ≡ c
unfolding cut_cell cut_by own_of with_pair deeper shallower deep_of sure_of limit_of greatest_of
inner-left r c e = rw (pick-false _ (least_of r c.outer.upper_mm) c.inner.upper_mm e) refl

-- else it is another, which is told by the deep bound
below_other : (x y : Float) → lt x y ≡ true → eq y x ≡ false
below_other x y e = fails (eq y x) (λ t. clash x y (so e) (eq-le y x t))

above_other : (x y : Float) → lt x y ≡ true → eq x y ≡ false
above_other x y e = fails (eq x y) (λ t. clash x y (so e) (eq-turns x y t))

and-false : (a : Bool) → (a && false) ≡ false
and-false true = refl
and-false false = refl

outer-moves : (r : Float) (c : TurnCell) → lt (greatest_of r c.inner.lower_mm) c.outer.lower_mm ≡ true → same_cell c (cut_cell Outer c (Low r)) ≡ false
unfolding cut_cell cut_by own_of with_pair deeper shallower deep_of sure_of limit_of least_of
outer-moves r c e =
    let own = greatest_of r c.inner.lower_mm in
    rw (pick_true _ own c.outer.lower_mm e, below_other own c.outer.lower_mm e) refl

inner-moves : (r : Float) (c : TurnCell) → lt c.inner.upper_mm (least_of r c.outer.upper_mm) ≡ true → same_cell c (cut_cell Inner c (Low r)) ≡ false
unfolding cut_cell cut_by own_of with_pair deeper shallower deep_of sure_of limit_of greatest_of
inner-moves r c e =
    let own = least_of r c.outer.upper_mm in
    rw (pick_true _ own c.inner.upper_mm e, above_other c.inner.upper_mm own e, and-false)

-- ---- a drill

zero_held : Held zero64
unfolding of_bits of_fields odd
zero_held = (plain-zero binary64).held

-- its radius at any z is a value of f64, and no number above its own
module _ (r : Float) (R : N r) (h : T (le zero64 r)) where
  self : lt r r ≡ false
  self = fails (lt r r) (λ t. lt-never R t)

  most : (z tip cone : Float) → lt r (drill_at z tip r cone) ≡ false
  unfolding drill_at pick least_of
  most z tip cone = go (lt z tip) (le cone zero64) (greatest_of ((z -₆₄ tip) /₆₄ cone *₆₄ r) zero64)
    where
      last : (g : Float) (t : Bool) → lt r g ≡ t → lt r (pick t r g) ≡ false
      last g true e = self
      last g false e = e

      go : (a b : Bool) (g : Float) → lt r (pick a zero64 (pick b r (pick (lt r g) r g))) ≡ false
      go true b g = fails (lt r zero64) (λ t. lt-never R (lt-le-trans R (number-l zero64 r zero_held h) R t h))
      go false true g = self
      go false false g = last g (lt r g) refl

  held : (z tip cone : Float) → Held (drill_at z tip r cone)
  unfolding drill_at pick
  held z tip cone = go (lt z tip) (le cone zero64)
    where
      go : (a b : Bool) → Held (pick a zero64 (pick b r (least_of (greatest_of ((z -₆₄ tip) /₆₄ cone *₆₄ r) zero64) r)))
      go true b = zero_held
      go false true = R.held
      go false false = least-keeps Held (greatest-keeps Held (mul-fits binary64 ((z -₆₄ tip) /₆₄ cone) r) zero_held) R.held

-- what is no number above r, which is at most x, is none above x
no_more : (r v x : Float) → N r → Held v → N x → lt r v ≡ false → T (le r x) → lt x v ≡ false
no_more r v x R W X e h = fails (lt x v) (λ t. never e (le_lt_trans R X (number-r x v W (at_most x v t)) h t))

-- the same below a ceiling: so x is kept
under : (r v lim x : Float) → N r → Held v → Held lim → N x → lt r v ≡ false → T (le (least_of r lim) x) → greatest_of x (least_of v lim) ≡ x
unfolding greatest_of least_of pick
under r v lim x R W L X e h = pick-false _ (pick (lt lim v) lim v) x (go (lt lim v) refl (lt lim r) h)
  where
    go : (t : Bool) → lt lim v ≡ t → (u : Bool) → T (le (pick u lim r) x) → lt x (pick t lim v) ≡ false
    go true q true k = fails (lt x lim) (λ s. lt-never X (lt-le-trans X (number-l lim x L k) X s k))
    go true q false k =
        let b = at_most lim v (so q) in
        fails (lt x lim) (λ s. never (no_more r v x R W X e k) (lt_trans X (number-l lim v L b) (number-r lim v W b) s (so q)))
    go false q true k = no_more lim v x (number-l lim x L k) W X q k
    go false q false k = no_more r v x R W X e k

pub drill-left : (r : Float) (c : TurnCell) → Held r → HeldCell c
    → (le zero64 r && le c.inner.lower_mm c.inner.upper_mm && le (least_of r c.outer.upper_mm) c.inner.lower_mm) ≡ true
    → (b : ZRange) (tip cone : Float) → cut_cell Inner c (drill_both b tip r cone) ≡ c
unfolding cut_cell cut_by own_of with_pair deeper shallower deep_of sure_of limit_of
drill-left r c H hc e b tip cone =
    let il = c.inner.lower_mm in
    let iu = c.inner.upper_mm in
    let ou = c.outer.upper_mm in
    let t2 = and_both (le zero64 r && le il iu) (le (least_of r ou) il) e in
    let t1 = and_both (le zero64 r) (le il iu) t2.0 in
    let z = so t1.0 in
    let o = so t1.1 in
    let m = so t2.1 in
    let R = number-r zero64 r H z in
    let IL = number-l il iu hc.inner-lower o in
    let IU = number-r il iu hc.inner-upper o in
    let M = number-l (least_of r ou) il (least-keeps Held H hc.outer-upper) m in
    let sure = under r (drill_at b.za tip r cone) ou il R (held r R z b.za tip cone) hc.outer-upper IL (most r R z b.za tip cone) m in
    let deep = under r (drill_at b.zb tip r cone) ou iu R (held r R z b.zb tip cone) hc.outer-upper IU (most r R z b.zb tip cone) (le_trans M IL IU m o) in
    let order : greatest_of iu il ≡ iu = kept iu il (fails (lt iu il) (λ t. lt-never IU (lt-le-trans IU IL IU t o))) in
    rw (sure, deep, order) refl

-- a cut of the inside keeps the outer bounds, so that the inner ones tell whether the cell is another
inner-keeps : (c : TurnCell) (x y : Float) → (cut_cell Inner c (Both x y)).outer ≡ c.outer
unfolding cut_cell cut_by own_of with_pair
inner-keeps c x y = refl

inner-same : (c a : TurnCell) → same_cell c c ≡ true → a.outer ≡ c.outer → same_cell c a ≡ (eq c.inner.lower_mm a.inner.lower_mm && eq c.inner.upper_mm a.inner.upper_mm)
inner-same c a t e =
    let lower = eq c.outer.lower_mm c.outer.lower_mm in
    let upper = eq c.outer.upper_mm c.outer.upper_mm in
    let il = eq c.inner.lower_mm c.inner.lower_mm in
    let t2 = (and_both (lower && upper && il) (eq c.inner.upper_mm c.inner.upper_mm) t).0 in
    let t1 = and_both lower upper (and_both (lower && upper) il t2).0 in
    rw (e, t1.0, t1.1) refl

pub drill-same : (c a : TurnCell) (x y : Float) → same_cell c c ≡ true → a ≡ cut_cell Inner c (Both x y) → (t : Bool) → (eq c.inner.lower_mm a.inner.lower_mm && eq c.inner.upper_mm a.inner.upper_mm) ≡ t → same_cell c (cut_cell Inner c (Both x y)) ≡ t
drill-same c a x y s e t q = ap (same_cell c) (sym e) ∙ inner-same c a s (ap (λ (z : TurnCell). z.outer) e ∙ inner-keeps c x y) ∙ q

-- ---- as the tests say it
outer_told : (σ : TurnSide) (r : Float) (c : TurnCell) (g : Float) → σ ≡ Outer → g ≡ greatest_of r c.inner.lower_mm → not (lt g c.outer.lower_mm) ≡ true → cut_cell σ c (Low r) ≡ c
outer_told σ r c g e q t = rw e (outer-left r c (ap (λ (x : Float). lt x c.outer.lower_mm) (sym q) ∙ not-true _ t))

inner-told : (σ : TurnSide) (r : Float) (c : TurnCell) (g : Float) → σ ≡ Inner → g ≡ least_of r c.outer.upper_mm → not (lt c.inner.upper_mm g) ≡ true → cut_cell σ c (Low r) ≡ c
inner-told σ r c g e q t = rw e (inner-left r c (ap (lt c.inner.upper_mm) (sym q) ∙ not-true _ t))

pub outer-leaves : (σ : TurnSide) (r : Float) (c : TurnCell) (g : Float) → σ ≡ Outer → g ≡ greatest_of r c.inner.lower_mm → Leaves (not (lt g c.outer.lower_mm)) c (cut_cell σ c (Low r))
outer-leaves σ r c g e q = record { stays = outer_told σ r c g e q; moves = λ t. rw e (outer-moves r c (ap (λ (x : Float). lt x c.outer.lower_mm) (sym q) ∙ not-false _ t)) }

pub inner-leaves : (σ : TurnSide) (r : Float) (c : TurnCell) (g : Float) → σ ≡ Inner → g ≡ least_of r c.outer.upper_mm → Leaves (not (lt c.inner.upper_mm g)) c (cut_cell σ c (Low r))
inner-leaves σ r c g e q = record { stays = inner-told σ r c g e q; moves = λ t. rw e (inner-moves r c (ap (lt c.inner.upper_mm) (sym q) ∙ not-false _ t)) }

pub drill-told : (r : Float) (c : TurnCell) (m : Float) → Held r → HeldCell c → m ≡ least_of r c.outer.upper_mm
    → (le zero64 r && le c.inner.lower_mm c.inner.upper_mm && le m c.inner.lower_mm) ≡ true
    → (b : ZRange) (tip cone : Float) → cut_cell Inner c (drill_both b tip r cone) ≡ c
drill-told r c m H hc q t =
    drill-left r c H hc (ap (λ (x : Float). le zero64 r && le c.inner.lower_mm c.inner.upper_mm && le x c.inner.lower_mm) (sym q) ∙ t)

-- ---- by the source
pub thread-source : (src : Source) (σ : TurnSide) (r : Float) (c : TurnCell) → src ≡ source.Thread σ r → cut_cell σ c (Low r) ≡ c → LeavesCell src c
unfolding source_side source_reach
thread-source src σ r c e k s values there i = rw e k

pub drill-source : (src : Source) (tip r cone : Float) (c : TurnCell) → src ≡ source.Drill tip r cone → ((b : ZRange) (tip cone : Float) → cut_cell Inner c (drill_both b tip r cone) ≡ c) → LeavesCell src c
unfolding source_side source_reach
drill-source src tip r cone c e k s values there i = rw e (k (bin_of s i) tip cone)

-- ---- a bin that is left
pub bin-left : (s : TurnStockSpec) (src : Source) (values : List Float) (there : List Bool) (cs : List Float) (i : ℕ) (before : TurnCell) → before ≡ cell_at cs i → LeavesCell src before → SameTo cs i
    → same_cell (cell_at cs i) (act_cell (source_act s src values there) i (cell_at cs i)) ≡ true
bin-left s src values there cs i before e l t =
    let k : cut_cell (source_side src) (cell_at cs i) (source_reach s src values there i) ≡ cell_at cs i = subst (λ (c : TurnCell). cut_cell (source_side src) c (source_reach s src values there i) ≡ c) e (l s values there i) in
    ap (same_cell (cell_at cs i)) k ∙ t
