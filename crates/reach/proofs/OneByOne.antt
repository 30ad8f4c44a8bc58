-- Cuts of one side, one after another, leave of a cell the closed form: each bound the deepest of its start and the own bounds, the pair then ordered. Assumes nothing.
use mathlib.Core.Path.{◌≡◌, refl, sym, ap, ap₂, ◌∙◌}
use mathlib.Core.Logic.{inl, inr}
use mathlib.Core.List.{List, [], ◌∷◌, map, foldl}
use Prim.Native.Nat.{ℕ, ◌<◌}
use lib.Ieee.{Float, binary64}
use Rattle.floats.specs.Each.{Each, Gathers, Semilattice}
use Rattle.floats.specs.Kinds.{Plain}
use Rattle.floats.proofs.Folds.{fold-keeps, fold-slide}
use Rattle.stock.specs.declared.TurnCell.{TurnCell}
use Rattle.stock.specs.declared.TurnSide.{TurnSide}
use Rattle.stock.specs.declared.TurnSide.TheVariants.{Outer, Inner}
use Rattle.reach.specs.declared.Reach.{Reach}
use Rattle.reach.specs.declared.Reach.TheVariants.{Passed, Low, Both}
use Rattle.reach.specs.Reach.{deeper, shallower, deep_of, sure_of, limit_of, with_pair, own_of, cut_by, cut_cell, Act, act_cell}
use Rattle.reach.specs.Closed.{gather, lows_of, highs_of, closed, owns_at}
use Rattle.reach.specs.Kinds.{PlainReach, PlainAct, OnlyAt}
use Rattle.reach.proofs.Sides.{deeper-lattice, deeper-gathers, shallower-plain, deep-with, sure-with, limit-with, with-with, with-own, Ordered}

abbrev P : Float → Type 0
P = Plain binary64

-- ---- folds that end in the ordering of the pair
module _ (σ : TurnSide) where
  L : Semilattice P (deeper σ)
  L = deeper-lattice σ

  G : Gathers P P (deeper σ)
  G = deeper-gathers σ

  -- b is no deeper than a fold from it
  met : (l : List Float) → Each P l → {b : Float} → P b → deeper σ b (foldl (deeper σ) b l) ≡ foldl (deeper σ) b l
  met l ps {b} q = L.comm q (fold-keeps G l ps q) ∙ fold-slide G l ps q q ∙ ap (λ (z : Float). foldl (deeper σ) z l) (L.self q)

  -- the pair may be ordered first
  order-first : (l l' : List Float) → Each P l → Each P l' → {a b : Float} → P a → P b
      → deeper σ (foldl (deeper σ) (deeper σ a b) l) (foldl (deeper σ) b l') ≡ deeper σ (foldl (deeper σ) a l) (foldl (deeper σ) b l')
  order-first l l' ps qs {a} {b} p q =
      let A = fold-keeps G l ps p in
      let B = fold-keeps G l' qs q in
      ap (λ (z : Float). deeper σ z (foldl (deeper σ) b l')) (sym (fold-slide G l ps p q))
      ∙ L.assoc A q B
      ∙ ap (λ (z : Float). deeper σ (foldl (deeper σ) a l) z) (met l' qs q)

-- the lows of plain reaches are plain
pub plain-lows : (l : List Reach) → Each PlainReach l → Each P (gather lows_of l)
plain-lows [] ps = tt
plain-lows (Passed ∷ l) ps = plain-lows l ps.1
plain-lows (Low x ∷ l) ps = (ps.0, plain-lows l ps.1)
plain-lows (Both x y ∷ l) ps = (ps.0.0, plain-lows l ps.1)

-- and so are the highs
pub plain-highs : (l : List Reach) → Each PlainReach l → Each P (gather highs_of l)
plain-highs [] ps = tt
plain-highs (Passed ∷ l) ps = plain-highs l ps.1
plain-highs (Low x ∷ l) ps = plain-highs l ps.1
plain-highs (Both x y ∷ l) ps = (ps.0.1, plain-highs l ps.1)

-- ---- one cut is a step of the closed form

-- the closed form, from the two bounds and the two lists
abbrev formed : TurnSide → Float → Float → List Float → List Float → TurnCell → TurnCell
formed σ d u ls hs c = with_pair σ (deeper σ (foldl (deeper σ) d ls) (foldl (deeper σ) u hs)) (foldl (deeper σ) u hs) c

closed-with : (σ : TurnSide) (d u : Float) (c : TurnCell) (l : List Reach) → closed σ (with_pair σ d u c) l ≡ formed σ d u (gather lows_of l) (gather highs_of l) c
unfolding closed
closed-with σ d u c l =
    ap₂ (λ (x y : Float). formed σ x y (gather lows_of l) (gather highs_of l) (with_pair σ d u c)) (deep-with d u c σ) (sure-with d u c σ)
    ∙ with-with d u c σ (deeper σ (foldl (deeper σ) d (gather lows_of l)) (foldl (deeper σ) u (gather highs_of l))) (foldl (deeper σ) u (gather highs_of l))

closed-nil : (σ : TurnSide) (c : TurnCell) → Ordered σ c → closed σ c [] ≡ c
unfolding closed
closed-nil σ c o = ap (λ (z : Float). with_pair σ z (sure_of σ c) c) o.order ∙ with-own σ c

closed-step : (σ : TurnSide) (c : TurnCell) (r : Reach) (l : List Reach) → Ordered σ c → PlainReach r → Each PlainReach l → closed σ (cut_by σ c r) l ≡ closed σ c (r ∷ l)
unfolding closed cut_by
closed-step σ c Passed l o p ps = refl
closed-step σ c (Low x) l o p ps = closed-with σ (deeper σ (deep_of σ c) x) (sure_of σ c) c l
closed-step σ c (Both x y) l o p ps =
    let ls = gather lows_of l in
    let hs = gather highs_of l in
    let u = deeper σ (sure_of σ c) y in
    closed-with σ (deeper σ (deeper σ (deep_of σ c) x) u) u c l
    ∙ ap (λ (z : Float). with_pair σ z (foldl (deeper σ) u hs) c) (order-first σ ls hs (plain-lows l ps) (plain-highs l ps) ((deeper-lattice σ).keeps o.deep p.0) ((deeper-lattice σ).keeps o.sure p.1))

-- ---- and leaves the pair ordered
ordered-with : (σ : TurnSide) (d u : Float) (c : TurnCell) → P d → P u → P (limit_of σ c) → deeper σ d u ≡ d → Ordered σ (with_pair σ d u c)
unfolding deep_of sure_of limit_of with_pair
ordered-with Outer d u c p q r e = record { deep = p; sure = q; limit = r; order = e }
ordered-with Inner d u c p q r e = record { deep = p; sure = q; limit = r; order = e }

pub ordered-cut : (σ : TurnSide) (c : TurnCell) (r : Reach) → Ordered σ c → PlainReach r → Ordered σ (cut_by σ c r)
unfolding cut_by
ordered-cut σ c Passed o p = o
ordered-cut σ c (Low x) o p =
    let K = deeper-lattice σ in
    ordered-with σ (deeper σ (deep_of σ c) x) (sure_of σ c) c (K.keeps o.deep p) o.sure o.limit ((deeper-gathers σ).turn o.deep p o.sure ∙ ap (λ (z : Float). deeper σ z x) o.order)
ordered-cut σ c (Both x y) o p =
    let K = deeper-lattice σ in
    let u = deeper σ (sure_of σ c) y in
    let d = deeper σ (deep_of σ c) x in
    let U = K.keeps o.sure p.1 in
    let D = K.keeps o.deep p.0 in
    ordered-with σ (deeper σ d u) u c (K.keeps D U) U o.limit ((deeper-gathers σ).again D U)

-- ---- cuts by own bounds that are given leave the closed form
by-owns : (σ : TurnSide) (c : TurnCell) (l : List Reach) → Ordered σ c → Each PlainReach l → foldl (cut_by σ) c l ≡ closed σ c l
by-owns σ c [] o ps = sym (closed-nil σ c o)
by-owns σ c (r ∷ l) o ps = by-owns σ (cut_by σ c r) l (ordered-cut σ c r o ps.0) ps.1 ∙ closed-step σ c r l o ps.0 ps.1

-- ---- a cut does not move the limit of its side, so each cut has the own bounds that it has over the start
limit-cut : (σ : TurnSide) (c : TurnCell) (r : Reach) → limit_of σ (cut_by σ c r) ≡ limit_of σ c
unfolding cut_by
limit-cut σ c Passed = refl
limit-cut σ c (Low x) = limit-with (deeper σ (deep_of σ c) x) (sure_of σ c) c σ
limit-cut σ c (Both x y) = let u = deeper σ (sure_of σ c) y in limit-with (deeper σ (deeper σ (deep_of σ c) x) u) u c σ

own-limit : (σ : TurnSide) (c c' : TurnCell) (r : Reach) → limit_of σ c ≡ limit_of σ c' → own_of σ c r ≡ own_of σ c' r
unfolding own_of
own-limit σ c c' Passed e = refl
own-limit σ c c' (Low x) e = ap (λ (z : Float). Low (shallower σ x z)) e
own-limit σ c c' (Both x y) e = ap (λ (z : Float). Both (shallower σ x z) (shallower σ y z)) e

-- own bounds of plain reaches are plain
pub own-plain : (σ : TurnSide) (c : TurnCell) (r : Reach) → P (limit_of σ c) → PlainReach r → PlainReach (own_of σ c r)
unfolding own_of
own-plain σ c Passed q p = tt
own-plain σ c (Low x) q p = shallower-plain σ p q
own-plain σ c (Both x y) q p = (shallower-plain σ p.0 q, shallower-plain σ p.1 q)

owns-limit : (σ : TurnSide) (c c' : TurnCell) (l : List Reach) → limit_of σ c ≡ limit_of σ c' → map (own_of σ c) l ≡ map (own_of σ c') l
owns-limit σ c c' [] e = refl
owns-limit σ c c' (r ∷ l) e = ap₂ (λ (x : Reach) (t : List Reach). x ∷ t) (own-limit σ c c' r e) (owns-limit σ c c' l e)

-- so are those of a list
pub owns-plain : (σ : TurnSide) (c : TurnCell) (l : List Reach) → P (limit_of σ c) → Each PlainReach l → Each PlainReach (map (own_of σ c) l)
owns-plain σ c [] q ps = tt
owns-plain σ c (r ∷ l) q ps = (own-plain σ c r q ps.0, owns-plain σ c l q ps.1)

by-start : (σ : TurnSide) (c : TurnCell) (l : List Reach) → foldl (cut_cell σ) c l ≡ foldl (cut_by σ) c (map (own_of σ c) l)
unfolding cut_cell
by-start σ c [] = refl
by-start σ c (r ∷ l) =
    by-start σ (cut_by σ c (own_of σ c r)) l
    ∙ ap (λ (t : List Reach). foldl (cut_by σ) (cut_by σ c (own_of σ c r)) t) (owns-limit σ (cut_by σ c (own_of σ c r)) c l (limit-cut σ c (own_of σ c r)))

-- THE CELL: cuts of one side, one after another, leave the closed form; the own bounds are those over the cell as it was at the start
pub cuts-of-cell : (σ : TurnSide) (c : TurnCell) (l : List Reach) → Ordered σ c → Each PlainReach l → foldl (cut_cell σ) c l ≡ closed σ c (map (own_of σ c) l)
cuts-of-cell σ c l o ps = by-start σ c l ∙ by-owns σ c (map (own_of σ c) l) o (owns-plain σ c l o.limit ps)

-- ---- several cuts in one bin

-- the cell of bin i after the cuts in turn
abbrev pub cell_after : ℕ → TurnCell → List Act → TurnCell
cell_after i c l = foldl (λ (x : TurnCell) (a : Act). act_cell a i x) c l

act-is : (σ : TurnSide) (i : ℕ) (a : Act) (c : TurnCell) → OnlyAt σ i a → act_cell a i c ≡ cut_cell σ c (a.at i)
unfolding cut_cell cut_by own_of
act-is σ i a c (inl e) = ap (λ (t : TurnSide). cut_cell t c (a.at i)) e
act-is σ i a c (inr e) = ap (λ (r : Reach). cut_cell a.side c r) e ∙ sym (ap (λ (r : Reach). cut_cell σ c r) e)

abbrev reaches_at : ℕ → List Act → List Reach
reaches_at i l = map (λ (a : Act). a.at i) l

acts-are : (σ : TurnSide) (i : ℕ) (l : List Act) (c : TurnCell) → Each (OnlyAt σ i) l → cell_after i c l ≡ foldl (cut_cell σ) c (reaches_at i l)
acts-are σ i [] c os = refl
acts-are σ i (a ∷ l) c os = acts-are σ i l (act_cell a i c) os.1 ∙ ap (λ (x : TurnCell). foldl (cut_cell σ) x (reaches_at i l)) (act-is σ i a c os.0)

owns-are : (σ : TurnSide) (c : TurnCell) (i : ℕ) (l : List Act) → map (own_of σ c) (reaches_at i l) ≡ owns_at σ c i l
owns-are σ c i [] = refl
owns-are σ c i (a ∷ l) = ap (λ (t : List Reach). own_of σ c (a.at i) ∷ t) (owns-are σ c i l)

plain_at : (n i : ℕ) → i < n → (l : List Act) → Each (PlainAct n) l → Each PlainReach (reaches_at i l)
plain_at n i h [] ps = tt
plain_at n i h (a ∷ l) ps = (ps.0 i h, plain_at n i h l ps.1)

-- the own bounds in a bin are plain
pub owns-each : (σ : TurnSide) (c : TurnCell) (n i : ℕ) → i < n → (l : List Act) → Ordered σ c → Each (PlainAct n) l → Each PlainReach (owns_at σ c i l)
owns-each σ c n i h [] o ps = tt
owns-each σ c n i h (a ∷ l) o ps = (own-plain σ c (a.at i) o.limit (ps.0 i h), owns-each σ c n i h l o ps.1)

-- THE BIN: cuts of which one side only reaches it leave the closed form of its cell
pub cuts-of-bin : (σ : TurnSide) (n i : ℕ) → i < n → (c : TurnCell) (l : List Act) → Ordered σ c → Each (PlainAct n) l → Each (OnlyAt σ i) l → cell_after i c l ≡ closed σ c (owns_at σ c i l)
cuts-of-bin σ n i h c l o ps os = acts-are σ i l c os ∙ cuts-of-cell σ c (reaches_at i l) o (plain_at n i h l ps) ∙ ap (closed σ c) (owns-are σ c i l)
