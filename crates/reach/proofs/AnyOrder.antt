-- The closed form does not turn on the order of the own bounds, nor on how often each is there; so neither does what cuts of one side leave. Assumes nothing.
use mathlib.Core.Path.{◌≡◌, refl, sym, ap₂, ◌∙◌, subst}
use Prim.Native.Nat.{ℕ, ◌<◌}
use mathlib.Core.List.Memᴰ
use mathlib.Core.List.Permᴰ
use mathlib.Core.List.{List, [], ◌∷◌, map, foldl, foldl-append, Memᴰ, Permᴰ}
use lib.Ieee.{Float, binary64}
use Rattle.floats.specs.Each.{Each, Gathers}
use Rattle.floats.specs.Kinds.{Plain}
use Rattle.floats.proofs.Folds.{fold-keeps, fold-perm, fold-commute, fold-within, fold-members, via-gathers, each-perm}
use Rattle.stock.specs.declared.TurnCell.{TurnCell}
use Rattle.stock.specs.declared.TurnSide.{TurnSide}
use Rattle.reach.specs.declared.Reach.{Reach}
use Rattle.reach.specs.declared.Reach.TheVariants.{Passed, Low, Both}
use Rattle.reach.specs.Reach.{deeper, deep_of, sure_of, with_pair, own_of, cut_cell, Act}
use Rattle.reach.specs.Closed.{gather, lows_of, highs_of, closed, owns_at}
use Rattle.reach.specs.Kinds.{PlainReach, PlainAct, OnlyAt}
use Rattle.reach.proofs.Sides.{deeper-gathers, Ordered}
use Rattle.reach.proofs.OneByOne.{owns-plain, cuts-of-cell, cell_after, owns-each, cuts-of-bin}

abbrev P : Float → Type 0
P = Plain binary64

fold-gather : {A B S : Type 0} (f : S → B → S) (g : A → List B) (b : S) (l : List A) → foldl f b (gather g l) ≡ foldl (λ (s : S) (x : A). foldl f s (g x)) b l
fold-gather f g b [] = refl
fold-gather f g b (x ∷ l) = foldl-append f b (g x) (gather g l) ∙ fold-gather f g (foldl f b (g x)) l

-- a step by a list of elements
list-gathers : {A S : Type 0} {P : A → Type 0} {Q : S → Type 0} {op : S → A → S} → Gathers P Q op → Gathers (Each P) Q (λ (s : S) (l : List A). foldl op s l)
list-gathers H = record {
  keeps = λ {b} {x} q ps. fold-keeps H x ps q;
  turn = λ {b} {x} {y} q ps rs. fold-commute H x y ps rs q;
  again = λ {b} {x} q ps. fold-within H x x ps (λ z m. m) q;
}

bounds-gather : (σ : TurnSide) (g : Reach → List Float) → Gathers (λ (r : Reach). Each P (g r)) P (λ (b : Float) (r : Reach). foldl (deeper σ) b (g r))
bounds-gather σ g = via-gathers (list-gathers (deeper-gathers σ)) g

each-imp : {A : Type 0} (Q R : A → Type 0) → ((x : A) → Q x → R x) → (l : List A) → Each Q l → Each R l
each-imp Q R h [] ps = tt
each-imp Q R h (x ∷ l) ps = (h x ps.0, each-imp Q R h l ps.1)

low-plain : (r : Reach) → PlainReach r → Each P (lows_of r)
low-plain Passed p = tt
low-plain (Low x) p = (p, tt)
low-plain (Both x y) p = (p.0, tt)

high-plain : (r : Reach) → PlainReach r → Each P (highs_of r)
high-plain Passed p = tt
high-plain (Low x) p = tt
high-plain (Both x y) p = (p.1, tt)

closed_same : (σ : TurnSide) (c : TurnCell) (l l' : List Reach) → foldl (deeper σ) (deep_of σ c) (gather lows_of l) ≡ foldl (deeper σ) (deep_of σ c) (gather lows_of l') → foldl (deeper σ) (sure_of σ c) (gather highs_of l) ≡ foldl (deeper σ) (sure_of σ c) (gather highs_of l') → closed σ c l ≡ closed σ c l'
unfolding closed
closed_same σ c l l' e h = ap₂ (λ (x y : Float). with_pair σ (deeper σ x y) y c) e h

-- one of the two bounds, by the list g of what each cut has for it
module _ (σ : TurnSide) (g : Reach → List Float) (gp : (r : Reach) → PlainReach r → Each P (g r)) {b : Float} (q : P b) where
  one-perm : {l l' : List Reach} → Permᴰ l l' → Each PlainReach l → foldl (deeper σ) b (gather g l) ≡ foldl (deeper σ) b (gather g l')
  one-perm {l} {l'} d ps =
      fold-gather (deeper σ) g b l ∙ fold-perm (bounds-gather σ g) d (each-imp PlainReach (λ (r : Reach). Each P (g r)) gp l ps) q ∙ sym (fold-gather (deeper σ) g b l')

  one-members : (l l' : List Reach) → Each PlainReach l → Each PlainReach l' → ((x : Reach) → Memᴰ x l → Memᴰ x l') → ((x : Reach) → Memᴰ x l' → Memᴰ x l) → foldl (deeper σ) b (gather g l) ≡ foldl (deeper σ) b (gather g l')
  one-members l l' ps rs m m' =
      fold-gather (deeper σ) g b l
      ∙ fold-members (bounds-gather σ g) l l' (each-imp PlainReach (λ (r : Reach). Each P (g r)) gp l ps) (each-imp PlainReach (λ (r : Reach). Each P (g r)) gp l' rs) m m' q
      ∙ sym (fold-gather (deeper σ) g b l')

-- in any order
pub closed-perm : (σ : TurnSide) (c : TurnCell) {l l' : List Reach} → Permᴰ l l' → P (deep_of σ c) → P (sure_of σ c) → Each PlainReach l → closed σ c l ≡ closed σ c l'
closed-perm σ c {l} {l'} d p q ps = closed_same σ c l l' (one-perm σ lows_of low-plain p d ps) (one-perm σ highs_of high-plain q d ps)

-- with the same members, each however often
pub closed-members : (σ : TurnSide) (c : TurnCell) (l l' : List Reach) → ((x : Reach) → Memᴰ x l → Memᴰ x l') → ((x : Reach) → Memᴰ x l' → Memᴰ x l) → P (deep_of σ c) → P (sure_of σ c) → Each PlainReach l → Each PlainReach l' → closed σ c l ≡ closed σ c l'
closed-members σ c l l' m m' p q ps rs = closed_same σ c l l' (one-members σ lows_of low-plain p l l' ps rs m m') (one-members σ highs_of high-plain q l l' ps rs m m')

-- ---- cuts of one side, one after another

-- what is in one list of images is in the other
pub mem-map : {A B : Type 0} (f : A → B) (l l' : List A) → ((x : A) → Memᴰ x l → Memᴰ x l') → (y : B) → Memᴰ y (map f l) → Memᴰ y (map f l')
mem-map {B = B} f l l' h y m =
    let t = Memᴰ.of_map f l m in
    subst (λ (z : B). Memᴰ z (map f l')) t.2 (Memᴰ.map f (h t.0 t.1))

-- every order leaves the same cell
pub cuts-any-order : (σ : TurnSide) (c : TurnCell) {l l' : List Reach} → Permᴰ l l' → Ordered σ c → Each PlainReach l → foldl (cut_cell σ) c l ≡ foldl (cut_cell σ) c l'
cuts-any-order σ c {l} {l'} d o ps =
    cuts-of-cell σ c l o ps
    ∙ closed-perm σ c (Permᴰ.map (own_of σ c) d) o.deep o.sure (owns-plain σ c l o.limit ps)
    ∙ sym (cuts-of-cell σ c l' o (each-perm PlainReach d ps))

-- and the same cuts, each however often
pub cuts-however-often : (σ : TurnSide) (c : TurnCell) (l l' : List Reach) → ((x : Reach) → Memᴰ x l → Memᴰ x l') → ((x : Reach) → Memᴰ x l' → Memᴰ x l) → Ordered σ c → Each PlainReach l → Each PlainReach l' → foldl (cut_cell σ) c l ≡ foldl (cut_cell σ) c l'
cuts-however-often σ c l l' m m' o ps rs =
    cuts-of-cell σ c l o ps
    ∙ closed-members σ c (map (own_of σ c) l) (map (own_of σ c) l') (mem-map (own_of σ c) l l' m) (mem-map (own_of σ c) l' l m') o.deep o.sure (owns-plain σ c l o.limit ps) (owns-plain σ c l' o.limit rs)
    ∙ sym (cuts-of-cell σ c l' o rs)

-- ---- cuts in one bin, which one side only reaches
module _ (σ : TurnSide) (n i : ℕ) (h : i < n) (c : TurnCell) (o : Ordered σ c) where
  -- every order leaves the same cell
  pub bin-any-order : {l l' : List Act} → Permᴰ l l' → Each (PlainAct n) l → Each (OnlyAt σ i) l → cell_after i c l ≡ cell_after i c l'
  bin-any-order {l} {l'} d ps os =
      cuts-of-bin σ n i h c l o ps os
      ∙ closed-perm σ c (Permᴰ.map (λ (a : Act). own_of σ c (a.at i)) d) o.deep o.sure (owns-each σ c n i h l o ps)
      ∙ sym (cuts-of-bin σ n i h c l' o (each-perm (PlainAct n) d ps) (each-perm (OnlyAt σ i) d os))

  -- and the same cuts, each however often
  pub bin-however-often : (l l' : List Act) → ((a : Act) → Memᴰ a l → Memᴰ a l') → ((a : Act) → Memᴰ a l' → Memᴰ a l) → Each (PlainAct n) l → Each (PlainAct n) l' → Each (OnlyAt σ i) l → Each (OnlyAt σ i) l' → cell_after i c l ≡ cell_after i c l'
  bin-however-often l l' m m' ps ps' os os' =
      let own : Act → Reach = λ a. own_of σ c (a.at i) in
      cuts-of-bin σ n i h c l o ps os
      ∙ closed-members σ c (owns_at σ c i l) (owns_at σ c i l') (mem-map own l l' m) (mem-map own l' l m') o.deep o.sure (owns-each σ c n i h l o ps) (owns-each σ c n i h l' o ps')
      ∙ sym (cuts-of-bin σ n i h c l' o ps' os')
