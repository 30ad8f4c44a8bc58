-- Kept numbers are those of a fold exactly where no bin with material has more, and some has as much or they are the fold's start. Assumes nothing.
use mathlib.Core.Path.{◌≡◌, refl, sym, ap, ◌∙◌, subst}
use mathlib.Core.Bool.{Bool, true, false, not, ◌&&◌, ◌||◌}
use mathlib.Core.List.{List}
use mathlib.Core.Logic.{◌⊎◌, inl, inr}
use Prim.Native.Nat.{ℕ, zero, suc, ◌+◌, ◌-◌, ◌≤◌}
use native.Mathlib.Omega.{arith}
use lib.Dec.{T}
use lib.Ieee.{Float, nan, inf, fin, is_nan, lt, le, eq}
use lib.Ieee.Fits.{and_i, and_l, and_r}
use Rattle.floats.specs.Pick.{pick}
use Rattle.floats.specs.Numbers.{least_of, greatest_of}
use Rattle.stock.specs.declared.TurnStockSpec.{TurnStockSpec}
use Rattle.stock.specs.Cell.{cell_at}
use Rattle.floats.proofs.Anywhere.{le-chain, eq-turns}
use Rattle.floats.proofs.Bounding.{number?, lt-le, eq-le, lt-number-l, lt-number-r, not-lt, clash}
use Rattle.floats.proofs.Bools.{so, same_tests, or_l, or_r}
use Rattle.queries.specs.declared.Band.{Band}
use Rattle.queries.specs.Material.{most_of}
use Rattle.blocks.specs.declared.matching.Met.{Met}
use Rattle.queries.specs.Envelope.{join_of}
use Rattle.blocks.specs.Block.{block_with, fold_from, block_to, same_block}
use Rattle.blocks.specs.Tested.{met_none, met_with, met_from, all_met}

-- ---- Bools
or-of : (a b : Bool) → T (a || b) → T a ⊎ T b
or-of true b t = inl tt
or-of false b t = inr t

-- one more that R holds of, and of which E may hold
add-under : (r u x : Bool) → (r && u && x) ≡ (r && (u && x))
add-under true u x = refl
add-under false u x = refl

add-some : (r u s x y : Bool) → (r && u && x && (r && u && s || y)) ≡ (r && (u && x) && (s || y))
add-some true true s true y = refl
add-some true true s false y = refl
add-some true false s x y = refl
add-some false u s x y = refl

-- ---- one of the two sides: `upto` is its order, and the second of two is taken where it lies beyond the first
record Side : Type 0 where
  upto : Float → Float → Bool
  beyond : Float → Float → Bool
  takes : (a b : Float) → T (beyond a b) → T (upto a b)
  keeps : (a b : Float) → is_nan a ≡ false → is_nan b ≡ false → beyond a b ≡ false → T (upto b a)
  chain : (a b c : Float) → T (upto a b) → T (upto b c) → T (upto a c)
  level : (a b : Float) → T (upto a b) → T (upto b a) → T (eq a b)
  even : (a b : Float) → T (eq a b) → T (upto a b) × T (upto b a)
  never : (b : Float) → beyond nan b ≡ false
  nowhere : (b : Float) → upto nan b ≡ false

module _ (σ : Side) (k : Float) where
  further : Float → Float → Float
  further a b = pick (σ.beyond a b) b a

  module _ (a b : Float) (na : is_nan a ≡ false) (nb : is_nan b ≡ false) where
    further-number : is_nan (further a b) ≡ false
    unfolding further pick
    further-number = go (σ.beyond a b)
      where
        go : (t : Bool) → is_nan (pick t b a) ≡ false
        go true = nb
        go false = na

    further-upto : σ.upto (further a b) k ≡ (σ.upto a k && σ.upto b k)
    unfolding further pick
    further-upto = go (σ.beyond a b) refl
      where
        go : (t : Bool) → σ.beyond a b ≡ t → σ.upto (pick t b a) k ≡ (σ.upto a k && σ.upto b k)
        go true e = same_tests _ _ (λ h. and_i (σ.upto a k) (σ.upto b k) (σ.chain a b k (σ.takes a b (so e)) h) h) (λ h. and_r (σ.upto a k) (σ.upto b k) h)
        go false e = same_tests _ _ (λ h. and_i (σ.upto a k) (σ.upto b k) h (σ.chain b a k (σ.keeps a b na nb e) h)) (λ h. and_l (σ.upto a k) (σ.upto b k) h)

    further-even : eq k (further a b) ≡ (σ.upto a k && σ.upto b k && (eq k a || eq k b))
    unfolding further pick
    further-even = go (σ.beyond a b) refl
      where
        both : T (σ.upto a k) → T (σ.upto b k) → T (eq k a || eq k b) → T (σ.upto a k && σ.upto b k && (eq k a || eq k b))
        both p q r = and_i (σ.upto a k && σ.upto b k) (eq k a || eq k b) (and_i (σ.upto a k) (σ.upto b k) p q) r

        parts : T (σ.upto a k && σ.upto b k && (eq k a || eq k b)) → T (σ.upto a k) × T (σ.upto b k) × (T (eq k a) ⊎ T (eq k b))
        parts h = let l = and_l (σ.upto a k && σ.upto b k) (eq k a || eq k b) h in (and_l (σ.upto a k) (σ.upto b k) l, and_r (σ.upto a k) (σ.upto b k) l, or-of (eq k a) (eq k b) (and_r (σ.upto a k && σ.upto b k) (eq k a || eq k b) h))

        go : (t : Bool) → σ.beyond a b ≡ t → eq k (pick t b a) ≡ (σ.upto a k && σ.upto b k && (eq k a || eq k b))
        go true e =
            let w = σ.takes a b (so e) in
            same_tests _ _ (λ h. both (σ.chain a b k w (σ.even k b h).1) (σ.even k b h).1 (or_r (eq k a) (eq k b) h))
            (λ h. elim (parts h).2 [
              | inl q ↦ σ.level k b (σ.chain k a b (σ.even k a q).0 w) (parts h).1
              | inr q ↦ q
            ])
        go false e =
            let w = σ.keeps a b na nb e in
            same_tests _ _ (λ h. both (σ.even k a h).1 (σ.chain b a k w (σ.even k a h).1) (or_l (eq k a) (eq k b) h))
            (λ h. elim (parts h).2 [
              | inl q ↦ q
              | inr q ↦ σ.level k a (σ.chain k b a (σ.even k b q).0 w) (parts h).0
            ])

  -- ---- a fold of such, onto g
  module _ (g : Float) (has : ℕ → Bool) (v : ℕ → Float) (number : (i : ℕ) → has i ≡ true → is_nan (v i) ≡ false) where
    furthest : ℕ → Float
    furthest zero = g
    furthest (suc m) = pick (has m) (further (furthest m) (v m)) (furthest m)

    none_over : ℕ → Bool
    none_over zero = true
    none_over (suc m) = none_over m && (not (has m) || σ.upto (v m) k)

    some_at : ℕ → Bool
    some_at zero = eq k g
    some_at (suc m) = some_at m || (has m && eq k (v m))

    record Tested (m : ℕ) : Type 0 where
      real : is_nan (furthest m) ≡ false
      over : σ.upto (furthest m) k ≡ (σ.upto g k && none_over m)
      at : eq k (furthest m) ≡ (σ.upto g k && none_over m && some_at m)

    at-start : (t u : Bool) → (T t → T u) → t ≡ (u && true && t)
    at-start true true f = refl
    at-start true false f = absurd (f tt)
    at-start false true f = refl
    at-start false false f = refl

    and-true : (a : Bool) → a ≡ (a && true)
    and-true true = refl
    and-true false = refl

    or-false : (a : Bool) → a ≡ (a || false)
    or-false true = refl
    or-false false = refl

    tested : is_nan g ≡ false → (m : ℕ) → Tested m
    unfolding furthest none_over some_at pick
    tested ng zero = record { real = ng; over = and-true (σ.upto g k); at = at-start (eq k g) (σ.upto g k) (λ h. (σ.even k g h).1) }
    tested ng (suc m) = go (has m) refl (tested ng m)
      where
        go : (t : Bool) → has m ≡ t → Tested m → Tested (suc m)
        go true e r =
            let nv = number m e in
            let here = ap (λ (t : Bool). pick t (further (furthest m) (v m)) (furthest m)) e in
            let u : none_over (suc m) ≡ (none_over m && σ.upto (v m) k) = ap (λ (t : Bool). none_over m && (not t || σ.upto (v m) k)) e in
            let w : some_at (suc m) ≡ (some_at m || eq k (v m)) = ap (λ (t : Bool). some_at m || (t && eq k (v m))) e in
            record {
              real = subst (λ (x : Float). is_nan x ≡ false) (sym here) (further-number (furthest m) (v m) r.real nv);
              over = ap (λ (x : Float). σ.upto x k) here ∙ further-upto (furthest m) (v m) r.real nv ∙ ap (λ (b : Bool). b && σ.upto (v m) k) r.over ∙ add-under (σ.upto g k) (none_over m) (σ.upto (v m) k) ∙ ap (λ (b : Bool). σ.upto g k && b) (sym u);
              at = ap (λ (x : Float). eq k x) here ∙ further-even (furthest m) (v m) r.real nv
                  ∙ (λ i. r.over i && σ.upto (v m) k && (r.at i || eq k (v m)))
                  ∙ add-some (σ.upto g k) (none_over m) (some_at m) (σ.upto (v m) k) (eq k (v m))
                  ∙ (λ i. σ.upto g k && sym u i && sym w i);
            }
        go false e r =
            let here = ap (λ (t : Bool). pick t (further (furthest m) (v m)) (furthest m)) e in
            let u : none_over (suc m) ≡ none_over m = ap (λ (t : Bool). none_over m && (not t || σ.upto (v m) k)) e ∙ sym (and-true (none_over m)) in
            let w : some_at (suc m) ≡ some_at m = ap (λ (t : Bool). some_at m || (t && eq k (v m))) e ∙ sym (or-false (some_at m)) in
            record {
              real = subst (λ (x : Float). is_nan x ≡ false) (sym here) r.real;
              over = ap (λ (x : Float). σ.upto x k) here ∙ r.over ∙ ap (λ (b : Bool). σ.upto g k && b) (sym u);
              at = ap (λ (x : Float). eq k x) here ∙ r.at ∙ (λ i. σ.upto g k && sym u i && sym w i);
            }

    -- from no number on nothing is found
    stuck : g ≡ nan → (m : ℕ) → furthest m ≡ nan
    unfolding furthest further pick
    stuck e zero = e
    stuck e (suc m) = go (has m) (stuck e m)
      where
        go : (t : Bool) → furthest m ≡ nan → pick t (pick (σ.beyond (furthest m) (v m)) (v m) (furthest m)) (furthest m) ≡ nan
        go true q = (λ i. pick (σ.beyond (q i) (v m)) (v m) (q i)) ∙ ap (λ (t : Bool). pick t (v m) nan) (σ.never (v m))
        go false q = q

    -- k is the furthest exactly where none goes beyond it and some is there
    furthest-at : (m : ℕ) → eq k (furthest m) ≡ (σ.upto g k && none_over m && some_at m)
    furthest-at m = elim (number? g) [
      | inl e ↦ ap (λ (x : Float). eq k x) (stuck e m) ∙ eq-nan k ∙ (λ i. sym (σ.nowhere k) i && none_over m && some_at m) ∙ (λ i. σ.upto (sym e i) k && none_over m && some_at m)
      | inr e ↦ (tested e m).at
    ]
      where
        eq-nan : (x : Float) → eq x nan ≡ false
        eq-nan nan = unfold eq in refl
        eq-nan (inf s) = unfold eq in refl
        eq-nan (fin s m e) = unfold eq in refl

-- ---- the outer radius, and the bore
pub level-of : (a b : Float) → T (le a b) → T (le b a) → T (eq a b)
unfolding le
level-of a b p q = elim (or-of (lt a b) (eq a b) p) [
  | inl l ↦ absurd (clash a b l q)
  | inr e ↦ e
]

lt-from-nan : (b : Float) → lt nan b ≡ false
lt-from-nan b = unfold lt in refl

lt-to-nan : (b : Float) → lt b nan ≡ false
lt-to-nan nan = unfold lt in refl
lt-to-nan (inf s) = unfold lt in refl
lt-to-nan (fin s m e) = unfold lt in refl

le-from-nan : (b : Float) → le nan b ≡ false
le-from-nan b = unfold le lt eq in refl

le-to-nan : (b : Float) → le b nan ≡ false
le-to-nan nan = unfold le lt eq in refl
le-to-nan (inf s) = unfold le lt eq in refl
le-to-nan (fin s m e) = unfold le lt eq in refl

outerward : Side
outerward = record {
  upto = λ a b. le a b;
  beyond = λ a b. lt a b;
  takes = lt-le;
  keeps = not-lt;
  chain = le-chain;
  level = level-of;
  even = λ a b e. (eq-le a b e, eq-turns a b e);
  never = lt-from-nan;
  nowhere = le-from-nan;
}

boreward : Side
boreward = record {
  upto = λ a b. le b a;
  beyond = λ a b. lt b a;
  takes = λ a b. lt-le b a;
  keeps = λ a b na nb. not-lt b a nb na;
  chain = λ a b c p q. le-chain c b a q p;
  level = λ a b p q. level-of a b q p;
  even = λ a b e. (eq-turns a b e, eq-le a b e);
  never = lt-to-nan;
  nowhere = le-to-nan;
}

-- ---- the bins of a fold
pick-outer : (t : Bool) (x y : Band) → (pick t x y).outer ≡ pick t x.outer y.outer
unfolding pick
pick-outer true x y = refl
pick-outer false x y = refl

pick-bore : (t : Bool) (x y : Band) → (pick t x y).bore ≡ pick t x.bore y.bore
unfolding pick
pick-bore true x y = refl
pick-bore false x y = refl

both-sides : (p u q v h x y : Bool) → (p && u && (q && v) && (not h || (x && y))) ≡ (p && (u && (not h || x)) && (q && (v && (not h || y))))
both-sides true true true true true true y = refl
both-sides true true true true true false y = refl
both-sides true true true true false x y = refl
both-sides true true true false true true y = refl
both-sides true true true false true false y = refl
both-sides true true true false false x y = refl
both-sides true true false v true true y = refl
both-sides true true false v true false y = refl
both-sides true true false v false x y = refl
both-sides true false q v h x y = refl
both-sides false u q v h x y = refl

in-turn : (p q s t : Bool) → (p && q && s && t) ≡ (p && s && (q && t))
in-turn true true s t = refl
in-turn true false true t = refl
in-turn true false false t = refl
in-turn false q s t = refl

module _ (s : TurnStockSpec) (k : Band) (cs : List Float) (a : ℕ) where
  most : ℕ → Band
  most i = most_of (cell_at cs (a + i))

  has : ℕ → Bool
  unfolding most
  has i = lt (most i).bore (most i).outer

  outer-number : (i : ℕ) → has i ≡ true → is_nan (most i).outer ≡ false
  unfolding has
  outer-number i e = lt-number-r (most i).bore (most i).outer (so e)

  bore-number : (i : ℕ) → has i ≡ true → is_nan (most i).bore ≡ false
  unfolding has
  bore-number i e = lt-number-l (most i).bore (most i).outer (so e)

  -- what goes beyond the kept outer radius, and what has it; and of the bore
  over_outer : ℕ → Bool
  over_outer m = none_over outerward k.outer s.bore_radius_mm has (λ (i : ℕ). (most i).outer) outer-number m

  at_outer : ℕ → Bool
  at_outer m = some_at outerward k.outer s.bore_radius_mm has (λ (i : ℕ). (most i).outer) outer-number m

  over_bore : ℕ → Bool
  over_bore m = none_over boreward k.bore s.outer_radius_mm has (λ (i : ℕ). (most i).bore) bore-number m

  at_bore : ℕ → Bool
  at_bore m = some_at boreward k.bore s.outer_radius_mm has (λ (i : ℕ). (most i).bore) bore-number m

  outer-is : (m : ℕ) → (block_to s cs a m).outer ≡ furthest outerward k.outer s.bore_radius_mm has (λ (i : ℕ). (most i).outer) outer-number m
  unfolding furthest further outerward fold_from block_with greatest_of most has
  outer-is zero = refl
  outer-is (suc m) =
      pick-outer (has m) (join_of (block_to s cs a m) (most m)) (block_to s cs a m)
      ∙ (λ i. pick (has m) (pick (lt (outer-is m i) (most m).outer) (most m).outer (outer-is m i)) (outer-is m i))

  bore-is : (m : ℕ) → (block_to s cs a m).bore ≡ furthest boreward k.bore s.outer_radius_mm has (λ (i : ℕ). (most i).bore) bore-number m
  unfolding furthest further boreward fold_from block_with least_of most has
  bore-is zero = refl
  bore-is (suc m) =
      pick-bore (has m) (join_of (block_to s cs a m) (most m)) (block_to s cs a m)
      ∙ (λ i. pick (has m) (pick (lt (most m).bore (bore-is m i)) (most m).bore (bore-is m i)) (bore-is m i))

  -- the three tests are those of the two sides
  under-is : (m : ℕ) → (met_from k (met_none s k) cs a m).under ≡ (le s.bore_radius_mm k.outer && over_outer m && (le k.bore s.outer_radius_mm && over_bore m))
  unfolding met_from over_outer over_bore none_over outerward boreward most has
  under-is zero = start (le s.bore_radius_mm k.outer) (le k.bore s.outer_radius_mm)
    where
      start : (p q : Bool) → (p && q) ≡ (p && true && (q && true))
      start true true = refl
      start true false = refl
      start false q = refl
  under-is (suc m) =
      ap (λ (b : Bool). b && (not (has m) || (le (most m).outer k.outer && le k.bore (most m).bore))) (under-is m)
      ∙ both-sides (le s.bore_radius_mm k.outer) (over_outer m) (le k.bore s.outer_radius_mm) (over_bore m) (has m) (le (most m).outer k.outer) (le k.bore (most m).bore)

  outer-met : (m : ℕ) → (met_from k (met_none s k) cs a m).outer ≡ at_outer m
  unfolding met_from at_outer some_at most has
  outer-met zero = refl
  outer-met (suc m) = ap (λ (b : Bool). b || (has m && eq k.outer (most m).outer)) (outer-met m)

  bore-met : (m : ℕ) → (met_from k (met_none s k) cs a m).bore ≡ at_bore m
  unfolding met_from at_bore some_at most has
  bore-met zero = refl
  bore-met (suc m) = ap (λ (b : Bool). b || (has m && eq k.bore (most m).bore)) (bore-met m)

  -- KEPT NUMBERS THAT PASS THE TESTS are those of the fold, and no others
  pub tested-same : (m : ℕ) → all_met (met_from k (met_none s k) cs a m) ≡ same_block k (block_to s cs a m)
  unfolding over_outer at_outer over_bore at_bore outerward boreward
  tested-same m =
      (λ i. under-is m i && outer-met m i && bore-met m i)
      ∙ in-turn (le s.bore_radius_mm k.outer && over_outer m) (le k.bore s.outer_radius_mm && over_bore m) (at_outer m) (at_bore m)
      ∙ (λ i. sym (furthest-at outerward k.outer s.bore_radius_mm has (λ (i : ℕ). (most i).outer) outer-number m) i && sym (furthest-at boreward k.bore s.outer_radius_mm has (λ (i : ℕ). (most i).bore) bore-number m) i)
      ∙ (λ i. eq k.outer (sym (outer-is m) i) && eq k.bore (sym (bore-is m) i))

-- bin i behind those from a
pub met-more : (k : Band) (m₀ : Met) (cs : List Float) (a i : ℕ) (m r : Met) (b : Band) → a ≤ i → m ≡ met_from k m₀ cs a (i - a) → b ≡ most_of (cell_at cs i) → r ≡ met_with k m b → r ≡ met_from k m₀ cs a (i + 1 - a)
unfolding met_from
met-more k m₀ cs a i m r b h em eb er =
    let e1 : i + 1 - a ≡ suc (i - a) = omega arith in
    let e2 : a + (i - a) ≡ i = omega arith in
    er ∙ (λ j. met_with k (em j) (eb j))
    ∙ ap (λ (x : ℕ). met_with k (met_from k m₀ cs a (i - a)) (most_of (cell_at cs x))) (sym e2)
    ∙ ap (λ (x : ℕ). met_from k m₀ cs a x) (sym e1)

pub met_start : (k : Band) (m : Met) (cs : List Float) (a n : ℕ) → n ≡ 0 → m ≡ met_from k m cs a n
unfolding met_from
met_start k m cs a n e = ap (λ (x : ℕ). met_from k m cs a x) (sym e)
