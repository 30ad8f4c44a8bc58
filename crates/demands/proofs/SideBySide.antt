-- TWO STOCKS SIDE BY SIDE: what `side_by_side::compare` and `side_by_side::chunk` write is a report of every difference, and of nothing else. A store passes refusal 4's test where its file was read. Assumes nothing.
use Rattle.std.specs.Prelude.{Result}
use Prim.Native.Nat.{ℕ, ◌+◌}
use mathlib.Core.Path.{◌≡◌, refl, sym, ap, ap₂, ◌∙◌}
use mathlib.Core.Bool.{Bool, true, false, not, ◌&&◌, ◌||◌, false≢true}
use mathlib.Core.List.{List, [], ◌∷◌, ◌++◌, map}
use lib.Dec.{T, ltb}
use lib.Ieee.{Float, lt, le, is_nan}
use lib.Ieee.Bits.{is_true}
use lib.Ieee.Fits.{and_i, and_l, and_r}
use Rattle.refusals.specs.declared.Refused.{Refused}
use Rattle.refusals.specs.Number.{placed_of}
use Rattle.refusals.specs.Paper.{Paper, Reason, answers, refuses}
use Rattle.floats.specs.Pick.{pick}
use Rattle.floats.specs.Numbers.{least_of, greatest_of, clean_of}
use Rattle.floats.specs.Each.{Each}
use Rattle.floats.proofs.Anywhere.{le-number-l, le-number-r, le-chain}
use Rattle.floats.proofs.Bounding.{lt-number-l, lt-number-r, lt-le-chain, greatest-below, least_above, clean-number, le-clean, lt-clean}
use Rattle.floats.proofs.Bools.{so}
use Rattle.stock.specs.declared.TurnStockSpec.{TurnStockSpec}
use Rattle.stock.specs.Spec.{clean_spec}
use Rattle.stock.proofs.Count.{and_both}
use Rattle.stock.specs.declared.TurnChange.{TurnChange}
use Rattle.stock.specs.Cell.{cell_at, same_cell, stock_of}
use Rattle.rings.specs.declared.Ring.{Ring}
use Rattle.rings.specs.Ring.{within, covers, covered, clip}
use Rattle.rings.specs.Store.{bar_ring, rings_of, ring_fits, apart_all, store_fits}
use Rattle.rings.specs.Points.{tick, count, Disjoint}
use Rattle.rings.proofs.Cover.{Full, full-z, full-r, covered-count}
use Rattle.rings.proofs.Fitting.{Fits, fits-of, store-full, store-disjoint}
use Rattle.changes.specs.Change.{changes_to}
use Rattle.changes.specs.Difference.{other_cell, difference_of}
use Rattle.changes.proofs.Becomes.{difference-is}
use Rattle.lines.specs.File.{joined}
use Rattle.stock_file.specs.declared.Kept.{Kept}
use Rattle.stock_file.specs.InParts.{Finished}
use Rattle.stock_file.proofs.Cut.{however-cut}
use Rattle.side_by_side.specs.Compared.{Side, cell_text, bin_text, bin_texts, left_all, ring_texts, both_in_hand, chunks_of, compared_of}
use Rattle.side_by_side.specs.Refused.{file_refused}
use Rattle.side_by_side.specs.Files.{Told, told_of, side_of, first_text, second_text, files_text, compared_text}
use Rattle.side_by_side.proofs.Cells.{change_texts, bins-changes, bin-turned}
use Rattle.side_by_side.proofs.Points.{points-left, points-both, apart-both}
use Rattle.side_by_side.proofs.Written as written
use Rattle.demands.specs.Run.{Store, RanRings}
use Rattle.demands.proofs.Rings.{run-covers}
use Rattle.demands.proofs.SideLines.{each_left}

-- CELLS: of the bins below n, of as many as there are in all, the lines are those of the changes from the first stock to the second: the cell before, and the cell after
pub compared-cells : (all : ℕ) (cs ds : List Float) (n : ℕ) → joined (bin_texts all cs ds n) ≡ change_texts all (changes_to (other_cell ds) cs n)
compared-cells all cs ds n = bins-changes all cs ds n

-- so they are the changes of the difference, which committed to the first gives the second's cells where no bin gains material (`difference-committed` of `changes`), and else is refused with 23 at the first change that adds (`difference-adds`, proofs/Which)
pub compared-difference : (spec : TurnStockSpec) (cs ds : List Float) (n room : ℕ) (l : List TurnChange) → stock_of spec cs ≡ answers n → difference_of spec cs ds room ≡ answers l → joined (bin_texts n cs ds n) ≡ change_texts n l
compared-difference spec cs ds n room l e f = bins-changes n cs ds n ∙ ap (change_texts n) (sym (difference-is spec cs ds n room l e f))

module _ (e : Ring) (ks qs : List Ring) (f : store_fits e ks ≡ true) (g : store_fits e qs ≡ true) where
  -- POINTS: a point is in as many of the rings left of qs as qs cover it and ks do not, which is one or none
  pub compared-first : (z r : Float) → count (left_all ks qs) z r ≡ tick (covered qs z r && not (covered ks z r))
  compared-first z r = points-left ks (store-full e ks f) qs (store-disjoint e qs g) z r

  -- and all written rings cover what exactly one of the two stores covers, each point once
  pub compared-points : (z r : Float) → count (left_all ks qs ++ left_all qs ks) z r ≡ tick (covered qs z r && not (covered ks z r)) + tick (covered ks z r && not (covered qs z r))
  compared-points z r = points-both ks qs (store-full e ks f) (store-full e qs g) (store-disjoint e ks f) (store-disjoint e qs g) z r

  pub compared-apart : Disjoint (left_all ks qs ++ left_all qs ks)
  compared-apart = apart-both ks qs (store-full e ks f) (store-full e qs g) (store-disjoint e ks f) (store-disjoint e qs g)

module _ (e : Ring) (a b : Side) (f : store_fits e a.rings ≡ true) (g : store_fits e b.rings ≡ true) where
  -- NO RING: where both stores cover the same points, however cut and in whatever order, no ring is written
  pub compared-none : written.SamePoints a b → (left_all b.rings a.rings ≡ []) × (left_all a.rings b.rings ≡ [])
  compared-none s = written.same_none a b (store-full e a.rings f) (store-full e b.rings g) (store-disjoint e a.rings f) (store-disjoint e b.rings g) s

  -- and nowhere else
  pub none-compared : left_all b.rings a.rings ≡ [] → left_all a.rings b.rings ≡ [] → written.SamePoints a b
  none-compared u v = written.none-same a b (store-full e a.rings f) (store-full e b.rings g) (store-disjoint e a.rings f) (store-disjoint e b.rings g) u v

  -- SILENCE: no byte is written where the cells are equal and the same points are covered
  pub compared-silent : both_in_hand a b ≡ true → written.SameCells a b → written.SamePoints a b → joined (chunks_of a b) ≡ []
  compared-silent h s p = written.silent a b (store-full e a.rings f) (store-full e b.rings g) (store-disjoint e a.rings f) (store-disjoint e b.rings g) h s p

  -- and only there
  pub silent-compared : both_in_hand a b ≡ true → joined (chunks_of a b) ≡ [] → written.SameCells a b × written.SamePoints a b
  silent-compared h o = written.silence a b (store-full e a.rings f) (store-full e b.rings g) (store-disjoint e a.rings f) (store-disjoint e b.rings g) h o

-- WHAT IS WRITTEN: the lines of cells, then the rings left of the first's, then those left of the second's
pub compared-written : (a b : Side) → both_in_hand a b ≡ true → joined (chunks_of a b) ≡ joined (written.bins_of a b) ++ (ring_texts (left_all b.rings a.rings) ++ ring_texts (left_all a.rings b.rings))
compared-written a b h = written.written a b h

-- TURNED ABOUT: with the stocks exchanged the ring parts change places
pub compared-turned : (a b : Side) → both_in_hand a b ≡ true → joined (chunks_of b a) ≡ joined (written.bins_of b a) ++ (ring_texts (left_all a.rings b.rings) ++ ring_texts (left_all b.rings a.rings))
compared-turned a b h = written.written-turned a b h

-- each pair of cell lines turns about
pub compared-bin-turned : (all : ℕ) (cs ds : List Float) (i : ℕ) → bin_text all ds cs i ≡ pick (same_cell (cell_at cs i) (cell_at ds i)) [] (cell_text all i (cell_at ds i) ++ cell_text all i (cell_at cs i))
compared-bin-turned all cs ds i = bin-turned all cs ds i

-- and 11 is given in both orders or in none
pub compared-hand-turned : (a b : Side) → both_in_hand b a ≡ both_in_hand a b
compared-hand-turned a b = written.in-hand-turned a b

-- THE ORDER of two files, of whatever forms and editions: the first's refusal, whatever the second is; then the second's; then 24 and 11 (`compare-exactly`, proofs/First)
pub first-refused : (f g : Told) (r : Reason) → f.tells ≡ refuses r → files_text f g ≡ file_refused 1 (refuses r)
first-refused f g r e = ap (λ (p : Paper Kept). first_text p f g) e

pub second-refused : (f g : Told) (k : Kept) (r : Reason) → f.tells ≡ answers k → g.tells ≡ refuses r → files_text f g ≡ file_refused 2 (refuses r)
second-refused f g k r e h = ap (λ (p : Paper Kept). first_text p f g) e ∙ ap (λ (p : Paper Kept). second_text k f p g) h

pub both_told : (f g : Told) (k j : Kept) → f.tells ≡ answers k → g.tells ≡ answers j → files_text f g ≡ compared_text (compared_of k.stock.spec (side_of k f) j.stock.spec (side_of j g))
both_told f g k j e h = ap (λ (p : Paper Kept). first_text p f g) e ∙ ap (λ (p : Paper Kept). second_text k f p g) h

told_same : {p q : Paper Kept} {a b c d : List Float} → p ≡ q → a ≡ b → c ≡ d → ◌≡◌ {A = Told} (record { tells = p; cells = a; rings = c }) (record { tells = q; cells = b; rings = d })
told_same e f g = λ i. record { tells = e i; cells = f i; rings = g i }

-- HOWEVER CUT: what two files tell and leave in any parts is what the whole files do
pub compared-however-cut : {most : ℕ} {cs rs : List Float} {ps : List (List ℕ)} {r : Result Kept Refused} (f : Finished most cs rs ps r) → ◌≡◌ {A = Told} (record { tells = placed_of r; cells = f.left.job.cells; rings = f.left.job.rings }) (told_of most cs rs (joined ps))
compared-however-cut f =
    let h = however-cut f in
    told_same h.0 h.1 h.2

-- ---- the written rings taken into the other store

four : (a b c d : Bool) → ((a && b) && (c && d)) ≡ ((a && c) && (b && d))
four false b c d = refl
four true true c d = refl
four true false true d = refl
four true false false d = refl

-- a ring that fits: its points are the extent's
fits-covers : (e q : Ring) → Fits e q → (z r : Float) → T (covers q z r) → T (covers e z r)
fits-covers e q f z r t =
    let a = and_l (within q.z0 q.z1 z) (within q.r0 q.r1 r) t in
    let b = and_r (within q.z0 q.z1 z) (within q.r0 q.r1 r) t in
    and_i (within e.z0 e.z1 z) (within e.r0 e.r1 r)
    (inner e.z0 e.z1 q.z0 q.z1 z f.z_low f.z_high a)
    (inner e.r0 e.r1 q.r0 q.r1 r f.r_low f.r_high b)
  where
    inner : (a b c d x : Float) → T (le a c) → T (le d b) → T (within c d x) → T (within a b x)
    inner a b c d x l h t = and_i (le a x) (lt x b) (le-chain a c x l (and_l (le c x) (lt x d) t)) (lt-le-chain x d b (and_r (le c x) (lt x d) t) h)

-- where one ring fits, any other that is not empty covers, clipped, what it and the extent cover
clip-covers : (e k q : Ring) → Fits e k → Full q → (z r : Float) → covers (clip e q) z r ≡ (covers q z r && covers e z r)
unfolding clip
clip-covers e k q f h z r =
    ap₂ ◌&&◌
    (axis e.z0 e.z1 q.z0 q.z1 z (le-number-l e.z0 k.z0 f.z_low) (le-number-r k.z1 e.z1 f.z_high) (full-z q h))
    (axis e.r0 e.r1 q.r0 q.r1 r (le-number-l e.r0 k.r0 f.r_low) (le-number-r k.r1 e.r1 f.r_high) (full-r q h))
    ∙ four (within q.z0 q.z1 z) (within e.z0 e.z1 z) (within q.r0 q.r1 r) (within e.r0 e.r1 r)
  where
    axis : (a b c d x : Float) → is_nan a ≡ false → is_nan b ≡ false → T (lt c d) → within (greatest_of (clean_of c) a) (least_of (clean_of d) b) x ≡ (within c d x && within a b x)
    axis a b c d x na nb t =
        ap₂ ◌&&◌
        (greatest-below (clean_of c) a (clean-number c (lt-number-l c d t)) na x ∙ ap (λ (y : Bool). y && le a x) (le-clean c x))
        (least_above (clean_of d) b (clean-number d (lt-number-r c d t)) nb x ∙ ap (λ (y : Bool). y && lt x b) (lt-clean d x))
        ∙ four (le c x) (le a x) (lt x d) (lt x b)

clips-covered : (e k : Ring) → Fits e k → (l : List Ring) → Each Full l → (z r : Float) → covered (map (clip e) l) z r ≡ (covered l z r && covers e z r)
unfolding covered
clips-covered e k f [] a z r = refl
clips-covered e k f (q ∷ l) a z r =
    ap₂ ◌||◌ (clip-covers e k q f a.0 z r) (clips-covered e k f l a.1 z r) ∙ both (covers q z r) (covered l z r) (covers e z r)
  where
    both : (a b x : Bool) → ((a && x) || (b && x)) ≡ ((a || b) && x)
    both false b x = refl
    both true b true = refl
    both true true false = refl
    both true false false = refl

-- a store that passes covers points of the extent alone
store-within : (e : Ring) (qs : List Ring) → store_fits e qs ≡ true → (z r : Float) → covered qs z r ≡ true → covers e z r ≡ true
unfolding covered store_fits
store-within e [] t z r c = absurd (false≢true c)
store-within e (q ∷ qs) t z r c =
    let b = and_both (ring_fits e q && apart_all qs q) (store_fits e qs) t in
    let w = fits-of e q (so (and_both (ring_fits e q) (apart_all qs q) b.0).0) in
    go (covers q z r) refl c (store-within e qs b.1 z r)
    (λ h. is_true (covers e z r) (fits-covers e q w z r (so h)))
  where
    go : (x : Bool) → covers q z r ≡ x → (x || covered qs z r) ≡ true → (covered qs z r ≡ true → covers e z r ≡ true) → (covers q z r ≡ true → covers e z r ≡ true) → covers e z r ≡ true
    go true h c more one = one h
    go false h c more one = more c

opened : (e q : Ring) (qs : List Ring) → store_fits e (q ∷ qs) ≡ true → ((ring_fits e q && apart_all qs q) && store_fits e qs) ≡ true
unfolding store_fits
opened e q qs g = g

-- what exactly the others leave, clipped
left-clipped : (e : Ring) (ks qs : List Ring) → store_fits e ks ≡ true → store_fits e qs ≡ true → (z r : Float) → covered (map (clip e) (left_all ks qs)) z r ≡ (covered qs z r && not (covered ks z r))
unfolding left_all covered
left-clipped e ks [] f g z r = refl
left-clipped e ks (q ∷ qs) f g z r =
    let all = q ∷ qs in
    let one = fits-of e q (so (and_both (ring_fits e q) (apart_all qs q) (and_both (ring_fits e q && apart_all qs q) (store_fits e qs) (opened e q qs g)).0).0) in
    clips-covered e q one (left_all ks all) (each_left Full (λ p w. w) (λ p k a b n. (λ x. x, λ x. x, λ x. x, λ x. x)) ks all (store-full e ks f) (store-full e all g)) z r
    ∙ ap (λ (x : Bool). x && covers e z r) (covered-count (left_all ks all) z r ∙ ap (λ (n : ℕ). ltb 0 n) (compared-first e ks all f g z r) ∙ ticked (covered all z r && not (covered ks z r)))
    ∙ inside (covered all z r) (not (covered ks z r)) (covers e z r) (store-within e all g z r)
  where
    ticked : (b : Bool) → ltb 0 (tick b) ≡ b
    ticked true = refl
    ticked false = refl

    inside : (a b x : Bool) → (a ≡ true → x ≡ true) → ((a && b) && x) ≡ (a && b)
    inside false b x h = refl
    inside true true x h = h refl
    inside true false x h = refl

-- JOINED: the rings that are written of a first store, taken one by one into the second's, make it cover what either covers and nothing else
pub compared-joins : {spec : TurnStockSpec} {edition : ℕ} {s t : Store} (qs : List Ring) → let ks = rings_of s.count s.numbers in let e = bar_ring (clean_spec spec) in
    store_fits e ks ≡ true → store_fits e qs ≡ true → RanRings spec edition s (left_all ks qs) t → (z r : Float) → covered (rings_of t.count t.numbers) z r ≡ (covered ks z r || covered qs z r)
compared-joins {spec} {edition} {s} {t} qs f g a z r =
    let ks = rings_of s.count s.numbers in
    run-covers a z r ∙ ap (λ (x : Bool). covered ks z r || x) (left-clipped (bar_ring (clean_spec spec)) ks qs f g z r) ∙ joins (covered ks z r) (covered qs z r)
  where
    joins : (k q : Bool) → (k || (q && not k)) ≡ (k || q)
    joins true q = refl
    joins false true = refl
    joins false false = refl
