-- THE THIRD DEMAND, OF RINGS: in whatever order accepted rings come, the same points are covered, and no two stored rings share one. A point is any pair of numbers z, r;
-- a ring covers it where z0 <= z < z1 and r0 <= r < r1. `Disjoint l` says that every point is in one ring of l at most. Assumes nothing.
use Rattle.std.specs.Prelude.{Ok}
use mathlib.Core.Path.{◌≡◌, refl, sym, ap, ap₂, ◌∙◌, subst}
use mathlib.Core.Bool.{Bool, true, false, ◌||◌, or-false, or_assoc}
use mathlib.Core.List.Permᴰ
use mathlib.Core.List.{List, [], ◌∷◌, ◌++◌, map, Permᴰ}
use Prim.Native.Nat.{ℕ, suc, ◌+◌, ◌/◌}
use native.Mathlib.Nat.{add-zero, zero-add}
use native.Mathlib.Omega.{arith}
use lib.ListN.{length}
use lib.Ieee.{Float}
use Rattle.refusals.specs.Paper.{Paper, answers, refuses, onward}
use Rattle.floats.specs.Pick.{pick}
use Rattle.stock.specs.declared.TurnStockSpec.{TurnStockSpec}
use Rattle.stock.specs.declared.TurnStock.{TurnStock}
use Rattle.stock.specs.Stock.{stamp_of, stock_from, stock_with}
use Rattle.changes.specs.declared.ChangeList.{ChangeList}
use Rattle.stock.specs.Spec.{clean_spec, spec_good}
use Rattle.stock.proofs.Count.{no_answer, same_answer}
use Rattle.rings.specs.declared.Ring.{Ring}
use Rattle.rings.specs.Ring.{covers, covered, filled, clip}
use Rattle.rings.specs.Points.{Disjoint}
use Rattle.rings.specs.Store.{bar_ring, rings_of, store_as, count_fits, rings_good, raised_by}
use Rattle.rings.specs.Remove as rings
use Rattle.rings.specs.Remove.{RingStore, stock_after, counts_of, rings_left_after, remove_ring, remove_rings, StoresAs, Removes}
use Rattle.rings.proofs.Flat.{rings-stored}
use Rattle.rings.proofs.Fitting.{store-disjoint}
use Rattle.rings.proofs.Covering.{covered-turns}
use Rattle.rings.proofs.Taken.{ring-taken, ring-passes, ring-covers, rings-pass, rings-pass-again, rings-cover, rings-either-order}
use Rattle.moves.specs.Move as moves
use Rattle.moves.specs.Move.{Left, generation_after, move_of, parts_of, Moves, stock_stored, Rebuilds}
use Rattle.moves.proofs.Accepted.{taken, passed-disjoint, raised-turns, move-disjoint, move-covers, either-cells, either-generation, either-covers}
use Rattle.moves.proofs.FromParts.{parts-disjoint, parts-cover, parts-either-order}
use Rattle.demands.specs.Run.{Store, RanRings, done, ring, Held, Move, rings_in, RanMoves, no-moves, made_move, move_list}
use Rattle.demands.proofs.Third.{perm-length}

-- a ring as it is clipped to the stock
abbrev clipped : TurnStockSpec → Ring → Ring
clipped spec q = clip (bar_ring (clean_spec spec)) q

-- ---- one call of `remove_ring`

-- what was answered and left, by the rule
record Took (spec : TurnStockSpec) (xs : List Float) (n g : ℕ) (q : Ring) (m h : ℕ) (ys : List Float) : Type 0 where
  store : RingStore
  rule : remove_ring spec xs n g q ≡ answers store
  rings : rings_of m ys ≡ store.rings
  count : m ≡ length store.rings
  numbers : ys ≡ store_as xs store.rings
  generation : h ≡ store.generation

took : {spec : TurnStockSpec} {edition : ℕ} {xs : List Float} {n g : ℕ} {q : Ring} {m h : ℕ} {ys : List Float} {u t : ℕ} → Removes (stock_from spec edition n g) xs (remove_ring spec xs n g q) u (Ok (record { stock = stock_from spec edition m h; tests = t })) ys → Took spec xs n g q m h ys
unfolding counts_of rings_left_after onward
took {spec} {edition} {xs} {n} {g} {q} {m} {h} {ys} a = go (remove_ring spec xs n g q) refl a.answer a.store
  where
    go : (p : Paper RingStore) → remove_ring spec xs n g q ≡ p → answers (stock_from spec edition m h) ≡ stock_after (stock_from spec edition n g) (counts_of p) → ys ≡ rings_left_after xs p → Took spec xs n g q m h ys
    go (refuses r) e b c = absurd (no_answer r _ (sym b))
    go (answers s) e b c =
        let k : stock_from spec edition m h ≡ stock_from spec edition (length s.rings) s.generation = same_answer b in
        record {
          store = s;
          rule = e;
          rings = ap₂ rings_of (ap (λ (x : TurnStock). x.rings) k) c ∙ rings-stored xs s.rings;
          count = ap (λ (x : TurnStock). x.rings) k;
          numbers = c;
          generation = ap (λ (x : TurnStock). x.stamp.generation) k;
        }

-- ---- one call that is lent rings: `remove_rings`, `from_parts`, and `apply_move`

-- what was answered and left, by the rule p
pub record ListBy (p : Paper (List Ring)) (m : ℕ) (ys : List Float) : Type 0 where
  pub rings : List Ring
  pub rule : p ≡ answers rings
  pub held : rings_of m ys ≡ rings

pub list-by : {xs ys : List Float} {p : Paper (List Ring)} {m : ℕ} → StoresAs xs p (Ok m) ys → ListBy p m ys
unfolding rings.count_of onward
list-by {xs} {ys} {p} {m} a = go p a.answer a.store
  where
    go : (p : Paper (List Ring)) → answers m ≡ rings.count_of p → ys ≡ rings.store_after xs p → ListBy p m ys
    go (refuses r) b c = absurd (no_answer r m (sym b))
    go (answers l) b c = record { rings = l; rule = refl; held = ap₂ rings_of (same_answer b) c ∙ rings-stored xs l }

pub rebuilt-by : {spec : TurnStockSpec} {edition : ℕ} {cs bs bs' xs ys : List Float} {p : Paper (List Ring)} {a : TurnStock} → Rebuilds spec edition cs p (Ok a) bs bs' xs ys → ListBy p a.rings ys
unfolding rings.count_of onward
rebuilt-by {spec} {edition} {cs} {bs} {bs'} {xs} {ys} {p} {a} h = go p h.answer h.store
  where
    go : (p : Paper (List Ring)) → answers a ≡ stock_stored spec edition (rings.count_of p) → ys ≡ rings.store_after xs p → ListBy p a.rings ys
    go (refuses r) b c = absurd (no_answer r a (sym b))
    go (answers l) b c = record { rings = l; rule = refl; held = ap₂ rings_of (ap (λ (x : TurnStock). x.rings) (same_answer b)) c ∙ rings-stored xs l }

pub record LeftBy (k k' : TurnStock) (p : Paper Left) (cs' ys : List Float) : Type 0 where
  pub left : Left
  pub rule : p ≡ answers left
  pub cells : cs' ≡ left.cells
  pub rings : rings_of k'.rings ys ≡ left.rings
  pub generation : k'.stamp.generation ≡ left.generation
  -- the stock's spec and its edition stay
  pub stock : k' ≡ stock_with k k'.rings left.generation

pub left_by : {k k' : TurnStock} {cs cs' xs ys : List Float} {p : Paper Left} → Moves k p (Ok k') cs cs' xs ys → LeftBy k k' p cs' ys
left_by {k} {k'} {cs} {cs'} {xs} {ys} {p} a = go p a.answer a.cells a.rings
  where
    go : (p : Paper Left) → answers k' ≡ stock_after k (moves.counts_of p) → cs' ≡ moves.moved_cells p cs → ys ≡ moves.moved_rings p xs → LeftBy k k' p cs' ys
    go (refuses r) b c d = absurd (no_answer r _ (sym b))
    go (answers l) b c d =
        let e : k' ≡ stock_with k (length l.rings) l.generation = same_answer b in
        let m : k'.rings ≡ length l.rings = ap (λ (x : TurnStock). x.rings) e in
        record {
          left = l;
          rule = refl;
          cells = c;
          rings = ap₂ rings_of m d ∙ rings-stored xs l.rings;
          generation = ap (λ (x : TurnStock). x.stamp.generation) e;
          stock = e ∙ ap (λ (j : ℕ). stock_with k j l.generation) (sym m);
        }

-- ---- single rings, one call after the other

-- What the store covers at the end: what it covered at the start and what the clipped rings cover, and nothing else.
pub run-covers : {spec : TurnStockSpec} {edition : ℕ} {s t : Store} {qs : List Ring} → RanRings spec edition s qs t → (z r : Float) → covered (rings_of t.count t.numbers) z r ≡ (covered (rings_of s.count s.numbers) z r || covered (map (clipped spec) qs) z r)
unfolding covered
run-covers {s = s} done z r = sym (or-false (covered (rings_of s.count s.numbers) z r))
run-covers {spec} (ring {q} {qs} {xs} {ys} {n} {g} {m} {h} a b) z r =
    let w = took a in
    run-covers b z r
    ∙ ap (λ (x : Bool). x || covered (map (clipped spec) qs) z r) (ap (λ (l : List Ring). covered l z r) w.rings ∙ ring-covers spec xs n g q w.store w.rule z r)
    ∙ or_assoc (covered (rings_of n xs) z r) (covers (clipped spec q) z r) (covered (map (clipped spec) qs) z r)

-- The store passes refusal 4's test at the end, if it did at the start.
pub run-passes : {spec : TurnStockSpec} {edition : ℕ} {s t : Store} {qs : List Ring} → RanRings spec edition s qs t → count_fits (bar_ring (clean_spec spec)) s.numbers s.count ≡ true → count_fits (bar_ring (clean_spec spec)) t.numbers t.count ≡ true
run-passes done f = f
run-passes {spec} (ring {q} {qs} {xs} {ys} {n} {g} {m} {h} a b) f =
    let w = took a in
    run-passes b (ap₂ (λ (y : List Float) (k : ℕ). count_fits (bar_ring (clean_spec spec)) y k) w.numbers w.count ∙ ring-passes spec xs n g q w.store w.rule)

-- NO TWO STORED RINGS SHARE A POINT, so none is counted twice in the volume.
pub run-disjoint : {spec : TurnStockSpec} {edition : ℕ} {s t : Store} {qs : List Ring} → RanRings spec edition s qs t → count_fits (bar_ring (clean_spec spec)) s.numbers s.count ≡ true → Disjoint (rings_of t.count t.numbers)
run-disjoint {spec} {s} {t} a f = store-disjoint (bar_ring (clean_spec spec)) (rings_of t.count t.numbers) (rings-pass (bar_ring (clean_spec spec)) t.numbers t.count (run-passes a f))

-- The generation rises by one for each ring that is not empty after clipping, covered or not.
pub run-rises : {spec : TurnStockSpec} {edition : ℕ} {s t : Store} {qs : List Ring} → RanRings spec edition s qs t → t.generation ≡ s.generation + raised_by (bar_ring (clean_spec spec)) qs
unfolding raised_by pick
run-rises {s = s} done = sym (add-zero s.generation)
run-rises {spec} (ring {q} {qs} {xs} {ys} {n} {g} {m} {h} a b) =
    let w = took a in
    run-rises b ∙ ap (λ (x : ℕ). x + raised_by (bar_ring (clean_spec spec)) qs) (w.generation ∙ (ring-taken spec xs n g q w.store w.rule).rises) ∙ one (filled (clipped spec q)) (raised_by (bar_ring (clean_spec spec)) qs)
  where
    one : (t : Bool) (k : ℕ) → pick t (g + 1) g + k ≡ g + (pick t 1 0 + k)
    one true k = omega arith
    one false k = omega arith

-- EITHER ORDER: two runs of the same rings, in any order, cover the same points and come to the same generation.
module _ {spec : TurnStockSpec} {edition : ℕ} {s t t' : Store} {qs qs' : List Ring} (turn : Permᴰ qs qs') (a : RanRings spec edition s qs t) (b : RanRings spec edition s qs' t') where
  pub run-either-order : (z r : Float) → covered (rings_of t.count t.numbers) z r ≡ covered (rings_of t'.count t'.numbers) z r
  run-either-order z r = run-covers a z r ∙ ap (λ (x : Bool). covered (rings_of s.count s.numbers) z r || x) (covered-turns (clipped spec) z r turn) ∙ sym (run-covers b z r)

  pub run-same-generation : t.generation ≡ t'.generation
  run-same-generation = run-rises a ∙ ap (λ (k : ℕ). s.generation + k) (raised-turns (bar_ring (clean_spec spec)) turn) ∙ sym (run-rises b)

-- ---- a list of rings by one call of `remove_rings`, over a store that passes refusal 4's test

module _ (spec : TurnStockSpec) (xs : List Float) (n : ℕ) (f : count_fits (bar_ring (clean_spec spec)) xs n ≡ true) where
  -- the store covers what it covered and what the clipped rings cover, and nothing else
  pub list-covers : (news : List Float) (l : List Ring) → remove_rings spec xs n news ≡ answers l → (z r : Float) → covered l z r ≡ (covered (rings_of n xs) z r || covered (map (clipped spec) (rings_of (length news / 4) news)) z r)
  list-covers news l h = rings-cover spec xs n f news l h

  -- no two stored rings share a point
  pub list-disjoint : (news : List Float) (l : List Ring) → spec_good (clean_spec spec) ≡ true → rings_good news ≡ true → remove_rings spec xs n news ≡ answers l → Disjoint l
  list-disjoint news l g o h = passed-disjoint (bar_ring (clean_spec spec)) xs l (rings-pass-again spec xs n f news l g o h)

  -- either order covers the same points
  pub list-either-order : (news news' : List Float) (l l' : List Ring) → Permᴰ (rings_of (length news / 4) news) (rings_of (length news' / 4) news') → remove_rings spec xs n news ≡ answers l → remove_rings spec xs n news' ≡ answers l'
      → (z r : Float) → covered l z r ≡ covered l' z r
  list-either-order news news' l l' d h h' = rings-either-order spec xs n f news news' l l' d h h'

  -- the same of the lent numbers that the call leaves
  pub list-call-covers : (news : List Float) (m : ℕ) (ys : List Float) → StoresAs xs (remove_rings spec xs n news) (Ok m) ys → (z r : Float)
      → covered (rings_of m ys) z r ≡ (covered (rings_of n xs) z r || covered (map (clipped spec) (rings_of (length news / 4) news)) z r)
  list-call-covers news m ys a z r = let w = list-by a in ap (λ (l : List Ring). covered l z r) w.held ∙ list-covers news w.rings w.rule z r

  pub list-call-disjoint : (news : List Float) (m : ℕ) (ys : List Float) → spec_good (clean_spec spec) ≡ true → rings_good news ≡ true → StoresAs xs (remove_rings spec xs n news) (Ok m) ys → Disjoint (rings_of m ys)
  list-call-disjoint news m ys g o a = let w = list-by a in subst Disjoint (sym w.held) (list-disjoint news w.rings g o w.rule)

  pub list-call-either-order : (news news' : List Float) (m m' : ℕ) (ys ys' : List Float) → Permᴰ (rings_of (length news / 4) news) (rings_of (length news' / 4) news') → StoresAs xs (remove_rings spec xs n news) (Ok m) ys
      → StoresAs xs (remove_rings spec xs n news') (Ok m') ys' → (z r : Float) → covered (rings_of m ys) z r ≡ covered (rings_of m' ys') z r
  list-call-either-order news news' m m' ys ys' d a a' z r =
      let w = list-by a in
      let w' = list-by a' in
      ap (λ (l : List Ring). covered l z r) w.held ∙ list-either-order news news' w.rings w'.rings d w.rule w'.rule z r ∙ ap (λ (l : List Ring). covered l z r) (sym w'.held)

-- ---- a move

module _ (k : TurnStock) (cs bs xs : List Float) (list : ChangeList) (is : List ℕ) (ys : List Float) where
  -- the rings that an accepted move leaves cover what was covered and what its clipped rings cover, and nothing else: every ring of it, not the first alone
  pub moved-covers : (removed : List Float) (a : Left) → move_of k cs bs xs list is ys removed ≡ answers a → (z r : Float)
      → covered a.rings z r ≡ (covered (rings_of k.rings xs) z r || covered (map (clipped k.spec) (rings_of (length removed / 4) removed)) z r)
  moved-covers removed a h = move-covers k cs bs xs list is ys removed a h

  -- no two of them share a point
  pub moved-disjoint : (removed : List Float) (a : Left) → move_of k cs bs xs list is ys removed ≡ answers a → Disjoint a.rings
  moved-disjoint removed a h = move-disjoint k cs bs xs list is ys removed a h

  -- either order of its rings: the same cells, the same generation, the same points covered
  module _ (removed removed' : List Float) (a a' : Left) (turn : Permᴰ (rings_of (length removed / 4) removed) (rings_of (length removed' / 4) removed')) (h : move_of k cs bs xs list is ys removed ≡ answers a) (h' : move_of k cs bs xs list is ys removed' ≡ answers a') where
    pub moved-either-cells : a.cells ≡ a'.cells
    moved-either-cells = either-cells k cs bs xs list is ys removed removed' a a' turn h h'

    pub moved-either-generation : a.generation ≡ a'.generation
    moved-either-generation = either-generation k cs bs xs list is ys removed removed' a a' turn h h'

    pub moved-either-order : (z r : Float) → covered a.rings z r ≡ covered a'.rings z r
    moved-either-order = either-covers k cs bs xs list is ys removed removed' a a' turn h h'

  -- the same of the lent numbers that the call leaves
  pub moved-call-covers : (removed : List Float) (k' : TurnStock) (cs' xs' : List Float) → Moves k (move_of k cs bs xs list is ys removed) (Ok k') cs cs' xs xs' → (z r : Float)
      → covered (rings_of k'.rings xs') z r ≡ (covered (rings_of k.rings xs) z r || covered (map (clipped k.spec) (rings_of (length removed / 4) removed)) z r)
  moved-call-covers removed k' cs' xs' a z r = let w = left_by a in ap (λ (l : List Ring). covered l z r) w.rings ∙ moved-covers removed w.left w.rule z r

  pub moved-call-disjoint : (removed : List Float) (k' : TurnStock) (cs' xs' : List Float) → Moves k (move_of k cs bs xs list is ys removed) (Ok k') cs cs' xs xs' → Disjoint (rings_of k'.rings xs')
  moved-call-disjoint removed k' cs' xs' a = let w = left_by a in subst Disjoint (sym w.rings) (moved-disjoint removed w.left w.rule)

  -- either order of its rings leaves the same cells and the same generation, and the same points covered
  pub moved-call-either-order : (removed removed' : List Float) (k' k'' : TurnStock) (cs' cs'' xs' xs'' : List Float) → Permᴰ (rings_of (length removed / 4) removed) (rings_of (length removed' / 4) removed')
      → Moves k (move_of k cs bs xs list is ys removed) (Ok k') cs cs' xs xs' → Moves k (move_of k cs bs xs list is ys removed') (Ok k'') cs cs'' xs xs''
      → (cs' ≡ cs'') × (k'.stamp ≡ k''.stamp) × ((z r : Float) → covered (rings_of k'.rings xs') z r ≡ covered (rings_of k''.rings xs'') z r)
  moved-call-either-order removed removed' k' k'' cs' cs'' xs' xs'' d a a' =
      let w = left_by a in
      let w' = left_by a' in (
        w.cells ∙ moved-either-cells removed removed' w.left w'.left d w.rule w'.rule ∙ sym w'.cells,
        ap (λ (x : TurnStock). x.stamp) w.stock ∙ ap (stamp_of k.stamp.edition) (moved-either-generation removed removed' w.left w'.left d w.rule w'.rule) ∙ sym (ap (λ (x : TurnStock). x.stamp) w'.stock),
        λ z r. ap (λ (l : List Ring). covered l z r) w.rings ∙ moved-either-order removed removed' w.left w'.left d w.rule w'.rule z r ∙ ap (λ (l : List Ring). covered l z r) (sym w'.rings),
      )

-- ---- several moves, one call after the other

-- What the store covers at the end: what it covered at the start and what the clipped rings of all moves cover, and nothing else.
pub moves-cover : {spec : TurnStockSpec} {edition : ℕ} {s t : Held} {vs : List Move} → RanMoves spec edition s vs t → (z r : Float)
    → covered (rings_of t.store.count t.store.numbers) z r ≡ (covered (rings_of s.store.count s.store.numbers) z r || covered (map (clipped spec) (rings_in vs)) z r)
unfolding covered rings_in
moves-cover {s = s} no-moves z r = sym (or-false (covered (rings_of s.store.count s.store.numbers) z r))
moves-cover {spec} {edition} (made_move {v} {vs} {cs} {cs'} {bs} {bs'} {xs} {ys} {n} {g} {m} {h} a b) z r =
    let qs = rings_of (length v.removed / 4) v.removed in
    moves-cover b z r
    ∙ ap (λ (x : Bool). x || covered (map (clipped spec) (rings_in vs)) z r) (moved-call-covers (stock_from spec edition n g) cs bs xs (move_list edition g v) v.indices v.numbers v.removed (stock_from spec edition m h) cs' ys a.left z r)
    ∙ or_assoc (covered (rings_of n xs) z r) (covered (map (clipped spec) qs) z r) (covered (map (clipped spec) (rings_in vs)) z r)
    ∙ ap (λ (x : Bool). covered (rings_of n xs) z r || x) (sym (covers-append qs (rings_in vs)))
  where
    covers-append : (qs ps : List Ring) → covered (map (clipped spec) (qs ++ ps)) z r ≡ (covered (map (clipped spec) qs) z r || covered (map (clipped spec) ps) z r)
    covers-append [] ps = refl
    covers-append (q ∷ qs) ps = ap (λ (x : Bool). covers (clipped spec q) z r || x) (covers-append qs ps) ∙ sym (or_assoc (covers (clipped spec q) z r) (covered (map (clipped spec) qs) z r) (covered (map (clipped spec) ps) z r))

-- No two stored rings share a point, if none did at the start.
pub moves-disjoint : {spec : TurnStockSpec} {edition : ℕ} {s t : Held} {vs : List Move} → RanMoves spec edition s vs t → Disjoint (rings_of s.store.count s.store.numbers) → Disjoint (rings_of t.store.count t.store.numbers)
moves-disjoint no-moves d = d
moves-disjoint {spec} {edition} (made_move {v} {vs} {cs} {cs'} {bs} {bs'} {xs} {ys} {n} {g} {m} {h} a b) d = moves-disjoint b (moved-call-disjoint (stock_from spec edition n g) cs bs xs (move_list edition g v) v.indices v.numbers v.removed (stock_from spec edition m h) cs' ys a.left)

-- The generation rises by one for each move, and by one for each ring that is not empty after clipping.
pub moves-rise : {spec : TurnStockSpec} {edition : ℕ} {s t : Held} {vs : List Move} → RanMoves spec edition s vs t → t.store.generation ≡ s.store.generation + length vs + raised_by (bar_ring (clean_spec spec)) (rings_in vs)
unfolding rings_in raised_by generation_after
moves-rise {s = s} no-moves = let g = s.store.generation in omega arith
moves-rise {spec} {edition} (made_move {v} {vs} {cs} {cs'} {bs} {bs'} {xs} {ys} {n} {g} {m} {h} a b) =
    let e = bar_ring (clean_spec spec) in
    let qs = rings_of (length v.removed / 4) v.removed in
    let w = left_by a.left in
    let x : h ≡ g + 1 + raised_by e qs = w.generation ∙ (taken (stock_from spec edition n g) cs bs xs (move_list edition g v) v.indices v.numbers v.removed w.left w.rule).rises in
    moves-rise b ∙ ap (λ (j : ℕ). j + length vs + raised_by e (rings_in vs)) x ∙ one g (raised_by e qs) (length vs) (raised_by e (rings_in vs)) ∙ ap (λ (j : ℕ). g + suc (length vs) + j) (sym (raised-append e qs (rings_in vs)))
  where
    one : (g a n b : ℕ) → g + 1 + a + n + b ≡ g + suc n + (a + b)
    one g a n b = omega arith

    three : (k a b : ℕ) → k + (a + b) ≡ k + a + b
    three k a b = omega arith

    raised-append : (e : Ring) (qs ps : List Ring) → raised_by e (qs ++ ps) ≡ raised_by e qs + raised_by e ps
    raised-append e [] ps = sym (zero-add (raised_by e ps))
    raised-append e (q ∷ qs) ps = ap (λ (j : ℕ). pick (filled (clip e q)) 1 0 + j) (raised-append e qs ps) ∙ three (pick (filled (clip e q)) 1 0) (raised_by e qs) (raised_by e ps)

-- a list is an order of itself
same-list : {l l' : List Ring} → l ≡ l' → Permᴰ l l'
same-list {l} e = subst (λ (x : List Ring). Permᴰ l x) e (Permᴰ.refl l)

-- two lists before a third change places
turn_two : (a b c : List Ring) → Permᴰ (a ++ (b ++ c)) (b ++ (a ++ c))
turn_two a [] c = Permᴰ.refl (a ++ c)
turn_two a (q ∷ b) c = Permᴰ.trans (Permᴰ.middle q a (b ++ c)) (Permᴰ.cons refl (turn_two a b c))

-- the rings of moves in another order are those rings in another order
rings-turn : {vs vs' : List Move} → Permᴰ vs vs' → Permᴰ (rings_in vs) (rings_in vs')
unfolding rings_in
rings-turn Permᴰ.nil = Permᴰ.nil
rings-turn (Permᴰ.cons {b = b} {l₁ = l} e d) = Permᴰ.trans (same-list (ap (λ (v : Move). rings_of (length v.removed / 4) v.removed ++ rings_in l) e)) (Permᴰ.append_left (rings_of (length b.removed / 4) b.removed) (rings-turn d))
rings-turn (Permᴰ.swap {a = a} {b = b} {a' = a'} {b' = b'} {l = l} e f) =
    Permᴰ.trans (turn_two (rings_of (length a.removed / 4) a.removed) (rings_of (length b.removed / 4) b.removed) (rings_in l))
    (same-list (ap₂ (λ (v w : Move). rings_of (length v.removed / 4) v.removed ++ (rings_of (length w.removed / 4) w.removed ++ rings_in l)) f e))
rings-turn (Permᴰ.trans d d') = Permᴰ.trans (rings-turn d) (rings-turn d')

-- EITHER ORDER OF MOVES: two runs of the same moves, in any order, both accepted, cover the same points and come to the same generation.
module _ {spec : TurnStockSpec} {edition : ℕ} {s t t' : Held} {vs vs' : List Move} (turn : Permᴰ vs vs') (a : RanMoves spec edition s vs t) (b : RanMoves spec edition s vs' t') where
  pub moves-either-order : (z r : Float) → covered (rings_of t.store.count t.store.numbers) z r ≡ covered (rings_of t'.store.count t'.store.numbers) z r
  moves-either-order z r = moves-cover a z r ∙ ap (λ (x : Bool). covered (rings_of s.store.count s.store.numbers) z r || x) (covered-turns (clipped spec) z r (rings-turn turn)) ∙ sym (moves-cover b z r)

  pub moves-same-generation : t.store.generation ≡ t'.store.generation
  moves-same-generation =
      moves-rise a ∙ ap₂ (λ (n k : ℕ). s.store.generation + n + k) (perm-length turn) (raised-turns (bar_ring (clean_spec spec)) (rings-turn turn)) ∙ sym (moves-rise b)

-- ---- a stock rebuilt from its parts

module _ (spec : TurnStockSpec) (cs bs xs : List Float) where
  -- its rings cover what the clipped rings given cover, and nothing else
  pub rebuilt-covers : (given : List Float) (l : List Ring) → parts_of spec cs (length bs) given xs ≡ answers l → (z r : Float) → covered l z r ≡ covered (map (clipped spec) (rings_of (length given / 4) given)) z r
  rebuilt-covers given l h = parts-cover spec cs (length bs) xs given l h

  -- no two of them share a point
  pub rebuilt-disjoint : (given : List Float) (l : List Ring) → parts_of spec cs (length bs) given xs ≡ answers l → Disjoint l
  rebuilt-disjoint given l h = parts-disjoint spec cs (length bs) xs given l h

  -- either order of the rings given covers the same points
  pub rebuilt-either-order : (given given' : List Float) (l l' : List Ring) → Permᴰ (rings_of (length given / 4) given) (rings_of (length given' / 4) given') → parts_of spec cs (length bs) given xs ≡ answers l → parts_of spec cs (length bs) given' xs ≡ answers l'
      → (z r : Float) → covered l z r ≡ covered l' z r
  rebuilt-either-order given given' l l' d h h' = parts-either-order spec cs (length bs) xs given given' l l' d h h'

  -- the same of the lent numbers that the call leaves
  pub rebuilt-call-covers : (edition : ℕ) (given : List Float) (b : TurnStock) (bs' ys : List Float) → Rebuilds spec edition cs (parts_of spec cs (length bs) given xs) (Ok b) bs bs' xs ys → (z r : Float) → covered (rings_of b.rings ys) z r ≡ covered (map (clipped spec) (rings_of (length given / 4) given)) z r
  rebuilt-call-covers edition given b bs' ys a z r = let w = rebuilt-by a in ap (λ (l : List Ring). covered l z r) w.held ∙ rebuilt-covers given w.rings w.rule z r

  pub rebuilt-call-disjoint : (edition : ℕ) (given : List Float) (b : TurnStock) (bs' ys : List Float) → Rebuilds spec edition cs (parts_of spec cs (length bs) given xs) (Ok b) bs bs' xs ys → Disjoint (rings_of b.rings ys)
  rebuilt-call-disjoint edition given b bs' ys a = let w = rebuilt-by a in subst Disjoint (sym w.held) (rebuilt-disjoint given w.rings w.rule)

  pub rebuilt-call-either-order : (edition : ℕ) (given given' : List Float) (b b' : TurnStock) (bs₁ bs₂ ys ys' : List Float) → Permᴰ (rings_of (length given / 4) given) (rings_of (length given' / 4) given') → Rebuilds spec edition cs (parts_of spec cs (length bs) given xs) (Ok b) bs bs₁ xs ys
      → Rebuilds spec edition cs (parts_of spec cs (length bs) given' xs) (Ok b') bs bs₂ xs ys' → (z r : Float) → covered (rings_of b.rings ys) z r ≡ covered (rings_of b'.rings ys') z r
  rebuilt-call-either-order edition given given' b b' bs₁ bs₂ ys ys' d a a' z r =
      let w = rebuilt-by a in
      let w' = rebuilt-by a' in
      ap (λ (l : List Ring). covered l z r) w.held ∙ rebuilt-either-order given given' w.rings w'.rings d w.rule w'.rule z r ∙ ap (λ (l : List Ring). covered l z r) (sym w'.held)
