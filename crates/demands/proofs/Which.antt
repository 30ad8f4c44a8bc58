-- WHICH CHANGE IT WAS (Req 04): a place that is given is in its list (`place-there`), it is the first that offends (`place-first`), and a list that was accepted on one stock is on another accepted or refused with 22 at the first bin that differs (`stale-is-22`). Assumes nothing.
use Rattle.std.specs.Prelude.{Option, None, Some}
use mathlib.Core.Path.{◌≡◌, refl, sym, ap, ap₂, ◌∙◌, subst}
use mathlib.Core.Logic.{◌⊎◌, inl, inr}
use mathlib.Core.Bool.{Bool, true, false, ◌&&◌, false≢true}
use mathlib.Core.List.{List, [], ◌∷◌}
use Rattle.std.proofs.lemmas.Option.{same_Some}
use Prim.Native.Nat.{ℕ, zero, suc, ◌+◌, ◌/◌, ◌%◌, ◌≤◌, ◌<◌}
use native.Mathlib.Numerals.{add-one}
use native.Mathlib.Omega.{arith}
use borrow.Author.Tests.{ltb-true, ltb-false, lt-ltb, eq-eqb}
use lib.Dec.{ltb, eqb}
use lib.ListN.{length, get_or, take, length-append}
use lib.Ieee.{Float}
use Rattle.refusals.specs.Paper.{Paper, Reason, answers, refuses, only, at, first_of, demand, demand_none, placed, onward, demand-true, demand-false, demand_none-none, onward-answers, papers}
use Rattle.refusals.specs.Limits.{last_generation}
use Rattle.floats.specs.Pick.{pick, pick_true, pick-false}
use Rattle.floats.specs.Each.{Each}
use Rattle.floats.proofs.Folds.{each_append}
use Rattle.stock.specs.declared.TurnStockSpec.{TurnStockSpec}
use Rattle.stock.specs.declared.TurnStock.{TurnStock}
use Rattle.stock.specs.declared.TurnCell.{TurnCell}
use Rattle.stock.specs.declared.TurnChange.{TurnChange}
use Rattle.stock.specs.Spec.{clean_spec}
use Rattle.stock.specs.Cell.{cell_at, cell_fits, same_cell, stock_of}
use Rattle.stock.proofs.Count.{no_answer, same_answer, demanded, none-demanded, stocked}
use Rattle.stock.proofs.Bins.{HeldSpec, HeldList}
use Rattle.stock.proofs.EachFits.{stock-fits}
use Rattle.reach.specs.Reach.{act_cell}
use Rattle.reach.proofs.Fit.{same_test}
use Rattle.stock.proofs.Places.{none-some}
use Rattle.changes.specs.Change.{change_of, change_at, changes_to, indices_of}
use Rattle.changes.specs.Commit.{only_removes, applies_to, passes, each_from, fall_after, first_fall, pass_all, put_all, commit_in, commit_of, own_commit}
use Rattle.changes.proofs.Stamped.{Matching, own-commit}
use Rattle.changes.specs.Decide.{rises_after, rises}
use Rattle.changes.specs.Difference.{other_cell, difference_of}
use Rattle.changes.proofs.Rising.{rising}
use Rattle.changes.proofs.Falls.{rises-none}
use Rattle.changes.proofs.Stocks.{stock-good}
use Rattle.changes.proofs.Accepted.{rises-test, good-pass}
use Rattle.changes.proofs.Proposal.{act-cuts}
use Rattle.changes.proofs.Becomes.{second-stock, difference-is}
use Rattle.rings.specs.declared.Ring.{Ring}
use Rattle.rings.specs.Store.{ring_at, rings_of, good_ring, bad_from, bad_ring, all_good}
use Rattle.rings.proofs.Bad.{bad-next}
use Rattle.moves.proofs.Answered.{answered, unplaced}
use Rattle.demands.specs.Tool.{Cutter, HeldCutter, cutter_preview, cutter_act}
use Rattle.demands.proofs.Tools.{tool-sound, accepted-good}
use Rattle.demands.proofs.Second.{preview-is}
use Rattle.demands.specs.Which.{FirstBad, FirstFall, FirstBadRing, StaleAt, AddsAt}

same-reason : {A : Type 0} {m n : Reason} → ◌≡◌ {A = Paper A} (refuses m) (refuses n) → m ≡ n
same-reason h = cc

-- ---- a change: 8, 21, 22, 23

-- a rule whose refusals have no place
abbrev Alone : {A : Type 0} → Paper A → Type 0
Alone p = (q : Reason) → p ≡ refuses q → q ≡ only q.number

alone-demand : {A : Type 0} (t : Bool) (n : ℕ) (p : Paper A) → Alone p → Alone (demand t n p)
unfolding demand
alone-demand true n p h q e = h q e
alone-demand false n p h q e =
    let f : only n ≡ q = same-reason e in
    sym f ∙ ap (λ (x : Reason). only x.number) f

passes-alone : (s : TurnStockSpec) (n : ℕ) (cs : List Float) (c : TurnChange) → Alone (passes s n cs c)
unfolding passes applies_to
passes-alone s n cs c = alone-demand _ 8 _ (alone-demand _ 21 _ (alone-demand _ 22 _ (alone-demand _ 23 _ (λ q e. absurd (no_answer q tt (sym e))))))

-- a refusal of a list whose first change is at the place k₀: its reason, and the change
record Named (s : TurnStockSpec) (n : ℕ) (cs : List Float) (k₀ : ℕ) (l : List TurnChange) (r : Reason) : Type 0 where
  number : ℕ
  place : ℕ
  reason : r ≡ at number (k₀ + place)
  first : FirstBad s n cs l number place

module _ (s : TurnStockSpec) (n : ℕ) (cs : List Float) where
  named_here : (k₀ : ℕ) (c : TurnChange) (l : List TurnChange) (q r : Reason) → passes s n cs c ≡ refuses q → ◌≡◌ {A = Paper (Unit {0})} (refuses (at q.number k₀)) (refuses r) → Named s n cs k₀ (c ∷ l) r
  named_here k₀ c l q r e f =
      let z : k₀ ≡ k₀ + 0 = omega arith in
      record {
        number = q.number;
        place = 0;
        reason = sym (same-reason {A = Unit {0}} f) ∙ ap (at q.number) z;
        first = record { before = []; change = c; after = l; order = refl; place = refl; pass = tt; fails = e ∙ ap refuses (passes-alone s n cs c q e) };
      }

  named-later : (k₀ : ℕ) (c : TurnChange) (l : List TurnChange) (r : Reason) → passes s n cs c ≡ answers tt → Named s n cs (suc k₀) l r → Named s n cs k₀ (c ∷ l) r
  named-later k₀ c l r e w =
      let f = w.first in
      let z : suc k₀ + w.place ≡ k₀ + suc w.place = omega arith in
      record {
        number = w.number;
        place = suc w.place;
        reason = w.reason ∙ ap (at w.number) z;
        first = record {
          before = c ∷ f.before;
          change = f.change;
          after = f.after;
          order = ap (λ (x : List TurnChange). c ∷ x) f.order;
          place = ap suc f.place;
          pass = (e, f.pass);
          fails = f.fails;
        };
      }

  named : (k₀ : ℕ) (l : List TurnChange) (r : Reason) → each_from s n cs k₀ l ≡ refuses r → Named s n cs k₀ l r
  unfolding each_from placed onward
  named k₀ [] r h = absurd (no_answer r tt (sym h))
  named k₀ (c ∷ l) r h = go (passes s n cs c) refl h (named (suc k₀) l r)
    where
      go : (p : Paper (Unit {0})) → passes s n cs c ≡ p → onward (placed k₀ p) (λ _. each_from s n cs (suc k₀) l) ≡ refuses r → (each_from s n cs (suc k₀) l ≡ refuses r → Named s n cs (suc k₀) l r) → Named s n cs k₀ (c ∷ l) r
      go (answers tt) e f rec = named-later k₀ c l r e (rec f)
      go (refuses q) e f rec = named_here k₀ c l q r e f

-- ---- 7

-- behind the index i, d changes on
record FallsOn (i : ℕ) (l : List TurnChange) (k₀ k : ℕ) : Type 0 where
  on : ℕ
  is : k ≡ k₀ + on
  there : on < length l
  rise : rises_after i (take on l) ≡ true
  falls : get_or (indices_of l) on 0 ≤ get_or (i ∷ indices_of l) on 0

falls-on : (k₀ i k : ℕ) (l : List TurnChange) → fall_after k₀ i l ≡ Some k → FallsOn i l k₀ k
unfolding fall_after pick rises_after
falls-on k₀ i k [] e = absurd (none-some k e)
falls-on k₀ i k (c ∷ l) e = go (ltb i c.index) refl e (falls-on (suc k₀) c.index k l)
  where
    go : (t : Bool) → ltb i c.index ≡ t → pick t (fall_after (suc k₀) c.index l) (Some k₀) ≡ Some k → (fall_after (suc k₀) c.index l ≡ Some k → FallsOn c.index l (suc k₀) k) → FallsOn i (c ∷ l) k₀ k
    go false q f rec =
        let z : k ≡ k₀ = sym (same_Some k₀ k f) in
        record { on = 0; is = omega arith; there = omega arith; rise = refl; falls = ltb-false i c.index q }
    go true q f rec =
        let w = rec f in
        record {
          on = suc w.on;
          is = let z = w.is in omega arith;
          there = let z = w.there in omega arith;
          rise = ap (λ (t : Bool). t && rises_after c.index (take w.on l)) q ∙ w.rise;
          falls = w.falls;
        }

first-fall : (l : List TurnChange) (k : ℕ) → first_fall l ≡ Some k → FirstFall l k
unfolding first_fall rises
first-fall [] k e = absurd (none-some k e)
first-fall (c ∷ l) k e = go (falls-on 1 c.index k l e)
  where
    go : FallsOn c.index l 1 k → FirstFall (c ∷ l) k
    go w =
        let z : k ≡ suc w.on = let y = w.is in omega arith in
        subst (FirstFall (c ∷ l)) (sym z)
        (record { there = let y = w.there in omega arith; earlier = w.on; later = refl; rise = w.rise; falls = w.falls })

-- ---- THE CHANGES OF A LIST: a refusal of it is 7 at its first fall, or that of the first change that does not pass, at its place

pub data PlaceFirst (s : TurnStockSpec) (n : ℕ) (cs : List Float) (l : List TurnChange) : Reason → Type 0 where
  falls : {k : ℕ} → FirstFall l k → PlaceFirst s n cs l (at 7 k)
  bad : {m k : ℕ} → FirstBad s n cs l m k → PlaceFirst s n cs l (at m k)

pub place-first : (s : TurnStockSpec) (n : ℕ) (cs : List Float) (l : List TurnChange) (r : Reason) → pass_all s n cs l ≡ refuses r → PlaceFirst s n cs l r
unfolding pass_all demand_none
place-first s n cs l r h = go (first_fall l) refl h
  where
    go : (o : Option ℕ) → first_fall l ≡ o → demand_none o 7 (each_from s n cs 0 l) ≡ refuses r → PlaceFirst s n cs l r
    go None e f =
        let w = named s n cs 0 l r f in
        let z : 0 + w.place ≡ w.place = omega arith in
        subst (PlaceFirst s n cs l) (sym (w.reason ∙ ap (at w.number) z)) (bad w.first)
    go (Some k) e f = subst (PlaceFirst s n cs l) (same-reason {A = Unit {0}} f) (falls (first-fall l k e))

-- it is a place of the list, and its number is one of the five
pub record PlaceThere (l : List TurnChange) (r : Reason) : Type 0 where
  pub place : ℕ
  pub is : r.place ≡ Some place
  pub there : place < length l

pub place-there : (s : TurnStockSpec) (n : ℕ) (cs : List Float) (l : List TurnChange) (r : Reason) → pass_all s n cs l ≡ refuses r → PlaceThere l r
place-there s n cs l r h = go (place-first s n cs l r h)
  where
    go : {r : Reason} → PlaceFirst s n cs l r → PlaceThere l r
    go (falls {k} f) = record { place = k; is = refl; there = f.there }
    go (bad {m} {k} f) =
        let e = ap length f.order ∙ length-append f.before (f.change ∷ f.after) in
        let p = f.place in
        record { place = k; is = refl; there = omega arith }

-- ---- rings: 10

all-good : (k : ℕ) (l : List Ring) → bad_from k l ≡ None → all_good l ≡ true
unfolding bad_from all_good pick
all-good k [] e = refl
all-good k (q ∷ l) e = go (good_ring q) refl e (all-good (suc k) l)
  where
    go : (t : Bool) → good_ring q ≡ t → pick t (bad_from (suc k) l) (Some k) ≡ None → (bad_from (suc k) l ≡ None → all_good l ≡ true) → (good_ring q && all_good l) ≡ true
    go true g f rec = ap (λ (t : Bool). t && all_good l) g ∙ rec f
    go false g f rec = absurd (none-some k (sym f))

record BadAmong (xs : List Float) (n k : ℕ) : Type 0 where
  there : k < n
  good : all_good (rings_of k xs) ≡ true
  bad : good_ring (ring_at xs k) ≡ false

no-rings : (xs : List Float) → None ≡ bad_from 0 (rings_of 0 xs)
unfolding rings_of bad_from
no-rings xs = refl

bad-among : (xs : List Float) (n k : ℕ) → bad_from 0 (rings_of n xs) ≡ Some k → BadAmong xs n k
bad-among xs zero k e = absurd (none-some k (no-rings xs ∙ e))
bad-among xs (suc n) k e = go (bad_from 0 (rings_of n xs)) refl (good_ring (ring_at xs n)) refl (bad-among xs n k)
  where
    step : first_of (bad_from 0 (rings_of n xs)) (pick (good_ring (ring_at xs n)) None (Some n)) ≡ Some k
    step = sym (ap (λ (m : ℕ). bad_from 0 (rings_of m xs)) (sym (add-one n)) ∙ bad-next xs n) ∙ e

    go : (o : Option ℕ) → bad_from 0 (rings_of n xs) ≡ o → (t : Bool) → good_ring (ring_at xs n) ≡ t → (bad_from 0 (rings_of n xs) ≡ Some k → BadAmong xs n k) → BadAmong xs (suc n) k
    go (Some j) p t q rec =
        let w = rec (p ∙ sym (ap (λ (o : Option ℕ). first_of o (pick (good_ring (ring_at xs n)) None (Some n))) p) ∙ step) in
        record { there = let y = w.there in omega arith; good = w.good; bad = w.bad }
    go None p true q rec = absurd (none-some k (sym (ap₂ first_of p (pick_true (good_ring (ring_at xs n)) None (Some n) q)) ∙ step))
    go None p false q rec =
        let z : n ≡ k = same_Some n k (sym (ap₂ first_of p (pick-false (good_ring (ring_at xs n)) None (Some n) q)) ∙ step) in
        subst (BadAmong xs (suc n)) z (record { there = omega arith; good = all-good 0 (rings_of n xs) p; bad = q })

-- THE RINGS OF A MOVE OR OF PARTS: the place is that of the first that is not good, or of the one broken off, length / 4 at most
pub ring-first : (xs : List Float) (k : ℕ) → bad_ring xs ≡ Some k → FirstBadRing xs k
unfolding bad_ring
ring-first xs k e = go (bad_from 0 (rings_of (length xs / 4) xs)) refl (eqb (length xs % 4) 0) refl e
  where
    go : (o : Option ℕ) → bad_from 0 (rings_of (length xs / 4) xs) ≡ o → (t : Bool) → eqb (length xs % 4) 0 ≡ t → first_of (bad_from 0 (rings_of (length xs / 4) xs)) (pick (eqb (length xs % 4) 0) None (Some (length xs / 4))) ≡ Some k → FirstBadRing xs k
    go (Some j) p t q f =
        let w = bad-among xs (length xs / 4) k (p ∙ sym (ap (λ (o : Option ℕ). first_of o (pick (eqb (length xs % 4) 0) None (Some (length xs / 4)))) p) ∙ f) in
        let y = w.there in
        record { there = omega arith; good = w.good; bad = λ _. w.bad; broken = λ a _. omega arith }
    go None p true q f = absurd (none-some k (sym (ap₂ first_of p (pick_true (eqb (length xs % 4) 0) None (Some (length xs / 4)) q)) ∙ f))
    go None p false q f =
        let z : length xs / 4 ≡ k = same_Some (length xs / 4) k (sym (ap₂ first_of p (pick-false (eqb (length xs % 4) 0) None (Some (length xs / 4)) q)) ∙ f) in
        subst (FirstBadRing xs) z (record { there = omega arith; good = all-good 0 (rings_of (length xs / 4) xs) p; bad = λ h. absurd (omega arith); broken = λ _ b. false≢true (sym q ∙ eq-eqb (length xs % 4) 0 b) })

-- ---- a list that was accepted on one stock, on another

-- the after-cell fits, there is such a bin, and nothing is added: what does not turn on the stock
abbrev Fit : TurnStockSpec → ℕ → TurnChange → Type 0
Fit s n c = (cell_fits s c.after ≡ true) × (c.index < n)

each_fits : (s : TurnStockSpec) (n : ℕ) (cs : List Float) (k : ℕ) (l : List TurnChange) → each_from s n cs k l ≡ answers tt → Each (λ (c : TurnChange). Fit s n c × (only_removes c.before c.after ≡ true)) l
unfolding each_from passes applies_to
each_fits s n cs k [] h = tt
each_fits s n cs k (c ∷ l) h =
    let a = answered (placed k (passes s n cs c)) (λ _. each_from s n cs (suc k) l) tt h in
    let d = demanded _ _ _ _ (unplaced k (passes s n cs c) tt a.first) in
    let d21 = demanded _ _ _ _ d.1 in
    let d22 = demanded _ _ _ _ d21.1 in
    let d23 = demanded _ _ _ _ d22.1 in
    (((d.0, ltb-true c.index n d21.0), d23.0), each_fits s n cs (suc k) l a.then)

either-by : {A : Type 0} {a b : Paper A} {j : ℕ} → a ≡ b → (b ≡ refuses (at 22 j)) ⊎ (b ≡ refuses (at 23 j)) → (a ≡ refuses (at 22 j)) ⊎ (a ≡ refuses (at 23 j))
either-by e (inl f) = inl (e ∙ f)
either-by e (inr f) = inr (e ∙ f)

module _ (s : TurnStockSpec) (n : ℕ) (ds : List Float) where
  -- only 22 and 23 are left to ask
  left-to-ask : (c : TurnChange) → Fit s n c → passes s n ds c ≡ demand (same_cell (cell_at ds c.index) c.before) 22 (demand (only_removes c.before c.after) 23 (answers tt))
  unfolding passes applies_to
  left-to-ask c p = demand-true _ _ _ p.0 ∙ demand-true _ _ _ (lt-ltb _ _ p.1)

  none_left : (k : ℕ) → each_from s n ds k [] ≡ answers tt
  unfolding each_from
  none_left k = refl

  -- the first change of a list answers, and the rest decides; or it refuses
  goes_on : (k : ℕ) (c : TurnChange) (l : List TurnChange) → passes s n ds c ≡ answers tt → each_from s n ds k (c ∷ l) ≡ each_from s n ds (suc k) l
  unfolding each_from placed onward
  goes_on k c l e = ap (λ (p : Paper (Unit {0})). onward (placed k p) (λ _. each_from s n ds (suc k) l)) e

  stops_at : (k m : ℕ) (c : TurnChange) (l : List TurnChange) → passes s n ds c ≡ refuses (only m) → each_from s n ds k (c ∷ l) ≡ refuses (at m k)
  unfolding each_from placed onward
  stops_at k m c l e = ap (λ (p : Paper (Unit {0})). onward (placed k p) (λ _. each_from s n ds (suc k) l)) e

  abbrev Stale : ℕ → List TurnChange → Type 0
  Stale k₀ l = (each_from s n ds k₀ l ≡ answers tt) ⊎ ((k : ℕ) × (each_from s n ds k₀ l ≡ refuses (at 22 (k₀ + k))) × StaleAt ds l k)

  stale-each : (k₀ : ℕ) (l : List TurnChange) → Each (λ (c : TurnChange). Fit s n c × (only_removes c.before c.after ≡ true)) l → Stale k₀ l
  stale-each k₀ [] ps = inl (none_left k₀)
  stale-each k₀ (c ∷ l) ps = go (same_cell (cell_at ds c.index) c.before) refl (stale-each (suc k₀) l ps.1)
    where
      asked : passes s n ds c ≡ demand (same_cell (cell_at ds c.index) c.before) 22 (answers tt)
      asked = left-to-ask c ps.0.0 ∙ ap (demand (same_cell (cell_at ds c.index) c.before) 22) (demand-true _ 23 _ ps.0.1)

      go : (t : Bool) → same_cell (cell_at ds c.index) c.before ≡ t → Stale (suc k₀) l → Stale k₀ (c ∷ l)
      go true q (inl f) = inl (goes_on k₀ c l (asked ∙ demand-true _ _ _ q) ∙ f)
      go true q (inr w) =
          let v = w.2 in
          let z : suc k₀ + w.0 ≡ k₀ + suc w.0 = omega arith in
          inr (
            suc w.0,
            goes_on k₀ c l (asked ∙ demand-true _ _ _ q) ∙ w.1 ∙ ap (λ (m : ℕ). refuses (at 22 m)) z,
            record {
              before = c ∷ v.before;
              change = v.change;
              after = v.after;
              order = ap (λ (x : List TurnChange). c ∷ x) v.order;
              place = ap suc v.place;
              same = (q, v.same);
              differs = v.differs;
            },
          )
      go false q w =
          let z : k₀ ≡ k₀ + 0 = omega arith in
          inr (
            0,
            stops_at k₀ 22 c l (asked ∙ demand-false _ _ _ q) ∙ ap (λ (m : ℕ). refuses (at 22 m)) z,
            record { before = []; change = c; after = l; order = refl; place = refl; same = tt; differs = q },
          )

  -- where material may be added: 22 or 23
  abbrev Either : ℕ → List TurnChange → Type 0
  Either k₀ l = (each_from s n ds k₀ l ≡ answers tt) ⊎ ((k : ℕ) × ((each_from s n ds k₀ l ≡ refuses (at 22 k)) ⊎ (each_from s n ds k₀ l ≡ refuses (at 23 k))))

  either-each : (k₀ : ℕ) (l : List TurnChange) → Each (Fit s n) l → Either k₀ l
  either-each k₀ [] ps = inl (none_left k₀)
  either-each k₀ (c ∷ l) ps = go (same_cell (cell_at ds c.index) c.before) refl (only_removes c.before c.after) refl (either-each (suc k₀) l ps.1)
    where
      go : (t : Bool) → same_cell (cell_at ds c.index) c.before ≡ t → (u : Bool) → only_removes c.before c.after ≡ u → Either (suc k₀) l → Either k₀ (c ∷ l)
      go false q u p w = inr (k₀, inl (stops_at k₀ 22 c l (left-to-ask c ps.0 ∙ demand-false _ _ _ q)))
      go true q false p w = inr (k₀, inr (stops_at k₀ 23 c l (left-to-ask c ps.0 ∙ demand-true _ _ _ q ∙ demand-false _ _ _ p)))
      go true q true p (inl f) = inl (goes_on k₀ c l (left-to-ask c ps.0 ∙ demand-true _ _ _ q ∙ demand-true _ _ _ p) ∙ f)
      go true q true p (inr w) = inr (w.0, either-by (goes_on k₀ c l (left-to-ask c ps.0 ∙ demand-true _ _ _ q ∙ demand-true _ _ _ p)) w.1)

  -- where each bin holds the before-cell: 23
  abbrev Adds : ℕ → List TurnChange → Type 0
  Adds k₀ l = (each_from s n ds k₀ l ≡ answers tt) ⊎ ((k : ℕ) × (each_from s n ds k₀ l ≡ refuses (at 23 (k₀ + k))) × AddsAt l k)

  adds-each : (k₀ : ℕ) (l : List TurnChange) → Each (λ (c : TurnChange). Fit s n c × (same_cell (cell_at ds c.index) c.before ≡ true)) l → Adds k₀ l
  adds-each k₀ [] ps = inl (none_left k₀)
  adds-each k₀ (c ∷ l) ps = go (only_removes c.before c.after) refl (adds-each (suc k₀) l ps.1)
    where
      asked : passes s n ds c ≡ demand (only_removes c.before c.after) 23 (answers tt)
      asked = left-to-ask c ps.0.0 ∙ demand-true _ _ _ ps.0.1

      go : (t : Bool) → only_removes c.before c.after ≡ t → Adds (suc k₀) l → Adds k₀ (c ∷ l)
      go true q (inl f) = inl (goes_on k₀ c l (asked ∙ demand-true _ _ _ q) ∙ f)
      go true q (inr w) =
          let v = w.2 in
          let z : suc k₀ + w.0 ≡ k₀ + suc w.0 = omega arith in
          inr (
            suc w.0,
            goes_on k₀ c l (asked ∙ demand-true _ _ _ q) ∙ w.1 ∙ ap (λ (m : ℕ). refuses (at 23 m)) z,
            record {
              before = c ∷ v.before;
              change = v.change;
              after = v.after;
              order = ap (λ (x : List TurnChange). c ∷ x) v.order;
              place = ap suc v.place;
              removes = (q, v.removes);
              adds = v.adds;
            },
          )
      go false q w =
          let z : k₀ ≡ k₀ + 0 = omega arith in
          inr (
            0,
            stops_at k₀ 23 c l (asked ∙ demand-false _ _ _ q) ∙ ap (λ (m : ℕ). refuses (at 23 m)) z,
            record { before = []; change = c; after = l; order = refl; place = refl; removes = tt; adds = q },
          )

-- a commit, by how its changes come out
module _ (stock : TurnStock) (n : ℕ) (ds bs : List Float) (mt : Matching stock.spec ds bs) (l : List TurnChange) (st : stock_of stock.spec ds ≡ answers n) where
  commit-goes : stock.stamp.generation < last_generation → pass_all (clean_spec stock.spec) n ds l ≡ answers tt → commit_of stock ds bs stock.stamp l ≡ answers (record { cells = put_all ds l; generation = stock.stamp.generation + 1 })
  unfolding own_commit commit_in
  commit-goes h e = own-commit stock ds bs l mt ∙ simp (st, e, onward-answers) (demand-true _ _ _ (lt-ltb stock.stamp.generation last_generation h))

  commit-stops : (r : Reason) → pass_all (clean_spec stock.spec) n ds l ≡ refuses r → commit_of stock ds bs stock.stamp l ≡ refuses r
  unfolding own_commit commit_in
  commit-stops r e = own-commit stock ds bs l mt ∙ simp (papers, st, e)

-- THE LAW: a list that passes on one stock is, on any other of the stock.spec that is not refused, with kept numbers that match it and with generations to spare, accepted, or refused with 22 at the first listed bin whose cell differs; with 7, 8, 21 and 23 never.
pub stale-is-22 : (stock : TurnStock) (n : ℕ) (cs ds bs : List Float) → Matching stock.spec ds bs → (l : List TurnChange) → pass_all (clean_spec stock.spec) n cs l ≡ answers tt → stock_of stock.spec ds ≡ answers n → stock.stamp.generation < last_generation
    → (commit_of stock ds bs stock.stamp l ≡ answers (record { cells = put_all ds l; generation = stock.stamp.generation + 1 })) ⊎ ((k : ℕ) × (commit_of stock ds bs stock.stamp l ≡ refuses (at 22 k)) × StaleAt ds l k)
unfolding pass_all
stale-is-22 stock n cs ds bs mt l h st g = go (stale-each (clean_spec stock.spec) n ds 0 l (each_fits (clean_spec stock.spec) n cs 0 l d.1))
  where
    d : (first_fall l ≡ None) × (each_from (clean_spec stock.spec) n cs 0 l ≡ answers tt)
    d = none-demanded (first_fall l) 7 (each_from (clean_spec stock.spec) n cs 0 l) tt h

    go : Stale (clean_spec stock.spec) n ds 0 l → (commit_of stock ds bs stock.stamp l ≡ answers (record { cells = put_all ds l; generation = stock.stamp.generation + 1 })) ⊎ ((k : ℕ) × (commit_of stock ds bs stock.stamp l ≡ refuses (at 22 k)) × StaleAt ds l k)
    go (inl f) = inl (commit-goes stock n ds bs mt l st g (demand_none-none _ _ _ d.0 ∙ f))
    go (inr w) =
        let z : 0 + w.0 ≡ w.0 = omega arith in
        inr (w.0, commit-stops stock n ds bs mt l st (at 22 w.0) (demand_none-none _ _ _ d.0 ∙ w.1 ∙ ap (λ (m : ℕ). refuses (at 22 m)) z), w.2)

-- so of what an accepted preview proposed
pub preview-stale : (stock : TurnStock) (t : Cutter) (cs ds bs : List Float) → Matching stock.spec ds bs → (n room : ℕ) (l : List TurnChange) → HeldSpec stock.spec → HeldList cs → HeldCutter t → cutter_preview stock.spec t cs room ≡ answers l → stock_of stock.spec ds ≡ answers n → stock.stamp.generation < last_generation
    → (commit_of stock ds bs stock.stamp l ≡ answers (record { cells = put_all ds l; generation = stock.stamp.generation + 1 })) ⊎ ((k : ℕ) × (commit_of stock ds bs stock.stamp l ≡ refuses (at 22 k)) × StaleAt ds l k)
preview-stale stock t cs ds bs mt n room l hs hc ht e st g =
    let p = preview-is stock.spec t cs room l e in
    let m = p.0 in
    let b = stock-good hs hc p.1 in
    let s = tool-sound stock.spec m hs b.count t ht (accepted-good stock.spec t cs room l e) in
    let act = cutter_act stock.spec t in
    let pass = good-pass b (act_cell act) (act-cuts b act s.plain) in
    let same : m ≡ n = same_answer (sym b.count ∙ (stocked stock.spec ds n st).count) in
    stale-is-22 stock m cs ds bs mt l (ap (pass_all (clean_spec stock.spec) m cs) p.2 ∙ pass) (st ∙ ap answers (sym same)) g

-- and of the difference of two stocks, which may add material: accepted, 22 or 23
one-fits : (s : TurnStockSpec) (n k : ℕ) (f : ℕ → TurnCell → TurnCell) (cs : List Float) → k < n → cell_fits s (f k (cell_at cs k)) ≡ true → (t : Bool) → Each (Fit s n) (pick t [] (change_of f cs k ∷ []))
unfolding pick
one-fits s n k f cs h e true = tt
one-fits s n k f cs h e false = ((e, h), tt)

all_fit : (s : TurnStockSpec) (n : ℕ) (f : ℕ → TurnCell → TurnCell) (cs : List Float) → ((i : ℕ) → i < n → cell_fits s (f i (cell_at cs i)) ≡ true) → (k : ℕ) → k ≤ n → Each (Fit s n) (changes_to f cs k)
unfolding changes_to change_at
all_fit s n f cs fits zero h = tt
all_fit s n f cs fits (suc k) h = each_append (Fit s n) (changes_to f cs k) (change_at f cs k) (all_fit s n f cs fits k (omega arith)) (one-fits s n k f cs h (fits k h) (same_cell (cell_at cs k) (f k (cell_at cs k))))

whole : (s : TurnStockSpec) (n : ℕ) (ds : List Float) (l : List TurnChange) → first_fall l ≡ None → (p : Paper (Unit {0})) → each_from s n ds 0 l ≡ p → pass_all s n ds l ≡ p
unfolding pass_all
whole s n ds l f p q = demand_none-none _ _ _ f ∙ q

pub difference-stale : (stock : TurnStock) (cs es ds bs : List Float) → Matching stock.spec ds bs → (n room : ℕ) (l : List TurnChange) → difference_of stock.spec cs es room ≡ answers l → stock_of stock.spec cs ≡ answers n → stock_of stock.spec ds ≡ answers n → stock.stamp.generation < last_generation
    → (commit_of stock ds bs stock.stamp l ≡ answers (record { cells = put_all ds l; generation = stock.stamp.generation + 1 })) ⊎ ((k : ℕ) × ((commit_of stock ds bs stock.stamp l ≡ refuses (at 22 k)) ⊎ (commit_of stock ds bs stock.stamp l ≡ refuses (at 23 k))))
difference-stale stock cs es ds bs mt n room l e first st g =
    let is = difference-is stock.spec cs es n room l first e in
    let fits = stock-fits stock.spec es n (second-stock stock.spec cs es n room l first e) in
    let none-falls : first_fall l ≡ None = ap first_fall is ∙ rises-none _ (rises-test 0 n (changes_to (other_cell es) cs n) (rising (other_cell es) cs n)) in
    go none-falls (subst (Either (clean_spec stock.spec) n ds 0) (sym is) (either-each (clean_spec stock.spec) n ds 0 (changes_to (other_cell es) cs n) (all_fit (clean_spec stock.spec) n (other_cell es) cs fits n (omega arith))))
  where
    by : (k : ℕ) → first_fall l ≡ None → (each_from (clean_spec stock.spec) n ds 0 l ≡ refuses (at 22 k)) ⊎ (each_from (clean_spec stock.spec) n ds 0 l ≡ refuses (at 23 k)) → (commit_of stock ds bs stock.stamp l ≡ refuses (at 22 k)) ⊎ (commit_of stock ds bs stock.stamp l ≡ refuses (at 23 k))
    by k f (inl q) = inl (commit-stops stock n ds bs mt l st (at 22 k) (whole (clean_spec stock.spec) n ds l f (refuses (at 22 k)) q))
    by k f (inr q) = inr (commit-stops stock n ds bs mt l st (at 23 k) (whole (clean_spec stock.spec) n ds l f (refuses (at 23 k)) q))

    go : first_fall l ≡ None → Either (clean_spec stock.spec) n ds 0 l → (commit_of stock ds bs stock.stamp l ≡ answers (record { cells = put_all ds l; generation = stock.stamp.generation + 1 })) ⊎ ((k : ℕ) × ((commit_of stock ds bs stock.stamp l ≡ refuses (at 22 k)) ⊎ (commit_of stock ds bs stock.stamp l ≡ refuses (at 23 k))))
    go f (inl q) = inl (commit-goes stock n ds bs mt l st g (whole (clean_spec stock.spec) n ds l f (answers tt) q))
    go f (inr w) = inr (w.0, by w.0 f w.1)

-- and on the first stock itself: accepted, or 23 at the first change that adds material
one-held : (s : TurnStockSpec) (n k : ℕ) (f : ℕ → TurnCell → TurnCell) (cs : List Float) → k < n → cell_fits s (f k (cell_at cs k)) ≡ true → same_cell (cell_at cs k) (cell_at cs k) ≡ true → (t : Bool) → Each (λ (c : TurnChange). Fit s n c × (same_cell (cell_at cs c.index) c.before ≡ true)) (pick t [] (change_of f cs k ∷ []))
unfolding pick
one-held s n k f cs h e g true = tt
one-held s n k f cs h e g false = (((e, h), g), tt)

all_held : (s : TurnStockSpec) (n : ℕ) (f : ℕ → TurnCell → TurnCell) (cs : List Float) → ((i : ℕ) → i < n → cell_fits s (f i (cell_at cs i)) ≡ true) → ((i : ℕ) → i < n → same_cell (cell_at cs i) (cell_at cs i) ≡ true) → (k : ℕ) → k ≤ n → Each (λ (c : TurnChange). Fit s n c × (same_cell (cell_at cs c.index) c.before ≡ true)) (changes_to f cs k)
unfolding changes_to change_at
all_held s n f cs fits same zero h = tt
all_held s n f cs fits same (suc k) h = each_append (λ (c : TurnChange). Fit s n c × (same_cell (cell_at cs c.index) c.before ≡ true)) (changes_to f cs k) (change_at f cs k) (all_held s n f cs fits same k (omega arith)) (one-held s n k f cs h (fits k h) (same k h) (same_cell (cell_at cs k) (f k (cell_at cs k))))

pub difference-adds : (stock : TurnStock) (cs es bs : List Float) → Matching stock.spec cs bs → (n room : ℕ) (l : List TurnChange) → HeldSpec stock.spec → HeldList cs → difference_of stock.spec cs es room ≡ answers l → stock_of stock.spec cs ≡ answers n → stock.stamp.generation < last_generation
    → (commit_of stock cs bs stock.stamp l ≡ answers (record { cells = put_all cs l; generation = stock.stamp.generation + 1 })) ⊎ ((k : ℕ) × (commit_of stock cs bs stock.stamp l ≡ refuses (at 23 k)) × AddsAt l k)
difference-adds stock cs es bs mt n room l hs hc e first g =
    let is = difference-is stock.spec cs es n room l first e in
    let fits = stock-fits stock.spec es n (second-stock stock.spec cs es n room l first e) in
    let b = stock-good hs hc first in
    let none-falls : first_fall l ≡ None = ap first_fall is ∙ rises-none _ (rises-test 0 n (changes_to (other_cell es) cs n) (rising (other_cell es) cs n)) in
    go none-falls (subst (Adds (clean_spec stock.spec) n cs 0) (sym is) (adds-each (clean_spec stock.spec) n cs 0 (changes_to (other_cell es) cs n) (all_held (clean_spec stock.spec) n (other_cell es) cs fits (λ i p. same_test (clean_spec stock.spec) (cell_at cs i) (b.fit i p)) n (omega arith))))
  where
    go : first_fall l ≡ None → Adds (clean_spec stock.spec) n cs 0 l → (commit_of stock cs bs stock.stamp l ≡ answers (record { cells = put_all cs l; generation = stock.stamp.generation + 1 })) ⊎ ((k : ℕ) × (commit_of stock cs bs stock.stamp l ≡ refuses (at 23 k)) × AddsAt l k)
    go f (inl q) = inl (commit-goes stock n cs bs mt l first g (whole (clean_spec stock.spec) n cs l f (answers tt) q))
    go f (inr w) =
        let z : 0 + w.0 ≡ w.0 = omega arith in
        inr (w.0, commit-stops stock n cs bs mt l first (at 23 w.0) (whole (clean_spec stock.spec) n cs l f (refuses (at 23 w.0)) (w.1 ∙ ap (λ (m : ℕ). refuses (at 23 m)) z)), w.2)
