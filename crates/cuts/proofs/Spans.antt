-- A cut that is taken in some bins only: the bins before them and behind them add no change, so that a loop over them lists all. Assumes nothing.
use mathlib.Core.Path.{◌≡◌, refl, sym, ap, ◌∙◌, subst}
use mathlib.Core.Bool.{Bool, true, false, false≢true, ◌&&◌, ◌||◌}
use mathlib.Core.List.{List, []}
use Prim.Native.Nat.{ℕ, zero, suc, ◌+◌, ◌-◌, ◌*◌, ◌/◌, ◌≤◌, ◌<◌}
use native.Mathlib.Nat.{add-zero}
use native.Mathlib.Numerals.{add-one}
use native.Mathlib.Decide.{dec_le}
use native.Mathlib.Omega.{arith}
use borrow.Author.Tests.{le-leb, lt-leb, lt-ltb, le-ltb, not-true, not-false}
use lib.Dec.{leb}
use lib.ListN.{length, get_or, length-append, get_or-eq_default}
use lib.Ieee.{Float, nan, le, eq}
use Rattle.refusals.specs.Lent.{over}
use Rattle.floats.specs.Pick.{pick, pick_true, pick-false}
use Rattle.floats.specs.Numbers.{least_of, greatest_of}
use Rattle.stock.specs.declared.TurnStockSpec.{TurnStockSpec}
use Rattle.stock.specs.declared.TurnCell.{TurnCell}
use Rattle.stock.specs.declared.TurnSide.{TurnSide}
use Rattle.stock.specs.Bin.{bin_of}
use Rattle.stock.proofs.Count.{and_both}
use Rattle.reach.specs.declared.Reach.{Reach}
use Rattle.reach.specs.declared.Reach.TheVariants.{Passed, Low}
use Rattle.reach.specs.Reach.{low_of, Act, act_cell}
use Rattle.changes.specs.Change.{room_of, change_at, change_of, changes_to, numbers_of, Listing}
use Rattle.changes.proofs.Placed.{listing-lengths}
use Rattle.changes.proofs.Rising.{kept, changes-more}
use Rattle.cuts.specs.Cut.{misses, thread_reach, drill_reach}
use Rattle.cuts.specs.Rows.{passed_of, Split, Between}
use Rattle.cuts.specs.declared.list.Source.{Source}
use Rattle.cuts.specs.declared.list.Source.TheVariants as source
use Rattle.cuts.specs.Source.{source_side, source_reach, low_act, bore_act, drill_both, span_reach, span_act, span_cell, SameTo, SameBelow, RoomOver}
use Rattle.cuts.proofs.EachBin.{bin-passed, one_at_most}

-- ---- which bins are visited
module _ (first last : ℕ) (reach : ℕ → Reach) (i : ℕ) where
  pub span-in : first ≤ i → i < last → span_reach first last reach i ≡ reach i
  unfolding span_reach
  span-in h l = pick_true _ _ _ (le-leb first i h) ∙ pick_true _ _ _ (lt-ltb i last l)

  pub span-under : i < first → span_reach first last reach i ≡ Passed
  unfolding span_reach
  span-under h = pick-false _ _ _ (lt-leb first i h)

  pub span-over : last ≤ i → span_reach first last reach i ≡ Passed
  unfolding span_reach pick
  span-over h = ap (λ (t : Bool). pick (leb first i) (pick t (reach i) Passed) Passed) (le-ltb i last h) ∙ go (leb first i)
    where
      go : (b : Bool) → pick b Passed Passed ≡ Passed
      go true = refl
      go false = refl

-- a reach that is so in the bins and passes the others over
pub span-is : (first last n : ℕ) (reach all : ℕ → Reach) → ((j : ℕ) → j < first → j < n → all j ≡ Passed) → ((j : ℕ) → first ≤ j → j < last → all j ≡ reach j) → ((j : ℕ) → last ≤ j → j < n → all j ≡ Passed) → (j : ℕ) → j < n → all j ≡ span_reach first last reach j
span-is first last n reach all u i o j l = go (dec_le first j) (dec_le last j)
  where
    go : Dec (first ≤ j) → Dec (last ≤ j) → all j ≡ span_reach first last reach j
    go (no p) d = u j (omega arith) l ∙ sym (span-under first last reach j (omega arith))
    go (yes p) (yes q) = o j q l ∙ sym (span-over first last reach j q)
    go (yes p) (no q) = i j p (omega arith) ∙ sym (span-in first last reach j p (omega arith))

-- ---- the list of changes
module _ (first last : ℕ) (a : Act) (cs : List Float) where
  -- a bin that is passed over adds none
  none-at : (i : ℕ) → SameTo cs i → span_reach first last a.at i ≡ Passed → changes_to (act_cell (span_act first last a)) cs (i + 1) ≡ changes_to (act_cell (span_act first last a)) cs i
  unfolding low_of
  none-at i t e = kept (act_cell (span_act first last a)) cs i (bin-passed (span_act first last a) cs i Passed (sym e) refl t)

  to-first : (i : ℕ) → i ≤ first → ((j : ℕ) → j < first → SameTo cs j) → changes_to (act_cell (span_act first last a)) cs i ≡ []
  unfolding changes_to
  to-first zero h t = refl
  to-first (suc i) h t = subst (λ (m : ℕ). changes_to (act_cell (span_act first last a)) cs m ≡ []) (add-one i) (none-at i (t i (omega arith)) (span-under first last a.at i (omega arith)) ∙ to-first i (omega arith) t)

  -- none before the first
  pub none_before : ((j : ℕ) → j < first → SameTo cs j) → changes_to (act_cell (span_act first last a)) cs first ≡ []
  none_before t = to-first first (omega arith) t

  by_last : (d : ℕ) → ((j : ℕ) → j < last + d → SameTo cs j) → changes_to (act_cell (span_act first last a)) cs (last + d) ≡ changes_to (act_cell (span_act first last a)) cs last
  by_last zero t = ap (changes_to (act_cell (span_act first last a)) cs) (add-zero last)
  by_last (suc d) t =
      let e : last + suc d ≡ last + d + 1 = omega arith in
      ap (changes_to (act_cell (span_act first last a)) cs) e ∙ none-at (last + d) (t (last + d) (omega arith)) (span-over first last a.at (last + d) (omega arith)) ∙ by_last d (λ j h. t j (omega arith))

  -- none from the last on
  pub none-behind : (n : ℕ) → last ≤ n → ((j : ℕ) → j < n → SameTo cs j) → changes_to (act_cell (span_act first last a)) cs n ≡ changes_to (act_cell (span_act first last a)) cs last
  none-behind n h t =
      let e : n ≡ last + (n - last) = omega arith in
      ap (changes_to (act_cell (span_act first last a)) cs) e ∙ by_last (n - last) (λ j l. t j (omega arith))

  by_first : (d : ℕ) → ((j : ℕ) → j < first → SameTo cs j) → length (changes_to (act_cell (span_act first last a)) cs (first + d)) ≤ d
  by_first zero t =
      let e = ap (λ (m : ℕ). length (changes_to (act_cell (span_act first last a)) cs m)) (add-zero first) ∙ ap length (none_before t) in
      omega (arith, e)
  by_first (suc d) t =
      let f = act_cell (span_act first last a) in
      let e : first + suc d ≡ first + d + 1 = omega arith in
      let m = ap (λ (m : ℕ). length (changes_to f cs m)) e ∙ ap length (changes-more f cs (first + d)) ∙ length-append (changes_to f cs (first + d)) (change_at f cs (first + d)) in
      let o = one_at_most f cs (first + d) 0 in
      let h = by_first d t in
      omega (arith, m, o, h)

  -- at most one a bin that is visited
  pub span-count : (i : ℕ) → first ≤ i → ((j : ℕ) → j < first → SameTo cs j) → length (changes_to (act_cell (span_act first last a)) cs i) ≤ i - first
  span-count i h t =
      let e : first + (i - first) ≡ i = omega arith in
      subst (λ (m : ℕ). length (changes_to (act_cell (span_act first last a)) cs m) ≤ i - first) e (by_first (i - first) t)

  pub span-most : first ≤ last → ((j : ℕ) → j < first → SameTo cs j) → length (changes_to (act_cell (span_act first last a)) cs last) ≤ last - first
  span-most h t = span-count last h t

  -- so where there is room for each of those bins there is room for all changes, and behind those written for one more
  module _ (is₀ is : List ℕ) (xs₀ xs : List Float) (h : first ≤ last) (t : (j : ℕ) → j < last → SameTo cs j) (room : RoomOver first last is₀ xs₀) where
    pub span-room : length (changes_to (act_cell (span_act first last a)) cs last) ≤ room_of (length is₀) (length xs₀)
    span-room = let m = span-most h (λ j l. t j (omega arith)) in omega (arith, m)

    pub span-next : (i k : ℕ) → first ≤ i → i < last → Listing (act_cell (span_act first last a)) cs i k is₀ is xs₀ xs → k < room_of (length is) (length xs)
    span-next i k f l g =
        let m = span-count i f (λ j l. t j (omega arith)) in
        let s = listing-lengths (act_cell (span_act first last a)) cs i last k is₀ is xs₀ xs span-room (omega arith) g in
        omega (arith, m, s.0, s.1, g.count)

  -- in a bin that is visited it is the cut
  pub change-in : (i : ℕ) → first ≤ i → i < last → change_at (act_cell a) cs i ≡ change_at (act_cell (span_act first last a)) cs i
  unfolding change_at
  change-in i h l = let e = span-in first last a.at i h l in rw e refl

  pub change-of-in : (i : ℕ) → first ≤ i → i < last → change_of (act_cell a) cs i ≡ change_of (act_cell (span_act first last a)) cs i
  change-of-in i h l = let e = span-in first last a.at i h l in rw e refl

-- ---- cells without a NaN lie whole in the list
no_nan : eq nan nan ≡ true → ⊥
unfolding eq
no_nan e = false≢true e

same-held : (cs : List Float) (i : ℕ) → SameTo cs i → i < length cs / 4
same-held cs i t = go (dec_le (4 * i + 4) (length cs))
  where
    n : ℕ → Float
    n j = get_or cs j nan

    go : Dec (4 * i + 4 ≤ length cs) → i < length cs / 4
    go (yes p) = omega arith
    go (no p) =
        let at = 4 * i in
        let e : get_or cs (at + 3) nan ≡ nan = get_or-eq_default cs nan (omega arith) in
        let w = (and_both (eq (n at) (n at) && eq (n (at + 1)) (n (at + 1)) && eq (n (at + 2)) (n (at + 2))) (eq (n (at + 3)) (n (at + 3))) t).1 in
        absurd (no_nan (subst (λ (x : Float). eq x x ≡ true) e w))

pub all_held : (cs : List Float) (n : ℕ) → SameBelow cs n → n ≤ length cs / 4
all_held cs zero t = omega arith
all_held cs (suc n) t = let h = same-held cs n (t n (omega arith)) in omega (arith, h)

-- ---- the list in lent memory
pub listing_start : (f : ℕ → TurnCell → TurnCell) (cs : List Float) (i : ℕ) (is : List ℕ) (xs : List Float) → changes_to f cs i ≡ [] → Listing f cs i 0 is is xs xs
unfolding numbers_of over
listing_start f cs i is xs e = record { count = rw e refl; indices = rw e refl; numbers = rw e refl }

pub listing-end : (f : ℕ → TurnCell → TurnCell) (cs : List Float) (i n k : ℕ) (is is' : List ℕ) (xs xs' : List Float) → changes_to f cs n ≡ changes_to f cs i → Listing f cs i k is is' xs xs' → Listing f cs n k is is' xs xs'
listing-end f cs i n k is is' xs xs' e g = record { count = rw e g.count; indices = rw e g.indices; numbers = rw e g.numbers }

-- by the kind of a source: a thread reaches the same low in every bin, a drill its two radii
module _ (first last : ℕ) (s : TurnStockSpec) (src : Source) (values : List Float) (there : List Bool) (cs : List Float) (i k : ℕ) (is is' : List ℕ) (xs xs' : List Float) where
  pub thread-listed : (σ : TurnSide) (r : Float) → src ≡ source.Thread σ r → Listing (act_cell (span_act first last (low_act σ r))) cs i k is is' xs xs' → Listing (span_cell first last s src values there) cs i k is is' xs xs'
  unfolding source_side source_reach
  thread-listed σ r e g = rw e g

  pub drill-listed : (tip r cone : Float) → src ≡ source.Drill tip r cone → Listing (act_cell (span_act first last (bore_act s tip r cone))) cs i k is is' xs xs' → Listing (span_cell first last s src values there) cs i k is is' xs xs'
  unfolding source_side source_reach
  drill-listed tip r cone e g = rw e g

  pub rows-listed : (σ : TurnSide) → src ≡ source.Rows σ → Listing (span_cell first last s (source.Rows σ) values there) cs i k is is' xs xs' → Listing (span_cell first last s src values there) cs i k is is' xs xs'
  rows-listed σ e g = rw e g

-- ---- a thread and a drill
or-true : (b : Bool) → (b || true) ≡ true
or-true true = refl
or-true false = refl

module _ (s : TurnStockSpec) (n : ℕ) where
  module _ (z0 z1 r lo hi : Float) (el : lo ≡ least_of z0 z1) (eh : hi ≡ greatest_of z0 z1) (first last : ℕ) (w : Between (passed_of s lo true false) (passed_of s hi false false) n first last) where
    missed : (j : ℕ) → misses (bin_of s j) z0 z1 ≡ (le (bin_of s j).zb lo || le hi (bin_of s j).za)
    unfolding misses
    missed j = rw (el, eh) refl

    thread-under : (j : ℕ) → j < first → thread_reach (bin_of s j) z0 z1 r ≡ Passed
    unfolding thread_reach passed_of pick
    thread-under j h = let e = w.under j h in pick_true _ _ _ (missed j ∙ rw e refl)

    thread-over : (j : ℕ) → last ≤ j → j < n → thread_reach (bin_of s j) z0 z1 r ≡ Passed
    unfolding thread_reach passed_of pick
    thread-over j h l = let e = not-false _ (w.over j h l) in pick_true _ _ _ (missed j ∙ ap (λ (t : Bool). le (bin_of s j).zb lo || t) e ∙ or-true (le (bin_of s j).zb lo))

    thread-inside : (j : ℕ) → first ≤ j → j < last → thread_reach (bin_of s j) z0 z1 r ≡ Low r
    unfolding thread_reach passed_of pick
    thread-inside j h l =
        let e : le (bin_of s j).zb lo ≡ false = (w.inside j h l).0 in
        let d : le hi (bin_of s j).za ≡ false = not-true _ (w.inside j h l).1 in
        pick-false _ _ _ (missed j ∙ rw (e, d) refl)

    pub thread-spans : (j : ℕ) → j < n → thread_reach (bin_of s j) z0 z1 r ≡ span_reach first last (λ i. Low r) j
    thread-spans = span-is first last n (λ i. Low r) (λ i. thread_reach (bin_of s i) z0 z1 r) (λ j h l. thread-under j h) thread-inside thread-over

  pub drill-spans : (tip r cone : Float) (first : ℕ) → Split (passed_of s tip true false) n first → (j : ℕ) → j < n → drill_reach (bin_of s j) tip r cone ≡ span_reach first n (λ i. drill_both (bin_of s i) tip r cone) j
  unfolding drill_reach passed_of pick
  drill-spans tip r cone first w = span-is first n n (λ i. drill_both (bin_of s i) tip r cone) (λ i. drill_reach (bin_of s i) tip r cone) (λ j h l. pick_true _ _ _ (w.below j h)) (λ j h l. pick-false _ _ _ (w.above j h l)) (λ j h l. absurd (omega arith))
