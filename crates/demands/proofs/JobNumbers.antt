-- Which numbers a job refuses with. After every line that is accepted its cells and its rings fit, so that neither 3 nor 4 arises; there is room for a change of every cell (6); the list of a line's preview has the stock's stamp (19); and what it proposes its commit accepts (7, 8, 21, 22, 23). Assumes nothing.
use Rattle.std.specs.Prelude.{Option, None, Some}
use mathlib.Core.Path.{◌≡◌, refl, sym, ap, ◌∙◌, subst}
use mathlib.Core.Bool.{Bool, true, false}
use mathlib.Core.List.{List, [], ◌∷◌, ◌++◌}
use mathlib.Core.Logic.{◌⊎◌, inl, inr, ⊎_elim}
use Prim.Native.Nat.{ℕ, zero, suc, ◌+◌, ◌*◌, ◌≤◌, ◌<◌}
use native.Mathlib.Omega.{arith}
use lib.Dec.{T, eqb, leb, ltb}
use lib.ListN.{length, take, drop, get_or, length-append, length-drop, get_or-append}
use lib.Seq.{get_or-append-add, take-append_seam}
use lib.Ieee.{Float, nan, binary64, fits}
use lib.Ieee.Bits.{of_bits-fits, is_true}
use lib.Ieee.Fits.{div-fits}
use lib.Ieee.Scale.{finite}
use borrow.Author.Tests.{eqb-false, le-leb, ltb-true, ltb-false}
use Rattle.refusals.specs.Paper.{Paper, Reason, answers, refuses, demand, onward, demand-true, demand-false, onward-answers, onward-refuses, only, papers}
use Rattle.refusals.specs.Limits.{cell_limit, last_generation}
use Rattle.refusals.specs.Lent.{over}
use Rattle.floats.specs.Pick.{pick}
use Rattle.floats.proofs.Order.{number-of, lt→le, le-self}
use Rattle.text.proofs.Chosen.{yes, no}
use Rattle.stock.specs.declared.TurnStockSpec.{TurnStockSpec}
use Rattle.stock.specs.declared.TurnCell.{TurnCell}
use Rattle.stock.specs.declared.TurnSide.{TurnSide}
use Rattle.stock.specs.Spec.{clean_spec, quotient, counted, cells_of}
use Rattle.stock.specs.Cell.{cell_at, four_of, fresh_cell, cells_like}
use Rattle.stock.specs.Stock.{new_stock, stock_with}
use Rattle.stock.proofs.Count.{checked, no_answer}
use Rattle.stock.proofs.Bins.{HeldSpec, Bar, bar-of}
use Rattle.stock.proofs.Cells.{length-like}
use Rattle.reach.proofs.Fit.{CellFit}
use Rattle.numbers.specs.Whole.{whole_up}
use Rattle.job_words.specs.declared.Line.{Line}
use Rattle.job_words.specs.declared.Line.TheVariants as line
use Rattle.job_words.specs.Number.{positive, negative, field_number}
use Rattle.job_words.specs.Kind.{most_cells, fields_of, mm_of, at, numbers, bar_of, nose_on, nose_of, thread_of, thread_inner_of, drill_of, ring_of, kind_of, line_of}
use Rattle.text.specs.Whole.{whole_of}
use Rattle.cuts.specs.declared.Cut.{Cut}
use Rattle.cuts.specs.declared.Cut.TheVariants as cut-case
use Rattle.cuts.specs.Cut.{is_arc, clean_cut, cut_good}
use Rattle.cuts.proofs.Singles.{HeldCut}
use Rattle.cuts.specs.Preview.{preview_cut}
use Rattle.cuts.specs.Tool.{tool_good, preview_tool}
use Rattle.reach.specs.Reach.{act_cell}
use Rattle.rings.specs.declared.Ring.{Ring}
use Rattle.rings.specs.Ring.{ring}
use Rattle.rings.specs.Store.{rings_of, bar_ring, room_for_rings, store_as, store_fits, count_fits, finite_ring}
use Rattle.rings.specs.Remove.{RingStore, room_for, added, stored_next, remove_in, remove_ring}
use Rattle.rings.proofs.Taken.{ring-passes}
use Rattle.stock.specs.declared.TurnChange.{TurnChange}
use Rattle.changes.specs.Change.{changes_to}
use Rattle.changes.specs.Commit.{Committed, put_all, own_commit}
use Rattle.changes.proofs.Stocks.{Good, good-stock}
use Rattle.changes.proofs.Accepted.{commit-is, put-good}
use Rattle.changes.proofs.Proposal.{act-cuts}
use Rattle.job_run.specs.declared.line.Job.{Job}
use Rattle.demands.specs.Refused.{has_place}
use Rattle.job_run.specs.Job.{full_room, Stand, stand, bar_line, made_cut, cut_line, removing_line, first_line, later_line, job_line}
use Rattle.job_run.specs.Run.{State, state, fresh_run, refused_with, answered, on_line, on_long, is_empty, on_end, stopped, job_of}
use Rattle.lines.specs.File.{pieces_of}
use Rattle.lines.proofs.Alike.{alike-file}
use Rattle.demands.specs.Tool.{single, cutter_act, cutter_good}
use Rattle.demands.proofs.Tools.{tool-sound, good-accepted}
use Rattle.demands.proofs.FieldNumbers.{either, at-finite}

-- ---- what a line says is in values of f64

abbrev HeldNumber : Option Float → Type 0
HeldNumber n = T (fits binary64 (mm_of n))

positive-held : (w : Option ℕ) → HeldNumber (positive w)
positive-held (Some v) = div-fits binary64 _ _
positive-held None = of_bits-fits binary64 0

negative-held : (w : Option ℕ) → HeldNumber (negative w)
negative-held (Some v) = div-fits binary64 _ _
negative-held None = of_bits-fits binary64 0

number-held : (f : List ℕ) → HeldNumber (field_number f)
unfolding field_number
number-held [] = of_bits-fits binary64 0
number-held (b ∷ s) = either HeldNumber (eqb b 45) (negative (whole_of s)) (positive (whole_of (b ∷ s))) (negative-held (whole_of s)) (positive-held (whole_of (b ∷ s)))

at_held : (fs : List (List ℕ)) (i : ℕ) → T (fits binary64 (at fs i))
unfolding at
at_held fs i = number-held (get_or fs i [])

ring-finite : (a b c d : Float) → T (finite a) → T (finite b) → T (finite c) → T (finite d) → finite_ring (ring a b c d) ≡ true
ring-finite a b c d ha hb hc hd = rw (is_true (finite a) ha, is_true (finite b) hb, is_true (finite c) hc, is_true (finite d) hd)

-- what is known of a line
abbrev Says : Line → Type 0
Says (line.Bar spec) = HeldSpec spec × (spec.max_cells ≡ most_cells)
Says (line.Cutting u) = HeldCut u × (is_arc (clean_cut u) ≡ false)
Says (line.Removing q) = finite_ring q ≡ true
Says line.Arc = Unit {0}
Says line.Bad = Unit {0}

line-says : (s : List ℕ) → Says (line_of s)
unfolding line_of kind_of bar_of nose_of nose_on thread_of thread_inner_of drill_of ring_of clean_cut
line-says s = by (fields_of s)
  where
    by : (fs : List (List ℕ)) → Says (kind_of fs)
    by fs =
        let h = at_held fs in
        let f = at-finite fs in
        let nose : (side : TurnSide) → Says (pick (numbers fs 2 6) (line.Cutting (cut-case.Line side (at fs 2) (at fs 3) (at fs 4) (at fs 5) (at fs 6) (at fs 7))) line.Bad) = λ side. either Says _ (line.Cutting (cut-case.Line side (at fs 2) (at fs 3) (at fs 4) (at fs 5) (at fs 6) (at fs 7))) line.Bad ((h 2, h 3, h 4, h 5, h 6, h 7), refl) tt in
        either Says _ line.Arc _ tt
        (either Says _ _ _ (either Says _ (line.Bar _) line.Bad (record { z-min = h 1; z-max = h 2; outer = h 3; bore = h 4; cell = h 5 }, refl) tt)
        (either Says _ _ _ (either Says _ _ _ (nose _) (either Says _ _ line.Bad (nose _) tt))
        (either Says _ _ _ (either Says _ (line.Cutting _) line.Bad ((h 1, h 2, h 3), refl) tt)
        (either Says _ _ _ (either Says _ (line.Cutting _) line.Bad ((h 1, h 2, h 3), refl) tt)
        (either Says _ _ _ (either Says _ (line.Cutting _) line.Bad ((h 1, h 2, h 3), refl) tt)
        (either Says _ _ line.Bad (either Says _ (line.Removing _) line.Bad (ring-finite (at fs 1) (at fs 2) (at fs 3) (at fs 4) (f 1) (f 2) (f 3) (f 4)) tt) tt))))))

-- ---- fresh cells fit

first-at : (c : TurnCell) (n : ℕ) → get_or (cells_like c n ++ four_of c) (4 * n) nan ≡ get_or (four_of c) 0 nan
first-at c n = ap (λ (m : ℕ). get_or (cells_like c n ++ four_of c) m nan) (let e : 4 * n ≡ length (cells_like c n) + 0 = omega (arith, length-like c n) in e) ∙ get_or-append-add (cells_like c n) (four_of c) 0 nan

four-at : (c : TurnCell) (n k : ℕ) → k < 4 → get_or (cells_like c n ++ four_of c) (4 * n + k) nan ≡ get_or (four_of c) k nan
four-at c n k h = ap (λ (m : ℕ). get_or (cells_like c n ++ four_of c) (m + k) nan) (sym (length-like c n)) ∙ get_or-append-add (cells_like c n) (four_of c) k nan

like_at : (c : TurnCell) (n i : ℕ) → i < n → cell_at (cells_like c n) i ≡ c
unfolding cells_like
like_at c zero i h = absurd (omega arith)
like_at c (suc n) i h = by (ltb i n) refl (like_at c n i)
  where
    first : i < n → get_or (cells_like c n ++ four_of c) (4 * i) nan ≡ get_or (cells_like c n) (4 * i) nan
    first p = get_or-append (cells_like c n) (four_of c) nan (4 * i) (omega (arith, p, length-like c n))

    early : i < n → (k : ℕ) → k < 4 → get_or (cells_like c n ++ four_of c) (4 * i + k) nan ≡ get_or (cells_like c n) (4 * i + k) nan
    early p k q = get_or-append (cells_like c n) (four_of c) nan (4 * i + k) (omega (arith, p, q, length-like c n))

    by : (t : Bool) → ltb i n ≡ t → (i < n → cell_at (cells_like c n) i ≡ c) → cell_at (cells_like c n ++ four_of c) i ≡ c
    by true e r =
        let p = ltb-true i n e in
        let a = first p in
        let b = early p 1 (omega arith) in
        let d = early p 2 (omega arith) in
        let f = early p 3 (omega arith) in
        rw (a, b, d, f) (r p)
    by false e r =
        let q : i ≡ n = omega (arith, h, ltb-false i n e) in
        let a = first-at c n in
        let b = four-at c n 1 (omega arith) in
        let d = four-at c n 2 (omega arith) in
        let f = four-at c n 3 (omega arith) in
        rw (q, a, b, d, f)

fresh-good : (spec : TurnStockSpec) (n : ℕ) → HeldSpec spec → cells_of spec ≡ answers n → Good spec n (cells_like (fresh_cell (clean_spec spec)) n)
fresh-good spec n hs e =
    let s = clean_spec spec in
    let b = bar-of hs (checked spec n e) in
    let o = b.outer.plain in
    let i = b.bore.plain in
    let thin = lt→le (number-of i) (number-of o) b.thick in
    let fit : CellFit s (fresh_cell s) = record {
      bore = number-of i;
      bar = number-of o;
      outer = record { lower = o; upper = o; from-bore = thin; in_order = le-self (number-of o); to-outer = le-self (number-of o) };
      inner = record { lower = i; upper = i; from-bore = le-self (number-of i); in_order = le-self (number-of i); to-outer = thin };
    } in
    record { count = e; long = length-like (fresh_cell s) n; fit = λ k p. subst (CellFit s) (sym (like_at (fresh_cell s) n k p)) fit }

-- ---- the numbers

-- what a job whose generation is g is refused with
pub data JobNumber (g : ℕ) : ℕ → Type 0 where
  bar-outside : JobNumber g 1
  cells_over : JobNumber g 2
  cut-outside : JobNumber g 5
  rings-over : JobNumber g 11
  spent : last_generation ≤ g → JobNumber g 12
  an-arc : JobNumber g 13
  malformed : JobNumber g 15

-- and a job's refusal has no place
record JobReason (g : ℕ) (k : Reason) : Type 0 where
  number : JobNumber g k.number
  placeless : k.place ≡ None

numbered : {g n : ℕ} → JobNumber g n → JobReason g (only n)
numbered k = record { number = k; placeless = refl }

-- a rule that refuses with no other
data Only (g : ℕ) {A : Type 0} : Paper A → Type 0 where
  accepted : {a : A} → Only g (answers a)
  refused : {n : Reason} → JobReason g n → Only g (refuses n)

only-demand : {A : Type 0} (g : ℕ) (t : Bool) (n : ℕ) (p : Paper A) → (t ≡ false → JobNumber g n) → Only g p → Only g (demand t n p)
unfolding demand
only-demand g true n p h o = o
only-demand g false n p h o = refused (numbered (h refl))

only-number : {A : Type 0} {g : ℕ} {n : Reason} {p : Paper A} → Only g p → p ≡ refuses n → JobReason g n
only-number {A} {g} {n} accepted e = absurd (no_answer n _ (sym e))
only-number {A} {g} {n} (refused {n = m} k) e = subst (JobReason g) (same e) k
  where
    same : ◌≡◌ {A = Paper A} (refuses m) (refuses n) → m ≡ n
    same h = cc

count-only : (g : ℕ) (spec : TurnStockSpec) → Only g (cells_of spec)
unfolding cells_of
count-only g spec = only-demand g _ 1 _ (λ _. bar-outside) (go (whole_up (quotient (clean_spec spec)) cell_limit))
  where
    go : (o : Option ℕ) → Only g (counted (clean_spec spec).max_cells o)
    go None = refused (numbered cells_over)
    go (Some n) = only-demand g _ 2 _ (λ _. cells_over) accepted

-- ---- a job whose cells and rings fit

-- after its bar
pub record Running (j : Job) (cs rs : List Float) : Type 0 where
  pub held : HeldSpec j.stock.spec
  pub good : Good j.stock.spec j.cells (take (4 * j.cells) cs)
  pub few : j.cells ≤ most_cells
  pub stored : count_fits (bar_ring (clean_spec j.stock.spec)) rs j.stock.rings ≡ true

pub data Fitting (j : Job) (cs rs : List Float) : Type 0 where
  barless : j.cells ≡ 0 → Fitting j cs rs
  running : Running j cs rs → Fitting j cs rs

-- a line goes on with a job that fits, or is refused with one of the numbers
data Goes (g : ℕ) : Paper Stand → Type 0 where
  on : {s : Stand} → Fitting s.job s.cells s.rings → length s.cells ≡ 4 * most_cells → Goes g (answers s)
  off : {n : Reason} → JobReason g n → Goes g (refuses n)

over-front : (n : ℕ) (ks xs : List Float) → length ks ≡ n → take n (over ks xs) ≡ ks
unfolding over
over-front n ks xs e = ap (λ (k : ℕ). take k (ks ++ drop (length ks) xs)) (sym e) ∙ take-append_seam ks (drop (length ks) xs)

over-long : (ks xs : List Float) → length ks ≤ length xs → length (over ks xs) ≡ length xs
unfolding over
over-long ks xs h = omega (arith, h, length-append ks (drop (length ks) xs), length-drop (length ks) xs)

none-stored : (e : Ring) (rs : List Float) → count_fits e rs 0 ≡ true
unfolding count_fits rings_of store_fits
none-stored e rs = rw (le-leb 0 (room_for_rings (length rs)) (omega arith))

goes-bar : (g edition : ℕ) (spec : TurnStockSpec) (cs rs : List Float) → HeldSpec spec → spec.max_cells ≡ most_cells → length cs ≡ 4 * most_cells → Goes g (bar_line edition spec cs rs)
unfolding bar_line onward
goes-bar g edition spec cs rs hs most long = go (cells_of spec) refl
  where
    new : ℕ → List Float
    new n = cells_like (fresh_cell (clean_spec spec)) n

    go : (p : Paper ℕ) → cells_of spec ≡ p → Goes g (onward p (λ n. demand (leb (4 * n) (length cs)) 3 (answers (stand (record { stock = new_stock spec edition; cells = n }) (over (new n) cs) rs))))
    go (refuses m) e = off (only-number (count-only g spec) e)
    go (answers n) e =
        let few : n ≤ most_cells = omega (arith, (checked spec n e).most, most) in
        let wide : length (new n) ≡ 4 * n = length-like (fresh_cell (clean_spec spec)) n in
        subst (Goes g) (sym (demand-true (leb (4 * n) (length cs)) 3 _ (le-leb (4 * n) (length cs) (omega (arith, few, long)))))
        (on (running (record {
          held = hs;
          good = subst (Good spec n) (sym (over-front (4 * n) (new n) cs wide)) (fresh-good spec n hs e);
          few = few;
          stored = none-stored (bar_ring (clean_spec spec)) rs;
        })) (over-long (new n) cs (omega (arith, few, wide, long)) ∙ long))

module _ (j : Job) (cs rs : List Float) (r : Running j cs rs) (long : length cs ≡ 4 * most_cells) where
  abbrev own : List Float
  own = take (4 * j.cells) cs

  abbrev spec : TurnStockSpec
  spec = j.stock.spec

  abbrev gen : ℕ
  gen = j.stock.stamp.generation

  -- a cut
  made-good : (u : Cut) → HeldCut u → is_arc (clean_cut u) ≡ false → cut_good (clean_cut u) ≡ true
      → made_cut j.stock own u full_room ≡ demand (ltb gen last_generation) 12 (answers (record { cells = put_all own (changes_to (act_cell (cutter_act spec (single u))) own j.cells); generation = gen + 1 }))
  unfolding tool_good preview_tool made_cut
  made-good u hu ha hg =
      let good : cutter_good (single u) ≡ true = rw (ha, hg) in
      let s = tool-sound spec j.cells r.held r.good.count (single u) hu good in
      let e = good-accepted spec j.cells (single u) own full_room (good-stock r.good) r.few good in
      ap (λ (p : Paper (List TurnChange)). onward p (λ l. own_commit spec own gen l)) e
      ∙ onward-answers _ _
      ∙ commit-is r.good (act_cell (cutter_act spec (single u))) (act-cuts r.good (cutter_act spec (single u)) s.plain) gen

  made-bad : (u : Cut) → is_arc (clean_cut u) ≡ false → cut_good (clean_cut u) ≡ false → made_cut j.stock own u full_room ≡ refuses (only 5)
  unfolding made_cut preview_cut
  made-bad u ha hg = simp (papers, good-stock r.good, ha, hg)

  goes-cut : (u : Cut) → HeldCut u → is_arc (clean_cut u) ≡ false → Goes gen (cut_line j u full_room cs rs)
  unfolding cut_line tool_good
  goes-cut u hu ha = by (cut_good (clean_cut u)) refl (ltb gen last_generation) refl
    where
      after : Committed → Paper Stand
      after k = answers (stand (record { stock = stock_with j.stock j.stock.rings k.generation; cells = j.cells }) (over k.cells cs) rs)

      by : (t : Bool) → cut_good (clean_cut u) ≡ t → (v : Bool) → ltb gen last_generation ≡ v → Goes gen (onward (made_cut j.stock own u full_room) after)
      by false e v f = subst (λ (p : Paper Committed). Goes gen (onward p after)) (sym (made-bad u ha e)) (subst (Goes gen) (sym (onward-refuses (only 5) after)) (off (numbered cut-outside)))
      by true e false f =
          subst (λ (p : Paper Committed). Goes gen (onward p after)) (sym (made-good u hu ha e ∙ demand-false _ _ _ f))
          (subst (Goes gen) (sym (onward-refuses (only 12) after)) (off (numbered (spent (ltb-false _ _ f)))))
      by true e true f =
          let s = tool-sound spec j.cells r.held r.good.count (single u) hu (rw (ha, e) refl) in
          let act = cutter_act spec (single u) in
          let g' = put-good r.good (act_cell act) (act-cuts r.good act s.plain) in
          let new : List Float = put_all own (changes_to (act_cell act) own j.cells) in
          subst (λ (p : Paper Committed). Goes gen (onward p after)) (sym (made-good u hu ha e ∙ demand-true _ _ _ f))
          (subst (Goes gen) (sym (onward-answers (record { cells = new; generation = gen + 1 }) after))
          (on (running (record {
            held = r.held;
            good = subst (Good spec j.cells) (sym (over-front (4 * j.cells) new cs g'.long)) g';
            few = r.few;
            stored = r.stored;
          })) (over-long new cs (omega (arith, g'.long, r.few, long)) ∙ long)))

  -- a ring
  ring-only : (q : Ring) → finite_ring q ≡ true → Only gen (remove_ring spec rs j.stock.rings gen q)
  unfolding remove_ring remove_in stored_next added
  ring-only q h =
      simp (papers, r.good.count, r.stored, h)
      (either (Only gen) _ _ _ (only-demand gen _ 12 _ (λ f. spent (ltb-false _ _ f)) (go (room_for _ _ _) _)) accepted)
    where
      store : List Ring → RingStore
      store l = record { rings = l; generation = gen + 1 }

      go : (t : Bool) (l : List Ring) → Only gen (onward (demand t 11 (answers l)) (λ k. answers (store k)))
      go true l = simp papers accepted
      go false l = simp papers (refused (numbered rings-over))

  goes-ring : (q : Ring) → finite_ring q ≡ true → Goes gen (removing_line j q cs rs)
  unfolding removing_line
  goes-ring q h = go (remove_ring spec rs j.stock.rings gen q) refl
    where
      after : RingStore → Paper Stand
      after s = answers (stand (record { stock = stock_with j.stock (length s.rings) s.generation; cells = j.cells }) cs (store_as rs s.rings))

      go : (p : Paper RingStore) → remove_ring spec rs j.stock.rings gen q ≡ p → Goes gen (onward p after)
      go (refuses m) e = subst (Goes gen) (sym (onward-refuses m after)) (off (only-number (ring-only q h) e))
      go (answers s) e =
          subst (Goes gen) (sym (onward-answers s after))
          (on (running (record { held = r.held; good = r.good; few = r.few; stored = ring-passes spec rs j.stock.rings gen q s e })) long)

-- ---- a line

goes-demand : (g : ℕ) (t : Bool) (n : ℕ) (p : Paper Stand) → JobNumber g n → Goes g p → Goes g (demand t n p)
unfolding demand
goes-demand g true n p k h = h
goes-demand g false n p k h = off (numbered k)

goes_first : (g edition : ℕ) (l : Line) (cs rs : List Float) → Says l → length cs ≡ 4 * most_cells → Goes g (first_line edition l cs rs)
unfolding first_line
goes_first g edition (line.Bar spec) cs rs s long = goes-bar g edition spec cs rs s.0 s.1 long
goes_first g edition (line.Cutting u) cs rs s long = off (numbered malformed)
goes_first g edition (line.Removing q) cs rs s long = off (numbered malformed)
goes_first g edition line.Arc cs rs s long = off (numbered malformed)
goes_first g edition line.Bad cs rs s long = off (numbered malformed)

goes_later : (j : Job) (l : Line) (cs rs : List Float) → Says l → Running j cs rs → length cs ≡ 4 * most_cells → Goes j.stock.stamp.generation (later_line j l full_room cs rs)
unfolding later_line
goes_later j (line.Bar spec) cs rs s r long = off (numbered malformed)
goes_later j (line.Cutting u) cs rs s r long = goes-cut j cs rs r long u s.0 s.1
goes_later j (line.Removing q) cs rs s r long = goes-ring j cs rs r long q s
goes_later j line.Arc cs rs s r long = off (numbered an-arc)
goes_later j line.Bad cs rs s r long = off (numbered malformed)

goes-line : (j : Job) (s : List ℕ) (cs rs : List Float) → Fitting j cs rs → length cs ≡ 4 * most_cells → Goes j.stock.stamp.generation (job_line j s full_room cs rs)
unfolding job_line
goes-line j s cs rs h long = goes-demand j.stock.stamp.generation _ 15 _ malformed (by (eqb j.cells 0) refl h)
  where
    by : (t : Bool) → eqb j.cells 0 ≡ t → Fitting j cs rs → Goes j.stock.stamp.generation (pick (eqb j.cells 0) (first_line j.stock.stamp.edition (line_of s) cs rs) (later_line j (line_of s) full_room cs rs))
    by true e k = simp (e, yes) (goes_first j.stock.stamp.generation j.stock.stamp.edition (line_of s) cs rs (line-says s) long)
    by false e (barless z) = absurd (eqb-false _ _ e z)
    by false e (running r) = simp (e, no) (goes_later j (line_of s) cs rs (line-says s) r long)

-- A JOB HAS NO PLACE: what refuses a line of a job has none, and none of the numbers that have one.
pub record NoPlace (k : Reason) : Type 0 where
  pub place : k.place ≡ None
  pub number : has_place k.number ≡ false

number-alone : {g n : ℕ} → JobNumber g n → has_place n ≡ false
number-alone bar-outside = refl
number-alone cells_over = refl
number-alone cut-outside = refl
number-alone rings-over = refl
number-alone (spent h) = refl
number-alone an-arc = refl
number-alone malformed = refl

goes-reason : {g : ℕ} {p : Paper Stand} (k : Reason) → Goes g p → p ≡ refuses k → JobReason g k
goes-reason k (on f l) e = absurd (no_answer k _ (sym e))
goes-reason {g} k (off r) e = subst (JobReason g) (same e) r
  where
    same : {m n : Reason} → ◌≡◌ {A = Paper Stand} (refuses m) (refuses n) → m ≡ n
    same h = cc

pub job-has-no-place : (j : Job) (s : List ℕ) (cs rs : List Float) → Fitting j cs rs → length cs ≡ 4 * most_cells → (k : Reason) → job_line j s full_room cs rs ≡ refuses k → NoPlace k
job-has-no-place j s cs rs h long k e =
    let r = goes-reason k (goes-line j s cs rs h long) e in
    record { place = r.placeless; number = number-alone r.number }

-- ---- a file of them

-- a run that is not refused, or refused with one of the numbers, and its cells and rings fit
pub record Numbered (st : State) : Type 0 where
  pub long : length st.cells ≡ 4 * most_cells
  pub fitting : Fitting st.run.job st.cells st.rings
  pub number : (st.run.refused ≡ 0) ⊎ JobNumber st.run.job.stock.stamp.generation st.run.refused

numbered-answered : (st : State) (p : Paper Stand) → Numbered st → Goes st.run.job.stock.stamp.generation p → Numbered (answered st p)
unfolding answered refused_with
numbered-answered st p h (on f l) = record { long = l; fitting = f; number = inl refl }
numbered-answered st p h (off k) = record { long = h.long; fitting = h.fitting; number = inr k.number }

numbered-line : (st : State) (l : List ℕ) → Numbered st → Numbered (on_line st l)
unfolding on_line
numbered-line st l h = numbered-answered st _ h (goes-line st.run.job l st.cells st.rings h.fitting h.long)

numbered-long : (st : State) → Numbered st → Numbered (on_long st)
unfolding refused_with
numbered-long st h = record { long = h.long; fitting = h.fitting; number = inr malformed }

numbered-end : (st : State) → Numbered st → Numbered (on_end st)
numbered-end st h = either Numbered (is_empty st.run) (on_long st) st (numbered-long st h) h

-- the same state twice, of which it holds
record Both (a b : State) : Type 0 where
  same : a ≡ b
  holds : Numbered a

-- THE NUMBERS OF A JOB, from before its first byte on: of every file, and by `calls-however-cut` of every run of the calls.
pub job-numbers : (edition : ℕ) (cs rs : List Float) (s : List ℕ) → length cs ≡ 4 * most_cells → Numbered (job_of (state (fresh_run edition) cs rs) s)
job-numbers edition cs rs s long =
    (alike-file stopped on_line on_long on_end Both
    (λ a b h. ap stopped h.same)
    (λ a b l h. record { same = ap (λ (x : State). on_line x l) h.same; holds = numbered-line a l h.holds })
    (λ a b h. record { same = ap on_long h.same; holds = numbered-long a h.holds })
    (λ a b h. record { same = ap on_end h.same; holds = numbered-end a h.holds })
    (pieces_of s)
    (state (fresh_run edition) cs rs)
    (state (fresh_run edition) cs rs)
    (record { same = refl; holds = record { long = long; fitting = barless refl; number = inl refl } })
    ).holds

-- 19 IS NONE OF THEM: no file is refused for a list of another stamp.
not-stale : {g n : ℕ} → JobNumber g n → n ≡ 19 → ⊥
not-stale bar-outside e = omega arith
not-stale cells_over e = omega arith
not-stale cut-outside e = omega arith
not-stale rings-over e = omega arith
not-stale (spent h) e = omega arith
not-stale an-arc e = omega arith
not-stale malformed e = omega arith

pub job-not-stale : (edition : ℕ) (cs rs : List Float) (s : List ℕ) → length cs ≡ 4 * most_cells → (job_of (state (fresh_run edition) cs rs) s).run.refused ≡ 19 → ⊥
job-not-stale edition cs rs s long e = ⊎_elim (λ z. omega (arith, z, e)) (λ k. not-stale k e) (job-numbers edition cs rs s long).number
