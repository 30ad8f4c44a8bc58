-- The laws of the blocks for a stock that is not refused and numbers that match it. Assumes nothing.
use mathlib.Core.Path.{◌≡◌, refl, sym, ap, ◌∙◌}
use mathlib.Core.Bool.{true, false}
use mathlib.Core.List.{List, map}
use Prim.Native.Nat.{ℕ, ◌+◌, ◌*◌, ◌-◌, ◌≤◌, ◌<◌}
use native.Mathlib.Omega.{arith}
use lib.Dec.{T}
use lib.ListN.{get_or, take, length-map, get_or-map}
use lib.Ieee.{Float, nan, binary64, fits}
use Rattle.refusals.specs.Paper.{Paper, Reason, answers, refuses, only, demand, onward, papers}
use Rattle.floats.specs.Numbers.{clean_of}
use Rattle.floats.proofs.Cleared.{clean-keeps}
use Rattle.floats.proofs.Exact.{plain-zero}
use Rattle.stock.specs.declared.TurnStockSpec.{TurnStockSpec}
use Rattle.stock.specs.declared.TurnChange.{TurnChange}
use Rattle.stock.specs.Spec.{clean_spec}
use Rattle.stock.specs.Cell.{number_at, cell_at, stock_of}
use Rattle.stock.proofs.Count.{same_answer, no_answer, demanded, stocked, checked}
use Rattle.stock.proofs.Bins.{HeldSpec, HeldList, Bar, bar-of}
use Rattle.stock.proofs.EachFits.{stock-fits}
use Rattle.reach.proofs.Fit.{CellFit, held_at, fit_of}
use Rattle.queries.specs.Material.{band}
use Rattle.queries.specs.Envelope.{shown_of, most_over}
use Rattle.blocks.specs.Block.{blocks_in, block_of, blocks_of, block_at, matches_of, kept_stock}
use Rattle.blocks.specs.Way.{kept_over}
use Rattle.blocks.specs.Renew.{renew_over, renewed_for}
use Rattle.blocks.proofs.Steps.{length-blocks}
use Rattle.blocks.proofs.Split.{Ends}
use Rattle.blocks.proofs.Walks.{kept-walks}
use Rattle.blocks.proofs.Kept.{raw_at, read-raw, raw_of, same_blocks, match-length, match-kept, own-match, nan-stays}
use Rattle.blocks.proofs.Touched.{put_each, bins_of, edited-afresh}

-- ---- what is answered

-- a stock that is not refused, and numbers that match it
pub record KeptStock (spec : TurnStockSpec) (cs bs : List Float) (n : ℕ) : Type 0 where
  pub stock : stock_of spec cs ≡ answers n
  pub matched : matches_of (clean_spec spec) n cs bs ≡ true

module _ (spec : TurnStockSpec) (cs bs : List Float) where
  pub kept-stock : (n : ℕ) → kept_stock spec cs bs ≡ answers n → KeptStock spec cs bs n
  unfolding kept_stock onward
  kept-stock n = go (stock_of spec cs) refl
    where
      go : (p : Paper ℕ) → stock_of spec cs ≡ p → onward p (λ m. demand (matches_of (clean_spec spec) m cs bs) 20 (answers m)) ≡ answers n → KeptStock spec cs bs n
      go (answers m) e h =
          let d = demanded (matches_of (clean_spec spec) m cs bs) 20 (answers m) n h in
          let q = same_answer d.1 in
          record { stock = e ∙ ap answers q; matched = ap (λ (x : ℕ). matches_of (clean_spec spec) x cs bs) (sym q) ∙ d.0 }
      go (refuses k) e h = absurd (no_answer k n h)

  pub kept-refused : (k : Reason) → stock_of spec cs ≡ refuses k → refuses k ≡ kept_stock spec cs bs
  unfolding kept_stock
  kept-refused k q = simp (papers, q)

  pub kept-unmatched : (n : ℕ) → stock_of spec cs ≡ answers n → matches_of (clean_spec spec) n cs bs ≡ false → refuses (only 20) ≡ kept_stock spec cs bs
  unfolding kept_stock
  kept-unmatched n q t = simp (papers, q, t)

  pub kept-matched : (n : ℕ) → stock_of spec cs ≡ answers n → matches_of (clean_spec spec) n cs bs ≡ true → answers n ≡ kept_stock spec cs bs
  unfolding kept_stock
  kept-matched n q t = simp (papers, q, t)

-- ---- a stock
held-clean : (x : Float) → T (fits binary64 x) → T (fits binary64 (clean_of x))
held-clean x h = clean-keeps (λ (y : Float). T (fits binary64 y)) {x = x} (plain-zero binary64).held h

module _ (spec : TurnStockSpec) (cs : List Float) (n : ℕ) (hs : HeldSpec spec) (hc : HeldList cs) (e : stock_of spec cs ≡ answers n) where
  bar : Bar (clean_spec spec)
  bar = bar-of {n = n} hs (checked spec n (stocked spec cs n e).count)

  pub ends : Ends (clean_spec spec)
  ends = record { bore = bar.bore.plain; outer = bar.outer.plain }

  pub cell-fit : (i : ℕ) → i < n → CellFit (clean_spec spec) (cell_at cs i)
  unfolding clean_spec
  cell-fit i p = fit_of (clean_spec spec) (cell_at cs i) (held-clean spec.bore_radius_mm hs.bore) (held-clean spec.outer_radius_mm hs.outer) (held_at cs hc i) (stock-fits spec cs n e i p)

  -- its own numbers are never refused
  pub own-kept-stock : kept_stock spec cs (blocks_of (clean_spec spec) n cs) ≡ answers n
  own-kept-stock = sym (kept-matched spec cs (blocks_of (clean_spec spec) n cs) n e (own-match (clean_spec spec) ends n cs cell-fit))

  -- ---- and numbers that match it
  module _ (bs : List Float) (hb : HeldList bs) (m : matches_of (clean_spec spec) n cs bs ≡ true) where
    pub kept_block : (j : ℕ) → j < blocks_in n → block_at bs j ≡ block_of (clean_spec spec) n cs j
    kept_block = match-kept (clean_spec spec) ends n cs cell-fit bs hb m

    -- the kept way answers as a walk over the bins would
    pub stock-walks : (a b : ℕ) → b ≤ n → shown_of (kept_over (clean_spec spec) cs bs a b) ≡ most_over cs a (b - a)
    stock-walks = kept-walks (clean_spec spec) ends bar.thick n cs bs cell-fit kept_block

    -- cleared they are those of the cells, to the bit: two lists that match the same cells are the same numbers
    pub match-cleared : map clean_of bs ≡ blocks_of (clean_spec spec) n cs
    match-cleared =
        let l = match-length (clean_spec spec) ends n cs cell-fit bs m in
        same_blocks (blocks_in n) (map clean_of bs) (blocks_of (clean_spec spec) n cs) (length-map bs clean_of ∙ l) (length-blocks (clean_spec spec) n cs (blocks_in n))
        (λ j h. both j ∙ sym (read-raw bs j (omega arith)) ∙ kept_block j h ∙ sym (raw_of (clean_spec spec) n cs (blocks_in n) j h))
      where
        number : (k : ℕ) → number_at (map clean_of bs) k ≡ clean_of (number_at bs k)
        number k = ap (λ (d : Float). get_or (map clean_of bs) k d) (sym nan-stays) ∙ get_or-map clean_of bs k nan

        both : (j : ℕ) → raw_at (map clean_of bs) j ≡ band (clean_of (raw_at bs j).bore) (clean_of (raw_at bs j).outer)
        both j = (λ i. band (number (2 * j + 1) i) (number (2 * j) i))

    -- after any changes the renewed numbers are those of the cells afterwards, to the bit
    pub commit-keeps : (l : List TurnChange) (is : List ℕ) (k : ℕ) → bins_of l ≡ take k is → renewed_for (clean_spec spec) n (put_each cs l) is k bs ≡ blocks_of (clean_spec spec) n (put_each cs l)
    commit-keeps l is k h =
        (λ i. renew_over (clean_spec spec) n (put_each cs l) (match-cleared i) (sym h i)) ∙ edited-afresh (clean_spec spec) n cs l

-- two lists that match the same cells are the same numbers
pub match-once : (spec : TurnStockSpec) (cs : List Float) (n : ℕ) → HeldSpec spec → HeldList cs → stock_of spec cs ≡ answers n → (bs bs' : List Float) → HeldList bs → HeldList bs' → matches_of (clean_spec spec) n cs bs ≡ true → matches_of (clean_spec spec) n cs bs' ≡ true
    → map clean_of bs ≡ map clean_of bs'
match-once spec cs n hs hc e bs bs' hb hb' m m' = match-cleared spec cs n hs hc e bs hb m ∙ sym (match-cleared spec cs n hs hc e bs' hb' m')
