-- The numbers that are kept beside the cells, as the calls that make or renew them leave them. Assumes nothing.
use Rattle.std.specs.Prelude.{Result}
use mathlib.Core.Path.{◌≡◌, refl, sym, ap, ◌∙◌, subst}
use mathlib.Core.Bool.{true}
use mathlib.Core.List.{List}
use Prim.Native.Nat.{ℕ, ◌*◌, ◌/◌}
use native.Mathlib.Omega.{arith}
use borrow.Author.Tests.{eq-eqb, ne_eqb}
use lib.Dec.{eqb}
use lib.ListN.{length}
use lib.Ieee.{Float}
use Rattle.refusals.specs.declared.Refusal.{Refusal}
use Rattle.refusals.specs.Number.{number_of, reason_of, paper_of}
use Rattle.refusals.specs.Paper.{Paper, Reason, answers, refuses, only, demand, onward, papers}
use Rattle.floats.specs.Pick.{pick_true}
use Rattle.stock.specs.declared.TurnStockSpec.{TurnStockSpec}
use Rattle.stock.specs.declared.TurnStock.{TurnStock}
use Rattle.stock.specs.Spec.{clean_spec, cells_of}
use Rattle.stock.specs.Cell.{new_of, new_cells, fresh_cell, cells_like, stock_of}
use Rattle.stock.specs.Stock.{new_stock, stock_made, Filled}
use Rattle.stock.proofs.Cells.{length-like}
use Rattle.stock.proofs.Count.{same_answer, no_answer, demanded, stock-length}
use Rattle.blocks.specs.Block.{blocks_in, blocks_of}
use Rattle.blocks.specs.Renew.{renewed_all, renew_of, blocks_after, Renewed}
use Rattle.turning.specs.Boundary.{code_of, out_of, kept_out, new_kept, Gives, GivesCells, GivesBlocks, generation_in}

-- ---- so many lent numbers beside the cells that a rule counts
pub record Counts (p : Paper ℕ) (len n : ℕ) : Type 0 where
  pub cells : p ≡ answers n
  pub kept : eqb len (2 * blocks_in n) ≡ true

pub counts : (p : Paper ℕ) (len n : ℕ) → onward p (λ m. demand (eqb len (2 * blocks_in m)) 20 (answers m)) ≡ answers n → Counts p len n
unfolding onward
counts (answers m) len n h =
    let d = demanded (eqb len (2 * blocks_in m)) 20 (answers m) n h in
    subst (λ (k : ℕ). Counts (answers m) len k) (same_answer d.1) (record { cells = refl; kept = d.0 })
counts (refuses r) len n h = absurd (no_answer r n h)

-- ---- the room for a new stock
module _ (spec : TurnStockSpec) (cells blocks : ℕ) where
  pub room-refused : (k : Reason) → cells_of spec ≡ refuses k → refuses k ≡ new_kept spec cells blocks
  unfolding new_kept new_of
  room-refused k e = simp (papers, e)

  pub room-cells : (n : ℕ) → cells_of spec ≡ answers n → (cells ≡ 4 * n → ⊥) → refuses (only 3) ≡ new_kept spec cells blocks
  unfolding new_kept new_of
  room-cells n e h = simp (papers, e, ne_eqb cells (4 * n) h)

  pub room-blocks : (n b : ℕ) → cells_of spec ≡ answers n → cells ≡ 4 * n → b ≡ blocks_in n → (blocks ≡ 2 * b → ⊥) → refuses (only 20) ≡ new_kept spec cells blocks
  unfolding new_kept new_of
  room-blocks n b e h eb k = simp (papers, e, eq-eqb cells (4 * n) h, ne_eqb blocks (2 * blocks_in n) (λ q. k (q ∙ ap (λ (m : ℕ). 2 * m) (sym eb))))

  pub room-held : (n b : ℕ) → cells_of spec ≡ answers n → cells ≡ 4 * n → b ≡ blocks_in n → blocks ≡ 2 * b → answers n ≡ new_kept spec cells blocks
  unfolding new_kept new_of
  room-held n b e h eb k = simp (papers, e, eq-eqb cells (4 * n) h, eq-eqb blocks (2 * blocks_in n) (k ∙ ap (λ (m : ℕ). 2 * m) eb))

-- ---- a new stock
pub no_cells : (spec : TurnStockSpec) (c : Refusal) (r : ℕ) (cs bs : List Float) (g : ℕ) → new_kept spec (length cs) (length bs) ≡ refuses (reason_of c) → r ≡ number_of c → GivesCells spec (new_kept spec (length cs) (length bs)) r cs cs bs bs g g
no_cells spec c r cs bs g e h = subst (λ (p : Paper ℕ). GivesCells spec p r cs cs bs bs g g) (sym e) (record { code = h; cells = refl; kept = refl; generation = refl })

pub gives-cells : (spec s : TurnStockSpec) (edition n : ℕ) (a : Result TurnStock Refusal) (r : ℕ) (cs cs' bs bs' : List Float) (g g' : ℕ) → new_kept spec (length cs) (length bs) ≡ answers n → Filled spec edition a cs cs' → s ≡ clean_spec spec → bs' ≡ renewed_all s n cs' bs
    → Gives (generation_in (paper_of a)) r g g' → GivesCells spec (new_kept spec (length cs) (length bs)) r cs cs' bs bs' g g'
unfolding new_kept renewed_all
gives-cells spec s edition n a r cs cs' bs bs' g g' e f es k h =
    let w = counts (new_of spec (length cs)) (length bs) n e in
    let made : paper_of a ≡ answers (new_stock spec edition) = f.answer ∙ ap (stock_made spec edition) w.cells in
    let fresh : cs' ≡ cells_like (fresh_cell (clean_spec spec)) n = f.cells ∙ ap (λ (p : Paper ℕ). new_cells spec p cs) w.cells in
    let long : length cs' ≡ 4 * n = ap length fresh ∙ length-like (fresh_cell (clean_spec spec)) n in
    let bins : n ≡ length cs' / 4 = omega (arith, long) in
    subst (λ (p : Paper ℕ). GivesCells spec p r cs cs' bs bs' g g') (sym e)
    (record {
      code = h.code ∙ ap (λ (p : Paper TurnStock). code_of (generation_in p)) made;
      cells = fresh;
      kept = k ∙ ap (λ (x : TurnStockSpec). renewed_all x n cs' bs) es ∙ pick_true _ _ _ w.kept ∙ ap (λ (m : ℕ). blocks_of (clean_spec spec) m cs') bins;
      generation = h.out ∙ ap (λ (p : Paper TurnStock). out_of (λ (m : ℕ). m) (generation_in p) g) made;
    })

-- ---- numbers that are renewed
pub gives-blocks : (spec : TurnStockSpec) (cs : List Float) (a : Result ℕ Refusal) (r : ℕ) (bs bs' : List Float) → r ≡ code_of (paper_of a) → Renewed spec cs a bs bs' → GivesBlocks spec cs (renew_of spec cs (length bs)) r bs bs'
unfolding renew_of
gives-blocks spec cs a r bs bs' h q = record { code = h ∙ ap code_of q.answer; kept = q.numbers ∙ by (renew_of spec cs (length bs)) refl }
  where
    by : (p : Paper ℕ) → renew_of spec cs (length bs) ≡ p → blocks_after spec cs p bs ≡ kept_out spec cs p bs
    by (answers n) e =
        let long : length cs ≡ 4 * n = stock-length spec cs n (counts (stock_of spec cs) (length bs) n e).cells in
        let bins : n ≡ length cs / 4 = omega (arith, long) in
        ap (λ (m : ℕ). blocks_of (clean_spec spec) m cs) bins
    by (refuses k) e = refl

-- ---- the spec that a call makes of its six numbers
module _ (s s' : TurnStockSpec) where
  pub same_new : (r : ℕ) (cs cs' bs bs' : List Float) (g g' : ℕ) → s ≡ s' → GivesCells s (new_kept s (length cs) (length bs)) r cs cs' bs bs' g g' → GivesCells s' (new_kept s' (length cs) (length bs)) r cs cs' bs bs' g g'
  same_new r cs cs' bs bs' g g' e q = subst (λ (x : TurnStockSpec). GivesCells x (new_kept x (length cs) (length bs)) r cs cs' bs bs' g g') e q

  pub same_blocks : (cs : List Float) (r : ℕ) (bs bs' : List Float) → s ≡ s' → GivesBlocks s cs (renew_of s cs (length bs)) r bs bs' → GivesBlocks s' cs (renew_of s' cs (length bs)) r bs bs'
  same_blocks cs r bs bs' e q = subst (λ (x : TurnStockSpec). GivesBlocks x cs (renew_of x cs (length bs)) r bs bs') e q
