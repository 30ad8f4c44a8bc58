-- Cuts made in turn, one by one: what stands after each, and where a refusal ends them. Assumes nothing.
use Rattle.std.specs.Prelude.{Err, Ok, Result}
use mathlib.Core.Path.{◌≡◌, refl, sym, ap, ◌∙◌, subst}
use mathlib.Core.List.{List, []}
use Prim.Native.Nat.{ℕ, suc, ◌+◌, ◌<◌}
use Rattle.refusals.specs.declared.Refused.{Refused}
use native.Mathlib.Numerals.{add-one}
use native.Mathlib.Omega.{arith}
use lib.Ieee.{Float}
use Rattle.refusals.specs.declared.Refusal.{Refusal}
use Rattle.refusals.specs.Number.{number_of, reason_at, reason_in, refused_at, placed_of}
use Rattle.refusals.specs.Paper.{Paper, Reason, answers, refuses, at, placed, onward, onward-answers, onward-refuses, placed-answers, placed-refuses}
use Rattle.stock.specs.declared.TurnStockSpec.{TurnStockSpec}
use Rattle.stock.specs.declared.TurnStock.{TurnStock}
use Rattle.stock.specs.Stock.{stock_with}
use Rattle.stock.proofs.Count.{no_answer, same_answer}
use Rattle.changes.specs.Commit.{Committed, generation_of, stock_at, cells_after, Applies}
use Rattle.cuts.specs.declared.Tool.{Tool}
use Rattle.passes.specs.Cuts.{Cuts, Pass, cuts_of, pass_of, standing, pass_at, pass_turned, turned_to}
use Rattle.passes.specs.Steps.{Turns}
use Rattle.passes.proofs.Loops.{stays}
use Rattle.passes.proofs.Decoded.{pass-is, beside-any}

-- a cut read from the lists, and made
pub made_at : (k : TurnStock) (ks : List ℕ) (xs : List Float) (ps : List ℕ) (ls : List Float) (j : ℕ) (t : Tool) (ys : List Float) (c : Committed) (r : Result TurnStock Refused) (cs cs' : List Float) → t ≡ (pass_at (cuts_of ks xs ps ls) j).tool → ys ≡ (pass_at (cuts_of ks [] ps ls) j).beside
    → Applies k (pass_turned k.spec (pass_of t ys) c) r cs cs' → Applies k (pass_turned k.spec (pass_at (cuts_of ks xs ps ls) j) c) r cs cs'
made_at k ks xs ps ls j t ys c r cs cs' et ey a = subst (λ (p : Pass). Applies k (pass_turned k.spec p c) r cs cs') (pass-is (cuts_of ks xs ps ls) j t ys et (ey ∙ beside-any ks xs ps ls j)) a

-- a commit that answered with a stock
record Went (s next : TurnStock) (p : Paper Committed) (cs' : List Float) : Type 0 where
  paper : p ≡ answers (standing next cs')
  stock : next ≡ stock_with s s.rings next.stamp.generation

went : (s next : TurnStock) (cs cs' : List Float) (p : Paper Committed) → answers next ≡ stock_at s (generation_of p) → cs' ≡ cells_after p cs → Went s next p cs'
went s next cs cs' (answers c) e f =
    let is : next ≡ stock_with s s.rings c.generation = same_answer e in
    let g : c.generation ≡ next.stamp.generation = sym (ap (λ (k : TurnStock). k.stamp.generation) is) in
    record {
      paper = ap (λ (x : List Float). answers (record { cells = x; generation = c.generation })) (sym f) ∙ ap (λ (m : ℕ). answers (record { cells = cs'; generation = m })) g;
      stock = is ∙ ap (stock_with s s.rings) g;
    }
went s next cs cs' (refuses r) e f = absurd (no_answer r next (sym e))

-- one that refused
pub stopped : (s : TurnStock) (p : Paper Committed) (q : Reason) → refuses q ≡ stock_at s (generation_of p) → p ≡ refuses q
stopped s (answers c) q e = absurd (no_answer q (stock_with s s.rings c.generation) e)
stopped s (refuses r) q e = cc

module _ (k : TurnStock) (ls : Cuts) (cs : List Float) where
  -- after the first j cuts, none refused: the stock and its cells
  pub record Stand (j : ℕ) (s : TurnStock) (es : List Float) : Type 0 where
    pub stock : s ≡ stock_with k k.rings s.stamp.generation
    pub turned : turned_to k.spec ls (standing k cs) j ≡ answers (standing s es)

  pub stands : Stand 0 k cs
  unfolding turned_to
  stands = record { stock = refl; turned = refl }

  module _ (j : ℕ) (s : TurnStock) (es : List Float) (st : Stand j s es) where
    next-is : turned_to k.spec ls (standing k cs) (suc j) ≡ placed j (pass_turned s.spec (pass_at ls j) (standing s es))
    unfolding turned_to
    next-is =
        ap (λ (p : Paper Committed). onward p (λ d. placed j (pass_turned k.spec (pass_at ls j) d))) st.turned
        ∙ onward-answers (standing s es) _
        ∙ ap (λ (x : TurnStockSpec). placed j (pass_turned x (pass_at ls j) (standing s es))) (sym (ap (λ (x : TurnStock). x.spec) st.stock))

    -- the next cut is accepted
    pub stands_on : (r : Result TurnStock Refused) (next : TurnStock) (es' : List Float) → Applies s (pass_turned s.spec (pass_at ls j) (standing s es)) r es es' → r ≡ Ok next → Stand (j + 1) next es'
    stands_on r next es' a e =
        let w = went s next es es' _ (sym (ap placed_of e) ∙ a.answer) a.cells in
        record {
          stock = w.stock ∙ ap (λ (x : TurnStock). stock_with x x.rings next.stamp.generation) st.stock;
          turned = ap (turned_to k.spec ls (standing k cs)) (add-one j) ∙ next-is ∙ ap (placed j) w.paper ∙ placed-answers j (standing next es');
        }

    -- it is refused: that is the answer of all
    pub stands-no-more : (r : Result TurnStock Refused) (q : Reason) (c : Refusal) (es' : List Float) (m : ℕ) (f : Refused) → f ≡ refused_at c j → j < m → Applies s (pass_turned s.spec (pass_at ls j) (standing s es)) r es es' → placed_of r ≡ refuses q → q.number ≡ number_of c → Turns k (turned_to k.spec ls (standing k cs) m) (Err f) es'
    unfolding turned_to
    stands-no-more r q c es' m y ey h a e f =
        let p = next-is ∙ ap (placed j) (stopped s _ q (sym e ∙ a.answer)) ∙ placed-refuses j q ∙ ap (λ (x : ℕ). refuses (at x j)) f in
        let all = stays (turned_to k.spec ls (standing k cs)) (refuses (reason_at c j)) (λ (i : ℕ) (u : turned_to k.spec ls (standing k cs) i ≡ refuses (reason_at c j)). ap (λ (x : Paper Committed). onward x (λ d. placed i (pass_turned k.spec (pass_at ls i) d))) u ∙ onward-refuses (reason_at c j) _) (suc j) m (omega arith) p in
        record {
          answer = ap (λ (x : Refused). refuses (reason_in x)) ey ∙ sym (ap (λ (x : Paper Committed). stock_at k (generation_of x)) all);
          cells = λ d u. absurd (no_answer (reason_at c j) d (sym all ∙ u));
        }

    -- there is no next
    pub stands-last : (m : ℕ) → j ≡ m → Turns k (turned_to k.spec ls (standing k cs) m) (Ok s) es
    stands-last m e =
        let all = ap (turned_to k.spec ls (standing k cs)) (sym e) ∙ st.turned in
        record {
          answer = ap answers st.stock ∙ sym (ap (λ (x : Paper Committed). stock_at k (generation_of x)) all);
          cells = λ d u. ap (λ (x : Committed). x.cells) (same_answer (sym all ∙ u));
        }
