-- What `renew` answers and leaves, by what its rule says. Assumes nothing.
use Rattle.std.specs.Prelude.{Ok, Result}
use mathlib.Core.Path.{◌≡◌, sym, ap, ◌∙◌}
use mathlib.Core.List.{List}
use Prim.Native.Nat.{ℕ, ◌*◌}
use Rattle.refusals.specs.Number.{paper_of}
use Rattle.refusals.specs.declared.Refusal.{Refusal}
use borrow.Author.Tests.{eq-eqb, ne_eqb}
use lib.ListN.{length}
use lib.Ieee.{Float}
use Rattle.refusals.specs.Paper.{Paper, Reason, answers, refuses, only, papers}
use Rattle.stock.specs.declared.TurnStockSpec.{TurnStockSpec}
use Rattle.stock.specs.Spec.{clean_spec}
use Rattle.stock.specs.Cell.{stock_of}
use Rattle.blocks.specs.Block.{blocks_in, blocks_of}
use Rattle.blocks.specs.Renew.{renew_of, blocks_after, Renewed}

module _ (spec : TurnStockSpec) (cs : List Float) where
  -- refused as the stock is
  pub renew-refused : (len : ℕ) (k : Reason) → stock_of spec cs ≡ refuses k → refuses k ≡ renew_of spec cs len
  unfolding renew_of
  renew-refused len k e = simp (papers, e)

  -- 20 for a wrong count
  pub renew-count : (len n b : ℕ) → stock_of spec cs ≡ answers n → b ≡ blocks_in n → (len ≡ 2 * b → ⊥) → refuses (only 20) ≡ renew_of spec cs len
  unfolding renew_of
  renew-count len n b e eb h = simp (papers, e, ne_eqb len (2 * blocks_in n) (λ k. h (k ∙ ap (λ (m : ℕ). 2 * m) (sym eb))))

  pub renew-goes : (len n b : ℕ) → stock_of spec cs ≡ answers n → b ≡ blocks_in n → len ≡ 2 * b → answers n ≡ renew_of spec cs len
  unfolding renew_of
  renew-goes len n b e eb h = simp (papers, e, eq-eqb len (2 * blocks_in n) (h ∙ ap (λ (m : ℕ). 2 * m) eb))

  -- a refusal leaves the numbers
  pub stays : (bs : List Float) (r : Result ℕ Refusal) (k : Reason) → paper_of r ≡ refuses k → refuses k ≡ renew_of spec cs (length bs) → Renewed spec cs r bs bs
  stays bs r k er e = record { answer = er ∙ e; numbers = ap (λ (p : Paper ℕ). blocks_after spec cs p bs) e }

  pub made : (bs bs' : List Float) (n : ℕ) → answers n ≡ renew_of spec cs (length bs) → bs' ≡ blocks_of (clean_spec spec) n cs → Renewed spec cs (Ok n) bs bs'
  made bs bs' n e h = record { answer = e; numbers = h ∙ ap (λ (p : Paper ℕ). blocks_after spec cs p bs) e }
