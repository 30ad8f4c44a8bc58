-- What a stock from parts answers and stores, by what its rule says. Assumes nothing.
use Rattle.std.specs.Prelude.{None, Some, Result, Err}
use mathlib.Core.Path.{◌≡◌, sym, ap, ◌∙◌, subst}
use mathlib.Core.List.{List}
use Prim.Native.Nat.{ℕ, ◌*◌}
use lib.ListN.{length}
use lib.Ieee.{Float}
use Rattle.refusals.specs.declared.Refused.{Refused}
use Rattle.refusals.specs.declared.Refusal.{Refusal}
use Rattle.refusals.specs.declared.Refusal.TheVariants.{RingOutside, BlocksDoNotMatch}
use Rattle.refusals.specs.Number.{reason_of, reason_at, reason_in, refused_of, refused_at, placed_of}
use Rattle.refusals.specs.Paper.{Paper, answers, refuses, onward, onward-answers, onward-refuses, demand_none-some, demand_none-none}
use Rattle.stock.specs.declared.TurnStockSpec.{TurnStockSpec}
use Rattle.stock.specs.declared.TurnStock.{TurnStock}
use Rattle.stock.specs.Cell.{stock_of}
use Rattle.blocks.specs.Block.{blocks_in}
use Rattle.blocks.proofs.Renewing.{renew-refused, renew-count, renew-goes}
use Rattle.rings.specs.declared.Ring.{Ring}
use Rattle.rings.specs.Store.{bad_ring}
use Rattle.rings.specs.Remove.{remove_rings, StoresAs}
use Rattle.rings.proofs.Adding.{stores-none, stores-refused}
use Rattle.moves.specs.Move.{given_of, parts_of, stock_stored, Rebuilds}
use Rattle.moves.specs.Then.{stored_kept}
use Rattle.moves.proofs.Kept.{rebuilt-keeps}

-- ---- the rings given
module _ (spec : TurnStockSpec) (given xs : List Float) where
  -- 10
  pub given-outside : (k : ℕ) (r : Refused) → r ≡ refused_at RingOutside k → bad_ring given ≡ Some k → StoresAs xs (given_of spec given xs) (Err r) xs
  unfolding given_of
  given-outside k r a f = stores-none xs (given_of spec given xs) (Err r) (reason_at RingOutside k) (ap (λ (c : Refused). refuses (reason_in c)) a) (demand_none-some _ _ _ _ f)

  -- past it, into an empty store
  pub given-stored : (r : Result ℕ Refused) (xs' : List Float) → bad_ring given ≡ None → StoresAs xs (remove_rings spec xs 0 given) r xs' → StoresAs xs (given_of spec given xs) r xs'
  unfolding given_of
  given-stored r xs' f s = subst (λ (p : Paper (List Ring)). StoresAs xs p r xs') (sym (demand_none-none _ _ _ f)) s

-- ---- with the cells
module _ (spec : TurnStockSpec) (cs : List Float) (len : ℕ) (given xs : List Float) where
  -- 1, 2, 3
  pub parts-refused : (x : Refusal) (r : Result ℕ Refused) → placed_of r ≡ refuses (reason_of x) → stock_of spec cs ≡ refuses (reason_of x) → StoresAs xs (parts_of spec cs len given xs) r xs
  unfolding parts_of
  parts-refused x r a e = stores-none xs (parts_of spec cs len given xs) r (reason_of x) a (ap (λ (p : Paper ℕ). onward p (λ _. given_of spec given xs)) (sym (renew-refused spec cs len (reason_of x) e)) ∙ onward-refuses (reason_of x) (λ _. given_of spec given xs))

  module _ (n b : ℕ) (e : stock_of spec cs ≡ answers n) (c : b ≡ blocks_in n) where
    -- 20
    pub parts-count : (r : Refused) → r ≡ refused_of BlocksDoNotMatch → (len ≡ 2 * b → ⊥) → StoresAs xs (parts_of spec cs len given xs) (Err r) xs
    unfolding parts_of
    parts-count r a f = stores-refused xs (parts_of spec cs len given xs) r BlocksDoNotMatch a (ap (λ (p : Paper ℕ). onward p (λ _. given_of spec given xs)) (sym (renew-count spec cs len n b e c f)) ∙ onward-refuses (reason_of BlocksDoNotMatch) (λ _. given_of spec given xs))

    -- past them, the rings given
    pub parts-stored : (r : Result ℕ Refused) (xs' : List Float) → len ≡ 2 * b → StoresAs xs (given_of spec given xs) r xs' → StoresAs xs (parts_of spec cs len given xs) r xs'
    unfolding parts_of
    parts-stored r xs' f s = subst (λ (p : Paper (List Ring)). StoresAs xs p r xs') (sym (ap (λ (p : Paper ℕ). onward p (λ _. given_of spec given xs)) (sym (renew-goes spec cs len n b e c f)) ∙ onward-answers n (λ _. given_of spec given xs))) s

-- from the count of rings to the stock that has them
pub rebuilds-from : (spec : TurnStockSpec) (edition : ℕ) (cs given xs bs bs' ys : List Float) (t : Result ℕ Refused) (r : Result TurnStock Refused) → placed_of r ≡ stock_stored spec edition (placed_of t) → StoresAs xs (parts_of spec cs (length bs) given xs) t ys → bs' ≡ stored_kept t spec cs bs
    → Rebuilds spec edition cs (parts_of spec cs (length bs) given xs) r bs bs' xs ys
rebuilds-from spec edition cs given xs bs bs' ys t r e s q = record { answer = e ∙ ap (stock_stored spec edition) s.answer; kept = rebuilt-keeps spec cs given xs bs bs' ys t s q; store = s.store }
