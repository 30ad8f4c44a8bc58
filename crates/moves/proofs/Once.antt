-- Two outcomes that meet the promise of a call, of the same inputs, are the same. Assumes nothing.
use Rattle.std.specs.Prelude.{Err, Ok, Option, Result}
use mathlib.Core.Path.{◌≡◌, sym, ap, ap₂, ◌∙◌}
use mathlib.Core.List.{List}
use Prim.Native.Nat.{ℕ}
use Rattle.refusals.specs.declared.Refused.{Refused}
use lib.Ieee.{Float}
use Rattle.refusals.specs.declared.Refusal.{Refusal}
use Rattle.refusals.specs.Number.{reason_in, placed_of}
use Rattle.refusals.specs.Paper.{Paper, Reason}
use Rattle.refusals.proofs.OneToOne.{one-to-one}
use Rattle.stock.specs.declared.TurnStockSpec.{TurnStockSpec}
use Rattle.stock.specs.declared.TurnStock.{TurnStock}
use Rattle.stock.proofs.Count.{no_answer, same_answer}
use Rattle.rings.specs.declared.Ring.{Ring}
use Rattle.rings.specs.Remove.{StoresAs}
use Rattle.moves.specs.Move.{Left, MovesKept, MovesTold, Rebuilds, RebuildsTold}

-- two answers of one meaning on paper are one answer
pub same_placed : {A : Type 0} (r r' : Result A Refused) → placed_of r ≡ placed_of r' → r ≡ r'
same_placed (Ok a) (Ok b) h = ap Ok (same_answer h)
same_placed (Ok a) (Err c) h = absurd (no_answer (reason_in c) a (sym h))
same_placed (Err c) (Ok a) h = absurd (no_answer (reason_in c) a h)
same_placed (Err c) (Err d) h =
    let e : reason_in c ≡ reason_in d = cc in
    ap₂ (λ (w : Refusal) (k : Option ℕ). let x : Refused = record { why = w; place = k } in Err x) (one-to-one c.why d.why (ap (λ (x : Reason). x.number) e)) (ap (λ (x : Reason). x.place) e)

-- ---- a move

-- the answer, the cells, the kept numbers and the rings
pub moved-once : (k : TurnStock) (p : Paper Left) (r r' : Result TurnStock Refused) (cs cs₁ cs₂ bs bs₁ bs₂ xs xs₁ xs₂ : List Float) → MovesKept k p r cs cs₁ bs bs₁ xs xs₁ → MovesKept k p r' cs cs₂ bs bs₂ xs xs₂ → (r ≡ r') × (cs₁ ≡ cs₂) × (bs₁ ≡ bs₂) × (xs₁ ≡ xs₂)
moved-once k p r r' cs cs₁ cs₂ bs bs₁ bs₂ xs xs₁ xs₂ a b =
    (same_placed r r' (a.left.answer ∙ sym b.left.answer), a.left.cells ∙ sym b.left.cells, a.kept ∙ sym b.kept, a.left.rings ∙ sym b.left.rings)

-- the same, and the tests
pub moved-told-once : (k : TurnStock) (p : Paper Left) (removed : List Float) (r r' : Result TurnStock Refused) (cs cs₁ cs₂ bs bs₁ bs₂ xs xs₁ xs₂ : List Float) (ts ts₁ ts₂ : List ℕ) → MovesTold k p removed r cs cs₁ bs bs₁ xs xs₁ ts ts₁ → MovesTold k p removed r' cs cs₂ bs bs₂ xs xs₂ ts ts₂
    → (r ≡ r') × (cs₁ ≡ cs₂) × (bs₁ ≡ bs₂) × (xs₁ ≡ xs₂) × (ts₁ ≡ ts₂)
moved-told-once k p removed r r' cs cs₁ cs₂ bs bs₁ bs₂ xs xs₁ xs₂ ts ts₁ ts₂ a b =
    let o = moved-once k p r r' cs cs₁ cs₂ bs bs₁ bs₂ xs xs₁ xs₂ a.moves b.moves in
    (o.0, o.1, o.2, o.3, a.tests ∙ sym b.tests)

-- ---- a list of rings stored
-- the answer and the rings
pub stored-once : (p : Paper (List Ring)) (r r' : Result ℕ Refused) (xs xs₁ xs₂ : List Float) → StoresAs xs p r xs₁ → StoresAs xs p r' xs₂ → (r ≡ r') × (xs₁ ≡ xs₂)
stored-once p r r' xs xs₁ xs₂ a b = (same_placed r r' (a.answer ∙ sym b.answer), a.store ∙ sym b.store)

-- ---- a stock from its parts
-- the answer, the kept numbers and the rings
pub rebuilt-once : (spec : TurnStockSpec) (edition : ℕ) (cs : List Float) (p : Paper (List Ring)) (r r' : Result TurnStock Refused) (bs bs₁ bs₂ xs xs₁ xs₂ : List Float) → Rebuilds spec edition cs p r bs bs₁ xs xs₁ → Rebuilds spec edition cs p r' bs bs₂ xs xs₂
    → (r ≡ r') × (bs₁ ≡ bs₂) × (xs₁ ≡ xs₂)
rebuilt-once spec edition cs p r r' bs bs₁ bs₂ xs xs₁ xs₂ a b = (same_placed r r' (a.answer ∙ sym b.answer), a.kept ∙ sym b.kept, a.store ∙ sym b.store)

-- the same, and the tests
pub rebuilt-told-once : (spec : TurnStockSpec) (edition : ℕ) (cs : List Float) (p : Paper (List Ring)) (given : List Float) (r r' : Result TurnStock Refused) (bs bs₁ bs₂ xs xs₁ xs₂ : List Float) (ts ts₁ ts₂ : List ℕ) → RebuildsTold spec edition cs p given r bs bs₁ xs xs₁ ts ts₁
    → RebuildsTold spec edition cs p given r' bs bs₂ xs xs₂ ts ts₂ → (r ≡ r') × (bs₁ ≡ bs₂) × (xs₁ ≡ xs₂) × (ts₁ ≡ ts₂)
rebuilt-told-once spec edition cs p given r r' bs bs₁ bs₂ xs xs₁ xs₂ ts ts₁ ts₂ a b =
    let o = rebuilt-once spec edition cs p r r' bs bs₁ bs₂ xs xs₁ xs₂ a.rebuilds b.rebuilds in
    (o.0, o.1, o.2, a.tests ∙ sym b.tests)
