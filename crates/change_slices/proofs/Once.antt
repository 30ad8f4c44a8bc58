-- Two outcomes that meet the promise of a call, of the same inputs, are the same. Assumes nothing.
use Rattle.std.specs.Prelude.{Result}
use mathlib.Core.Path.{◌≡◌, sym, ap, ◌∙◌}
use mathlib.Core.List.{List}
use Prim.Native.Nat.{ℕ}
use lib.Ieee.{Float}
use Rattle.refusals.specs.declared.Refused.{Refused}
use Rattle.refusals.specs.declared.Refusal.{Refusal}
use Rattle.refusals.specs.Paper.{Paper}
use Rattle.refusals.specs.Lent.{over}
use Rattle.stock.specs.declared.TurnChange.{TurnChange}
use Rattle.stock.specs.declared.Stamp.{Stamp}
use Rattle.stock.specs.declared.TurnStock.{TurnStock}
use Rattle.changes.specs.declared.ChangeList.{ChangeList}
use Rattle.changes.specs.Change.{changes_from}
use Rattle.changes.proofs.Proposals.{same-previewed}
use Rattle.changes.specs.Commit.{Committed, AppliesKept}
use Rattle.moves.proofs.Once.{same_placed}
use Rattle.change_slices.specs.Read.{Reads}
use Rattle.change_slices.specs.Proposal.{Written}

-- ---- a commit

-- the answer, the cells and the kept numbers
pub applied-once : (k : TurnStock) (p : Paper Committed) (r r' : Result TurnStock Refused) (cs cs₁ cs₂ bs bs₁ bs₂ : List Float) → AppliesKept k p r cs cs₁ bs bs₁ → AppliesKept k p r' cs cs₂ bs bs₂ → (r ≡ r') × (cs₁ ≡ cs₂) × (bs₁ ≡ bs₂)
applied-once k p r r' cs cs₁ cs₂ bs bs₁ bs₂ a b = (same_placed r r' (a.left.answer ∙ sym b.left.answer), a.left.cells ∙ sym b.left.cells, a.kept ∙ sym b.kept)

-- ---- records read from flat lists: how many, and the records
pub read-once : (is : List ℕ) (xs : List Float) (k r r' : ℕ) (l l₁ l₂ : List TurnChange) → Reads is xs k r l l₁ → Reads is xs k r' l l₂ → (r ≡ r') × (l₁ ≡ l₂)
read-once is xs k r r' l l₁ l₂ a b =
    let e : r ≡ r' = a.count ∙ sym b.count in
    (e, a.records ∙ ap (λ (m : ℕ). over (changes_from is xs m) l) e ∙ sym b.records)

-- ---- records after a proposal: the answer, and the records
pub written_once : (st : Stamp) (p : Paper (List TurnChange)) (r r' : Result ChangeList Refusal) (l l₁ l₂ : List TurnChange) → Written st p r l l₁ → Written st p r' l l₂ → (r ≡ r') × (l₁ ≡ l₂)
written_once st p r r' l l₁ l₂ a b = (same-previewed r r' (a.answer ∙ sym b.answer), a.records ∙ sym b.records)
