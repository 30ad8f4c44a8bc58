-- Two outcomes that meet the promise of a call are the same. Assumes nothing.
use Rattle.std.specs.Prelude.{Err, Ok, Result}
use Prim.Native.Nat.{ℕ}
use mathlib.Core.Path.{◌≡◌, sym, ap, ◌∙◌}
use mathlib.Core.List.{List}
use Rattle.refusals.specs.Number.{paper_of}
use Rattle.refusals.specs.declared.Refusal.{Refusal}
use Rattle.refusals.specs.Paper.{Paper, Reason, refuses}
use Rattle.refusals.proofs.OneToOne.{one-to-one}
use Rattle.stock.proofs.Count.{same_answer, no_answer}
use Rattle.text.specs.Wrote.{Wrote}

-- the reason of a refusal
reason : {A : Type 0} {u v : Reason} → ◌≡◌ {A = Paper A} (refuses u) (refuses v) → u ≡ v
reason {A} {u} {v} e = cc

-- `compare`
pub same-compared : (r r' : Result ℕ Refusal) → paper_of r ≡ paper_of r' → r ≡ r'
same-compared (Ok n) (Ok m) h = ap Ok (same_answer h)
same-compared (Ok n) (Err d) h = absurd (no_answer _ _ (sym h))
same-compared (Err c) (Ok m) h = absurd (no_answer _ _ h)
same-compared (Err c) (Err d) h = ap Err (one-to-one c d (ap (λ (x : Reason). x.number) (reason h)))

-- `chunk`: its answer and the buffer
pub chunk-once : (l t : List ℕ) (r r' : ℕ) (m m' : List ℕ) → Wrote l 0 t m r → Wrote l 0 t m' r' → (r ≡ r') × (m ≡ m')
chunk-once l t r r' m m' a b = (a.end ∙ sym b.end, a.text ∙ sym b.text)
