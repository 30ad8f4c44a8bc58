-- A rule that goes on with what another answers, and answers itself. Assumes nothing.
use mathlib.Core.Path.{◌≡◌, refl}
use Prim.Native.Nat.{ℕ}
use Rattle.refusals.specs.Paper.{Paper, answers, refuses, at, placed, onward}
use Rattle.stock.proofs.Count.{no_answer}

-- where a rule that goes on answers, both of its parts do
pub record Answered {A B : Type 0} (p : Paper A) (f : A → Paper B) (b : B) : Type 0 where
  pub value : A
  pub first : p ≡ answers value
  pub then : f value ≡ answers b

pub answered : {A B : Type 0} (p : Paper A) (f : A → Paper B) (b : B) → onward p f ≡ answers b → Answered p f b
unfolding onward
answered (answers a) f b h = record { value = a; first = refl; then = h }
answered (refuses n) f b h = absurd (no_answer n b h)

-- an answer with a place for its refusals is that answer
pub unplaced : {A : Type 0} (k : ℕ) (p : Paper A) (a : A) → placed k p ≡ answers a → p ≡ answers a
unfolding placed
unplaced k (answers b) a h = h
unplaced k (refuses r) a h = absurd (no_answer (at r.number k) a h)
