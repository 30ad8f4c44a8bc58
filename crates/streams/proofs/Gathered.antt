-- What is promised of bytes that are put, case by case. Assumes nothing.
use mathlib.Core.Path.{◌≡◌, sym, ap, ◌∙◌}
use mathlib.Core.Bool.{Bool, true, false, true≢false}
use mathlib.Core.List.{List, [], ◌++◌, append-nil}
use Prim.Native.Nat.{ℕ, ◌+◌}
use native.Mathlib.Nat.{zero-add}
use lib.ListN.{length, take}
use Rattle.streams.specs.Moves.{Puts}
use Rattle.streams.specs.declared.Out.{Out}

-- a write has failed
pub stops : {out : Out} {buf bytes : List ℕ} {r : Out} {buf' : List ℕ} → r.failed ≡ true → Puts out buf bytes r buf'
stops f = record { stopped = λ e. f; gathers = λ e. absurd (true≢false (sym f ∙ e)) }

module _ {out : Out} (buf bytes : List ℕ) (f : out.failed ≡ false) where
  -- so many bytes are handed on, and the others are left
  goes : {r : Out} {buf' : List ℕ} (handed : List ℕ) → handed ++ take r.len buf' ≡ take out.len buf ++ bytes → Puts out buf bytes r buf'
  goes handed s = record { stopped = λ e. absurd (true≢false (sym e ∙ f)); gathers = λ e. record { handed = handed; split = s } }

  -- none is handed on
  pub keeps : {r : Out} {buf' : List ℕ} (m : ℕ) → take m buf ≡ take out.len buf → take r.len buf' ≡ take m buf ++ bytes → Puts out buf bytes r buf'
  keeps m e s = goes [] (s ∙ ap (λ (l : List ℕ). l ++ bytes) e)

  -- those that were gathered are
  pub turns : {o : Bool} (buf' : List ℕ) → take (0 + length bytes) buf' ≡ bytes → Puts out buf bytes (record { len = length bytes; failed = o }) buf'
  turns buf' s = goes (take out.len buf) (ap (λ (l : List ℕ). take out.len buf ++ l) (ap (λ (n : ℕ). take n buf') (sym (zero-add (length bytes))) ∙ s))

  -- all are
  pub empties : {o : Bool} {buf' : List ℕ} → Puts out buf bytes (record { len = 0; failed = o }) buf'
  empties = goes (take out.len buf ++ bytes) (append-nil (take out.len buf ++ bytes))
