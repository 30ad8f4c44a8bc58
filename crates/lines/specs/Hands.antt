-- Bytes taken one at a time, the unfinished line a list of its own. Assumes nothing.
use Rattle.std.specs.Prelude.{ℕ, Bool, List, [], ◌∷◌, ◌++◌, eqb, ltb, length}
use Rattle.floats.specs.Pick.{pick}

-- a job with the unfinished line
pub record Hand (A : Type 0) : Type 0 where
  pub job : A
  pub held : List ℕ

abbrev pub hand : {A : Type 0} → A → List ℕ → Hand A
hand a h = record { job = a; held = h }

-- what a byte does
unfoldable pub byte_on : {A : Type 0} → (A → Bool) → (A → List ℕ → A) → (A → A) → Hand A → ℕ → Hand A
byte_on stopped on_line on_long j b =
    pick (stopped j.job) j
    (pick (eqb b 10) (hand (on_line j.job j.held) [])
    (pick (ltb (length j.held) 127) (hand j.job (j.held ++ (b ∷ [])))
    (hand (on_long j.job) [])))

-- what a list of bytes does
unfoldable pub takes : {A : Type 0} → (A → Bool) → (A → List ℕ → A) → (A → A) → Hand A → List ℕ → Hand A
takes stopped on_line on_long j [] = j
takes stopped on_line on_long j (b ∷ s) = takes stopped on_line on_long (byte_on stopped on_line on_long j b) s

-- parts taken in turn
unfoldable pub in_turn : {A : Type 0} → (A → Bool) → (A → List ℕ → A) → (A → A) → Hand A → List (List ℕ) → Hand A
in_turn stopped on_line on_long j [] = j
in_turn stopped on_line on_long j (p ∷ ps) = in_turn stopped on_line on_long (takes stopped on_line on_long j p) ps
