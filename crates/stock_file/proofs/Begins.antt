-- Bytes that begin some file of the form, and bytes that begin none. Assumes nothing.
use Prim.Native.Nat.{ℕ, ◌+◌, ◌^◌, ◌≤◌, ◌<◌}
use native.Mathlib.Omega.{arith}
use mathlib.Core.Path.{◌≡◌, refl, sym, ap, ◌∙◌}
use mathlib.Core.Bool.{Bool, true, false, false≢true}
use mathlib.Core.List.{List, [], ◌∷◌, ◌++◌}
use lib.ListN.{length}
use lib.Ieee.{Float}
use Rattle.floats.specs.Pick.{pick_true, pick-false}
use Rattle.text.proofs.Spelling.{decimal-short}
use Rattle.lines.specs.File as file
use Rattle.lines.specs.Hands.{Hand, hand, byte_on, takes}
use Rattle.lines.proofs.Parts.{parts, stopped-takes}
use Rattle.lines.proofs.OneFile.{whole-file}
use Rattle.stock_lines.specs.Form.{end_text, end_line}
use Rattle.stock_lines.specs.Reading.{State, state, on_line}
use Rattle.stock_file.specs.Read.{fresh_reading, stopped, on_long, on_end, file_in}
use Rattle.stock_file.specs.Write.{Opening}
use Rattle.stock_file.proofs.Newlines.{end-free}
use Rattle.stock_file.proofs.LineSteps.{line_taken, least, reading, end_step}
use Rattle.stock_file.proofs.Cut.{long-stops}

-- what the bytes p leave, before the end is told
abbrev pub after : List Float → List Float → List ℕ → Hand State
after cs rs p = takes stopped on_line on_long (hand (state fresh_reading cs rs) []) p

-- the end behind the bytes
whole : (cs rs : List Float) (s : List ℕ) → file_in cs rs s ≡ file.ended stopped on_long on_end (after cs rs s).job (after cs rs s).held
whole cs rs s = sym (whole-file stopped on_line on_long on_end long-stops s (state fresh_reading cs rs))

behind : (cs rs : List Float) (p t : List ℕ) → after cs rs (p ++ t) ≡ takes stopped on_line on_long (after cs rs p) t
behind cs rs p t = parts stopped on_line on_long p t (hand (state fresh_reading cs rs) [])

-- BYTES THAT BEGIN NO FILE: where a line of p is refused, every file that begins with p is refused at that line, and leaves the room as p left it
pub begins-none : (cs rs : List Float) (p t : List ℕ) → stopped (after cs rs p).job ≡ true → file_in cs rs (p ++ t) ≡ (after cs rs p).job
unfolding file.ended
begins-none cs rs p t e =
    let q : after cs rs (p ++ t) ≡ after cs rs p = behind cs rs p t ∙ stopped-takes stopped on_line on_long t (after cs rs p).job (after cs rs p).held e in
    whole cs rs (p ++ t) ∙ ap (λ (j : Hand State). file.ended stopped on_long on_end j.job j.held) q ∙ pick_true _ _ _ e

-- BYTES THAT BEGIN SOME FILE: whole lines behind the first, none of them refused and enough of them cells', go on with their `end`. Where cell lines are missing, those go on first (`Exactly`).
pub begins-some : (cs rs : List Float) (p : List ℕ) (b : Opening) (n m l : ℕ) (cs' rs' : List Float) → l + 1 < 2 ^ 64 → least b ≤ n
    → after cs rs p ≡ hand (state (reading b 1 n m l) cs' rs') [] → file_in cs rs (p ++ end_line l) ≡ state (reading b 2 n m (l + 1)) cs' rs'
unfolding file.ended end_line
begins-some cs rs p b n m l cs' rs' few enough e =
    let st : State = state (reading b 1 n m l) cs' rs' in
    let h = decimal-short l in
    let long : length (end_text l) ≤ 127 = omega arith in
    let q : after cs rs (p ++ end_line l) ≡ hand (state (reading b 2 n m (l + 1)) cs' rs') [] =
    behind cs rs p (end_line l)
    ∙ ap (λ (j : Hand State). takes stopped on_line on_long j (end_line l)) e
    ∙ line_taken (end_text l) (end_line l) st (end-free l) refl long refl
    ∙ ap (λ (x : State). hand x []) (end_step b n m l cs' rs' (end_text l) few enough refl (λ v. omega arith) (λ v. omega arith)) in
    whole cs rs (p ++ end_line l)
    ∙ ap (λ (j : Hand State). file.ended stopped on_long on_end j.job j.held) q
    ∙ pick-false _ _ _ refl
    ∙ pick_true _ _ _ refl
    ∙ pick-false _ _ _ refl

-- where bytes are refused there is a first of them that is: those before it are not, and with it they are
pub record Broken (j : Hand State) (s : List ℕ) : Type 0 where
  pub before : List ℕ
  pub byte : ℕ
  pub rest : List ℕ
  pub all : s ≡ before ++ (byte ∷ rest)
  pub goes : stopped (takes stopped on_line on_long j before).job ≡ false
  pub stops : stopped (takes stopped on_line on_long j (before ++ (byte ∷ []))).job ≡ true

pub first-broken : (s : List ℕ) (j : Hand State) → stopped j.job ≡ false → stopped (takes stopped on_line on_long j s).job ≡ true → Broken j s
unfolding takes
first-broken [] j e f = absurd (false≢true (sym e ∙ f))
first-broken (b ∷ s) j e f = by (stopped (byte_on stopped on_line on_long j b).job) refl (first-broken s (byte_on stopped on_line on_long j b))
  where
    by : (t : Bool) → stopped (byte_on stopped on_line on_long j b).job ≡ t
        → (stopped (byte_on stopped on_line on_long j b).job ≡ false → stopped (takes stopped on_line on_long (byte_on stopped on_line on_long j b) s).job ≡ true → Broken (byte_on stopped on_line on_long j b) s)
        → Broken j (b ∷ s)
    by true g again = record { before = []; byte = b; rest = s; all = refl; goes = e; stops = g }
    by false g again =
        let w = again g f in
        record { before = b ∷ w.before; byte = w.byte; rest = w.rest; all = ap (λ (x : List ℕ). b ∷ x) w.all; goes = w.goes; stops = w.stops }
