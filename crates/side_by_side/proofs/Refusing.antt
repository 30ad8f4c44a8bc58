-- The line of a comparison that is refused, by what a file or both tell. Assumes nothing.
use Rattle.std.specs.Prelude.{Err, Result, Option, Some, None}
use Prim.Native.Nat.{ℕ}
use mathlib.Core.Path.{◌≡◌, sym, subst}
use mathlib.Core.List.{List, [], ◌∷◌}
use Rattle.refusals.specs.declared.Refusal.{Refusal}
use Rattle.refusals.specs.declared.Refused.{Refused}
use Rattle.refusals.specs.Number.{number_of, paper_of, placed_of}
use Rattle.text.specs.Wrote.{WroteLine}
use Rattle.job_answer.specs.Lines.{refused_line}
use Rattle.stock_file.specs.declared.Kept.{Kept}
use Rattle.side_by_side.specs.Refused.{tabbed, refused_with, place_before, file_refused, pair_refused}

-- of what is told under another name
pub as-file : (f : ℕ) {k j : Result Kept Refused} {l m : List ℕ} {r : ℕ} → k ≡ j → WroteLine l (file_refused f (placed_of j)) m r → WroteLine l (file_refused f (placed_of k)) m r
as-file f {k} {j} {l} {m} {r} e w = subst (λ (x : Result Kept Refused). WroteLine l (file_refused f (placed_of x)) m r) (sym e) w

pub as-pair : {k j : (Result ℕ Refusal)} {l m : List ℕ} {r : ℕ} → k ≡ j → WroteLine l (pair_refused (paper_of j)) m r → WroteLine l (pair_refused (paper_of k)) m r
as-pair {k} {j} {l} {m} {r} e w = subst (λ (x : Result ℕ Refusal). WroteLine l (pair_refused (paper_of x)) m r) (sym e) w

-- two stocks that are refused
pub pair-number : (n : ℕ) {l m : List ℕ} {r : ℕ} (k : Result ℕ Refusal) (c : Refusal) → k ≡ Err c → n ≡ number_of c → WroteLine l (refused_with (n ∷ [])) m r → WroteLine l (pair_refused (paper_of k)) m r
pair-number n {l} {m} {r} k c e h w = as-pair e (subst (λ (x : ℕ). WroteLine l (refused_with (x ∷ [])) m r) h w)

-- a file that is refused
file-reason : (f n : ℕ) {l m : List ℕ} {q : ℕ} (k : Result Kept Refused) (r : Refused) (p : Option ℕ) → k ≡ Err r → r.place ≡ p → n ≡ number_of r.why
    → WroteLine l (refused_with (f ∷ place_before p n)) m q → WroteLine l (file_refused f (placed_of k)) m q
file-reason f n {l} {m} {q} k r p e i h w =
    as-file f e
    (subst (λ (x : Option ℕ). WroteLine l (refused_with (f ∷ place_before x (number_of r.why))) m q) (sym i)
    (subst (λ (x : ℕ). WroteLine l (refused_with (f ∷ place_before p x)) m q) h w))

-- with no line
pub file-number : (f n : ℕ) {l m : List ℕ} {q : ℕ} (k : Result Kept Refused) (r : Refused) → k ≡ Err r → r.place ≡ None → n ≡ number_of r.why → WroteLine l (refused_line f n) m q → WroteLine l (file_refused f (placed_of k)) m q
unfolding refused_line refused_with tabbed
file-number f n k r e i h w = file-reason f n k r None e i h w

-- and with one
pub file-place : (f n : ℕ) {l m : List ℕ} {q : ℕ} (k : Result Kept Refused) (r : Refused) (i : ℕ) → k ≡ Err r → r.place ≡ Some i → n ≡ number_of r.why → WroteLine l (refused_with (f ∷ i ∷ n ∷ [])) m q → WroteLine l (file_refused f (placed_of k)) m q
file-place f n k r i e j h w = file-reason f n k r (Some i) e j h w
