-- A job kept in lent words and numbers between two calls. Assumes nothing.
use mathlib.Core.Path.{◌≡◌, refl, ap, ◌∙◌, subst}
use mathlib.Core.List.{List, [], foldl}
use Prim.Native.Nat.{ℕ, min}
use lib.ListN.{get_or}
use lib.Ieee.{Float}
use borrow.Author.Tests.{eq-eqb, ne_eqb}
use Rattle.floats.specs.Pick.{picks}
use Rattle.stock.specs.declared.TurnStockSpec.{TurnStockSpec}
use Rattle.stock.specs.declared.TurnStock.{TurnStock}
use Rattle.stock.specs.Stock.{stock_from}
use Rattle.text.specs.Wrote.{WroteLine}
use Rattle.job_run.specs.declared.Run.{Run}
use Rattle.job_run.specs.Run.{state, Hold, hold, byte_on, finish_of, output_of}
use Rattle.turning.specs.Boundary.{edition_in}
use Rattle.turning.specs.Jobs.{word_at, bar_from, run_from, held_in, Kept, TakesJob, no_bar, end_from, end_state, EndsJob, WritesJob}

-- the run that the words and the bar are
pub run_is : (ws : List ℕ) (bar : List Float) (s : TurnStockSpec) (e : ℕ) (k : TurnStock) → s ≡ bar_from bar (word_at ws 0) → e ≡ edition_in (word_at ws 7) → k ≡ stock_from s e (word_at ws 2) (word_at ws 3)
    → ◌≡◌ {A = Run} (record { job = record { stock = k; cells = word_at ws 1 }; lines = word_at ws 4; refused = word_at ws 5 }) (run_from ws bar)
run_is ws bar s e k es ee ek =
    ap (λ (x : TurnStock). record { job = record { stock = x; cells = word_at ws 1 }; lines = word_at ws 4; refused = word_at ws 5 }) (ek ∙ (λ i. stock_from (es i) (ee i) (word_at ws 2) (word_at ws 3)))

-- bytes taken
pub takes-job : (ws ws' : List ℕ) (bar bar' cs cs' rs rs' : List Float) (l l' bytes : List ℕ) (a b : Run) (m n : ℕ) → a ≡ run_from ws bar → m ≡ held_in ws
    → hold (state b cs' rs') l' n ≡ foldl byte_on (hold (state a cs rs) l m) bytes → Kept b n ws ws' bar bar'
    → TakesJob (foldl byte_on (hold (state (run_from ws bar) cs rs) l (held_in ws)) bytes) 0 ws ws' bar bar' cs' rs' l'
takes-job ws ws' bar bar' cs cs' rs rs' l l' bytes a b m n ea em same k =
    let e : hold (state b cs' rs') l' n ≡ foldl byte_on (hold (state (run_from ws bar) cs rs) l (held_in ws)) bytes =
    same ∙ ap (λ (x : Run). foldl byte_on (hold (state x cs rs) l m) bytes) ea ∙ ap (λ (x : ℕ). foldl byte_on (hold (state (run_from ws bar) cs rs) l x) bytes) em in
    subst (λ (h : Hold). TakesJob h 0 ws ws' bar bar' cs' rs' l') e (record { code = refl; kept = k; cells = refl; rings = refl; line = refl })

-- the job as if its input ended here
pub end_is : (ws : List ℕ) (a e : Run) (n : ℕ) → a ≡ run_from ws no_bar → n ≡ held_in ws → e ≡ finish_of a n → e ≡ end_from ws
end_is ws a e n ea en h = h ∙ ap (λ (x : Run). finish_of x n) ea ∙ ap (finish_of (run_from ws no_bar)) en

module _ (ws : List ℕ) (e : Run) (same : e ≡ end_from ws) where
  -- it is not refused
  pub ends-well : (l : ℕ) → e.refused ≡ 0 → EndsJob (end_from ws) 0 l l
  ends-well l h = subst (λ (x : Run). EndsJob x 0 l l) same (record { code = rw h refl; line = simp (eq-eqb _ _ h, picks) })

  -- it is refused
  pub ends-refused : (r l : ℕ) → (e.refused ≡ 0 → ⊥) → r ≡ min e.refused 4294967295 → EndsJob (end_from ws) r l e.lines
  ends-refused r l h c = subst (λ (x : Run). EndsJob x r l e.lines) same (record { code = c; line = simp (ne_eqb _ _ h, picks) })

  -- a line of its answer
  pub writes-job : (cs rs : List Float) (k n : ℕ) (out out' : List ℕ) → WroteLine out (get_or (output_of (state e cs rs)) k []) out' n → WritesJob (end_state ws cs rs) k 0 n out out'
  writes-job cs rs k n out out' w = subst (λ (x : Run). WritesJob (state x cs rs) k 0 n out out') same (record { code = refl; line = w })
