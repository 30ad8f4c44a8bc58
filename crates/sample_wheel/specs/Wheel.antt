-- What the sample wheel asks, and how that is answered by the rules that the calls are proved to follow. Assumes nothing.
use Rattle.std.specs.Prelude.{ℕ, length, Float, Option, None, Some}
use mathlib.Core.List.{List, [], ◌∷◌, foldl}
use Rattle.refusals.specs.Paper.{Paper, answers, onward}
use Rattle.floats.specs.Numbers.{zero64}
use Rattle.numbers.specs.Root.{root_of}
use Rattle.stock.specs.declared.TurnStockSpec.{TurnStockSpec}
use Rattle.stock.specs.Spec.{clean_spec, cells_of}
use Rattle.stock.specs.Cell.{fresh_cell, cells_like}
use Rattle.rings.specs.declared.Ring.{Ring}
use Rattle.rings.specs.Store.{rings_of, flat_of, store_as}
use Rattle.rings.specs.Remove.{remove_ring}
use Rattle.queries.specs.declared.Band.{Band}
use Rattle.queries.specs.Envelope.{envelope_at}
use Rattle.changes.specs.Commit.{Committed}
use Rattle.demands.specs.Tool.{Cutter, turned_tools}

-- the root of a number; the cells of a new bar after cuts; the rings of a bar after rings taken; what stands at a height of a new bar after cuts
pub data Ask : Type 0 where
  root : Float → Ask
  turned : TurnStockSpec → List Cutter → Ask
  ringed : TurnStockSpec → List Ring → Ask
  seen : TurnStockSpec → List Cutter → Float → Ask

-- numbers, and a generation
pub record Says : Type 0 where
  pub numbers : List Float
  pub generation : ℕ

abbrev pub says : List Float → ℕ → Paper Says
says xs g = answers (record { numbers = xs; generation = g })

-- ---- cuts

-- a new bar
unfoldable pub new_bar : TurnStockSpec → Paper Committed
new_bar spec = onward (cells_of spec) (λ n. answers (record { cells = cells_like (fresh_cell (clean_spec spec)) n; generation = 0 }))

-- after cuts, each previewed and committed, with room for a change of every cell
unfoldable pub after_cuts : TurnStockSpec → List Cutter → Paper Committed
after_cuts spec l = onward (new_bar spec) (λ k. turned_tools spec (length k.cells) k l)

-- ---- rings

-- lent numbers, how many rings they hold, and the generation
pub record Held : Type 0 where
  pub numbers : List Float
  pub count : ℕ
  pub generation : ℕ

-- no rings, and room for four
abbrev pub no_rings : Held
no_rings = record { numbers = zero64 ∷ zero64 ∷ zero64 ∷ zero64 ∷ zero64 ∷ zero64 ∷ zero64 ∷ zero64 ∷ zero64 ∷ zero64 ∷ zero64 ∷ zero64 ∷ zero64 ∷ zero64 ∷ zero64 ∷ zero64 ∷ []; count = 0; generation = 0 }

-- one ring taken
unfoldable pub take_ring : TurnStockSpec → Held → Ring → Paper Held
take_ring spec h q =
    onward (remove_ring spec h.numbers h.count h.generation q) (λ s.
    answers (record { numbers = store_as h.numbers s.rings; count = length s.rings; generation = s.generation }))

-- after rings, one after the other
unfoldable pub after_rings : TurnStockSpec → List Ring → Paper Held
after_rings spec l = foldl (λ (p : Paper Held) (q : Ring). onward p (λ h. take_ring spec h q)) (answers no_rings) l

-- ---- the answers

-- bore and outer radius, or nothing
abbrev pub radii_of : Option Band → List Float
radii_of (Some b) = b.bore ∷ b.outer ∷ []
radii_of None = []

unfoldable pub answer_of : Ask → Paper Says
answer_of (root x) = onward (root_of x) (λ y. says (y ∷ []) 0)
answer_of (turned spec l) = onward (after_cuts spec l) (λ k. says k.cells k.generation)
answer_of (ringed spec l) = onward (after_rings spec l) (λ h. says (flat_of (rings_of h.count h.numbers)) h.generation)
answer_of (seen spec l z) = onward (after_cuts spec l) (λ k. onward (envelope_at spec k.cells z) (λ b. says (radii_of b) k.generation))
