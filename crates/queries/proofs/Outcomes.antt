-- Two outcomes of a query that meet its promise are the same. Assumes nothing.
use Rattle.std.specs.Prelude.{Option, Result}
use mathlib.Core.Path.{◌≡◌, sym, ◌∙◌}
use mathlib.Core.List.{List}
use Prim.Native.Nat.{ℕ}
use lib.Ieee.{Float}
use Rattle.refusals.specs.declared.Refusal.{Refusal}
use Rattle.refusals.specs.Number.{paper_of}
use Rattle.refusals.proofs.OneToOne.{same_paper}
use Rattle.stock.specs.declared.TurnStockSpec.{TurnStockSpec}
use Rattle.queries.specs.declared.Band.{Band}
use Rattle.queries.specs.declared.Volumes.{Volumes}
use Rattle.queries.specs.Envelope.{envelope_at}
use Rattle.queries.specs.Volume.{volume_of}

pub volume-once : (spec : TurnStockSpec) (cs xs : List Float) (k : ℕ) (r r' : Result Volumes Refusal) → paper_of r ≡ volume_of spec cs xs k → paper_of r' ≡ volume_of spec cs xs k → r ≡ r'
volume-once spec cs xs k r r' a b = same_paper r r' (a ∙ sym b)

pub envelope-once : (spec : TurnStockSpec) (cs : List Float) (z : Float) (r r' : Result (Option Band) Refusal) → paper_of r ≡ envelope_at spec cs z → paper_of r' ≡ envelope_at spec cs z → r ≡ r'
envelope-once spec cs z r r' a b = same_paper r r' (a ∙ sym b)
