-- Proved equal to `pass_all` (`outcome-is`, proofs/Decided) and to `commit_in` (`raised-in`); need not be believed.
-- A list of changes that is decided change by change: how far it is, one change on, and how it comes out. Assumes nothing.
use Rattle.std.specs.Prelude.{◌≡◌, Bool, true, false, not, ◌&&◌, ◌||◌, ℕ, ◌+◌, min, ltb, Float, Err, Ok, Result}
use mathlib.Core.List.{List, [], ◌∷◌, foldl}
use Rattle.refusals.specs.Number.{placed_of}
use Rattle.refusals.specs.declared.Refused.{Refused}
use Rattle.refusals.specs.Paper.{Paper, answers, demand, demand_at, placed, onward}
use Rattle.refusals.specs.Limits.{last_generation, last_place}
use Rattle.floats.specs.Pick.{pick}
use Rattle.stock.specs.declared.TurnStockSpec.{TurnStockSpec}
use Rattle.stock.specs.declared.TurnChange.{TurnChange}
use Rattle.stock.specs.declared.TurnStock.{TurnStock}
use Rattle.stock.specs.Spec.{clean_spec}
use Rattle.stock.specs.Cell.{cell_at, same_cell}
use Rattle.blocks.specs.Renew.{renewed_for}
use Rattle.changes.specs.declared.Deciding.{Deciding}
use Rattle.changes.specs.Commit.{only_removes, passes, Committed, Applies}

-- ---- two tests that are asked at once

-- what 21, 22 and 23 ask of a change
unfoldable pub applies : ℕ → List Float → TurnChange → Bool
applies n cs c = ltb c.index n && same_cell (cell_at cs c.index) c.before && only_removes c.before c.after

-- each index is above the one before it: what 7 asks
unfoldable pub rises_after : ℕ → List TurnChange → Bool
rises_after i [] = true
rises_after i (c ∷ l) = ltb i c.index && rises_after c.index l

unfoldable pub rises : List TurnChange → Bool
rises [] = true
rises (c ∷ l) = rises_after c.index l

-- ---- change by change

-- how far a list is decided, against n cells of a clean spec
pub record Decides : Type 0 where
  pub spec : TurnStockSpec
  pub n : ℕ
  -- the last index seen, if any
  pub any : Bool
  pub last : ℕ
  pub rises : Bool
  -- the place of the next change, and where the indices do not rise, of the first that does not
  pub count : ℕ
  pub fall : ℕ
  -- the first change that does not pass
  pub found : Paper (Unit {0})

-- what the code holds of it, field by field
abbrev pub deciding_paper : Deciding → Decides
deciding_paper st = record { spec = st.s; n = st.n; any = st.any; last = st.last; rises = st.rises; count = st.count; fall = st.fall; found = placed_of st.found }

-- before the first change, on n cells that are not asked
abbrev pub on_cells : TurnStockSpec → ℕ → Decides
on_cells s n = record { spec = s; n = n; any = false; last = 0; rises = true; count = 0; fall = 0; found = answers tt }

-- one change on
abbrev pub step_of : List Float → Decides → TurnChange → Decides
step_of cs d c = record {
  spec = d.spec;
  n = d.n;
  any = true;
  last = c.index;
  rises = d.rises && (not d.any || ltb d.last c.index);
  count = min (d.count + 1) last_place;
  fall = pick d.rises d.count d.fall;
  found = onward d.found (λ _. placed d.count (passes d.spec d.n cs c));
}

-- all changes of a list
abbrev pub steps_of : List Float → Decides → List TurnChange → Decides
steps_of cs d l = foldl (step_of cs) d l

-- how it comes out: 7, then the first change that does not pass
unfoldable pub outcome_of : Decides → Paper (Unit {0})
outcome_of d = demand_at d.rises 7 d.fall d.found

-- the generation after changes that pass: 12
unfoldable pub raised_of : Paper (Unit {0}) → ℕ → Paper ℕ
raised_of p gen = onward p (λ _. demand (ltb gen last_generation) 12 (answers (gen + 1)))

-- an answer that is no refusal
abbrev pub is_accepted : Result TurnStock Refused → Bool
is_accepted (Ok k) = true
is_accepted (Err c) = false

-- ---- the kept numbers of a commit that asks nothing again: where it is accepted, the blocks of the first k bins of a list are worked out of the cells afterwards
pub record CommitsThen (k : TurnStock) (n : ℕ) (p : Paper Committed) (r : Result TurnStock Refused) (cs cs' bs bs' : List Float) (is : List ℕ) (j : ℕ) : Type 0 where
  pub left : Applies k p r cs cs'
  pub kept : bs' ≡ pick (is_accepted r) (renewed_for (clean_spec k.spec) n cs' is j bs) bs
