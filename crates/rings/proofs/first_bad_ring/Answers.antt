-- `rings::first_bad_ring` meets its contract. Assumes nothing.
use mathlib.Core.Path.{sym, ap, ◌∙◌}
use mathlib.Core.Bool.{Bool, ◌&&◌}
use Prim.Native.Nat.{◌%◌}
use lib.Dec.{eqb}
use lib.ListN.{length}
use Rattle.rings.specs.Store.{rings_good}
use Rattle.rings.proofs.Bad.{rings-none, rings-bad}
use Rattle.rings.proofs.first_bad_ring.Goals as goal

pub returns-then-removed-all_good : goal.returns-then-removed-all_good
unfolding rings_good
returns-then-removed-all_good c = let a = c.args in
    sym (rings-none a.removed.now (ap (λ (b : Bool). eqb (length a.removed.now % 4) 0 && b) (sym c.all_good.ensures) ∙ c.if-removed-all_good.true))

pub returns : goal.returns
unfolding rings_good
returns c = let a = c.args in
    sym (rings-bad a.removed.now _ (ap (λ (b : Bool). eqb (length a.removed.now % 4) 0 && b) (sym c.all_good.ensures) ∙ c.if-removed-all_good.false) c.first_bad.ensures)
