-- `stock::validate` meets its contract. Assumes nothing.
use Rattle.std.proofs.Common.{◌≡◌, Some, None, arith}
use Rattle.refusals.specs.declared.Refusal.TheVariants.{CellCount}
use Rattle.refusals.specs.Paper.{papers}
use Rattle.refusals.proofs.Exits.{same_exit}
use Rattle.floats.specs.Pick.{picks}
use Rattle.stock.specs.Spec.{cells_of}
use Rattle.stock.proofs.validate.Goals as goal

pub returns-then-not-spec_good : goal.returns-then-not-spec_good
unfolding cells_of
returns-then-not-spec_good c = search (papers, picks, ← c.spec_good.ensures, ← c.clean_spec-s.ensures)

pub returns-in_err-n : goal.returns-in_err-n
unfolding cells_of
returns-in_err-n c = let h : c.whole_up-found.result ≡ None = grind arith in
    let k : c.in_err-n.field-0.0 ≡ CellCount = grind arith in
    search (papers, picks, k, same_exit _ _ c.from_residual.ensures.1, ← c.whole_up-found.ensures, h, ← c.spec_good.ensures, ← c.clean_spec-s.ensures)

pub returns-then-cells-s : goal.returns-then-cells-s
unfolding cells_of
returns-then-cells-s c = let h : c.whole_up-found.result ≡ Some c.in_ok-n.n = grind arith in
    search (papers, picks, ← c.whole_up-found.ensures, h, ← c.spec_good.ensures, ← c.clean_spec-s.ensures)

pub returns : goal.returns
unfolding cells_of
returns c = let h : c.whole_up-found.result ≡ Some c.in_ok-n.n = grind arith in
    search (papers, picks, ← c.whole_up-found.ensures, h, ← c.spec_good.ensures, ← c.clean_spec-s.ensures)
