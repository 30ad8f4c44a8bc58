-- `stock::all_fit_solid` meets its contract. The loop's invariant: what is gathered so far says whether the cells passed fit. Assumes nothing.
use Rattle.std.proofs.Common.{◌≡◌, Bool, ◌&&◌, ltb, refl, ap, ◌∙◌, arith}
use Rattle.stock.specs.Cell.{fit_to}
use Rattle.stock.specs.Signs.{sign_bit}
use Rattle.stock.proofs.Cells.{fit-more}
use Rattle.stock.proofs.Signs.{solid-more}
use Rattle.stock.proofs.all_fit_solid.Goals as goal

pub loop-i-init : goal.loop-i-init
unfolding fit_to
loop-i-init c = refl

pub loop-i-preserved : goal.loop-i-preserved
loop-i-preserved c =
    solid-more c.loop-i.ok c.loop-i.bits c.is_ordered-ok.result c.bits_of-bits.result _ _ c.loop-i.invariant (ap (λ (t : Bool). t && ltb c.bits_of-bits.result sign_bit) c.is_ordered-ok.ensures ∙ c.bits_of-bits.ensures)
    ∙ rw (fit-more, c.cell_from-c.ensures)

pub returns : goal.returns
returns c = let e : c.loop-i.i ≡ c.args.n = omega arith in
    rw (← e) c.loop-i.invariant
