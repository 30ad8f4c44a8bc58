-- `picture::first_so` meets its contract. The loop's invariant: no bin passed is as it is wanted. Assumes nothing.
use mathlib.Core.Path.{sym, ◌∙◌}
use Rattle.picture.proofs.Drawing.{looks-at, agree_same, agree-other}
use Rattle.picture.proofs.Runs.{passed_none, passed-more, first_found, first-none}
use Rattle.picture.proofs.first_so.Goals as goal

pub loop-j-init : goal.loop-j-init
loop-j-init c = passed_none _ _ _

pub cell_at-a-requires : goal.cell_at-a-requires
cell_at-a-requires c = tt

pub cell_at-b-requires : goal.cell_at-b-requires
cell_at-b-requires c = tt

pub bin_of-requires : goal.bin_of-requires
bin_of-requires c = tt

pub is_so-so-requires : goal.is_so-so-requires
is_so-so-requires c = tt

pub agree-requires : goal.agree-requires
agree-requires c = tt

pub returns-then-agree : goal.returns-then-agree
returns-then-agree c = let a = c.args in
    let loop = c.loop-j in
    let e = looks-at a.look a.spec a.cells1.now a.cells2.now loop.j _ _ _ c.bin_of.ensures c.cell_at-a.ensures c.cell_at-b.ensures c.is_so-so.ensures in
    first_found _ _ _ _ _ loop.auto.j c.loop-j-test.true loop.invariant (sym e ∙ agree_same _ _ (sym c.agree.ensures ∙ c.if-agree.true))

pub loop-j-preserved : goal.loop-j-preserved
loop-j-preserved c = let a = c.args in
    let loop = c.loop-j in
    let e = looks-at a.look a.spec a.cells1.now a.cells2.now loop.j _ _ _ c.bin_of.ensures c.cell_at-a.ensures c.cell_at-b.ensures c.is_so-so.ensures in
    passed-more _ _ _ _ loop.invariant (λ h. agree-other _ _ (sym c.agree.ensures ∙ c.if-agree.false) (e ∙ h))

pub returns : goal.returns
returns c = first-none _ _ _ _ _ c.loop-j-test.false c.loop-j.invariant
