-- `job_answer::answer_line` meets its contract. Assumes nothing.
use Rattle.job_answer.proofs.Nth.{is-refused, past-refused, is-cell, is-ring, is-gen, is-past, none, reline}
use Rattle.job_answer.proofs.answer_line.Goals as goal

pub returns-then-k-eq0 : goal.returns-then-k-eq0
returns-then-k-eq0 c = let a = c.args in
    reline (is-refused a.refused a.line a.generation a.cells.now a.rings.now a.k c.if-refused-ne0.true c.if-k-eq0.true) c.refused_line.ensures

pub returns-then-refused-ne0 : goal.returns-then-refused-ne0
returns-then-refused-ne0 c = let a = c.args in
    reline (past-refused a.refused a.line a.generation a.cells.now a.rings.now a.k c.if-refused-ne0.true c.if-k-eq0.false) (none _)

pub returns-then-k-n : goal.returns-then-k-n
returns-then-k-n c = let a = c.args in
    reline (is-cell a.refused a.line a.generation a.cells.now a.rings.now a.k c.if-refused-ne0.false c.if-k-n.true) c.cell_line.ensures

pub returns-then-j-m : goal.returns-then-j-m
returns-then-j-m c = let a = c.args in
    reline (is-ring a.refused a.line a.generation a.cells.now a.rings.now a.k c.if-refused-ne0.false c.if-k-n.false c.if-j-m.true) c.ring_line.ensures

pub returns-then-j-m-2 : goal.returns-then-j-m-2
returns-then-j-m-2 c = let a = c.args in
    reline (is-gen a.refused a.line a.generation a.cells.now a.rings.now a.k c.if-refused-ne0.false c.if-k-n.false c.if-j-m-2.true) c.gen_line.ensures

pub returns : goal.returns
returns c = let a = c.args in
    reline (is-past a.refused a.line a.generation a.cells.now a.rings.now a.k c.if-refused-ne0.false c.if-k-n.false c.if-j-m.false c.if-j-m-2.false) (none _)
