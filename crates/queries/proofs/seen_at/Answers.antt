-- `queries::seen_at` meets its contract. Assumes nothing.
use mathlib.Core.Path.{◌∙◌}
use native.Mathlib.Omega.{arith}
use borrow.Author.Tests.{not-true, not-false}
use Rattle.queries.proofs.Walks.{span-room}
use Rattle.queries.proofs.Envelopes.{outside, inside}
use Rattle.queries.proofs.seen_at.Goals as goal

pub returns-then-not-s-z : goal.returns-then-not-s-z
returns-then-not-s-z c = let args = c.args in
    outside args.s args.n args.cells.now args.z (not-true _ c.if-not-s-z.true-raw)

pub overflow_sub-bins : goal.overflow_sub-bins
overflow_sub-bins c = let args = c.args in
    omega (arith, span-room args.s args.n args.z (omega arith) c.bins_at-bins.ensures)

pub overflow_add-bins : goal.overflow_add-bins
overflow_add-bins c = let args = c.args in
    omega (arith, span-room args.s args.n args.z (omega arith) c.bins_at-bins.ensures)

pub most_over-requires : goal.most_over-requires
most_over-requires c = let args = c.args in
    omega (arith, span-room args.s args.n args.z (omega arith) c.bins_at-bins.ensures)

pub returns : goal.returns
returns c = let args = c.args in
    c.most_over.ensures
    ∙ inside args.s args.n args.cells.now args.z (not-false _ c.if-not-s-z.false-raw) c.bins_at-bins.ensures
