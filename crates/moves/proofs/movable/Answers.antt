-- `moves::movable` meets its contract. Assumes nothing.
use mathlib.Core.Path.{sym, ap, ◌∙◌}
use Rattle.refusals.specs.declared.Refused.{Refused}
use Rattle.refusals.specs.Number.{reason_in}
use Rattle.refusals.specs.Paper.{Paper, refuses}
use borrow.Author.Tests.{not-true, not-false}
use Rattle.stock.specs.declared.TurnStockSpec.{TurnStockSpec}
use Rattle.blocks.specs.Block.{matches_of}
use Rattle.moves.proofs.Moving.{refuses-4, refuses-19, refuses-20, refuses-10, movable-is}
use Rattle.moves.proofs.movable.Goals as goal

-- a refusal, on paper
abbrev refusing : Refused → Paper (Unit {0})
refusing r = refuses (reason_in r)

pub returns-then-not-rings_fit : goal.returns-then-not-rings_fit
returns-then-not-rings_fit c = ap refusing c.from.ensures ∙ sym (refuses-4 _ _ _ _ _ _ _ (sym c.rings_fit.ensures ∙ not-true _ c.if-not-rings_fit.true-raw))

pub returns-then-not-same_stamp : goal.returns-then-not-same_stamp
returns-then-not-same_stamp c = ap refusing c.from-then-not-same_stamp.ensures ∙ sym (refuses-19 _ _ _ _ _ _ _ (sym c.rings_fit.ensures ∙ not-false _ c.if-not-rings_fit.false-raw) (sym c.same_stamp.ensures ∙ not-true _ c.if-not-same_stamp.true-raw))

pub returns-then-not-matches : goal.returns-then-not-matches
returns-then-not-matches c = let a = c.args in
    ap refusing c.from-then-not-matches.ensures
    ∙ sym
    (refuses-20 _ _ _ _ _ _ _ (sym c.rings_fit.ensures ∙ not-false _ c.if-not-rings_fit.false-raw) (sym c.same_stamp.ensures ∙ not-false _ c.if-not-same_stamp.false-raw)
    (ap (λ (s : TurnStockSpec). matches_of s a.n a.cells.now a.blocks.now) (sym c.clean_spec.ensures) ∙ sym c.matches.ensures ∙ not-true _ c.if-not-matches.true-raw))

pub returns-in-Some : goal.returns-in-Some
returns-in-Some c = let a = c.args in
    ap refusing c.at.ensures
    ∙ sym
    (refuses-10 _ _ _ _ _ _ _ (sym c.rings_fit.ensures ∙ not-false _ c.if-not-rings_fit.false-raw) (sym c.same_stamp.ensures ∙ not-false _ c.if-not-same_stamp.false-raw)
    (ap (λ (s : TurnStockSpec). matches_of s a.n a.cells.now a.blocks.now) (sym c.clean_spec.ensures) ∙ sym c.matches.ensures ∙ not-false _ c.if-not-matches.false-raw)
    c.in-Some.at (sym c.first_bad_ring.ensures ∙ c.in-Some.is))

pub returns : goal.returns
returns c = let a = c.args in
    sym
    (movable-is _ _ _ _ _ _ _ (sym c.rings_fit.ensures ∙ not-false _ c.if-not-rings_fit.false-raw) (sym c.same_stamp.ensures ∙ not-false _ c.if-not-same_stamp.false-raw)
    (ap (λ (s : TurnStockSpec). matches_of s a.n a.cells.now a.blocks.now) (sym c.clean_spec.ensures) ∙ sym c.matches.ensures ∙ not-false _ c.if-not-matches.false-raw)
    (sym c.first_bad_ring.ensures ∙ c.in_default.is))
