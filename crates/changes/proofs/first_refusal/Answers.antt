-- `changes::first_refusal` meets its contract. Assumes nothing.
use mathlib.Core.Path.{◌≡◌, sym, ap, ◌∙◌}
use mathlib.Core.Bool.{true}
use mathlib.Core.List.{List}
use Prim.Native.Nat.{ℕ}
use Rattle.refusals.specs.declared.Refused.{Refused}
use Rattle.refusals.specs.Number.{reason_in}
use Rattle.refusals.specs.Paper.{refuses}
use borrow.Author.Tests.{not-true, not-false}
use lib.Ieee.{Float}
use Rattle.stock.specs.declared.TurnStockSpec.{TurnStockSpec}
use Rattle.changes.specs.Change.{changes_from}
use Rattle.changes.specs.Commit.{each_from, pass_all}
use Rattle.changes.specs.Decide.{rises}
use Rattle.changes.proofs.Falls.{falls_at}
use Rattle.changes.proofs.Decided.{rising-is}
use Rattle.changes.proofs.first_refusal.Goals as goal

-- where the indices rise, the rule goes change by change
risen : (s : TurnStockSpec) (n : ℕ) (cs : List Float) (is : List ℕ) (xs : List Float) (held k : ℕ) → rises (changes_from is xs held) ≡ true → held ≡ k → each_from s n cs 0 (changes_from is xs held) ≡ pass_all s n cs (changes_from is xs k)
risen s n cs is xs held k r e = rising-is s n cs (changes_from is xs held) r ∙ ap (λ (j : ℕ). pass_all s n cs (changes_from is xs j)) e

pub returns-then-not-indices_rise : goal.returns-then-not-indices_rise
returns-then-not-indices_rise c = let a = c.args in
    let held = c.held_of-held.result in
    ap (λ (x : Refused). refuses (reason_in x)) c.at.ensures
    ∙ falls_at a.s a.n a.cells.now (changes_from a.indices.now a.records.now held) held c.first_fall-at.result (sym c.indices_rise.ensures ∙ not-true _ c.if-not-indices_rise.true-raw) c.first_fall-at.ensures
    ∙ ap (λ (k : ℕ). pass_all a.s a.n a.cells.now (changes_from a.indices.now a.records.now k)) c.held_of-held.ensures

pub returns-then-all_pass : goal.returns-then-all_pass
returns-then-all_pass c = let a = c.args in
    sym (c.all_pass.ensures c.if-all_pass.true) ∙ risen a.s a.n a.cells.now a.indices.now a.records.now c.held_of-held.result _ (sym c.indices_rise.ensures ∙ not-false _ c.if-not-indices_rise.false-raw) c.held_of-held.ensures

pub returns : goal.returns
returns c = let a = c.args in
    c.first_found.ensures ∙ risen a.s a.n a.cells.now a.indices.now a.records.now c.held_of-held.result _ (sym c.indices_rise.ensures ∙ not-false _ c.if-not-indices_rise.false-raw) c.held_of-held.ensures
