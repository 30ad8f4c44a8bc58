-- `cuts::list::count` meets its contract. The loop's invariant: k of the cells passed change. Assumes nothing.
use mathlib.Core.Path.{◌≡◌, sym, ap, ◌∙◌}
use mathlib.Core.List.{List}
use Prim.Native.Nat.{ℕ, ◌+◌, ◌≤◌}
use native.Mathlib.Omega.{arith}
use borrow.Author.Rules.{rules}
use lib.ListN.{length, length-append}
use Rattle.stock.specs.declared.TurnChange.{TurnChange}
use Rattle.changes.specs.Change.{change_at, changes_to}
use Rattle.changes.proofs.Rising.{changes-more}
use Rattle.reach.specs.Reach.{act_cell}
use Rattle.cuts.specs.Source.{source_act, span_act}
use Rattle.cuts.proofs.EachBin.{one_at_most}
use Rattle.cuts.proofs.Spans.{none_before, change-in}
use Rattle.cuts.proofs.list.count.Goals as goal

pub loop-i-init : goal.loop-i-init
loop-i-init c = let p = c.requires in
    (search rules, p.0, search rules, sym (ap length (none_before _ _ _ _ (λ j h. p.2 j (omega (arith, p.0))))))

pub count_bin-k-requires : goal.count_bin-k-requires
count_bin-k-requires c = let p = c.requires in
    (omega (arith, p.1), omega (arith, p.1), p.2 c.loop-i.i c.loop-i-test.true)

pub loop-i-preserved : goal.loop-i-preserved
loop-i-preserved c = let a = c.args in
    let u = source_act a.s a.source a.values.now a.there.now in
    let f = act_cell (span_act a.first a.last u) in
    let e : c.count_bin-k.result ≡ c.loop-i.k + length (change_at f a.cells.now c.loop-i.i) = c.count_bin-k.ensures ∙ ap (λ (x : List TurnChange). c.loop-i.k + length x) (change-in a.first a.last u a.cells.now c.loop-i.i c.loop-i.invariant.0 c.loop-i-test.true) in
    let o : length (change_at f a.cells.now c.loop-i.i) ≤ 1 = one_at_most f a.cells.now c.loop-i.i c.loop-i.k in (
      omega (arith, c.loop-i.invariant.0),
      omega arith,
      omega (arith, e, o, c.loop-i.invariant.2),
      e ∙ ap (λ (j : ℕ). j + length (change_at f a.cells.now c.loop-i.i)) c.loop-i.invariant.3 ∙ sym (ap length (changes-more f a.cells.now c.loop-i.i) ∙ length-append (changes_to f a.cells.now c.loop-i.i) (change_at f a.cells.now c.loop-i.i)),
    )

pub returns : goal.returns
returns c = let a = c.args in
    let e : c.loop-i.i ≡ a.last = omega arith in
    c.loop-i.invariant.3 ∙ ap (λ (j : ℕ). length (changes_to (act_cell (span_act a.first a.last (source_act a.s a.source a.values.now a.there.now))) a.cells.now j)) e
