-- What is seen at a height, said of the calls (Req 05). Crate `queries` has what an answer says of the bins that are looked at: `proofs/Sights`. `seen_more`: never less than in the bin
-- of z alone; `Seen-most`, `seen_none`, `none_seen`: exactly the most of them, and nothing exactly where none holds material; `seen-band`: a band of the stock; `seen_same`: where no
-- neighbour holds z, as in the bin of z alone; `seen-edge`: on an edge both bins count. `proofs/SeenCalls` says them of the rule that the call promises. Assumes nothing.
use Rattle.std.specs.Prelude.{Some, Ok}
use mathlib.Core.Path.{◌≡◌, refl, sym, ap, ◌∙◌, subst}
use mathlib.Core.Bool.{true, ◌&&◌}
use mathlib.Core.List.{List}
use Prim.Native.Nat.{ℕ, ◌+◌}
use lib.Ieee.{Float, le}
use Rattle.refusals.specs.Paper.{Paper, answers, refuses}
use Rattle.floats.specs.Numbers.{clean_of}
use Rattle.stock.specs.declared.TurnStockSpec.{TurnStockSpec}
use Rattle.stock.specs.declared.TurnCell.{TurnCell}
use Rattle.stock.specs.declared.TurnChange.{TurnChange}
use Rattle.stock.specs.Spec.{clean_spec}
use Rattle.stock.specs.Cell.{cell_at, stock_of}
use Rattle.stock.proofs.Count.{same_answer, no_answer, demanded, and_both, stocked, checked}
use Rattle.floats.proofs.Bools.{so}
use Rattle.changes.specs.Change.{changes_from}
use Rattle.stock.specs.declared.TurnStock.{TurnStock}
use Rattle.changes.specs.declared.ChangeList.{ChangeList}
use Rattle.changes.specs.Commit.{Committed, only_removes, pass_all, put_all, commit_in, asked_stock, apply_of, generation_of, stock_at, cells_after, Applies}
use Rattle.changes.proofs.Kept.{asked}
use Rattle.moves.proofs.Answered.{answered}
use Rattle.moves.proofs.Cells.{passed-stock, passed-removes}
use Rattle.queries.specs.declared.Band.{Band}
use Rattle.queries.specs.Envelope.{envelope_at}
use Rattle.queries.specs.Looked.{Nested}
use Rattle.queries.proofs.Envelopes.{at-clean}
use Rattle.queries.proofs.Sights.{Less, seen-less}

-- cells that only lose
pub less-of : (c c' : TurnCell) → only_removes c c' ≡ true → Less c c'
less-of c c' r =
    let A = le c'.outer.upper_mm c.outer.upper_mm in
    let B = le c'.outer.lower_mm c.outer.lower_mm in
    let C = le c.inner.lower_mm c'.inner.lower_mm in
    let D = le c.inner.upper_mm c'.inner.upper_mm in
    let r3 = and_both (A && B && C) D r in
    let r2 = and_both (A && B) C r3.0 in
    record { outer = so (and_both A B r2.0).0; inner = so r2.1 }

-- a list of changes that pass
passed-sees : (spec : TurnStockSpec) (cs : List Float) (n : ℕ) (l : List TurnChange) → stock_of spec cs ≡ answers n → pass_all (clean_spec spec) n cs l ≡ answers tt
    → (z : Float) (b' : Band) → envelope_at spec (put_all cs l) z ≡ answers (Some b') → (b : Band) × (envelope_at spec cs z ≡ answers (Some b)) × Nested b' b
passed-sees spec cs n l e h z b' f =
    let after = passed-stock spec cs n l e h in
    let r =
    seen-less cs (put_all cs l) (clean_spec spec) n (clean_of z) (checked spec n (stocked spec cs n e).count).some-cells
    (λ i p. less-of (cell_at cs i) (cell_at (put_all cs l) i) (passed-removes spec cs n l e h i p)) b' (same_answer (sym (at-clean spec (put_all cs l) z n after) ∙ f)) in
    (r.0, at-clean spec cs z n e ∙ ap answers r.1, r.2)

-- AFTER A COMMIT LESS IS SEEN: whatever meets the commit's promise and is accepted, at each height nothing is seen of the cells afterwards, or a band within the one that was seen before.
pub cut-sees-less : (k k' : TurnStock) (cs cs' bs : List Float) (list : ChangeList) (is : List ℕ) (xs : List Float) → Applies k (apply_of k cs bs list is xs) (Ok k') cs cs'
    → (z : Float) (b' : Band) → envelope_at k.spec cs' z ≡ answers (Some b') → (b : Band) × (envelope_at k.spec cs z ≡ answers (Some b)) × Nested b' b
unfolding apply_of commit_in
cut-sees-less k k' cs cs' bs list is xs a z b' f = go (apply_of k cs bs list is xs) refl a.answer a.cells
  where
    go : (p : Paper Committed) → apply_of k cs bs list is xs ≡ p → answers k' ≡ stock_at k (generation_of p) → cs' ≡ cells_after p cs → (b : Band) × (envelope_at k.spec cs z ≡ answers (Some b)) × Nested b' b
    go (refuses n) e b c = absurd (no_answer n k' (sym b))
    go (answers m) e b c =
        let l = changes_from is xs list.count in
        let s = answered (asked_stock k cs bs list.stamp) _ m e in
        let p = answered _ _ _ (demanded _ _ _ _ s.then).1 in
        let v : ◌≡◌ {A = Committed} (record { cells = put_all cs l; generation = k.stamp.generation + 1 }) m = same_answer (demanded _ _ _ _ p.then).1 in
        let same : cs' ≡ put_all cs l = c ∙ sym (ap (λ (y : Committed). y.cells) v) in
        passed-sees k.spec cs s.value l (asked k cs bs list.stamp s.value s.first).stock p.first z b' (subst (λ (x : List Float). envelope_at k.spec x z ≡ answers (Some b')) same f)
