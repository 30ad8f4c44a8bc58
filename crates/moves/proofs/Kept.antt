-- The kept numbers after a move and after a rebuild: those of the cells then. Assumes nothing.
use Rattle.std.specs.Prelude.{Err, Ok, Result}
use mathlib.Core.Path.{◌≡◌, refl, sym, ap, ◌∙◌, subst}
use mathlib.Core.Bool.{true}
use mathlib.Core.List.{List}
use Prim.Native.Nat.{ℕ, ◌*◌, ◌/◌, ◌≤◌}
use Rattle.refusals.specs.Number.{placed_of}
use Rattle.refusals.specs.declared.Refused.{Refused}
use native.Mathlib.Omega.{arith}
use borrow.Author.Tests.{eq-eqb}
use lib.ListN.{length}
use lib.Ieee.{Float}
use Rattle.refusals.specs.Paper.{Paper, Reason, answers, refuses, onward}
use Rattle.floats.specs.Pick.{pick, pick_true, pick-false}
use Rattle.stock.specs.declared.TurnStockSpec.{TurnStockSpec}
use Rattle.stock.specs.declared.TurnStock.{TurnStock}
use Rattle.stock.specs.declared.Stamp.{Stamp}
use Rattle.stock.specs.declared.TurnChange.{TurnChange}
use Rattle.stock.specs.Spec.{clean_spec}
use Rattle.stock.specs.Cell.{stock_of}
use Rattle.stock.proofs.Bins.{HeldSpec, HeldList}
use Rattle.stock.proofs.Count.{no_answer, stock-length}
use Rattle.blocks.specs.Block.{blocks_in, matches_of}
use Rattle.blocks.specs.Renew.{renewed_for, renewed_all}
use Rattle.changes.specs.declared.ChangeList.{ChangeList}
use Rattle.changes.specs.Change.{room_of, changes_from}
use Rattle.changes.specs.Commit.{put_all, numbers_kept}
use Rattle.changes.proofs.Kept.{bins-are, renewed-all}
use Rattle.rings.specs.declared.Ring.{Ring}
use Rattle.rings.specs.declared.RingCount.{RingCount}
use Rattle.rings.specs.Remove.{count_of, StoresAs}
use Rattle.moves.specs.Move.{Left, move_in, move_of, counts_of, moved_cells, moved_rings, moved_kept, is_moved, parts_of, rebuilt_kept}
use Rattle.moves.specs.Then.{Shifts, ShiftsThen, ShiftsKept, stored_kept}
use Rattle.moves.proofs.Taking.{taken_in}
use Rattle.moves.proofs.Moving.{moved_as, moved-not, move-is}
use Rattle.moves.proofs.FromParts.{parts}

-- ---- a move

-- a refusal leaves them
pub kept-refused : (k : TurnStock) (p : Paper Left) (r : Result RingCount Refused) (x : Reason) (cs bs xs : List Float) → placed_of r ≡ refuses x → p ≡ refuses x → ShiftsKept k p r cs cs bs bs xs xs
kept-refused k p r x cs bs xs a e =
    record {
      left = record { answer = a ∙ sym (ap counts_of e); cells = sym (ap (λ (q : Paper Left). moved_cells q cs) e); rings = sym (ap (λ (q : Paper Left). moved_rings q xs) e) };
      kept = sym (ap (λ (q : Paper Left). moved_kept k q bs) e);
    }

-- worked out where a move is accepted
pub then-renewed : (k : TurnStock) (n : ℕ) (p : Paper Left) (r : Result RingCount Refused) (cs cs' bs bs' xs xs' : List Float) (is : List ℕ) (j : ℕ) (s : TurnStockSpec) → Shifts p r cs cs' xs xs' → bs' ≡ renewed_for s n cs' is j bs → s ≡ clean_spec k.spec → is_moved r ≡ true
    → ShiftsThen k n p r cs cs' bs bs' xs xs' is j
then-renewed k n p r cs cs' bs bs' xs xs' is j s a e q y = record { left = a; kept = e ∙ ap (λ (x : TurnStockSpec). renewed_for x n cs' is j bs) q ∙ sym (pick_true _ _ _ y) }

-- on checked cells, for the bins of the list, which are the first j of another
pub shifts-kept : (k : TurnStock) (n : ℕ) (cs bs xs : List Float) (st : Stamp) (l : List TurnChange) (removed : List Float) → HeldSpec k.spec → HeldList cs → HeldList bs → stock_of k.spec cs ≡ answers n → (r : Result RingCount Refused) (cs' bs' xs' : List Float)
    → Shifts (move_in k n cs bs xs st l removed) r cs cs' xs xs' → (fresh : List Float) → (matches_of (clean_spec k.spec) n cs bs ≡ true → cs' ≡ put_all cs l → fresh ≡ numbers_kept k.spec (put_all cs l)) → bs' ≡ pick (is_moved r) fresh bs
    → bs' ≡ moved_kept k (move_in k n cs bs xs st l removed) bs
shifts-kept k n cs bs xs st l removed hs hc hb e r cs' bs' xs' a fresh all q = go (move_in k n cs bs xs st l removed) refl
  where
    go : (p : Paper Left) → move_in k n cs bs xs st l removed ≡ p → bs' ≡ moved_kept k (move_in k n cs bs xs st l removed) bs
    go (answers m) f =
        let t = taken_in k n cs bs xs st l removed m f in
        let c : cs' ≡ put_all cs l = a.cells ∙ ap (λ (p : Paper Left). moved_cells p cs) f ∙ t.cells in
        q ∙ pick_true _ _ _ (moved_as r _ (a.answer ∙ ap counts_of f)) ∙ all t.matched c ∙ ap (numbers_kept k.spec) (sym t.cells) ∙ sym (ap (λ (p : Paper Left). moved_kept k p bs) f)
    go (refuses x) f = q ∙ pick-false _ _ _ (moved-not r x (a.answer ∙ ap counts_of f)) ∙ sym (ap (λ (p : Paper Left). moved_kept k p bs) f)

-- a move of the lent lists
pub move-keeps : (k : TurnStock) (cs bs xs : List Float) (list : ChangeList) (is : List ℕ) (ys removed : List Float) (n : ℕ) → HeldSpec k.spec → HeldList cs → HeldList bs → stock_of k.spec cs ≡ answers n → list.count ≤ room_of (length is) (length ys)
    → (r : Result RingCount Refused) (cs' bs' xs' : List Float) → ShiftsThen k n (move_in k n cs bs xs list.stamp (changes_from is ys list.count) removed) r cs cs' bs bs' xs xs' is list.count → ShiftsKept k (move_of k cs bs xs list is ys removed) r cs cs' bs bs' xs xs'
move-keeps k cs bs xs list is ys removed n hs hc hb e h r cs' bs' xs' a =
    let l = changes_from is ys list.count in
    let bins = bins-are is ys list.count (omega arith) in
    subst (λ (p : Paper Left). ShiftsKept k p r cs cs' bs bs' xs xs') (sym (move-is k cs bs xs list is ys removed n e h))
    (record {
      left = a.left;
      kept = shifts-kept k n cs bs xs list.stamp l removed hs hc hb e r cs' bs' xs' a.left (renewed_for (clean_spec k.spec) n cs' is list.count bs)
          (λ m c. ap (λ (x : List Float). renewed_for (clean_spec k.spec) n x is list.count bs) c ∙ renewed-all k.spec cs n hs hc e bs hb m l is list.count bins) a.kept;
    })

-- ---- a rebuild
pub rebuilt-keeps : (spec : TurnStockSpec) (cs given xs bs bs' xs' : List Float) (t : Result ℕ Refused) → StoresAs xs (parts_of spec cs (length bs) given xs) t xs' → bs' ≡ stored_kept t spec cs bs → bs' ≡ rebuilt_kept spec cs (parts_of spec cs (length bs) given xs) bs
unfolding renewed_all count_of onward
rebuilt-keeps spec cs given xs bs bs' xs' t s q = go (parts_of spec cs (length bs) given xs) refl t s.answer q
  where
    rule : Paper (List Ring)
    rule = parts_of spec cs (length bs) given xs

    go : (p : Paper (List Ring)) → rule ≡ p → (r : Result ℕ Refused) → placed_of r ≡ count_of rule → bs' ≡ stored_kept r spec cs bs → bs' ≡ rebuilt_kept spec cs rule bs
    go (answers l) f (Ok m) a e =
        let w = parts spec cs (length bs) xs given l f in
        let n : length cs / 4 ≡ w.bins = omega (arith, stock-length spec cs w.bins w.stock) in
        let len : length bs ≡ 2 * blocks_in (length cs / 4) = w.numbers ∙ ap (λ (x : ℕ). 2 * blocks_in x) (sym n) in
        e ∙ pick_true _ _ _ (eq-eqb _ _ len) ∙ sym (ap (λ (p : Paper (List Ring)). rebuilt_kept spec cs p bs) f)
    go (answers l) f (Err c) a e = absurd (no_answer _ _ (a ∙ ap count_of f))
    go (refuses x) f (Ok m) a e = absurd (no_answer x m (sym (a ∙ ap count_of f)))
    go (refuses x) f (Err c) a e = e ∙ sym (ap (λ (p : Paper (List Ring)). rebuilt_kept spec cs p bs) f)
