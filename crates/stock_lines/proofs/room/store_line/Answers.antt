-- `stock_lines::room::store_line` meets its contract. Assumes nothing.
use Rattle.std.proofs.Common.{sym, ap, ◌∙◌}
use Rattle.stock_lines.specs.Room.{taken, stored}
use Rattle.stock_lines.proofs.Rooms.{took-cell, took-ring, took-end, took-none, rings-cell, rings-other}
use Rattle.stock_lines.proofs.room.store_line.Goals as goal

pub returns-then-store_cell : goal.returns-then-store_cell
returns-then-store_cell c = let k = c.store_cell.ensures in
    let e = sym k.value ∙ c.if-store_cell.true in
    record { value = took-cell _ _ _ _ _ e; cells_after = k.cells_after; rings_after = rings-cell _ _ _ _ _ e }

pub returns-then-store : goal.returns-then-store
returns-then-store c = let k = c.store_cell.ensures in
    let e = sym k.value ∙ c.if-store_cell.false in
    let f = ap taken (sym c.ring_in_turn-ring.ensures) ∙ sym c.store.ensures.value ∙ c.if-store.true in
    record {
      value = took-ring _ _ _ _ _ e f;
      cells_after = k.cells_after;
      rings_after = c.store.ensures.list_after ∙ ap (stored 256 _ _) c.ring_in_turn-ring.ensures ∙ rings-other _ _ _ _ _ e;
    }

pub returns-then-end_in_turn : goal.returns-then-end_in_turn
returns-then-end_in_turn c = let k = c.store_cell.ensures in
    let e = sym k.value ∙ c.if-store_cell.false in
    let f = ap taken (sym c.ring_in_turn-ring.ensures) ∙ sym c.store.ensures.value ∙ c.if-store.false in
    record {
      value = took-end _ _ _ _ _ e f (sym c.end_in_turn.ensures ∙ c.if-end_in_turn.true);
      cells_after = k.cells_after;
      rings_after = c.store.ensures.list_after ∙ ap (stored 256 _ _) c.ring_in_turn-ring.ensures ∙ rings-other _ _ _ _ _ e;
    }

pub returns : goal.returns
returns c = let k = c.store_cell.ensures in
    let e = sym k.value ∙ c.if-store_cell.false in
    let f = ap taken (sym c.ring_in_turn-ring.ensures) ∙ sym c.store.ensures.value ∙ c.if-store.false in
    record {
      value = took-none _ _ _ _ _ e f (sym c.end_in_turn.ensures ∙ c.if-end_in_turn.false);
      cells_after = k.cells_after;
      rings_after = c.store.ensures.list_after ∙ ap (stored 256 _ _) c.ring_in_turn-ring.ensures ∙ rings-other _ _ _ _ _ e;
    }
