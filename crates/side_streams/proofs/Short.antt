-- No chunk has over 18,688 bytes. Assumes nothing.
use Prim.Native.Nat.{ℕ, zero, suc, ◌*◌, ◌≤◌}
use native.Mathlib.Omega.{arith}
use mathlib.Core.Path.{◌≡◌, refl, ap}
use mathlib.Core.Bool.{Bool, true, false}
use mathlib.Core.List.{List, [], ◌∷◌, ◌++◌}
use lib.ListN.{length, get_or, length-append}
use lib.Ieee.{Float}
use Rattle.refusals.specs.Limits.{piece_limit}
use Rattle.floats.specs.Pick.{pick}
use Rattle.text.proofs.Chosen.{yes, no}
use Rattle.stock.specs.declared.TurnCell.{TurnCell}
use Rattle.stock.specs.Cell.{cell_at, same_cell}
use Rattle.stock_lines.specs.Form.{written_form}
use Rattle.stock_streams.proofs.Putting.{cell-short}
use Rattle.rings.specs.declared.Ring.{Ring}
use Rattle.rings.specs.Ring.{kept, in_hand, left}
use Rattle.rings.specs.Remove.{leaves}
use Rattle.side_by_side.specs.Compared.{Side, cell_text, bin_text, bin_texts, bin_count, ring_texts, pieces_text, left_texts, chunks_of, chunk_of}
use Rattle.side_by_side.proofs.Pieces.{leaves-yes, leaves-no, few-left}
use Rattle.side_by_side.proofs.Texts.{ring_long, line_of}

record Short (l : List (List ℕ)) : Type 0 where
  few : (c : ℕ) → length (get_or l c []) ≤ 18688

none-short : Short []
none-short = record { few = λ c. omega arith }

one_more : (t : List ℕ) {l : List (List ℕ)} → length t ≤ 18688 → Short l → Short (t ∷ l)
one_more t {l} h s = record { few = by }
  where
    by : (c : ℕ) → length (get_or (t ∷ l) c []) ≤ 18688
    by zero = h
    by (suc c) = s.few c

both-short : (l : List (List ℕ)) {m : List (List ℕ)} → Short l → Short m → Short (l ++ m)
both-short [] a b = b
both-short (t ∷ l) a b = one_more t (a.few 0) (both-short l (record { few = λ c. a.few (suc c) }) b)

-- ---- bins

bin-short : (all : ℕ) (cs ds : List Float) (i : ℕ) → length (bin_text all cs ds i) ≤ 18688
unfolding bin_text
bin-short all cs ds i = go (same_cell (cell_at cs i) (cell_at ds i))
  where
    short : (c : TurnCell) → length (cell_text all i c) ≤ 128
    short c = cell-short (written_form all) i _ _ _ _

    go : (t : Bool) → length (pick t [] (cell_text all i (cell_at cs i) ++ cell_text all i (cell_at ds i))) ≤ 18688
    go true = simp yes (omega arith)
    go false = simp no (omega (arith, length-append (cell_text all i (cell_at cs i)) (cell_text all i (cell_at ds i)), short (cell_at cs i), short (cell_at ds i)))

bins-short : (all : ℕ) (cs ds : List Float) (n : ℕ) → Short (bin_texts all cs ds n)
unfolding bin_texts
bins-short all cs ds zero = none-short
bins-short all cs ds (suc i) = both-short (bin_texts all cs ds i) (bins-short all cs ds i) (one_more (bin_text all cs ds i) (bin-short all cs ds i) none-short)

-- ---- rings

texts-long : (l : List Ring) → length (ring_texts l) ≡ 73 * length l
unfolding ring_texts
texts-long [] = refl
texts-long (q ∷ l) = omega (arith, length-append (line_of q) (ring_texts l), ring_long q.z0 q.z1 q.r0 q.r1, texts-long l)

pieces-short : (ks : List Ring) (q : Ring) → length (pieces_text (leaves ks q)) ≤ 18688
pieces-short ks q = go (in_hand piece_limit (kept q) ks) refl
  where
    go : (t : Bool) → in_hand piece_limit (kept q) ks ≡ t → length (pieces_text (leaves ks q)) ≤ 18688
    go true e =
        let f : length (ring_texts (left ks q)) ≤ 18688 = omega (arith, texts-long (left ks q), few-left ks q e) in
        omega (arith, f, ap (λ p. length (pieces_text p)) (leaves-yes ks q e))
    go false e = omega (arith, ap (λ p. length (pieces_text p)) (leaves-no ks q e))

left-short : (ks qs : List Ring) → Short (left_texts ks qs)
unfolding left_texts
left-short ks [] = none-short
left-short ks (q ∷ qs) = one_more (pieces_text (leaves ks q)) (pieces-short ks q) (left-short ks qs)

-- ---- all

pub chunk-short : (a b : Side) (c : ℕ) → length (chunk_of a b c) ≤ 18688
unfolding chunks_of
chunk-short a b c =
    (both-short (bin_texts (bin_count a.cells b.cells) a.cells b.cells (bin_count a.cells b.cells)) (bins-short _ a.cells b.cells _)
    (both-short (left_texts b.rings a.rings) (left-short b.rings a.rings) (left-short a.rings b.rings))).few c
