-- The lines of a stock's file put one behind the other. Assumes nothing.
use Rattle.std.specs.Prelude.{Err, Ok, Result}
use Prim.Native.Nat.{ℕ, zero, suc, ◌+◌, ◌-◌, ◌≤◌}
use native.Mathlib.Numerals.{add-one}
use native.Mathlib.Omega.{arith}
use mathlib.Core.Path.{◌≡◌, refl, sym, ap, ap₂, ◌∙◌, subst}
use mathlib.Core.Bool.{Bool, true, false, true≢false}
use mathlib.Core.List.{List, [], ◌++◌, append_assoc, append-nil}
use lib.Dec.{ltb, eqb, leb}
use lib.ListN.{length, take, length-append}
use lib.Seq.{length-sets}
use lib.Ieee.{Float}
use Rattle.refusals.specs.declared.Refusal.{Refusal}
use Rattle.refusals.specs.Number.{reason_of, paper_of}
use Rattle.refusals.specs.Paper.{Paper, answers, refuses, demand, onward}
use Rattle.floats.specs.Pick.{pick}
use Rattle.stock.specs.declared.TurnStock.{TurnStock}
use Rattle.stock.specs.Spec.{clean_spec}
use Rattle.stock.specs.Cell.{stock_of, new_of}
use Rattle.stock.proofs.Count.{stocked, stock-length, demanded, same_answer, no_answer}
use Rattle.rings.specs.Store.{bar_ring, count_fits, room_for_rings}
use Rattle.rings.proofs.Removing.{fits-within}
use Rattle.text.specs.Wrote.{Wrote, line_room}
use Rattle.text.specs.Lines.{newline, ring_line}
use Rattle.text.proofs.Chosen.{yes, no}
use Rattle.text.proofs.Spelling.{hex-long, digits-length, decimal-short}
use Rattle.streams.specs.declared.Out.{Out}
use Rattle.streams.specs.Moves.{Gathers, Puts}
use Rattle.stock_lines.specs.Form.{stock_text, stock_line, kept_cell_line, end_line, fields_text}
use Rattle.stock_lines.proofs.Steps.{few-digits, wrote-front}
use Rattle.stock_lines.proofs.Firsts.{first-few}
use Rattle.stock_file.specs.Write.{Opening, opening_of, line_behind, line_at, lines_to, file_of, line_count, line_for, line_over, WroteFileLine}
use Rattle.stock_file.proofs.Lined.{for-line}
use Rattle.stock_streams.specs.Write.{text_in, AllPut, PutsStock}

-- ---- a line has 128 bytes at most

stock-short : (b : Opening) → length (stock_line b.form b.bar b.edition) ≤ line_room
unfolding stock_line
stock-short b = omega (arith, first-few b.form b.edition b.bar, length-append (stock_text b.form b.bar b.edition) newline)

pub cell-short : (form i : ℕ) (a b c d : Float) → length (kept_cell_line form i a b c d) ≤ line_room
unfolding kept_cell_line fields_text
cell-short form i a b c d = simp (length-append, hex-long, digits-length) (omega (arith, few-digits form))

ring-short : (a b c d : Float) → length (ring_line a b c d) ≤ line_room
unfolding ring_line
ring-short a b c d = simp (length-append, hex-long) (omega arith)

end_short : (n : ℕ) → length (end_line n) ≤ line_room
unfolding end_line
end_short n = simp length-append (omega (arith, decimal-short n))

short-pick : (t : Bool) (s u : List ℕ) → length s ≤ line_room → length u ≤ line_room → length (pick t s u) ≤ line_room
short-pick true s u a b = simp yes a
short-pick false s u a b = simp no b

line-short : (b : Opening) (cs : List Float) (n : ℕ) (rs : List Float) (m k : ℕ) → length (line_at b cs n rs m k) ≤ line_room
unfolding line_at line_behind
line-short b cs n rs m k =
    short-pick (eqb k 0) _ _ (stock-short b)
    (short-pick (ltb (k - 1) n) _ _ (cell-short b.form (k - 1) _ _ _ _)
    (short-pick (ltb (k - 1 - n) m) _ _ (ring-short _ _ _ _)
    (short-pick (eqb (k - 1 - n) m) _ _ (end_short (k - 1 + 1)) (omega arith))))

for-short : (stock : TurnStock) (cs rs : List Float) (k : ℕ) (s : List ℕ) → line_for stock cs rs k ≡ answers s → length s ≤ line_room
unfolding line_for onward
for-short stock cs rs k s = go (new_of stock.spec (length cs))
  where
    go : (p : Paper ℕ) → onward p (λ n. demand (leb stock.rings (room_for_rings (length rs))) 4 (answers (line_at (opening_of stock n) cs n rs stock.rings k))) ≡ answers s → length s ≤ line_room
    go (answers n) h =
        let d = demanded (leb stock.rings (room_for_rings (length rs))) 4 (answers (line_at (opening_of stock n) cs n rs stock.rings k)) s h in
        subst (λ (x : List ℕ). length x ≤ line_room) (same_answer d.1) (line-short (opening_of stock n) cs n rs stock.rings k)
    go (refuses r) h = absurd (no_answer r s h)

-- ---- what is put

-- a buffer stays as long as it is
pub over-length : {l l' : List ℕ} {p : Paper (List ℕ)} {r : (Result ℕ Refusal)} → WroteFileLine l p r l' → length l' ≡ length l
over-length {l} {l'} {p} w = ap length w.out ∙ by p
  where
    by : (q : Paper (List ℕ)) → length (line_over q l) ≡ length l
    by (answers s) = length-sets l 0 s
    by (refuses c) = refl

-- a line's bytes
pub put-told : (stock : TurnStock) (cs rs : List Float) (k : ℕ) {l l' : List ℕ} {n : ℕ} {x : (Result ℕ Refusal)} {t : List ℕ} {out r : Out} {buf buf' : List ℕ} → length l ≡ line_room
    → WroteFileLine l (line_for stock cs rs k) x l' → x ≡ Ok n → t ≡ take n l' → Puts out buf t r buf' → Puts out buf (text_in (line_for stock cs rs k)) r buf'
put-told stock cs rs k {l} {l'} {n} {x} {t} {out} {r} {buf} {buf'} room v ex et p = by (line_for stock cs rs k) refl
  where
    w : WroteFileLine l (line_for stock cs rs k) (Ok n) l'
    w = subst (λ (y : Result ℕ Refusal). WroteFileLine l (line_for stock cs rs k) y l') ex v

    by : (q : Paper (List ℕ)) → line_for stock cs rs k ≡ q → Puts out buf (text_in (line_for stock cs rs k)) r buf'
    by (answers s) e =
        let u : WroteFileLine l (answers s) (Ok n) l' = subst (λ (x : Paper (List ℕ)). WroteFileLine l x (Ok n) l') e w in
        let h : n ≡ length s = same_answer u.answer in
        let f : Wrote l 0 s l' n = record { text = u.out; end = omega (arith, h) } in
        let g : n ≤ length l = omega (arith, h, room, for-short stock cs rs k s e) in
        subst (λ (x : List ℕ). Puts out buf x r buf') (et ∙ wrote-front f g ∙ sym (ap text_in e)) p
    by (refuses c) e =
        let u : WroteFileLine l (refuses c) (Ok n) l' = subst (λ (x : Paper (List ℕ)). WroteFileLine l x (Ok n) l') e w in
        absurd (no_answer c n (sym u.answer))

-- of a line that is refused, none
pub put-nothing : (p : Paper (List ℕ)) {l l' : List ℕ} {x : (Result ℕ Refusal)} {c : Refusal} (out : Out) (buf : List ℕ) → WroteFileLine l p x l' → x ≡ Err c → Puts out buf (text_in p) out buf
put-nothing (answers s) {c = c} out buf w e = absurd (no_answer (reason_of c) (length s) (sym (ap paper_of e) ∙ w.answer))
put-nothing (refuses r) out buf w e = record { stopped = λ f. f; gathers = λ f. record { handed = []; split = sym (append-nil (take out.len buf)) } }

gathers-more : {a b p p' : List ℕ} → Gathers [] a p → Gathers p b p' → Gathers [] (a ++ b) p'
gathers-more {a} {b} {p} {p'} g h = record {
  handed = g.handed ++ h.handed;
  split = append_assoc g.handed h.handed p' ∙ ap (λ (x : List ℕ). g.handed ++ x) h.split ∙ sym (append_assoc g.handed p b) ∙ ap (λ (x : List ℕ). x ++ b) g.split;
}

-- a write that failed stays failed
pub not-failed : (a b : Bool) → (a ≡ true → b ≡ true) → b ≡ false → a ≡ false
not-failed true b h e = sym (h refl) ∙ e
not-failed false b h e = refl

pub put-none : (f : ℕ → List ℕ) (out : Out) (buf : List ℕ) → out.len ≡ 0 → AllPut (lines_to f 0) out buf
unfolding lines_to
put-none f out buf e = record { all = λ z. record { handed = []; split = ap (λ (n : ℕ). take n buf) e } }

pub put-more : (f : ℕ → List ℕ) (k : ℕ) {out r : Out} {buf buf' : List ℕ} → AllPut (lines_to f k) out buf → Puts out buf (f k) r buf' → AllPut (lines_to f (k + 1)) r buf'
unfolding lines_to
put-more f k {out} {r} {buf} {buf'} a p = rw (add-one k) (record { all = λ z. gathers-more (a.all (not-failed out.failed r.failed p.stopped z)) (p.gathers z) })

-- ---- a whole file

lines_same : (f g : ℕ → List ℕ) (n : ℕ) → ((k : ℕ) → f k ≡ g k) → lines_to f n ≡ lines_to g n
unfolding lines_to
lines_same f g zero h = refl
lines_same f g (suc n) h = ap₂ (λ (a b : List ℕ). a ++ b) (lines_same f g n h) (h n)

pub stock-put : (stock : TurnStock) (cs rs : List Float) (n : ℕ) (out : Out) (buf : List ℕ) → line_count stock.spec cs rs stock.rings ≡ answers n
    → AllPut (lines_to (λ k. text_in (line_for stock cs rs k)) n) out buf → PutsStock stock cs rs out buf
unfolding line_count onward file_of
stock-put stock cs rs n out buf e a = go (stock_of stock.spec cs) refl e
  where
    go : (p : Paper ℕ) → stock_of stock.spec cs ≡ p → onward p (λ k. demand (count_fits (bar_ring (clean_spec stock.spec)) rs stock.rings) 4 (answers (k + stock.rings + 2))) ≡ answers n → PutsStock stock cs rs out buf
    go (answers k) q h =
        let d = demanded (count_fits (bar_ring (clean_spec stock.spec)) rs stock.rings) 4 (answers (k + stock.rings + 2)) n h in
        let z : n ≡ k + stock.rings + 2 = sym (same_answer d.1) in
        let s = stocked stock.spec cs k q in
        let line : (i : ℕ) → text_in (line_for stock cs rs i) ≡ line_at (opening_of stock k) cs k rs stock.rings i = λ i. ap text_in (for-line stock cs rs i k s.count (stock-length stock.spec cs k q) (fits-within _ rs stock.rings d.0)) in
        let f : lines_to (λ i. text_in (line_for stock cs rs i)) n ≡ lines_to (line_at (opening_of stock k) cs k rs stock.rings) (k + stock.rings + 2) = lines_same _ _ n line ∙ ap (lines_to (line_at (opening_of stock k) cs k rs stock.rings)) z in
        record { asked = λ u. record { cells = k; accepted = e ∙ ap answers z }; put = λ u. subst (λ (x : List ℕ). AllPut x out buf) f a }
    go (refuses r) q h = absurd (no_answer r n h)

pub stock-refused : (stock : TurnStock) (cs rs : List Float) (out : Out) (buf : List ℕ) → out.failed ≡ true → PutsStock stock cs rs out buf
stock-refused stock cs rs out buf e = record { asked = λ f. absurd (true≢false (sym e ∙ f)); put = λ f. absurd (true≢false (sym e ∙ f)) }

-- what a flush that went well says
pub went-well : (a r : Bool) → (a ≡ true → r ≡ false) → r ≡ true → a ≡ false
went-well true r h e = absurd (true≢false (sym e ∙ h refl))
went-well false r h e = refl
