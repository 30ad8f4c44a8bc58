-- Two outcomes that meet the promise of a call are the same. Assumes nothing.
use Rattle.std.specs.Prelude.{Option, Err, Ok, Result}
use Prim.Native.Nat.{ℕ}
use mathlib.Core.Path.{◌≡◌, sym, ap, ap₂, ◌∙◌}
use mathlib.Core.List.{List}
use Rattle.refusals.specs.Number.{paper_of, placed_of, reason_in}
use Rattle.refusals.specs.declared.Refusal.{Refusal}
use Rattle.refusals.specs.declared.Refused.{Refused}
use native.Mathlib.Omega.{arith}
use lib.ListN.{length}
use lib.Ieee.{Float}
use Rattle.refusals.specs.Paper.{Paper, Reason, refuses}
use Rattle.refusals.specs.Lent.{Lent, over}
use Rattle.refusals.proofs.OneToOne.{one-to-one}
use Rattle.stock.proofs.Count.{same_answer, no_answer}
use Rattle.lines.specs.Hands.{Hand}
use Rattle.stock_lines.specs.declared.Reading.{Reading}
use Rattle.stock_lines.specs.Reading.{State, state_found, state_left}
use Rattle.stock_file.specs.declared.Taken.{Taken}
use Rattle.stock_file.specs.declared.Kept.{Kept}
use Rattle.stock_file.specs.Read.{held_in, taking, TakesPart}
use Rattle.stock_file.specs.Write.{WroteFileLine}

-- the reason of a refusal
reason : {A : Type 0} {u v : Reason} → ◌≡◌ {A = Paper A} (refuses u) (refuses v) → u ≡ v
reason {A} {u} {v} e = cc

pub same_lines : (r r' : Result ℕ Refusal) → paper_of r ≡ paper_of r' → r ≡ r'
same_lines (Ok n) (Ok m) h = ap Ok (same_answer h)
same_lines (Ok n) (Err d) h = absurd (no_answer _ _ (sym h))
same_lines (Err c) (Ok m) h = absurd (no_answer _ _ h)
same_lines (Err c) (Err d) h = ap Err (one-to-one c d (ap (λ (x : Reason). x.number) (reason h)))

-- `file_line`: its answer and the buffer
pub file-line-once : (l : List ℕ) (p : Paper (List ℕ)) (r r' : Result ℕ Refusal) (m m' : List ℕ) → WroteFileLine l p r m → WroteFileLine l p r' m' → (r ≡ r') × (m ≡ m')
file-line-once l p r r' m m' a b = (same_lines r r' (a.answer ∙ sym b.answer), a.out ∙ sym b.out)

pub same_kept : (r r' : Result Kept Refused) → placed_of r ≡ placed_of r' → r ≡ r'
same_kept (Ok k) (Ok j) h = ap Ok (same_answer h)
same_kept (Ok k) (Err d) h = absurd (no_answer _ _ (sym h))
same_kept (Err c) (Ok j) h = absurd (no_answer _ _ h)
same_kept (Err c) (Err d) h =
    let w : reason_in c ≡ reason_in d = reason h in
    let a : c.why ≡ d.why = one-to-one c.why d.why (ap (λ (x : Reason). x.number) w) in
    ap Err (ap₂ (λ (y : Refusal) (p : Option ℕ). record { why = y; place = p }) a (ap (λ (x : Reason). x.place) w))

-- `take_part`: the reading and the count of bytes held, the lent room, and the bytes of the line
pub part-once : (reading : Reading) (len : ℕ) (cells cells' rings rings' : Lent Float) (line line' : Lent ℕ) (bytes : List ℕ) (r r' : Taken)
    → state_found reading cells rings ≡ state_found reading cells' rings' → line.entry.now ≡ line'.entry.now
    → TakesPart reading len cells rings line bytes r → TakesPart reading len cells' rings' line' bytes r'
    → (r ≡ r') × (cells.exit.now ≡ cells'.exit.now) × (rings.exit.now ≡ rings'.exit.now) × (line.exit.now ≡ line'.exit.now)
part-once reading len cells cells' rings rings' line line' bytes r r' found held a b =
    let j : taking (state_found reading cells rings) (held_in len line.entry.now) bytes ≡ taking (state_found reading cells' rings') (held_in len line'.entry.now) bytes =
    ap (λ (x : State). taking x (held_in len line.entry.now) bytes) found ∙ ap (λ (x : List ℕ). taking (state_found reading cells' rings') (held_in len x) bytes) held in
    let s : state_left r.reading cells rings ≡ state_left r'.reading cells' rings' = a.reads ∙ ap (λ (x : Hand State). x.job) j ∙ sym b.reads in
    let n : r.len ≡ r'.len = a.holds ∙ ap (λ (x : Hand State). length x.held) j ∙ sym b.holds in
    let l : line.exit.now ≡ line'.exit.now =
    a.keeps ∙ ap (λ (x : Hand State). over x.held line.entry.now) j ∙ ap (over (taking (state_found reading cells' rings') (held_in len line'.entry.now) bytes).held) held ∙ sym b.keeps in
    (ap₂ (λ (u : Reading) (n : ℕ). record { reading = u; len = n }) (ap (λ (x : State). x.reading) s) n, ap (λ (x : State). x.cells) s, ap (λ (x : State). x.rings) s, l)
