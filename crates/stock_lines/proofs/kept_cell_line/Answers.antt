-- `stock_lines::kept_cell_line` meets its contract. Assumes nothing.
use Rattle.std.proofs.Common.{ℕ, ap, arith}
use Rattle.text.proofs.Sets.{and_then, put-wrote, retext}
use Rattle.text.proofs.Spelling.{four-long}
use Rattle.stock_lines.specs.Form.{kept_cell_line, fields_text}
use Rattle.stock_lines.proofs.Steps.{cell-short}
use Rattle.stock_lines.proofs.kept_cell_line.Goals as goal

pub returns : goal.returns
unfolding kept_cell_line fields_text
returns c = let a = c.args in
    let n = four-long a.a a.b a.c a.d in
    let k = c.written_form.result in
    let s = cell-short k a.i in
    let u = c.put_cell-e.ensures.wrote in
    let v = put-wrote 69 n (omega (arith, u.end, s)) c.put_four.ensures in
    record {
      wrote = retext (ap (λ (x : ℕ). kept_cell_line x a.i a.a a.b a.c a.d) c.written_form.ensures) (and_then u v);
      within = omega (arith, u.end, v.end, s, n);
    }
