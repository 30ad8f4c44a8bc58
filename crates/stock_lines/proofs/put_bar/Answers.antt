-- `stock_lines::put_bar` meets its contract. Assumes nothing.
use Rattle.std.proofs.Common.{sym, append-nil, arith}
use Rattle.text.specs.Lines.{field}
use Rattle.text.proofs.Sets.{and_then, retext, put-wrote}
use Rattle.text.proofs.Spelling.{field-long}
use Rattle.stock_lines.specs.Form.{fields_text}
use Rattle.stock_lines.proofs.put_bar.Goals as goal

pub returns : goal.returns
unfolding fields_text
returns c = let b = c.args.bar in
    let n1 = field-long b.z_min_mm in
    let n2 = field-long b.z_max_mm in
    let n3 = field-long b.outer_radius_mm in
    let n4 = field-long b.bore_radius_mm in
    let n5 = field-long b.cell_mm in
    let w1 = put-wrote 17 n1 (omega arith) c.put_hex-a.ensures in
    let w2 = put-wrote 17 n2 (omega (arith, w1.end)) c.put_hex-b.ensures in
    let w3 = put-wrote 17 n3 (omega (arith, w1.end, w2.end)) c.put_hex-c.ensures in
    let w4 = put-wrote 17 n4 (omega (arith, w1.end, w2.end, w3.end)) c.put_hex-d.ensures in
    let w5 = put-wrote 17 n5 (omega (arith, w1.end, w2.end, w3.end, w4.end)) c.put_hex.ensures in
    and_then w1 (and_then w2 (and_then w3 (and_then w4 (retext (sym (append-nil (field b.cell_mm))) w5))))
