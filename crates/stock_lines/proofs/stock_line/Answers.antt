-- `stock_lines::stock_line` meets its contract. Assumes nothing.
use Rattle.std.proofs.Common.{◌≡◌, ℕ, true, List, ◌∷◌, ◌++◌, sym, refl, ap, ◌∙◌, arith}
use Rattle.floats.specs.Pick.{pick_true}
use Rattle.text.specs.Digits.{digits}
use Rattle.text.specs.Lines.{newline}
use Rattle.text.proofs.Sets.{and_then, retext, put-wrote}
use Rattle.text.proofs.Spelling.{digits-length}
use Rattle.stock_lines.specs.Form.{form_of, bar_numbers, stock_prefix, fields_text, edition_text, stock_line}
use Rattle.stock_lines.proofs.Forms.{fields-then, fields-text-long}
use Rattle.stock_lines.proofs.Steps.{stock-long, written-edition}
use Rattle.stock_lines.proofs.stock_line.Goals as goal

pub put_bar-f-requires : goal.put_bar-f-requires
put_bar-f-requires c = omega (arith, c.put_stock-e.ensures.wrote.end, stock-long c.written_form.result)

pub put_edition-g-requires : goal.put_edition-g-requires
put_edition-g-requires c = let a = c.args in
    omega (arith, c.put_stock-e.ensures.wrote.end, stock-long c.written_form.result, c.put_bar-f.ensures.end, fields-text-long (bar_numbers a.bar))

pub returns : goal.returns
unfolding stock_line edition_text
returns c = let a = c.args in
    let k = c.written_form.result in
    let t : (form_of k).edition ≡ true = ap (λ (x : ℕ). (form_of x).edition) c.written_form.ensures ∙ written-edition a.n in
    let n = fields-text-long (bar_numbers a.bar) in
    let d = digits-length 16 8 a.edition in
    let s = stock-long k in
    let u = c.put_stock-e.ensures.wrote in
    let v = c.put_bar-f.ensures in
    let w = c.put_edition-g.ensures in
    let x = put-wrote 1 refl (omega (arith, u.end, v.end, w.end, s, n, d)) c.put.ensures in
    record {
      wrote = retext
          (ap (λ (y : List ℕ). (stock_prefix k ++ y) ++ newline) (fields-then (bar_numbers a.bar) (9 ∷ digits 16 8 a.edition))
          ∙ ap (λ (y : List ℕ). (stock_prefix k ++ fields_text (bar_numbers a.bar) y) ++ newline) (sym (pick_true _ _ _ t))
          ∙ ap (λ (x : ℕ). stock_line x a.bar a.edition) c.written_form.ensures)
          (and_then (and_then u (and_then v w)) x);
      within = omega (arith, u.end, v.end, w.end, x.end, s, n, d);
    }
