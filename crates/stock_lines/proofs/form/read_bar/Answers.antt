-- `stock_lines::form::read_bar` meets its contract. Assumes nothing.
use Rattle.std.proofs.Common.{◌≡◌, ℕ, true, false, List, length, drop, sym, refl, ap, ◌∙◌, arith}
use Rattle.stock_lines.specs.Form.{fields_of, begins_with, five_of, stock_prefix}
use Rattle.stock_lines.proofs.Steps.{stock-long, begins-long, line-begins, line-begins-not, line-front, line-fits, line-length}
use Rattle.stock_lines.proofs.form.read_bar.Goals as goal

pub slice_bounds-p-end : goal.slice_bounds-p-end
slice_bounds-p-end c = line-fits refl c.put_stock-n.ensures

pub slice_bounds-begins-end : goal.slice_bounds-begins-end
slice_bounds-begins-end c = line-length refl c.put_stock-n.ensures

pub begins-requires : goal.begins-requires
begins-requires c = omega (arith, stock-long c.args.form, ap length (line-front refl c.put_stock-n.ensures))

pub five_from-requires : goal.five_from-requires
five_from-requires c = let w = c.put_stock-n.ensures in
    let a = c.args in
    let s : List ℕ = a.line.now in
    let h : begins_with (stock_prefix a.form) 85 s ≡ true =
    ap (λ (p : List ℕ). begins_with p 85 s) (sym (line-front refl w)) ∙ sym c.begins.ensures ∙ c.if-begins.true in
    omega (arith, w.wrote.end, begins-long (stock_prefix a.form) 85 s h)

pub returns-then-begins : goal.returns-then-begins
returns-then-begins c = let w = c.put_stock-n.ensures in
    let a = c.args in
    let s : List ℕ = a.line.now in
    let h : begins_with (stock_prefix a.form) 85 s ≡ true =
    ap (λ (p : List ℕ). begins_with p 85 s) (sym (line-front refl w)) ∙ sym c.begins.ensures ∙ c.if-begins.true in
    let e : c.put_stock-n.result ≡ length (stock_prefix a.form) = omega (arith, w.wrote.end) in
    c.five_from.ensures ∙ ap (λ (n : ℕ). five_of (fields_of 5 (drop n s))) e ∙ sym (ap five_of (line-begins (stock_prefix a.form) 85 5 s h))

pub returns : goal.returns
unfolding five_of
returns c = let w = c.put_stock-n.ensures in
    let a = c.args in
    let s : List ℕ = a.line.now in
    let h : begins_with (stock_prefix a.form) 85 s ≡ false =
    ap (λ (p : List ℕ). begins_with p 85 s) (sym (line-front refl w)) ∙ sym c.begins.ensures ∙ c.if-begins.false in
    sym (ap five_of (line-begins-not (stock_prefix a.form) 85 5 s refl h))
