-- `stock_lines::form::five_from` meets its contract. Assumes nothing.
use Rattle.std.proofs.Common.{ℕ, ◌+◌, List, sym, ap, ◌∙◌, arith}
use Rattle.stock_lines.specs.Form.{five_of}
use Rattle.stock_lines.proofs.Steps.{stops, goes, gives, ends}
use Rattle.stock_lines.proofs.form.five_from.Goals as goal

pub returns-in_err-a : goal.returns-in_err-a
unfolding five_of
returns-in_err-a c = let s : List ℕ = c.args.s.now in
    let at : ℕ = c.args.at in
    c.from_residual.ensures ∙ sym (ap five_of (stops 4 s at (sym c.read_hex.ensures ∙ c.in_err-a.was)))

pub returns-in_err-b : goal.returns-in_err-b
unfolding five_of
returns-in_err-b c = let s : List ℕ = c.args.s.now in
    let at : ℕ = c.args.at in
    c.from_residual-in_err-b.ensures ∙ sym (ap five_of (goes 4 s at (at + 17) _ (sym c.read_hex.ensures ∙ c.in_ok-a.was) (omega arith) (stops 3 s (at + 17) (sym c.read_hex-2.ensures ∙ c.in_err-b.was))))

pub returns-in_err-c : goal.returns-in_err-c
unfolding five_of
returns-in_err-c c = let s : List ℕ = c.args.s.now in
    let at : ℕ = c.args.at in
    c.from_residual-in_err-c.ensures ∙ sym (ap five_of (goes 4 s at (at + 17) _ (sym c.read_hex.ensures ∙ c.in_ok-a.was) (omega arith) (goes 3 s (at + 17) (at + 34) _ (sym c.read_hex-2.ensures ∙ c.in_ok-b.was) (omega arith) (stops 2 s (at + 34) (sym c.read_hex-3.ensures ∙ c.in_err-c.was)))))

pub returns-in_err-d : goal.returns-in_err-d
unfolding five_of
returns-in_err-d c = let s : List ℕ = c.args.s.now in
    let at : ℕ = c.args.at in
    c.from_residual-in_err-d.ensures ∙ sym (ap five_of (goes 4 s at (at + 17) _ (sym c.read_hex.ensures ∙ c.in_ok-a.was) (omega arith) (goes 3 s (at + 17) (at + 34) _ (sym c.read_hex-2.ensures ∙ c.in_ok-b.was) (omega arith) (goes 2 s (at + 34) (at + 51) _ (sym c.read_hex-3.ensures ∙ c.in_ok-c.was) (omega arith) (stops 1 s (at + 51) (sym c.read_hex-4.ensures ∙ c.in_err-d.was))))))

pub returns-in_err-e : goal.returns-in_err-e
unfolding five_of
returns-in_err-e c = let s : List ℕ = c.args.s.now in
    let at : ℕ = c.args.at in
    c.from_residual-in_err-e.ensures ∙ sym (ap five_of (goes 4 s at (at + 17) _ (sym c.read_hex.ensures ∙ c.in_ok-a.was) (omega arith) (goes 3 s (at + 17) (at + 34) _ (sym c.read_hex-2.ensures ∙ c.in_ok-b.was) (omega arith) (goes 2 s (at + 34) (at + 51) _ (sym c.read_hex-3.ensures ∙ c.in_ok-c.was) (omega arith) (goes 1 s (at + 51) (at + 68) _ (sym c.read_hex-4.ensures ∙ c.in_ok-d.was) (omega arith) (stops 0 s (at + 68) (sym c.read_hex-5.ensures ∙ c.in_err-e.was)))))))

pub returns : goal.returns
unfolding five_of
returns c = let s : List ℕ = c.args.s.now in
    let at : ℕ = c.args.at in
    sym (ap five_of (gives 4 s at (at + 17) _ _ (sym c.read_hex.ensures ∙ c.in_ok-a.was) (omega arith) (gives 3 s (at + 17) (at + 34) _ _ (sym c.read_hex-2.ensures ∙ c.in_ok-b.was) (omega arith) (gives 2 s (at + 34) (at + 51) _ _ (sym c.read_hex-3.ensures ∙ c.in_ok-c.was) (omega arith) (gives 1 s (at + 51) (at + 68) _ _ (sym c.read_hex-4.ensures ∙ c.in_ok-d.was) (omega arith) (gives 0 s (at + 68) (at + 85) _ _ (sym c.read_hex-5.ensures ∙ c.in_ok-e.was) (omega arith) (ends s (at + 85) (omega arith))))))))
