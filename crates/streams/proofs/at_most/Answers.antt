-- `streams::at_most` meets its contract. Assumes nothing.
use Rattle.std.proofs.Common.{ℕ, min, take, sym, ap, ◌∙◌, arith}
use Rattle.std.proofs.lemmas.List.{take_min}
use Rattle.streams.proofs.at_most.Goals as goal

pub returns : goal.returns
returns c = (omega arith, λ buf e. ap (λ (n : ℕ). take n buf) (c.min.ensures ∙ ap (min c.args.len) (sym e)) ∙ take_min c.args.len buf)
