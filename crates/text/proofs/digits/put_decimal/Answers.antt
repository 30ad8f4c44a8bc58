-- `text::digits::put_decimal` meets its contract. Assumes nothing.
use Rattle.std.proofs.Common.{ℕ, suc, ap, ◌∙◌, add-one}
use Rattle.text.specs.Digits.{digits, decimal_of}
use Rattle.text.proofs.Sets.{reput}
use Rattle.text.proofs.digits.put_decimal.Goals as goal

pub returns : goal.returns
unfolding decimal_of
returns c = reput (ap (λ (k : ℕ). digits 10 k c.args.n) (add-one _ ∙ ap suc c.places-k.ensures.0)) c.put_digits.ensures
