-- `text::sixteen::nibble` meets its contract. Assumes nothing.
use Rattle.std.proofs.Common.{◌≡◌, ◌+◌, ◌-◌, ◌∙◌, arith}
use Rattle.text.proofs.Reading.{nibble-is-low, nibble-is-high, nibble-first, nibble-between, nibble-last}
use Rattle.text.proofs.sixteen.nibble.Goals as goal

pub returns-in-48-to-57 : goal.returns-in-48-to-57
returns-in-48-to-57 c = c.from.ensures ∙ nibble-is-low _ (omega arith) (omega arith)

pub returns-in-65-to-70 : goal.returns-in-65-to-70
returns-in-65-to-70 c = let e : c.from-in-65-to-70.result + 10 ≡ c.args.b - 55 = omega arith in
    e ∙ nibble-is-high _ (omega arith) (omega arith)

pub returns-in_default : goal.returns-in_default
returns-in_default c = nibble-first _ (omega arith)

pub returns-in_default-2 : goal.returns-in_default-2
returns-in_default-2 c = nibble-between _ (omega arith) (omega arith)

pub returns-in_default-3 : goal.returns-in_default-3
returns-in_default-3 c = nibble-last _ (omega arith)
