-- `numbers::aligned_root` meets its contract (`Shift.antt`). Assumes nothing.
use Rattle.std.proofs.Common.{◌≡◌, ℕ, ◌+◌, ◌*◌, ◌/◌, ◌^◌, ap, ◌∙◌, arith, rules}
use Rattle.numbers.specs.RootBits.{nearest_root, digits_of}
use Rattle.numbers.proofs.Shift.{whole, asked, root_in}
use Rattle.numbers.proofs.aligned_root.Goals as goal

-- what `nearest_root` answers
is : (c : goal.After-nearest_root-r) → c.nearest_root-r.result ≡ nearest_root (digits_of c.args.t * 2 ^ 52)
is c = c.nearest_root-r.ensures ∙ ap (λ (x : ℕ). nearest_root (x * 2 ^ 52)) (whole c.args.t)

pub nearest_root-r-requires : goal.nearest_root-r-requires
nearest_root-r-requires c = (asked c.args.t, omega arith)

pub overflow_add-result : goal.overflow_add-result
overflow_add-result c = omega (arith, is c, root_in c.args.t)

pub returns : goal.returns
returns c = ap (λ (x : ℕ). c.args.t / 2 ^ 53 * 2 ^ 52 + x) (is c)
