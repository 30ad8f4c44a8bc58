-- `stock::bits_of` meets its contract. Assumes nothing.
use Rattle.std.proofs.Common.{◌≡◌, true, false, not, T, sym, ◌∙◌, rules}
use lib.Ieee.{Float, is_nan}
use Rattle.stock.specs.Signs.{ordered}
use Rattle.stock.proofs.Passes.{HeldCell}
use Rattle.stock.proofs.Signs.{ordered-numbers, solid-fits, unordered}
use Rattle.stock.proofs.bits_of.Goals as goal
use Rattle.stock.proofs.bits_of.Goals.{Start}

-- none of the numbers of an ordered cell is a NaN
no_nan : (x : Float) → is_nan x ≡ false → T (not (is_nan x))
no_nan x e = rw e tt

numbers : (c : Start) → ordered c.args.s c.args.c ≡ true → (is_nan c.args.c.outer.lower_mm ≡ false) × (is_nan c.args.c.outer.upper_mm ≡ false) × (is_nan c.args.c.inner.lower_mm ≡ false) × (is_nan c.args.c.inner.upper_mm ≡ false)
numbers c t = ordered-numbers c.args.s c.args.c t

held : (c : Start) → HeldCell c.args.c
held c = let g = c.well_formed in record { outer-lower = search (rules, g); outer-upper = search (rules, g); inner-lower = search (rules, g); inner-upper = search (rules, g) }

pub float_to_bits-result : goal.float_to_bits-result
float_to_bits-result c = no_nan _ (numbers c.before.before.before (sym c.is_ordered.ensures ∙ c.if-is_ordered.true)).0

pub float_to_bits-result-then-is_ordered : goal.float_to_bits-result-then-is_ordered
float_to_bits-result-then-is_ordered c = no_nan _ (numbers c.before.before.before.before (sym c.is_ordered.ensures ∙ c.if-is_ordered.true)).1

pub float_to_bits-result-then-is_ordered-2 : goal.float_to_bits-result-then-is_ordered-2
float_to_bits-result-then-is_ordered-2 c = no_nan _ (numbers c.before.before.before.before.before (sym c.is_ordered.ensures ∙ c.if-is_ordered.true)).2

pub float_to_bits-result-then-is_ordered-3 : goal.float_to_bits-result-then-is_ordered-3
float_to_bits-result-then-is_ordered-3 c = no_nan _ (numbers c.before.before.before.before.before.before (sym c.is_ordered.ensures ∙ c.if-is_ordered.true)).3

pub returns-then-is_ordered : goal.returns-then-is_ordered
returns-then-is_ordered c = solid-fits c.args.s c.args.c (search rules) (held c.before.before.before.before.before.before) (sym c.is_ordered.ensures ∙ c.if-is_ordered.true)

pub returns : goal.returns
returns c = unordered c.args.s c.args.c (sym c.is_ordered.ensures ∙ c.if-is_ordered.false) 0
