-- `text::sixteen::float` meets its contract. Assumes nothing.
use Rattle.std.proofs.Common.{Bool, not, T, sym, ◌∙◌, subst, le-ltb}
use lib.Ieee.{binary64}
use lib.Ieee.Bits.{nan_bits_above}
use Rattle.text.proofs.Reading.{nan-bits, is-nan, no_number}
use Rattle.text.proofs.sixteen.float.Goals as goal

pub float_from_bits-result : goal.float_from_bits-result
float_from_bits-result c = subst (λ (b : Bool). T (not b)) (sym (nan_bits_above binary64 _ ∙ le-ltb _ _ c.if-bits-le9218868437227405312.true)) tt

pub returns : goal.returns
returns c = no_number ∙ sym (is-nan _ (nan-bits _ c.if-bits-le9218868437227405312.false))
