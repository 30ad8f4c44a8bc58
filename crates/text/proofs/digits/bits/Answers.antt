-- `text::digits::bits` meets its contract. Assumes nothing.
use Rattle.text.proofs.Nan.{itself, other}
use Rattle.text.proofs.digits.bits.Goals as goal

pub float_to_bits-result : goal.float_to_bits-result
float_to_bits-result c = itself _ c.if-x.true

pub returns-else-x : goal.returns-else-x
returns-else-x c = other _ c.if-x.false
