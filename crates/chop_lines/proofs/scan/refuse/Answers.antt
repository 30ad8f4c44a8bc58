-- `chop_lines::scan::refuse` meets its contract. Assumes nothing.
use Rattle.chop_lines.proofs.Reading.{scan-is}
use Rattle.chop_lines.proofs.scan.refuse.Goals as goal

pub returns : goal.returns
returns c = scan-is c.args.scan _ _ _ _ _ 15 c.wrapping_add_u64.ensures.value c.number-number.ensures
