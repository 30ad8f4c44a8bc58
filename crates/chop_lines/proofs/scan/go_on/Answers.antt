-- `chop_lines::scan::go_on` meets its contract. Assumes nothing.
use Rattle.std.proofs.Common.{refl}
use Rattle.chop_lines.proofs.Reading.{scan-is}
use Rattle.chop_lines.proofs.scan.go_on.Goals as goal

pub returns : goal.returns
returns c = scan-is c.args.scan _ _ _ _ _ 0 c.wrapping_add_u64.ensures.value refl
