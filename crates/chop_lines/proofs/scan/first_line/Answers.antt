-- `chop_lines::scan::first_line` meets its contract. Assumes nothing.
use Rattle.std.proofs.Common.{sym, refl, ap, ◌∙◌}
use Rattle.chop_lines.specs.Scan.{first_line}
use Rattle.chop_lines.proofs.Reading.{scan-is}
use Rattle.chop_lines.proofs.scan.first_line.Goals as goal

pub returns-in-Head : goal.returns-in-Head
returns-in-Head c = let s = c.args.scan in
    scan-is s _ _ _ _ _ 0 c.wrapping_add_u64.ensures.value refl ∙ ap (first_line s) (sym c.in-Head.is)

pub returns-in-Corner : goal.returns-in-Corner
returns-in-Corner c = c.refuse.ensures ∙ ap (first_line c.args.scan) (sym c.in-Corner.is)

pub returns-in-Bad : goal.returns-in-Bad
returns-in-Bad c = c.refuse-in-Bad.ensures ∙ ap (first_line c.args.scan) (sym c.in-Bad.is)
