-- `chop_lines::scan::take_bytes` meets its contract. Assumes nothing.
use Rattle.std.proofs.Common.{sym, refl, ◌∙◌, rules}
use Rattle.chop_lines.proofs.Taking.{bytes-step, bytes-end}
use Rattle.chop_lines.proofs.scan.take_bytes.Goals as goal

pub loop-b-init : goal.loop-b-init
loop-b-init c = (c.requires.1, refl)

pub take_byte-taken-requires : goal.take_byte-taken-requires
take_byte-taken-requires c = (record { numbers = search rules; line = search rules }, c.loop-b.invariant.0)

pub loop-b-preserved : goal.loop-b-preserved
loop-b-preserved c = (c.take_byte-taken.ensures.len_bound, c.loop-b.invariant.1 ∙ bytes-step _ _ _ _ c.loop-b-test.true c.take_byte-taken.ensures.len_value)

pub returns : goal.returns
returns c = let l = c.loop-b in
    record { len_value = sym (l.invariant.1 ∙ bytes-end _ _ _ c.loop-b-test.false); len_bound = l.invariant.0 }
