-- `chop_lines::words::read_head_on` meets its contract. Assumes nothing.
use Rattle.job_words.specs.Kind.{fields_of}
use Rattle.chop_lines.proofs.Reading.{read_as, head-no, head-is}
use Rattle.chop_lines.proofs.words.read_head_on.Goals as goal

pub returns-in_default : goal.returns-in_default
returns-in_default c = head-no (fields_of c.args.s.now) _ (read_as c.part.ensures c.read_number.ensures c.in_default.is)

pub returns-in_default-read_number : goal.returns-in_default-read_number
returns-in_default-read_number c = head-is (fields_of c.args.s.now) _
    (read_as c.part.ensures c.read_number.ensures c.in-Some.is)
    (read_as c.part-2.ensures c.read_number-2.ensures c.in_default-read_number.is)

pub returns : goal.returns
returns c = head-is (fields_of c.args.s.now) _
    (read_as c.part.ensures c.read_number.ensures c.in-Some.is)
    (read_as c.part-2.ensures c.read_number-2.ensures c.in-Some-read_number.is)
