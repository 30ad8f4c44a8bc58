-- `chop_lines::words::read_corner` meets its contract. Assumes nothing.
use Rattle.job_words.specs.Kind.{fields_of}
use Rattle.chop_lines.proofs.Reading.{read_as, bulge-as, corner-no, corner-no-z, corner-is}
use Rattle.chop_lines.proofs.words.read_corner.Goals as goal

pub returns-in_default : goal.returns-in_default
returns-in_default c = corner-no (fields_of c.args.s.now) (read_as c.part.ensures c.read_number.ensures c.in_default.is)

pub returns-in_default-read_number : goal.returns-in_default-read_number
returns-in_default-read_number c = corner-no-z (fields_of c.args.s.now)
    (read_as c.part.ensures c.read_number.ensures c.in-Some.is)
    (read_as c.part-2.ensures c.read_number-2.ensures c.in_default-read_number.is)

pub returns-in_default-read_bulge : goal.returns-in_default-read_bulge
returns-in_default-read_bulge c = corner-is (fields_of c.args.s.now)
    (read_as c.part.ensures c.read_number.ensures c.in-Some.is)
    (read_as c.part-2.ensures c.read_number-2.ensures c.in-Some-read_number.is)
    (bulge-as c.part-3.ensures c.read_bulge.ensures c.in_default-read_bulge.is)

pub returns : goal.returns
returns c = corner-is (fields_of c.args.s.now)
    (read_as c.part.ensures c.read_number.ensures c.in-Some.is)
    (read_as c.part-2.ensures c.read_number-2.ensures c.in-Some-read_number.is)
    (bulge-as c.part-3.ensures c.read_bulge.ensures c.in-Some-read_bulge.is)
