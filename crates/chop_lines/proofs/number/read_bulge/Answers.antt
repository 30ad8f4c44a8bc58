-- `chop_lines::number::read_bulge` meets its contract. Assumes nothing.
use Rattle.std.proofs.Common.{sym, ap, ◌∙◌, Some}
use lib.Ieee.{Float, neg}
use Rattle.chop_lines.specs.Words.{plain, turned}
use Rattle.text.specs.Whole.{whole_of}
use Rattle.job_words.proofs.Signs.{rest-is}
use Rattle.chop_lines.proofs.Reading.{bulge-empty, bulge-minus, bulge-plus}
use Rattle.chop_lines.proofs.number.read_bulge.Goals as goal

pub returns-then-f-lt1 : goal.returns-then-f-lt1
returns-then-f-lt1 c = sym (bulge-empty _ c.if-f-lt1.true)

pub returns-in-Some : goal.returns-in-Some
returns-in-Some c = sym (bulge-minus _ c.if-f-lt1.false c.if-b-eq45.true
    ∙ ap turned (ap whole_of (sym (rest-is c.args.f.now)) ∙ sym c.read_whole.ensures ∙ c.in-Some.is)
    ∙ ap (λ (x : Float). Some (neg x)) (sym c.in_millionths.ensures))

pub returns-in-None : goal.returns-in-None
returns-in-None c = sym (bulge-minus _ c.if-f-lt1.false c.if-b-eq45.true
    ∙ ap turned (ap whole_of (sym (rest-is c.args.f.now)) ∙ sym c.read_whole.ensures ∙ c.in-None.is))

pub returns-in-Some-read_whole : goal.returns-in-Some-read_whole
returns-in-Some-read_whole c = sym (bulge-plus _ c.if-f-lt1.false c.if-b-eq45.false
    ∙ ap plain (sym c.read_whole-else-b-eq45.ensures ∙ c.in-Some-read_whole.is)
    ∙ ap Some (sym c.in_millionths-in-Some-read_whole.ensures))

pub returns-in-None-read_whole : goal.returns-in-None-read_whole
returns-in-None-read_whole c = sym (bulge-plus _ c.if-f-lt1.false c.if-b-eq45.false
    ∙ ap plain (sym c.read_whole-else-b-eq45.ensures ∙ c.in-None-read_whole.is))
