-- `job_words::number::read_number` meets its contract. Assumes nothing.
use Rattle.job_words.proofs.Signs.{rest-is, number-empty, number-minus, number-plus}
use Rattle.std.proofs.Common.{sym, ap, ◌∙◌, Some}
use Rattle.job_words.specs.Number.{positive, negative}
use Rattle.text.specs.Whole.{whole_of}
use Rattle.text.proofs.Wholes.{whole-size}
use Rattle.job_words.proofs.number.read_number.Goals as goal

pub returns-then-f-lt1 : goal.returns-then-f-lt1
returns-then-f-lt1 c = sym (number-empty _ c.if-f-lt1.true)

pub under_zero-requires : goal.under_zero-requires
under_zero-requires c = whole-size _ _ (sym c.read_whole.ensures ∙ c.in_ok-v.was)

pub returns-in_err-v : goal.returns-in_err-v
returns-in_err-v c = rw c.from_residual.ensures
    (sym (number-minus _ c.if-f-lt1.false c.if-b-eq45.true ∙ ap negative (ap whole_of (sym (rest-is c.args.f.now)) ∙ sym c.read_whole.ensures ∙ c.in_err-v.was)))

pub returns-then-b-eq45 : goal.returns-then-b-eq45
returns-then-b-eq45 c =
    sym (number-minus _ c.if-f-lt1.false c.if-b-eq45.true ∙ ap negative (ap whole_of (sym (rest-is c.args.f.now)) ∙ sym c.read_whole.ensures ∙ c.in_ok-v.was) ∙ ap Some (sym c.under_zero.ensures))

pub returns-in_err-v-2 : goal.returns-in_err-v-2
returns-in_err-v-2 c = rw c.from_residual-in_err-v-2.ensures
    (sym (number-plus _ c.if-f-lt1.false c.if-b-eq45.false ∙ ap positive (sym c.read_whole-2.ensures ∙ c.in_err-v-2.was)))

pub returns : goal.returns
returns c = sym (number-plus _ c.if-f-lt1.false c.if-b-eq45.false ∙ ap positive (sym c.read_whole-2.ensures ∙ c.in_ok-v-2.was) ∙ ap Some (sym c.over_zero.ensures))
