-- `job_words::read_numbers` meets its contract. Assumes nothing.
use Rattle.std.proofs.Common.{◌≡◌, ℕ, ◌+◌, Bool, true, false, sym, ap, ◌∙◌, arith, rules, get_or, List, is_some}
use Rattle.std.proofs.lemmas.List.{length-replicate}
use Rattle.std.proofs.lemmas.Option.{same_Some}
use lib.Ieee.{Float, nan}
use Rattle.job_words.specs.Number.{field_number}
use Rattle.job_words.specs.Kind.{fields_of}
use Rattle.job_words.proofs.All.{numbers-other, numbers-start, all-no, all-step, all_end, each_more}
use Rattle.job_words.proofs.read_numbers.Goals as goal

not-both : ◌≡◌ {A = Bool} false true → ⊥
not-both e = let z : ◌≡◌ {A = ℕ} 0 1 = cc in omega arith

pub returns-then-part_count-k : goal.returns-then-part_count-k
returns-then-part_count-k g c = record { are = sym (numbers-other _ _ _ _ c.part_count.ensures c.if-part_count-k.true); each = λ xs e. absurd (not-both (ap is_some e)) }

pub loop-i-init : goal.loop-i-init
loop-i-init g c = (omega arith, numbers-start _ _ _ _ c.part_count.ensures c.if-part_count-k.false, length-replicate _ _, λ j l. absurd (omega arith))

pub returns-in_err-xs : goal.returns-in_err-xs
returns-in_err-xs g c = let l = c.loop-i in
    let a = c.args in
    let n = ap field_number (sym c.field.ensures) ∙ sym c.read_number.ensures ∙ c.in_err-xs.was in
    rw c.from_residual.ensures (record { are = sym (l.invariant.1 ∙ all-no (fields_of a.s.now) (a.k + l.i) (omega arith) n); each = λ xs e. absurd (not-both (ap is_some e)) })

pub loop-i-preserved : goal.loop-i-preserved
loop-i-preserved g c = let l = c.loop-i in
    let a = c.args in
    let n = ap field_number (sym c.field.ensures) ∙ sym c.read_number.ensures ∙ c.in_ok-xs.was in (
      l.invariant.0,
      l.invariant.1 ∙ all-step (fields_of a.s.now) a.k l.i (omega arith) n,
      search rules,
      each_more (fields_of a.s.now) l.xs a.k l.i (omega arith) n l.invariant.3,
    )

pub returns : goal.returns
returns g c = let l = c.loop-i in
    let a = c.args in
    record {
      are = sym (l.invariant.1 ∙ all_end (fields_of a.s.now) (a.k + l.i) (omega arith));
      each = λ xs e j h. ap (λ (ys : List Float). get_or ys j nan) (sym (same_Some _ _ e)) ∙ l.invariant.3 j (omega arith);
    }
