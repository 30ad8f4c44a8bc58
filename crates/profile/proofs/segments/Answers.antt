-- `profile::segments` meets its contract. Assumes nothing.
use Rattle.std.proofs.Common.{◌≡◌, refl, sym, ap, ◌∙◌, ℕ, arith, Option, None, Some, Err, Ok}
use Rattle.std.proofs.lemmas.Result.{err_from_is_err_and}
use Rattle.std.specs.Option.{ok_or}
use Rattle.refusals.specs.declared.Refusal.{Refusal}
use Rattle.refusals.specs.declared.Refusal.TheVariants.{ChordsOutgrow}
use Rattle.profile.proofs.Answers.{good-points, says-profile, says-outgrow, says-chords}
use Rattle.profile.proofs.segments.Goals as goal

-- no chords were counted
outgrown : (o : Option ℕ) (x e : Refusal) → ok_or o x ≡ Err e → (o ≡ None) × (e ≡ x)
outgrown None x e h = (refl, cc)
outgrown (Some n) x e h = (cc, cc)

-- n chords were counted
counted_is : (o : Option ℕ) (x : Refusal) (n : ℕ) → ok_or o x ≡ Ok n → o ≡ Some n
counted_is None x n h = cc
counted_is (Some m) x n h = cc

pub overflow_sub-m : goal.overflow_sub-m
overflow_sub-m c = omega (arith, good-points _ _ _ c.profile_good.ensures c.if-not-profile_good.false)

pub chop_all-counted-requires : goal.chop_all-counted-requires
chop_all-counted-requires c = omega (arith, good-points _ _ _ c.profile_good.ensures c.if-not-profile_good.false)

pub returns-in_err-n : goal.returns-in_err-n
returns-in_err-n c =
    let o = outgrown _ _ _ (sym c.ok_or.ensures.value ∙ c.in_err-n.was) in
    let p = err_from_is_err_and _ c.from_residual.ensures.1 in
    let e : c.from_residual.result ≡ Err ChordsOutgrow = p.1 ∙ ap Err (p.2 ∙ o.1) in
    rw e (says-outgrow _ _ _ _ _ _ c.profile_good.ensures c.if-not-profile_good.false c.clean-fine.ensures refl o.0 c.chop_all-counted.ensures)

pub chop_all-written-requires : goal.chop_all-written-requires
chop_all-written-requires c = omega (arith, good-points _ _ _ c.profile_good.ensures c.if-not-profile_good.false)

pub returns-then-not-profile_good : goal.returns-then-not-profile_good
returns-then-not-profile_good c = says-profile _ _ _ _ c.profile_good.ensures c.if-not-profile_good.true

pub returns : goal.returns
returns c = says-chords _ _ _ _ _ _ c.profile_good.ensures c.if-not-profile_good.false c.clean-fine.ensures refl _
    (counted_is _ _ _ (sym c.ok_or.ensures.value ∙ c.in_ok-n.was))
    c.chop_all-counted.ensures
    c.chop_all-written.ensures
