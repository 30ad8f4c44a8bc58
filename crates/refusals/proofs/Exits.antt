-- What a call answers on paper where a `?` of it ends the call. Assumes nothing.
use Rattle.std.proofs.Common.{◌≡◌, ap, ◌∙◌, Result, Err, IsErrAnd}
use Rattle.std.proofs.lemmas.Result.{err_from_is_err_and}
use Rattle.refusals.specs.declared.Refusal.{Refusal}
use Rattle.refusals.specs.declared.Refused.{Refused}
use Rattle.refusals.specs.Paper.{Paper, refuses}
use Rattle.refusals.specs.Number.{reason_of, reason_in, refused_of, paper_of, placed_of}

-- the same refusal
pub same_exit : {A : Type 0} (r : Result A Refusal) (e : Refusal) → IsErrAnd r (λ y. y ≡ e) → paper_of r ≡ refuses (reason_of e)
same_exit r e h = let p = err_from_is_err_and r h in ap paper_of p.1 ∙ ap (λ (c : Refusal). refuses (reason_of c)) p.2

-- one without a place, in a call whose refusals may have one
pub plain_exit : {A : Type 0} (r : Result A Refused) (e : Refusal) → IsErrAnd r (λ y. y ≡ refused_of e) → placed_of r ≡ refuses (reason_of e)
plain_exit r e h = let p = err_from_is_err_and r h in ap placed_of p.1 ∙ ap (λ (c : Refused). refuses (reason_in c)) p.2

-- the same refusal, with its place
pub placed_exit : {A : Type 0} (r : Result A Refused) (e : Refused) → IsErrAnd r (λ y. y ≡ e) → placed_of r ≡ refuses (reason_in e)
placed_exit r e h = let p = err_from_is_err_and r h in ap placed_of p.1 ∙ ap (λ (c : Refused). refuses (reason_in c)) p.2
