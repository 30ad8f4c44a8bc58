-- `text::same` meets its contract. Assumes nothing.
use Rattle.std.proofs.lemmas.Bool.Decides.{Decides-eqb}
use Rattle.std.proofs.lemmas.Slice.Eq.{slice_eq-Decides}
use Rattle.text.proofs.Compare.{same_decided}
use Rattle.text.proofs.same.Goals as goal

pub returns : goal.returns
returns c = same_decided _ _ _ (slice_eq-Decides Decides-eqb _ _ _ c.eq.ensures)
