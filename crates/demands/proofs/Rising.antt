-- Indices rise exactly where no place of a fall is found. Assumes nothing.
use Rattle.std.specs.Prelude.{None}
use mathlib.Core.Path.{◌≡◌, refl, sym, ◌∙◌}
use mathlib.Core.Bool.{Bool, true, false}
use mathlib.Core.List.{List}
use Rattle.stock.specs.declared.TurnChange.{TurnChange}
use Rattle.stock.proofs.Places.{none-some}
use Rattle.changes.specs.Commit.{first_fall}
use Rattle.changes.specs.Decide.{rises}
use Rattle.changes.proofs.Falls.{falls-some}

pub none-rises : (l : List TurnChange) → first_fall l ≡ None → rises l ≡ true
none-rises l e = go (rises l) refl
  where
    go : (t : Bool) → rises l ≡ t → t ≡ true
    go true q = refl
    go false q = let f = falls-some l q in absurd (none-some f.place (sym e ∙ f.is))
