-- What the calls of passes return, and what they leave in their out-parameters and lent lists. Assumes nothing.
use Rattle.std.specs.Prelude.{◌≡◌, List, ℕ, ◌*◌, length, replicate, Float}
use Rattle.refusals.specs.Paper.{Paper}
use Rattle.refusals.specs.Lent.{Lent, over}
use Rattle.stock.specs.declared.TurnStock.{TurnStock}
use Rattle.passes.specs.declared.propose.Level.{Level}
use Rattle.passes.specs.Check.{Verdict, Said, says_yes, says_cut, says_bin, said_of, cells_left, kept_left}
use Rattle.passes.specs.Propose.{passes_in, sixes, pass_room}
use Rattle.turning.specs.Boundary.{Out, code_of, out_of}

-- ---- the check

-- *verdict: 1 yes, 2 a cut fails, 3 a bin fails
abbrev pub verdict_number : Said → ℕ
verdict_number (says_yes k) = 1
verdict_number (says_cut i q) = 2
verdict_number (says_bin i) = 3

-- *place: the cut or the bin that fails; on yes as it was
abbrev pub place_said : ℕ → Said → ℕ
place_said x (says_yes k) = x
place_said x (says_cut i q) = i
place_said x (says_bin i) = i

-- *reason: the number by which the cut is refused; else as it was
abbrev pub reason_said : ℕ → Said → ℕ
reason_said x (says_yes k) = x
reason_said x (says_cut i q) = q
reason_said x (says_bin i) = x

-- *after_generation: that of the new stock on yes, that of the old one on no
abbrev pub generation_said : ℕ → Said → ℕ
generation_said old (says_yes k) = k.stamp.generation
generation_said old (says_cut i q) = old
generation_said old (says_bin i) = old

-- what is said of a stock at that generation: the verdict, its place, its reason and the generation afterwards
pub record GivesSaid (old : ℕ) (p : Paper Said) (r v v' x x' q q' g g' : ℕ) : Type 0 where
  pub code : r ≡ code_of p
  pub verdict : v' ≡ out_of verdict_number p v
  pub place : x' ≡ out_of (place_said x) p x
  pub reason : q' ≡ out_of (reason_said q) p q
  pub generation : g' ≡ out_of (generation_said old) p g

-- the same, and the cells with their kept numbers
pub record GivesChecked (k : TurnStock) (cs : List Float) (p : Paper Verdict) (r : ℕ) (es es' bs bs' : List Float) (v v' x x' q q' g g' : ℕ) : Type 0 where
  pub said : GivesSaid k.stamp.generation (said_of k p) r v v' x x' q q' g g'
  pub cells : es' ≡ cells_left p cs es
  pub kept : bs' ≡ kept_left k.spec p cs bs

-- ---- the proposer

-- passes over the fronts of the three lists, outside lines with parts 0 and 0, and their count
pub record GivesPasses (p : Paper (List Level)) (r : ℕ) (ks ks' : List ℕ) (xs xs' : List Float) (ps ps' : List ℕ) (c c' : ℕ) : Type 0 where
  pub code : r ≡ code_of p
  pub kinds : ks' ≡ over (replicate (length (passes_in p)) 0) ks
  pub numbers : xs' ≡ over (sixes (passes_in p)) xs
  pub parts : ps' ≡ over (replicate (2 * length (passes_in p)) 0) ps
  pub count : c' ≡ out_of (λ (l : List Level). length l) p c

-- ---- the same of what is lent to a call, at its two moments: what contracts say
abbrev pub HandsSaid : ℕ → Paper Said → ℕ → Out ℕ → Out ℕ → Out ℕ → Out ℕ → Type 0
HandsSaid old p r verdict place reason generation =
    GivesSaid old p r verdict.entry.now verdict.exit.now place.entry.now place.exit.now reason.entry.now reason.exit.now generation.entry.now generation.exit.now

-- of the stock that is checked, with its cells, and lists of such lengths for those afterwards and their kept numbers
abbrev pub HandsChecked : TurnStock → List Float → (TurnStock → ℕ → ℕ → Paper Verdict) → ℕ → Lent Float → Lent Float → Out ℕ → Out ℕ → Out ℕ → Out ℕ → Type 0
HandsChecked k cs rule r after blocks verdict place reason generation =
    GivesChecked k cs (rule k (length after.entry.now) (length blocks.entry.now)) r after.entry.now after.exit.now blocks.entry.now blocks.exit.now verdict.entry.now verdict.exit.now place.entry.now place.exit.now reason.entry.now reason.exit.now generation.entry.now generation.exit.now

-- with as much room for passes as the three lists have
abbrev pub HandsPasses : (ℕ → Paper (List Level)) → ℕ → Lent ℕ → Lent Float → Lent ℕ → Out ℕ → Type 0
HandsPasses rule r kinds numbers parts count =
    GivesPasses (rule (pass_room (length kinds.entry.now) (length numbers.entry.now) (length parts.entry.now))) r kinds.entry.now kinds.exit.now numbers.entry.now numbers.exit.now parts.entry.now parts.exit.now count.entry.now count.exit.now
