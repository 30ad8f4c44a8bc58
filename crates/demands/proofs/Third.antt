-- The third demand: cuts of one side, each previewed and committed in turn, leave the same cells in every order and however often each is made;
-- cuts of both sides leave the same cell in each bin that one side only reaches. Assumes nothing.
use Rattle.std.specs.Prelude.{Option, None, Some}
use Rattle.std.proofs.lemmas.Option.{same_Some}
use mathlib.Core.Path.{◌≡◌, refl, sym, ap, ◌∙◌, subst}
use mathlib.Core.HLevel.{Discrete, hedberg}
use mathlib.Core.Logic.{inl, ∥∥₁_elim}
use mathlib.Core.List
use mathlib.Core.List.Permᴰ
use mathlib.Core.List.{List, [], ◌∷◌, Memᴰ, Permᴰ, Perm}
use Prim.Native.Nat.{ℕ, suc, ◌+◌, ◌≤◌, ◌<◌}
use native.Mathlib.Nat.{ℕ_set}
use native.Mathlib.Decide.{ℕ_discrete}
use lib.ListN.{length}
use lib.Ieee.{Float}
use Rattle.refusals.specs.Paper.{Paper, Reason, Paper-set, answers}
use Rattle.refusals.specs.Limits.{last_generation}
use Rattle.floats.specs.Each.{Each}
use Rattle.floats.proofs.Folds.{each-perm, Float-set}
use Rattle.stock.specs.declared.TurnStockSpec.{TurnStockSpec}
use Rattle.stock.specs.declared.TurnSide.{TurnSide}
use Rattle.stock.specs.Cell.{cell_at}
use Rattle.stock.proofs.Stored.{same-cells}
use Rattle.stock.proofs.Count.{same_answer}
use Rattle.reach.specs.Reach.{Act}
use Rattle.reach.specs.Kinds.{OnSide, OnlyAt}
use Rattle.reach.proofs.AnyOrder.{mem-map, bin-any-order, bin-however-often}
use Rattle.changes.specs.Commit.{Committed}
use Rattle.demands.specs.Job.{Step, turned_all, acts_of, Sound, Job}
use Rattle.demands.proofs.InTurn.{in-turn, start-ordered, job_good, job-plain}

-- ---- a job in another order is a job
-- lists of one another's order are as long
pub perm-length : {A : Type 0} {l l' : List A} → Permᴰ l l' → length l ≡ length l'
perm-length Permᴰ.nil = refl
perm-length (Permᴰ.cons e d) = ap suc (perm-length d)
perm-length (Permᴰ.swap e₁ e₂) = refl
perm-length (Permᴰ.trans d₁ d₂) = perm-length d₁ ∙ perm-length d₂

-- the same conditions
pub job-perm : {spec : TurnStockSpec} {room n : ℕ} {k : Committed} {l l' : List Step} → Permᴰ l l' → Job spec room n k l → Job spec room n k l'
job-perm {spec} {room} {n} {k} d j = record {
  spec_held = j.spec_held;
  cells_held = j.cells_held;
  stock = j.stock;
  sound = each-perm (Sound spec n) d j.sound;
  space = j.space;
  spare = subst (λ (m : ℕ). k.generation + m ≤ last_generation) (perm-length d) j.spare;
}

-- a cut of one side reaches no bin from the other
pub all-sides : (σ : TurnSide) (i : ℕ) (l : List Act) → Each (OnSide σ) l → Each (OnlyAt σ i) l
all-sides σ i [] os = tt
all-sides σ i (a ∷ l) os = (inl os.0, all-sides σ i l os.1)

-- the cells that a run of cuts leaves are those of `in-turn`
left_is : {p : Paper Committed} (m m' : Committed) → p ≡ answers m → p ≡ answers m' → m.cells ≡ m'.cells
left_is m m' e e' = ap (λ (k : Committed). k.cells) (same_answer (sym e ∙ e'))

module _ {spec : TurnStockSpec} {room n : ℕ} {k : Committed} {l l' : List Step} (d : Permᴰ l l') (j : Job spec room n k l) where
  bin_same : (σ : TurnSide) (i : ℕ) → i < n → Each (OnlyAt σ i) (acts_of l) → cell_at (in-turn j).cells i ≡ cell_at (in-turn (job-perm d j)).cells i
  bin_same σ i h os = (in-turn j).bins i h ∙ bin-any-order σ n i h (cell_at k.cells i) (start-ordered (job_good j) σ i h) (Permᴰ.map (λ (u : Step). u.act) d) (job-plain j) os ∙ sym ((in-turn (job-perm d j)).bins i h)

  -- ANY ORDER, of cuts of one side: every order of the list gives the same answer, cells and generation
  pub any_order : (σ : TurnSide) → Each (OnSide σ) (acts_of l) → turned_all spec room k l ≡ turned_all spec room k l'
  any_order σ os =
      let a = in-turn j in
      let b = in-turn (job-perm d j) in
      let ec = same-cells n a.cells b.cells a.good.long b.good.long (λ i h. bin_same σ i h (all-sides σ i (acts_of l) os)) in
      a.answer ∙ (λ i. answers (record { cells = ec i; generation = k.generation + perm-length d i })) ∙ sym b.answer

  -- ANY ORDER, of cuts of both sides: the same cell in each bin that one side only reaches
  pub any-order-bin : (m m' : Committed) → turned_all spec room k l ≡ answers m → turned_all spec room k l' ≡ answers m' → (σ : TurnSide) (i : ℕ) → i < n → Each (OnlyAt σ i) (acts_of l) → cell_at m.cells i ≡ cell_at m'.cells i
  any-order-bin m m' e e' σ i h os =
      let a = in-turn j in
      let b = in-turn (job-perm d j) in
      ap (λ (cs : List Float). cell_at cs i) (left_is m (record { cells = a.cells; generation = k.generation + length l }) e a.answer)
      ∙ bin_same σ i h os
      ∙ ap (λ (cs : List Float). cell_at cs i) (left_is (record { cells = b.cells; generation = k.generation + length l' }) m' b.answer e')

-- HOWEVER OFTEN: two jobs of the same cuts of one side, each made as often as one likes, leave the same cells
pub however-often : {spec : TurnStockSpec} {room n : ℕ} {k : Committed} {l l' : List Step} → Job spec room n k l → Job spec room n k l' → ((u : Step) → Memᴰ u l → Memᴰ u l') → ((u : Step) → Memᴰ u l' → Memᴰ u l)
    → (σ : TurnSide) → Each (OnSide σ) (acts_of l) → Each (OnSide σ) (acts_of l') → (m m' : Committed) → turned_all spec room k l ≡ answers m → turned_all spec room k l' ≡ answers m' → m.cells ≡ m'.cells
however-often {n = n} {k = k} {l = l} {l' = l'} j j' h h' σ os os' m m' e e' =
    let a = in-turn j in
    let b = in-turn j' in
    let act : Step → Act = λ u. u.act in
    left_is m (record { cells = a.cells; generation = k.generation + length l }) e a.answer
    ∙ same-cells n a.cells b.cells a.good.long b.good.long (λ i p.
    a.bins i p
    ∙ bin-however-often σ n i p (cell_at k.cells i) (start-ordered (job_good j) σ i p) (acts_of l) (acts_of l') (mem-map act l l' h) (mem-map act l' l h') (job-plain j) (job-plain j') (all-sides σ i (acts_of l) os) (all-sides σ i (acts_of l') os')
    ∙ sym (b.bins i p))
    ∙ left_is (record { cells = b.cells; generation = k.generation + length l' }) m' b.answer e'

-- ---- `Perm`, which hides how the one list is made into the other
committed-set : IsSet Committed
committed-set k k' p q = λ i j. record {
  cells = List.is_set Float-set k.cells k'.cells (ap (λ (m : Committed). m.cells) p) (ap (λ (m : Committed). m.cells) q) i j;
  generation = ℕ_set k.generation k'.generation (ap (λ (m : Committed). m.generation) p) (ap (λ (m : Committed). m.generation) q) i j;
}

-- whether two places are the same is decided
same_place : Discrete (Option ℕ)
same_place None None = yes refl
same_place None (Some k) = no (λ (h : ◌≡◌ {A = Option ℕ} None (Some k)). cc)
same_place (Some j) None = no (λ (h : ◌≡◌ {A = Option ℕ} (Some j) None). cc)
same_place (Some j) (Some k) = elim (ℕ_discrete j k) [ yes e ↦ yes (ap Some e) | no d ↦ no (λ h. d (same_Some j k h)) ]

reason-set : IsSet Reason
reason-set k k' p q = λ i j. record {
  number = ℕ_set k.number k'.number (ap (λ (m : Reason). m.number) p) (ap (λ (m : Reason). m.number) q) i j;
  place = hedberg same_place k.place k'.place (ap (λ (m : Reason). m.place) p) (ap (λ (m : Reason). m.place) q) i j;
}

-- EVERY ORDER, of cuts of one side, where the second list is known to be some order of the first
pub every-order : {spec : TurnStockSpec} {room n : ℕ} {k : Committed} (l l' : List Step) → Perm l l' → Job spec room n k l → (σ : TurnSide) → Each (OnSide σ) (acts_of l) → turned_all spec room k l ≡ turned_all spec room k l'
every-order {spec} {room} {n} {k} l l' d j σ os = ∥∥₁_elim d (Paper-set committed-set reason-set (turned_all spec room k l) (turned_all spec room k l')) (λ e. any_order e j σ os)
