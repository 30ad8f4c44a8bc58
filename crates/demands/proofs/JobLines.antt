-- THE FIRST DEMAND, OF A JOB: it is refused at line m with k exactly when line m is the first that offends, and with k; it is answered exactly when none does. Assumes nothing.
use Rattle.std.specs.Prelude.{Option, None, Some}
use mathlib.Core.Path.{◌≡◌, refl, sym, ap, ◌∙◌, subst}
use mathlib.Core.Bool.{Bool, true, false, not, false≢true}
use mathlib.Core.List.{List, [], ◌∷◌, ◌++◌}
use Prim.Native.Nat.{ℕ, suc, ◌+◌, ◌%◌, ◌^◌, ◌<◌}
use native.Mathlib.Nat.{add-zero, zero-lt-suc}
use native.Mathlib.Omega.{arith}
use borrow.Author.Tests.{eq-eqb, ne_eqb}
use lib.Dec.{eqb, ltb}
use lib.ListN.{length}
use lib.Ieee.{Float}
use Rattle.refusals.specs.Limits.{last_generation}
use Rattle.refusals.specs.Paper.{Paper, Reason, answers, refuses, demand, onward, onward-answers, onward-refuses, demand-true, demand-false, only}
use Rattle.floats.specs.Each.{Each}
use Rattle.floats.specs.Pick.{pick, pick_true, pick-false}
use Rattle.stock.specs.declared.TurnStockSpec.{TurnStockSpec}
use Rattle.stock.specs.declared.TurnChange.{TurnChange}
use Rattle.stock.proofs.Count.{no_answer, same_answer}
use Rattle.text.proofs.Parting.{some}
use Rattle.stock.proofs.Bins.{HeldSpec, HeldList}
use Rattle.reach.specs.Reach.{act_cell}
use Rattle.changes.specs.Commit.{own_commit, first_fall}
use Rattle.changes.proofs.Stocks.{stock-good}
use Rattle.changes.proofs.Accepted.{commit-is}
use Rattle.changes.proofs.Proposal.{act-cuts}
use Rattle.cuts.specs.declared.Cut.{Cut}
use Rattle.cuts.specs.Preview.{preview_cut}
use Rattle.cuts.specs.Tool.{preview_tool}
use Rattle.cuts.proofs.Singles.{HeldCut}
use Rattle.job_words.specs.declared.Line.{Line}
use Rattle.job_words.specs.declared.Line.TheVariants.{Bar, Cutting, Removing, Arc, Bad}
use Rattle.job_words.specs.Kind.{line_of}
use Rattle.job_run.specs.declared.line.Job.{Job}
use Rattle.job_run.specs.Job.{Stand, line_limit, full_room, cells_of_job, made_cut, cut_line, job_line}
use Rattle.job_run.proofs.Carrying.{same_number}
use Rattle.lines.specs.File.{pieces_of, ended, line_on_bytes, over_pieces}
use Rattle.job_run.specs.Run.{State, next, refused_with, answered, on_line, on_long, is_empty, on_end, stopped, job_of}
use Rattle.changes.specs.Change.{written_of}
use Rattle.demands.specs.Refused.{Asked, ask, ask_none, Exactly, preview_cut_asks, each_asks, first_line_asks, later_line_asks, line_asks}
use Rattle.demands.specs.Tool.{single, cutter_act}
use Rattle.demands.specs.Offending.{line_in, lines_on, wrong_with, Offends, NoneOffends}
use Rattle.demands.proofs.Asking.{exactly, asks_none, asks-more, asks-on, asks-then, asks-as}
use Rattle.demands.proofs.First.{preview-cut-asks, line-exactly}
use Rattle.demands.proofs.Tools.{tool-sound, accepted-good}
use Rattle.demands.proofs.Second.{preview-is}

-- ---- no refusal has the number 0

-- each test has a number above 0
abbrev Numbered : List Asked → Type 0
Numbered l = Each (λ (q : Asked). 0 < q.why.number) l

numbered-append : (l m : List Asked) → Numbered l → Numbered m → Numbered (l ++ m)
numbered-append [] m a b = b
numbered-append (q ∷ l) m a b = (a.0, numbered-append l m a.1 b)

numbered-stop : (k : Reason) (b a : List Asked) → Numbered (b ++ (record { holds = false; why = k } ∷ a)) → 0 < k.number
numbered-stop k [] a h = h.0
numbered-stop k (q ∷ b) a h = numbered-stop k b a h.1

each-numbered : (s : TurnStockSpec) (p : Paper ℕ) (cs : List Float) (k : ℕ) (l : List TurnChange) → Numbered (each_asks s p cs k l)
unfolding each_asks
each-numbered s p cs k [] = tt
each-numbered s p cs k (c ∷ l) = (zero-lt-suc 7, (zero-lt-suc 20, (zero-lt-suc 21, (zero-lt-suc 22, each-numbered s p cs (suc k) l))))

found-numbered : (o : Option ℕ) (n : ℕ) → 0 < n → 0 < (ask_none o n).why.number
found-numbered None n h = h
found-numbered (Some k) n h = h

first-numbered : (l : Line) (cs : List Float) → Numbered (first_line_asks l cs)
unfolding first_line_asks
first-numbered (Bar spec) cs = (zero-lt-suc 0, (zero-lt-suc 1, (zero-lt-suc 2, tt)))
first-numbered (Cutting cut) cs = (zero-lt-suc 14, tt)
first-numbered (Removing q) cs = (zero-lt-suc 14, tt)
first-numbered Arc cs = (zero-lt-suc 14, tt)
first-numbered Bad cs = (zero-lt-suc 14, tt)

later-numbered : (j : Job) (l : Line) (room : ℕ) (cs rs : List Float) → Numbered (later_line_asks j l room cs rs)
unfolding later_line_asks
later-numbered j (Bar spec) room cs rs = (zero-lt-suc 14, tt)
later-numbered j (Cutting cut) room cs rs = (
  zero-lt-suc 0,
  (
    zero-lt-suc 1,
    (
      zero-lt-suc 2,
      (
        zero-lt-suc 12,
        (
          zero-lt-suc 4,
          (
            zero-lt-suc 5,
            (zero-lt-suc 0, (zero-lt-suc 1, (zero-lt-suc 2, (found-numbered (first_fall (written_of (preview_cut j.stock.spec (cells_of_job j cs) cut room))) 7 (zero-lt-suc 6), numbered-append (each_asks _ _ _ _ _) _ (each-numbered _ _ _ _ _) (zero-lt-suc 11, tt))))),
          ),
        ),
      ),
    ),
  ),
)
later-numbered j (Removing q) room cs rs = (zero-lt-suc 0, (zero-lt-suc 1, (zero-lt-suc 3, (zero-lt-suc 9, (zero-lt-suc 11, (zero-lt-suc 10, tt))))))
later-numbered j Arc room cs rs = (zero-lt-suc 12, tt)
later-numbered j Bad room cs rs = (zero-lt-suc 14, tt)

line-numbered : (j : Job) (s : List ℕ) (room : ℕ) (cs rs : List Float) → Numbered (line_asks j s room cs rs)
unfolding pick
line-numbered j s room cs rs = (zero-lt-suc 14, go (eqb j.cells 0))
  where
    go : (t : Bool) → Numbered (pick t (first_line_asks (line_of s) cs) (later_line_asks j (line_of s) room cs rs))
    go true = first-numbered (line_of s) cs
    go false = later-numbered j (line_of s) room cs rs

-- a line is refused with a number above 0
pub line-number : (j : Job) (s : List ℕ) (room : ℕ) (cs rs : List Float) (k : Reason) → job_line j s room cs rs ≡ refuses k → 0 < k.number
line-number j s room cs rs k e =
    let t = (line-exactly j s room cs rs).stops k e in
    numbered-stop k t.before t.after (subst Numbered t.order (line-numbered j s room cs rs))

-- ---- a line that is a cut

-- What the commit of its changes asks again holds, but for the generation: 1, 2, 3, 13, 5, 6, 12. The numbers handed over are values of f64.
pub cut-line-exactly : (j : Job) (cut : Cut) (room : ℕ) (cs rs : List Float) → HeldSpec j.stock.spec → HeldList (cells_of_job j cs) → HeldCut cut
    → Exactly (cut_line j cut room cs rs) (preview_cut_asks j.stock.spec (cells_of_job j cs) cut room ++ (ask (ltb j.stock.stamp.generation last_generation) 12 ∷ []))
unfolding cut_line made_cut preview_tool
cut-line-exactly j cut room cs rs hs hc hu =
    let own = cells_of_job j cs in
    let spec = j.stock.spec in
    let gen = j.stock.stamp.generation in
    let t = single cut in
    let f = act_cell (cutter_act spec t) in
    exactly (asks-then (made_cut j.stock own cut room) _
    (asks-on (preview_cut spec own cut room) _ (preview-cut-asks spec own cut room) (λ l e.
    let p = preview-is spec t own room l e in
    let b = stock-good hs hc p.1 in
    let s = tool-sound spec p.0 hs b.count t hu (accepted-good spec t own room l e) in
    asks-as (ap (own_commit spec own gen) p.2 ∙ commit-is b f (act-cuts b (cutter_act spec t) s.plain) gen) (asks-more (ltb gen last_generation) 12 (λ _. asks_none _))))
    (λ _ _. asks_none _))

-- ---- one piece

-- a run that is not stopped
abbrev Going : State → Type 0
Going st = st.run.refused ≡ 0

-- what the pieces do to a run
abbrev over : State → List (List ℕ) → State
over st ps = over_pieces stopped on_line on_long on_end st ps

-- a line that is too long is refused with 15, as the line itself is
line_on : (st : State) (l : List ℕ) → Going st → line_on_bytes stopped on_line on_long st l ≡ answered st (line_in st l)
unfolding line_on_bytes on_line job_line answered demand pick
line_on st l g = rw (eq-eqb _ _ g) (go (ltb (length l) line_limit) refl)
  where
    go : (t : Bool) → ltb (length l) line_limit ≡ t → pick t (on_line st l) (on_long st) ≡ answered st (line_in st l)
    go true e = refl
    go false e = rw e

-- a run that is stopped stays as it is
stays : (ps : List (List ℕ)) (st : State) → stopped st ≡ true → over st ps ≡ st
unfolding over_pieces line_on_bytes ended
stays [] st e = refl
stays (l ∷ []) st e = pick_true _ _ _ e
stays (l ∷ m ∷ ls) st e = ap (λ (x : State). over x (m ∷ ls)) (pick_true _ _ _ e) ∙ stays (m ∷ ls) st e

refused-stays : (ps : List (List ℕ)) (st : State) (k : Reason) → 0 < k.number → over (answered st (refuses k)) ps ≡ answered st (refuses k)
unfolding answered refused_with
refused-stays ps st k h = stays ps (answered st (refuses k)) (rw (ne_eqb k.number 0 (λ e. omega arith)))

-- a piece with another behind it is a line
next-piece : (st : State) (l m : List ℕ) (ls : List (List ℕ)) → Going st → over st (l ∷ m ∷ ls) ≡ over (answered st (line_in st l)) (m ∷ ls)
unfolding over_pieces
next-piece st l m ls g = ap (λ (x : State). over x (m ∷ ls)) (line_on st l g)

-- what the last piece leaves
unfoldable last_of : State → Paper (Unit {0}) → State
last_of st (answers _) = st
last_of st (refuses k) = answered st (refuses k)

last-piece : (st : State) (l : List ℕ) → Going st → over st (l ∷ []) ≡ last_of st (wrong_with st l [])
unfolding over_pieces ended wrong_with last_of answered demand pick
last-piece st l g = pick-false (stopped st) st (pick (eqb (length l) 0) (on_end st) (on_long st)) (ap not (eq-eqb _ _ g)) ∙ go (eqb (length l) 0) (is_empty st.run)
  where
    go : (a b : Bool) → pick a (pick b (on_long st) st) (on_long st) ≡ last_of st (demand a 15 (demand (not b) 15 (answers tt)))
    go true true = refl
    go true false = refl
    go false b = refl

-- ---- lines that are carried out

record Reached (st : State) (ps qs : List (List ℕ)) (reached : State) : Type 0 where
  rest : over st ps ≡ over reached qs
  going : Going reached

lines-reach : (before : List (List ℕ)) (line : List ℕ) (after : List (List ℕ)) (st reached : State) → Going st → lines_on st before ≡ answers reached → Reached st (before ++ (line ∷ after)) (line ∷ after) reached
unfolding lines_on onward answered
lines-reach [] line after st reached g e =
    let s : st ≡ reached = same_answer e in
    subst (λ (x : State). Reached st (line ∷ after) (line ∷ after) x) s (record { rest = refl; going = g })
lines-reach (b ∷ bs) line after st reached g e = go (line_in st b) refl (λ s f. lines-reach bs line after (answered st (answers s)) reached refl f) e
  where
    one : (bs : List (List ℕ)) → over st (b ∷ (bs ++ (line ∷ after))) ≡ over (answered st (line_in st b)) (bs ++ (line ∷ after))
    one [] = next-piece st b line after g
    one (c ∷ cs) = next-piece st b c (cs ++ (line ∷ after)) g

    go : (p : Paper Stand) → line_in st b ≡ p → ((s : Stand) → lines_on (answered st (answers s)) bs ≡ answers reached → Reached (answered st (answers s)) (bs ++ (line ∷ after)) (line ∷ after) reached)
        → onward p (λ s. lines_on (answered st (answers s)) bs) ≡ answers reached → Reached st (b ∷ (bs ++ (line ∷ after))) (line ∷ after) reached
    go (refuses n) h k f = absurd (no_answer n reached f)
    go (answers s) h k f = let r = k s f in record { rest = one bs ∙ ap (λ (p : Paper Stand). over (answered st p) (bs ++ (line ∷ after))) h ∙ r.rest; going = r.going }

-- what a piece that is refused leaves: the run stops at the next line, and its cells and rings are as that line found them
wrong-stops : (line : List ℕ) (after : List (List ℕ)) (st : State) (k : Reason) → Going st → wrong_with st line after ≡ refuses k → (0 < k.number) × (over st (line ∷ after) ≡ answered st (refuses k))
unfolding wrong_with last_of demand onward
wrong-stops line [] st k g e = (go (eqb (length line) 0) (is_empty st.run) e, last-piece st line g ∙ ap (last_of st) e)
  where
    go : (a b : Bool) → ◌≡◌ {A = Paper (Unit {0})} (demand a 15 (demand (not b) 15 (answers tt))) (refuses k) → 0 < k.number
    go true false f = absurd (no_answer k tt (sym f))
    go true true f = subst (λ (n : Reason). 0 < n.number) (same_number f) (zero-lt-suc 14)
    go false b f = subst (λ (n : Reason). 0 < n.number) (same_number f) (zero-lt-suc 14)
wrong-stops line (m ∷ ls) st k g e = go (line_in st line) refl e
  where
    go : (p : Paper Stand) → line_in st line ≡ p → ◌≡◌ {A = Paper (Unit {0})} (onward p (λ _. answers tt)) (refuses k) → (0 < k.number) × (over st (line ∷ m ∷ ls) ≡ answered st (refuses k))
    go (answers s) h f = absurd (no_answer k tt (sym f))
    go (refuses n) h f =
        let w : line_in st line ≡ refuses k = h ∙ ap refuses (same_number f) in
        let z = line-number st.run.job line full_room st.cells st.rings k w in
        (z, next-piece st line m ls g ∙ ap (λ (p : Paper Stand). over (answered st p) (m ∷ ls)) w ∙ refused-stays (m ∷ ls) st k z)

-- where a line offends, the run ends there
pub offends-ends : {st : State} {ps : List (List ℕ)} {m k : ℕ} → st.run.refused ≡ 0 → (o : Offends st ps m k) → (0 < k) × (over st ps ≡ answered o.reached (refuses o.why))
offends-ends {st} {ps} {m} {k} g o =
    let r = lines-reach o.before o.line o.after st o.reached g o.carried in
    let w = wrong-stops o.line o.after o.reached o.why r.going o.wrong in
    (rw o.refusal w.0, ap (over st) o.order ∙ r.rest ∙ w.1)

-- where none does, all are carried out
pub none-ends : {st end : State} {ps : List (List ℕ)} → st.run.refused ≡ 0 → NoneOffends st ps end → (over st ps ≡ end) × (end.run.refused ≡ 0)
unfolding wrong_with last_of demand
none-ends {st} {end} {ps} g o =
    let r = lines-reach o.lines [] [] st end g o.carried in
    (ap (over st) o.order ∙ r.rest ∙ last-piece end [] r.going ∙ ap (λ (t : Bool). last_of end (demand (not t) 15 (answers tt))) o.some, r.going)

-- ---- a line offends, or none does

data Found (st : State) (ps : List (List ℕ)) : Type 0 where
  offending : {m k : ℕ} → Offends st ps m k → Found st ps
  none : {end : State} → NoneOffends st ps end → Found st ps

no_bytes : (l : List ℕ) → eqb (length l) 0 ≡ true → l ≡ []
no_bytes [] e = refl
no_bytes (b ∷ l) e = absurd (false≢true (sym (ne_eqb (suc (length l)) 0 (λ f. omega arith)) ∙ e))

found-last : (st : State) (l : List ℕ) → Found st (l ∷ [])
unfolding wrong_with lines_on demand
found-last st l = go (eqb (length l) 0) refl (is_empty st.run) refl
  where
    here : (k : Reason) → wrong_with st l [] ≡ refuses k → Found st (l ∷ [])
    here k e = offending {m = next st.run} {k = k.number} (record { before = []; line = l; after = []; order = refl; reached = st; carried = refl; number = refl; why = k; wrong = e; refusal = refl })

    go : (a : Bool) → eqb (length l) 0 ≡ a → (b : Bool) → is_empty st.run ≡ b → Found st (l ∷ [])
    go false e b f = here (only 15) (demand-false _ _ _ e)
    go true e true f = here (only 15) (demand-true _ _ _ e ∙ demand-false _ _ _ (ap not f))
    go true e false f = none {end = st} (record { lines = []; order = ap (λ (x : List ℕ). x ∷ []) (no_bytes l e); carried = refl; some = f })

-- one line more before
found-next : (st : State) (l : List ℕ) (ps : List (List ℕ)) (s : Stand) → line_in st l ≡ answers s → Found (answered st (answers s)) ps → Found st (l ∷ ps)
unfolding lines_on
found-next st l ps s e (offending o) = offending (record {
  before = l ∷ o.before;
  line = o.line;
  after = o.after;
  order = ap (λ (x : List (List ℕ)). l ∷ x) o.order;
  reached = o.reached;
  carried = ap (λ (p : Paper Stand). onward p (λ s. lines_on (answered st (answers s)) o.before)) e ∙ onward-answers _ _ ∙ o.carried;
  number = o.number;
  why = o.why;
  wrong = o.wrong;
  refusal = o.refusal;
})
found-next st l ps s e (none o) = none (record {
  lines = l ∷ o.lines;
  order = ap (λ (x : List (List ℕ)). l ∷ x) o.order;
  carried = ap (λ (p : Paper Stand). onward p (λ s. lines_on (answered st (answers s)) o.lines)) e ∙ onward-answers _ _ ∙ o.carried;
  some = o.some;
})

found : (l : List ℕ) (ps : List (List ℕ)) (st : State) → Found st (l ∷ ps)
unfolding lines_on wrong_with
found l [] st = found-last st l
found l (m ∷ ls) st = go (line_in st l) refl (λ s. found m ls (answered st (answers s)))
  where
    go : (p : Paper Stand) → line_in st l ≡ p → ((s : Stand) → Found (answered st (answers s)) (m ∷ ls)) → Found st (l ∷ m ∷ ls)
    go (answers s) e f = found-next st l (m ∷ ls) s e (f s)
    go (refuses k) e f = offending {m = next st.run} {k = k.number} (record {
      before = [];
      line = l;
      after = m ∷ ls;
      order = refl;
      reached = st;
      carried = refl;
      number = refl;
      why = k;
      wrong = ap (λ (p : Paper Stand). onward p (λ _. answers tt)) e ∙ onward-refuses _ _;
      refusal = refl;
    })

found_in : (ps : List (List ℕ)) (st : State) → 0 < length ps → Found st ps
found_in [] st h = absurd (omega arith)
found_in (l ∷ ps) st h = found l ps st

-- ---- THE DEMAND, of a whole job. The run is at its start, or goes on unrefused.
module _ (st : State) (s : List ℕ) (g : st.run.refused ≡ 0) where
  -- refused at line m with k, where line m is the first that offends, and with k; its cells and rings are then those that the lines before it left
  pub job-refused : (m k : ℕ) (o : Offends st (pieces_of s) m k) → ((job_of st s).run.refused ≡ k) × ((job_of st s).run.lines ≡ m) × ((job_of st s).cells ≡ o.reached.cells) × ((job_of st s).rings ≡ o.reached.rings)
  unfolding answered refused_with
  job-refused m k o =
      let e = (offends-ends g o).1 in
      (ap (λ (x : State). x.run.refused) e ∙ sym o.refusal, ap (λ (x : State). x.run.lines) e ∙ sym o.number, ap (λ (x : State). x.cells) e, ap (λ (x : State). x.rings) e)

  -- answered, where none offends: the run is then what the lines in turn leave
  pub job-answered : (end : State) → NoneOffends st (pieces_of s) end → (job_of st s ≡ end) × ((job_of st s).run.refused ≡ 0)
  job-answered end o = let e = none-ends g o in (e.0, ap (λ (x : State). x.run.refused) e.0 ∙ e.1)

  -- and only there
  pub job-stops : (k : ℕ) → (job_of st s).run.refused ≡ k → 0 < k → Offends st (pieces_of s) (job_of st s).run.lines k
  job-stops k e h = go (found_in (pieces_of s) st (some 10 s))
    where
      at-line : {m m' k k' : ℕ} → m ≡ m' → k ≡ k' → Offends st (pieces_of s) m k → Offends st (pieces_of s) m' k'
      at-line {m} {m'} {k} {k'} a b o = subst (λ (x : ℕ). Offends st (pieces_of s) m' x) b (subst (λ (x : ℕ). Offends st (pieces_of s) x k) a o)

      go : Found st (pieces_of s) → Offends st (pieces_of s) (job_of st s).run.lines k
      go (none o) = let z : k ≡ 0 = sym e ∙ (job-answered _ o).1 in absurd (omega arith)
      go (offending o) = let r = job-refused _ _ o in at-line (sym r.1) (sym r.0 ∙ e) o

  pub job-holds : (job_of st s).run.refused ≡ 0 → NoneOffends st (pieces_of s) (job_of st s)
  job-holds e = go (found_in (pieces_of s) st (some 10 s))
    where
      go : Found st (pieces_of s) → NoneOffends st (pieces_of s) (job_of st s)
      go (none {end} o) = subst (λ (x : State). NoneOffends st (pieces_of s) x) (sym (job-answered end o).0) o
      go (offending {m} {k} o) = let z : k ≡ 0 = sym (job-refused m k o).0 ∙ e in let h = (offends-ends g o).0 in absurd (omega arith)

-- The number of a line counts from 1, while lines are fewer than 2 ^ 64.
pub line-counted : (ls : List (List ℕ)) (st reached : State) → lines_on st ls ≡ answers reached → st.run.lines + length ls < 2 ^ 64 → reached.run.lines ≡ st.run.lines + length ls
unfolding lines_on onward answered
line-counted [] st reached e h = ap (λ (x : State). x.run.lines) (sym (same_answer e)) ∙ sym (add-zero st.run.lines)
line-counted (l ∷ ls) st reached e h = go (line_in st l) e (λ s f. line-counted ls (answered st (answers s)) reached f (few st.run.lines (length ls) h))
  where
    few : (a b : ℕ) → a + suc b < 2 ^ 64 → (a + 1) % 2 ^ 64 + b < 2 ^ 64
    few a b k = omega arith

    one : (a b : ℕ) → a + suc b < 2 ^ 64 → (a + 1) % 2 ^ 64 + b ≡ a + suc b
    one a b k = omega arith

    go : (p : Paper Stand) → onward p (λ s. lines_on (answered st (answers s)) ls) ≡ answers reached
        → ((s : Stand) → lines_on (answered st (answers s)) ls ≡ answers reached → reached.run.lines ≡ next st.run + length ls) → reached.run.lines ≡ st.run.lines + suc (length ls)
    go (refuses n) f k = absurd (no_answer n reached f)
    go (answers s) f k = k s f ∙ one st.run.lines (length ls) h
