-- What the lent room held before the first byte does not show, neither in the cells and rings of a job nor in its answer; nor does the edition of its stock. Assumes nothing.
use Rattle.std.proofs.Common.{◌≡◌, ℕ, zero, suc, ◌+◌, ◌*◌, ◌<◌, ◌≤◌, Bool, true, false, not, ◌&&◌, eqb, leb, List, [], ◌∷◌, ◌++◌, length, get_or, take, drop, sym, refl, ap, ◌∙◌, ap₂, arith, length-append, length-drop, get_or-take}
use lib.Seq.{take-append_seam}
use lib.Ieee.{Float, nan}
use borrow.Author.Tests.{eqb-false}
use Rattle.refusals.specs.Paper.{Paper, Reason, answers, refuses, demand, onward}
use Rattle.refusals.specs.Lent.{over}
use Rattle.floats.specs.Pick.{pick}
use Rattle.text.proofs.Chosen.{yes, no}
use Rattle.stock.specs.declared.TurnStockSpec.{TurnStockSpec}
use Rattle.stock.specs.Spec.{clean_spec, cells_of}
use Rattle.stock.specs.Cell.{fresh_cell, cells_like}
use Rattle.stock.proofs.Cells.{length-like}
use Rattle.changes.specs.Commit.{Committed, own_commit}
use Rattle.cuts.specs.declared.Cut.{Cut}
use Rattle.cuts.specs.Preview.{preview_cut}
use Rattle.rings.specs.declared.Ring.{Ring}
use Rattle.rings.specs.Store.{rings_of, flat_of, store_as, count_fits}
use Rattle.rings.specs.Remove.{RingStore, remove_in, remove_ring}
use Rattle.rings.proofs.Flat.{length-flat}
use Rattle.lines.specs.File.{pieces_of}
use Rattle.lines.proofs.Alike.{alike-pick, alike-file}
use Rattle.job_words.specs.declared.Line.{Line}
use Rattle.job_words.specs.declared.Line.TheVariants.{Bar, Cutting, Removing, Arc, Bad}
use Rattle.job_words.specs.Kind.{line_of}
use Rattle.job_run.specs.declared.line.Job.{Job}
use Rattle.job_run.specs.Job.{full_room, Stand, bar_line, made_cut, cut_line, removing_line, first_line, later_line, job_line}
use Rattle.job_run.specs.Run.{State, next, refused_with, answered, on_line, on_long, on_end, stopped, output_of, job_of}

-- ---- lists with the same front

-- one number less of both
take_rest : {A : Type 0} (n : ℕ) (xs : List A) → take n (drop 1 xs) ≡ drop 1 (take (suc n) xs)
take_rest zero [] = refl
take_rest (suc n) [] = refl
take_rest n (x ∷ xs) = refl

drop-rest : {A : Type 0} (n : ℕ) (xs : List A) → drop (suc n) xs ≡ drop n (drop 1 xs)
drop-rest zero [] = refl
drop-rest (suc n) [] = refl
drop-rest n (x ∷ xs) = refl

-- the same numbers put over both
same_over : {A : Type 0} (ks : List A) (n : ℕ) (xs ys : List A) → take n xs ≡ take n ys → take n (ks ++ drop (length ks) xs) ≡ take n (ks ++ drop (length ks) ys)
same_over [] n xs ys e = e
same_over (k ∷ ks) zero xs ys e = refl
same_over {A} (k ∷ ks) (suc n) xs ys e =
    let r : take n (drop 1 xs) ≡ take n (drop 1 ys) = take_rest n xs ∙ ap (drop 1) e ∙ sym (take_rest n ys) in
    ap (λ (z : List A). k ∷ take n (ks ++ z)) (drop-rest (length ks) xs) ∙ ap (λ (z : List A). k ∷ z) (same_over ks n (drop 1 xs) (drop 1 ys) r) ∙ ap (λ (z : List A). k ∷ take n (ks ++ z)) (sym (drop-rest (length ks) ys))

over-long : (ks xs ys : List Float) → length xs ≡ length ys → length (over ks xs) ≡ length (over ks ys)
unfolding over
over-long ks xs ys e = omega (arith, e, length-append ks (drop (length ks) xs), length-append ks (drop (length ks) ys), length-drop (length ks) xs, length-drop (length ks) ys)

-- the numbers put over a list are its front
over-front : (n : ℕ) (ks xs : List Float) → length ks ≡ n → take n (over ks xs) ≡ ks
unfolding over
over-front n ks xs e = ap (λ (k : ℕ). take k (ks ++ drop (length ks) xs)) (sym e) ∙ take-append_seam ks (drop (length ks) xs)

-- as many rings of both
same-number-at : (m k : ℕ) (xs ys : List Float) → k < m → take m xs ≡ take m ys → get_or xs k nan ≡ get_or ys k nan
same-number-at m k xs ys h e = sym (get_or-take m xs k nan h) ∙ ap (λ (z : List Float). get_or z k nan) e ∙ get_or-take m ys k nan h

rings-up-to : (m n : ℕ) (xs ys : List Float) → 4 * n ≤ m → take m xs ≡ take m ys → rings_of n xs ≡ rings_of n ys
unfolding rings_of
rings-up-to m zero xs ys h e = refl
rings-up-to m (suc n) xs ys h e =
    let a = same-number-at m (4 * n) xs ys (omega (arith, h)) e in
    let b = same-number-at m (4 * n + 1) xs ys (omega (arith, h)) e in
    let c = same-number-at m (4 * n + 2) xs ys (omega (arith, h)) e in
    let d = same-number-at m (4 * n + 3) xs ys (omega (arith, h)) e in
    let r = rings-up-to m n xs ys (omega (arith, h)) e in
    rw (r, a, b, c, d)

same-rings : (n : ℕ) (xs ys : List Float) → take (4 * n) xs ≡ take (4 * n) ys → rings_of n xs ≡ rings_of n ys
same-rings n xs ys e = rings-up-to (4 * n) n xs ys (omega arith) e

-- ---- jobs alike

-- a job's own cells and rings are the same, and the rooms are as long; before its bar it has no spec, and its edition plays no part
pub record AlikeJobs (j k : Job) (cs ds rs ss : List Float) : Type 0 where
  pub count : j.cells ≡ k.cells
  pub stored : j.stock.rings ≡ k.stock.rings
  pub generation : j.stock.stamp.generation ≡ k.stock.stamp.generation
  pub spec : (j.cells ≡ 0 → ⊥) → j.stock.spec ≡ k.stock.spec
  pub cells : take (4 * j.cells) cs ≡ take (4 * j.cells) ds
  pub rings : take (4 * j.stock.rings) rs ≡ take (4 * j.stock.rings) ss
  pub cells-long : length cs ≡ length ds
  pub rings-long : length rs ≡ length ss

-- two runs that differ at most in what the room holds behind the job's own numbers, in the spec before the bar, and in the edition
pub record Alike (a b : State) : Type 0 where
  pub lines : a.run.lines ≡ b.run.lines
  pub refused : a.run.refused ≡ b.run.refused
  pub jobs : AlikeJobs a.run.job b.run.job a.cells b.cells a.rings b.rings

-- a line's answers
data AlikePapers : Paper Stand → Paper Stand → Type 0 where
  both : {s t : Stand} → AlikeJobs s.job t.job s.cells t.cells s.rings t.rings → AlikePapers (answers s) (answers t)
  neither : {n : Reason} → AlikePapers (refuses n) (refuses n)

alike-demand : (t u : Bool) (n : ℕ) (p q : Paper Stand) → t ≡ u → AlikePapers p q → AlikePapers (demand t n p) (demand u n q)
unfolding demand
alike-demand true u n p q e h = rw (← e) h
alike-demand false u n p q e h = rw (← e) neither

alike-onward : {A : Type 0} (p q : Paper A) (f g : A → Paper Stand) → p ≡ q → ((a : A) → AlikePapers (f a) (g a)) → AlikePapers (onward p f) (onward q g)
unfolding onward
alike-onward (answers a) q f g e h = rw (← e) (h a)
alike-onward (refuses n) q f g e h = rw (← e) neither

-- ---- each kind of line

alike-bar : (d e : ℕ) (spec : TurnStockSpec) (cs ds rs ss : List Float) → length cs ≡ length ds → length rs ≡ length ss → AlikePapers (bar_line d spec cs rs) (bar_line e spec ds ss)
unfolding bar_line
alike-bar d e spec cs ds rs ss ec er = alike-onward (cells_of spec) (cells_of spec) _ _ refl (λ n. alike-demand _ _ 3 _ _ (ap (leb (4 * n)) ec) (both (record {
  count = refl;
  stored = refl;
  generation = refl;
  spec = λ _. refl;
  cells = fronts n;
  rings = refl;
  cells-long = over-long _ cs ds ec;
  rings-long = er;
})))
  where
    new : ℕ → List Float
    new n = cells_like (fresh_cell (clean_spec spec)) n

    fronts : (n : ℕ) → take (4 * n) (over (new n) cs) ≡ take (4 * n) (over (new n) ds)
    fronts n = over-front (4 * n) (new n) cs (length-like (fresh_cell (clean_spec spec)) n) ∙ sym (over-front (4 * n) (new n) ds (length-like (fresh_cell (clean_spec spec)) n))

-- a cut, whose list has the stock's stamp whatever that is
abbrev own : TurnStockSpec → List Float → ℕ → Cut → ℕ → Paper Committed
own spec cs gen cut room = onward (preview_cut spec cs cut room) (λ l. own_commit spec cs gen l)

module _ (j k : Job) (cs ds rs ss : List Float) (h : AlikeJobs j k cs ds rs ss) (started : j.cells ≡ 0 → ⊥) where
  same-cut : (cut : Cut) (room : ℕ) → made_cut j.stock (take (4 * j.cells) cs) cut room ≡ made_cut k.stock (take (4 * k.cells) ds) cut room
  unfolding made_cut
  same-cut cut room =
      ap (λ (x : TurnStockSpec). own x (take (4 * j.cells) cs) j.stock.stamp.generation cut room) (h.spec started)
      ∙ ap (λ (x : List Float). own k.stock.spec x j.stock.stamp.generation cut room) (h.cells ∙ ap (λ (n : ℕ). take (4 * n) ds) h.count)
      ∙ ap (λ (g : ℕ). own k.stock.spec (take (4 * k.cells) ds) g cut room) h.generation

  alike-cut : (cut : Cut) (room : ℕ) → AlikePapers (cut_line j cut room cs rs) (cut_line k cut room ds ss)
  unfolding cut_line over
  alike-cut cut room = alike-onward _ _ _ _ (same-cut cut room) (λ (m : Committed). both (record {
    count = h.count;
    stored = h.stored;
    generation = refl;
    spec = h.spec;
    cells = same_over m.cells (4 * j.cells) cs ds h.cells;
    rings = h.rings;
    cells-long = over-long m.cells cs ds h.cells-long;
    rings-long = h.rings-long;
  }))

  same-removal : (q : Ring) → remove_ring j.stock.spec rs j.stock.rings j.stock.stamp.generation q ≡ remove_ring k.stock.spec ss k.stock.rings k.stock.stamp.generation q
  unfolding remove_ring remove_in count_fits
  same-removal q = rw (← h.spec started, ← h.stored, ← h.generation, h.rings-long, same-rings j.stock.rings rs ss h.rings)

  alike-ring : (q : Ring) → AlikePapers (removing_line j q cs rs) (removing_line k q ds ss)
  unfolding removing_line store_as
  alike-ring q = alike-onward _ _ _ _ (same-removal q) (λ (s : RingStore). both (record {
    count = h.count;
    stored = refl;
    generation = refl;
    spec = h.spec;
    cells = h.cells;
    rings = over-front (4 * length s.rings) (flat_of s.rings) rs (length-flat s.rings) ∙ sym (over-front (4 * length s.rings) (flat_of s.rings) ss (length-flat s.rings));
    cells-long = h.cells-long;
    rings-long = over-long (flat_of s.rings) rs ss h.rings-long;
  }))

  alike-later : (l : Line) (room : ℕ) → AlikePapers (later_line j l room cs rs) (later_line k l room ds ss)
  unfolding later_line
  alike-later (Bar spec) room = neither
  alike-later (Cutting cut) room = alike-cut cut room
  alike-later (Removing q) room = alike-ring q
  alike-later Arc room = neither
  alike-later Bad room = neither

alike-first : (d e : ℕ) (l : Line) (cs ds rs ss : List Float) → length cs ≡ length ds → length rs ≡ length ss → AlikePapers (first_line d l cs rs) (first_line e l ds ss)
unfolding first_line
alike-first d e (Bar spec) cs ds rs ss ec er = alike-bar d e spec cs ds rs ss ec er
alike-first d e (Cutting cut) cs ds rs ss ec er = neither
alike-first d e (Removing q) cs ds rs ss ec er = neither
alike-first d e Arc cs ds rs ss ec er = neither
alike-first d e Bad cs ds rs ss ec er = neither

alike-line : (j k : Job) (cs ds rs ss : List Float) (s : List ℕ) (room : ℕ) → AlikeJobs j k cs ds rs ss → AlikePapers (job_line j s room cs rs) (job_line k s room ds ss)
unfolding job_line
alike-line j k cs ds rs ss s room h = alike-demand _ _ 15 _ _ refl (by (eqb j.cells 0) refl (ap (λ (n : ℕ). eqb n 0) (sym h.count)))
  where
    by : (t : Bool) → eqb j.cells 0 ≡ t → eqb k.cells 0 ≡ eqb j.cells 0
        → AlikePapers (pick (eqb j.cells 0) (first_line j.stock.stamp.edition (line_of s) cs rs) (later_line j (line_of s) room cs rs)) (pick (eqb k.cells 0) (first_line k.stock.stamp.edition (line_of s) ds ss) (later_line k (line_of s) room ds ss))
    by true e f = simp (f, e, yes) (alike-first j.stock.stamp.edition k.stock.stamp.edition (line_of s) cs ds rs ss h.cells-long h.rings-long)
    by false e f = simp (f, e, no) (alike-later j k cs ds rs ss h (eqb-false _ _ e) (line_of s) room)

-- ---- a run of lines

alike-answered : (a b : State) (p q : Paper Stand) → Alike a b → AlikePapers p q → Alike (answered a p) (answered b q)
unfolding answered refused_with
alike-answered a b p q h (both k) = record { lines = ap (λ (n : ℕ). next (record { job = a.run.job; lines = n; refused = 0 })) h.lines; refused = refl; jobs = k }
alike-answered a b p q h neither = record { lines = ap (λ (n : ℕ). next (record { job = a.run.job; lines = n; refused = 0 })) h.lines; refused = refl; jobs = h.jobs }

alike-on : (a b : State) (l : List ℕ) → Alike a b → Alike (on_line a l) (on_line b l)
unfolding on_line
alike-on a b l h = alike-answered a b _ _ h (alike-line a.run.job b.run.job a.cells b.cells a.rings b.rings l full_room h.jobs)

alike-long : (a b : State) → Alike a b → Alike (on_long a) (on_long b)
unfolding refused_with
alike-long a b h = record { lines = ap (λ (n : ℕ). next (record { job = a.run.job; lines = n; refused = 0 })) h.lines; refused = refl; jobs = h.jobs }

alike_end : (a b : State) → Alike a b → Alike (on_end a) (on_end b)
alike_end a b h = alike-pick Alike _ _ _ _ _ _ (ap₂ (λ (n m : ℕ). eqb n 0 && eqb m 0) h.lines h.jobs.count) (alike-long a b h) h

-- a file makes jobs that are alike of such
pub alike-job : (s : List ℕ) (a b : State) → Alike a b → Alike (job_of a s) (job_of b s)
alike-job s = alike-file stopped on_line on_long on_end Alike (λ a b h. ap (λ (n : ℕ). not (eqb n 0)) h.refused) alike-on alike-long alike_end (pieces_of s)

-- and their answers are the same
pub alike-output : (a b : State) → Alike a b → output_of a ≡ output_of b
unfolding output_of
alike-output a b h = rw (h.refused, h.lines, h.jobs.generation, h.jobs.cells, h.jobs.rings, h.jobs.count, h.jobs.stored)

-- two runs before their bar, in rooms that are as long
pub alike-fresh : (a b : State) → a.run.lines ≡ b.run.lines → a.run.refused ≡ b.run.refused → a.run.job.cells ≡ 0 → b.run.job.cells ≡ 0 → a.run.job.stock.rings ≡ 0 → b.run.job.stock.rings ≡ 0
    → a.run.job.stock.stamp.generation ≡ b.run.job.stock.stamp.generation → length a.cells ≡ length b.cells → length a.rings ≡ length b.rings → Alike a b
alike-fresh a b el er ca cb ra rb eg lc lr = record {
  lines = el;
  refused = er;
  jobs = record {
    count = ca ∙ sym cb;
    stored = ra ∙ sym rb;
    generation = eg;
    spec = λ f. absurd (f ca);
    cells = rw ca refl;
    rings = rw ra refl;
    cells-long = lc;
    rings-long = lr;
  };
}
