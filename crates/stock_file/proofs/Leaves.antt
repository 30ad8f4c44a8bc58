-- What the lent room holds after any read: a line is written at its place once, and all that no line was written to stays. Assumes nothing.
use Rattle.std.specs.Prelude.{Option, Some, None}
use Prim.Native.Nat.{ℕ, suc, ◌+◌, ◌*◌, ◌/◌, ◌≤◌, ◌<◌}
use native.Mathlib.Omega.{arith}
use mathlib.Core.Path.{◌≡◌, refl, sym, ◌∙◌, subst}
use mathlib.Core.Bool.{Bool, true, false}
use mathlib.Core.List.{List, [], ◌∷◌}
use lib.Dec.{eqb, ltb}
use lib.ListN.{length, get_or, set}
use lib.Seq.{sets, length-sets, get_or-set_other}
use lib.Ieee.{Float, nan}
use borrow.Author.Tests.{eqb-true, eqb-false, ltb-true, ltb-false}
use Rattle.floats.specs.Pick.{pick, pick_true, pick-false}
use Rattle.lines.specs.File.{pieces_of, ended, line_on_bytes, over_pieces}
use Rattle.stock_lines.specs.declared.Reading.{Reading}
use Rattle.stock_lines.specs.declared.form.Four.{Four}
use Rattle.stock_lines.specs.declared.form.First.{First}
use Rattle.stock_lines.specs.declared.room.Took.{Took}
use Rattle.stock_lines.specs.declared.room.Took.TheVariants.{Cell, Ring, End, NoLine}
use Rattle.stock_lines.specs.Form.{form_of}
use Rattle.stock_lines.specs.First.{first_of}
use Rattle.stock_lines.specs.Room.{kept, stored, taken, cell_at, ring_turn, end_turn, took_of, rings_left_after}
use Rattle.stock_lines.specs.Reading.{State, state, count_to, refusing, begun, onward_to, went, on_body, on_line}
use Rattle.stock_lines.proofs.Rooms.{took-cell, took-ring, took-end, took-none, rings-cell, rings-other, stored_other}
use Rattle.stock_lines.proofs.Readings.{line_first, line-body, line-behind, count-more, count-full}
use Rattle.stock_file.specs.Read.{fresh_reading, stopped, on_long, on_end, file_in}

-- a list of fours that was filled from n to n': its length stays, what was filled before, and what lies behind
pub record Filled (n n' : ℕ) (l l' : List Float) : Type 0 where
  pub grows : n ≤ n'
  pub long : length l' ≡ length l
  pub before : (i : ℕ) → i < 4 * n → get_or l' i nan ≡ get_or l i nan
  pub behind : (i : ℕ) → 4 * n' ≤ i → get_or l' i nan ≡ get_or l i nan

same : (n : ℕ) (l : List Float) → Filled n n l l
same n l = record { grows = omega arith; long = refl; before = λ i h. refl; behind = λ i h. refl }

further : {n n' n'' : ℕ} {l l' l'' : List Float} → Filled n n' l l' → Filled n' n'' l' l'' → Filled n n'' l l''
further {n} {n'} {n''} a b = record {
  grows = omega (arith, a.grows, b.grows);
  long = b.long ∙ a.long;
  before = λ i h. b.before i (omega (arith, a.grows)) ∙ a.before i h;
  behind = λ i h. b.behind i h ∙ a.behind i (omega (arith, b.grows));
}

-- four numbers at a place leave all others
put_other : (l : List Float) (k i : ℕ) (a b c d : Float) → (i ≡ k → ⊥) → (i ≡ suc k → ⊥) → (i ≡ suc (suc k) → ⊥) → (i ≡ suc (suc (suc k)) → ⊥) → get_or (sets l k (a ∷ b ∷ c ∷ d ∷ [])) i nan ≡ get_or l i nan
put_other l k i a b c d p q r s =
    get_or-set_other (set (set (set l k a) (suc k) b) (suc (suc k)) c) (suc (suc (suc k))) i d nan s
    ∙ get_or-set_other (set (set l k a) (suc k) b) (suc (suc k)) i c nan r
    ∙ get_or-set_other (set l k a) (suc k) i b nan q
    ∙ get_or-set_other l k i a nan p

put-filled : (l : List Float) (k : ℕ) (a b c d : Float) → Filled k (k + 1) l (sets l (4 * k) (a ∷ b ∷ c ∷ d ∷ []))
put-filled l k a b c d = record {
  grows = omega arith;
  long = length-sets l (4 * k) (a ∷ b ∷ c ∷ d ∷ []);
  before = λ i h. put_other l (4 * k) i a b c d (λ e. omega arith) (λ e. omega arith) (λ e. omega arith) (λ e. omega arith);
  behind = λ i h. put_other l (4 * k) i a b c d (λ e. omega arith) (λ e. omega arith) (λ e. omega arith) (λ e. omega arith);
}

more : (n : ℕ) (l : List Float) → Filled n (n + 1) l l
more n l = record { grows = omega arith; long = refl; before = λ i h. refl; behind = λ i h. refl }

-- one more of a kind that is counted past its limit or not
stored-filled : (limit most n : ℕ) (l : List Float) (f : Option Four) → limit ≤ most → Filled n (count_to most n) l (stored limit l n f)
unfolding stored kept
stored-filled limit most n l None h = counted (ltb n most) refl
  where
    counted : (t : Bool) → ltb n most ≡ t → Filled n (count_to most n) l l
    counted true e = subst (λ (k : ℕ). Filled n k l l) (count-more most n (ltb-true _ _ e)) (more n l)
    counted false e = subst (λ (k : ℕ). Filled n k l l) (count-full most n (ltb-false _ _ e)) (same n l)
stored-filled limit most n l (Some x) h = by (ltb n limit) refl (ltb n (length l / 4)) refl (ltb n most) refl
  where
    by : (t : Bool) → ltb n limit ≡ t → (u : Bool) → ltb n (length l / 4) ≡ u → (v : Bool) → ltb n most ≡ v
        → Filled n (count_to most n) l (pick (ltb n limit) (pick (ltb n (length l / 4)) (sets l (4 * n) (x.a ∷ x.b ∷ x.c ∷ x.d ∷ [])) l) l)
    by true e true f v g =
        let w : n < limit = ltb-true _ _ e in
        let q : n < most = omega arith in
        subst (λ (k : ℕ). Filled n k l (pick (ltb n limit) (pick (ltb n (length l / 4)) (sets l (4 * n) (x.a ∷ x.b ∷ x.c ∷ x.d ∷ [])) l) l)) (count-more most n q)
        (subst (λ (y : List Float). Filled n (n + 1) l y) (sym (pick_true _ _ _ e ∙ pick_true _ _ _ f)) (put-filled l n x.a x.b x.c x.d))
    by true e false f v g =
        let w : n < limit = ltb-true _ _ e in
        let q : n < most = omega arith in
        subst (λ (k : ℕ). Filled n k l (pick (ltb n limit) (pick (ltb n (length l / 4)) (sets l (4 * n) (x.a ∷ x.b ∷ x.c ∷ x.d ∷ [])) l) l)) (count-more most n q)
        (subst (λ (y : List Float). Filled n (n + 1) l y) (sym (pick_true _ _ _ e ∙ pick-false _ _ _ f)) (more n l))
    by false e u f true g =
        subst (λ (k : ℕ). Filled n k l (pick (ltb n limit) (pick (ltb n (length l / 4)) (sets l (4 * n) (x.a ∷ x.b ∷ x.c ∷ x.d ∷ [])) l) l)) (count-more most n (ltb-true _ _ g))
        (subst (λ (y : List Float). Filled n (n + 1) l y) (sym (pick-false _ _ _ e)) (more n l))
    by false e u f false g =
        subst (λ (k : ℕ). Filled n k l (pick (ltb n limit) (pick (ltb n (length l / 4)) (sets l (4 * n) (x.a ∷ x.b ∷ x.c ∷ x.d ∷ [])) l) l)) (count-full most n (ltb-false _ _ g))
        (subst (λ (y : List Float). Filled n n l y) (sym (pick-false _ _ _ e)) (same n l))

-- ---- a line

-- from one state to a later one
pub record Stays (a b : State) : Type 0 where
  pub cells : Filled a.reading.cells b.reading.cells a.cells b.cells
  pub rings : Filled a.reading.rings b.reading.rings a.rings b.rings

stays : (st : State) → Stays st st
stays st = record { cells = same _ _; rings = same _ _ }

on : {a b c : State} → Stays a b → Stays b c → Stays a c
on u v = record { cells = further u.cells v.cells; rings = further u.rings v.rings }

-- the counts and the room as they were
pub record Unmoved (r q : Reading) : Type 0 where
  pub cells : r.cells ≡ q.cells
  pub rings : r.rings ≡ q.rings

unmoved : (st : State) (q : Reading) → Unmoved st.reading q → Stays st (state q st.cells st.rings)
unmoved st q u = record {
  cells = subst (λ (k : ℕ). Filled st.reading.cells k st.cells st.cells) u.cells (same _ _);
  rings = subst (λ (k : ℕ). Filled st.reading.rings k st.rings st.rings) u.rings (same _ _);
}

refusing-unmoved : (r : Reading) → Unmoved r (refusing r)
unfolding refusing
refusing-unmoved r = record { cells = refl; rings = refl }

begun-unmoved : (r : Reading) (f : Option First) → Unmoved r (begun r f)
unfolding begun
begun-unmoved r (Some f) = record { cells = refl; rings = refl }
begun-unmoved r None = refusing-unmoved r

-- what a line behind the first leaves, by what it was
body-stays : (st : State) (s : List ℕ) → Stays st (on_body st s)
unfolding on_body went onward_to
body-stays st s = by (taken (cell_at k n m s)) refl (taken (ring_turn k n s)) refl (end_turn k n b s) refl
  where
    k : ℕ
    k = st.reading.form

    most : ℕ
    most = (form_of k).most

    n : ℕ
    n = st.reading.cells

    m : ℕ
    m = st.reading.rings

    b : ℕ
    b = st.reading.lines

    after : Took → List Float → List Float → State
    after t cs rs = state (went st.reading t) cs rs

    shown : (t : Took) (cs rs : List Float) → took_of k n m b s ≡ t → stored most st.cells n (cell_at k n m s) ≡ cs → rings_left_after k n m s st.rings ≡ rs → Stays st (after t cs rs)
        → Stays st (after (took_of k n m b s) (stored most st.cells n (cell_at k n m s)) (rings_left_after k n m s st.rings))
    shown t cs rs e f g w =
        subst (λ (x : Took). Stays st (after x (stored most st.cells n (cell_at k n m s)) (rings_left_after k n m s st.rings))) (sym e)
        (subst (λ (x : List Float). Stays st (after t x (rings_left_after k n m s st.rings))) (sym f)
        (subst (λ (x : List Float). Stays st (after t cs x)) (sym g) w))

    cell : Stays st (after Cell (stored most st.cells n (cell_at k n m s)) st.rings)
    cell = record { cells = stored-filled most most n st.cells (cell_at k n m s) (omega arith); rings = same _ _ }

    ring : Stays st (after Ring st.cells (stored 256 st.rings m (ring_turn k n s)))
    ring = record { cells = same _ _; rings = stored-filled 256 257 m st.rings (ring_turn k n s) (omega arith) }

    end : Stays st (after End st.cells st.rings)
    end = record { cells = same _ _; rings = same _ _ }

    none : Stays st (after NoLine st.cells st.rings)
    none = unmoved st (refusing st.reading) (refusing-unmoved st.reading)

    by : (t : Bool) → taken (cell_at k n m s) ≡ t → (u : Bool) → taken (ring_turn k n s) ≡ u → (v : Bool) → end_turn k n b s ≡ v
        → Stays st (after (took_of k n m b s) (stored most st.cells n (cell_at k n m s)) (rings_left_after k n m s st.rings))
    by true e u f v g = shown Cell _ st.rings (sym (took-cell k n m s b e)) refl (sym (rings-cell k n m s st.rings e)) cell
    by false e true f v g = shown Ring st.cells _ (sym (took-ring k n m s b e f)) (stored_other most st.cells n (cell_at k n m s) e) (sym (rings-other k n m s st.rings e)) ring
    by false e false f true g = shown End st.cells st.rings (sym (took-end k n m s b e f g)) (stored_other most st.cells n (cell_at k n m s) e) (sym (rings-other k n m s st.rings e) ∙ stored_other 256 st.rings m (ring_turn k n s) f) end
    by false e false f false g = shown NoLine st.cells st.rings (sym (took-none k n m s b e f g)) (stored_other most st.cells n (cell_at k n m s) e) (sym (rings-other k n m s st.rings e) ∙ stored_other 256 st.rings m (ring_turn k n s) f) none

pub line_stays : (st : State) (s : List ℕ) → Stays st (on_line st s)
line_stays st s = by (eqb st.reading.stage 0) refl (eqb st.reading.stage 1) refl
  where
    by : (t : Bool) → eqb st.reading.stage 0 ≡ t → (u : Bool) → eqb st.reading.stage 1 ≡ u → Stays st (on_line st s)
    by true e u f = subst (Stays st) (sym (line_first st s (eqb-true _ _ e))) (unmoved st _ (begun-unmoved st.reading (first_of s)))
    by false e true f = subst (Stays st) (sym (line-body st s (eqb-false _ _ e) (eqb-true _ _ f))) (body-stays st s)
    by false e false f = subst (Stays st) (sym (line-behind st s (eqb-false _ _ e) (eqb-false _ _ f))) (unmoved st _ (refusing-unmoved st.reading))

long-stays : (st : State) → Stays st (on_long st)
long-stays st = unmoved st _ (refusing-unmoved st.reading)

-- ---- a whole file

picked : {st a b : State} (t : Bool) → Stays st a → Stays st b → Stays st (pick t a b)
picked {st} {a} {b} true u v = subst (Stays st) (sym (pick_true true a b refl)) u
picked {st} {a} {b} false u v = subst (Stays st) (sym (pick-false false a b refl)) v

pub pieces-stay : (ls : List (List ℕ)) (st : State) → Stays st (over_pieces stopped on_line on_long on_end st ls)
unfolding over_pieces line_on_bytes ended
pieces-stay [] st = stays st
pieces-stay (l ∷ []) st = picked (stopped st) (stays st) (picked (eqb (length l) 0) (picked (ltb st.reading.stage 2) (long-stays st) (stays st)) (long-stays st))
pieces-stay (l ∷ k ∷ ls) st =
    on (picked (stopped st) (stays st) (picked (ltb (length l) 128) (line_stays st l) (long-stays st))) (pieces-stay (k ∷ ls) (line_on_bytes stopped on_line on_long st l))

-- WHAT A READ LEAVES, refused or not: the lent room keeps its length, and the numbers behind those of the lines that were counted stay
pub room-left : (cs rs : List Float) (s : List ℕ) → Stays (state fresh_reading cs rs) (file_in cs rs s)
room-left cs rs s = pieces-stay (pieces_of s) (state fresh_reading cs rs)
