-- What a line does to a reading, case by case. Assumes nothing.
use Rattle.std.proofs.Common.{◌≡◌, ℕ, ◌+◌, ◌<◌, ◌≤◌, true, false, List, sym, ap, ◌∙◌, le-ltb, lt-ltb, eq-eqb, ne_eqb, Option, Some, None}
use lib.Ieee.{Float}
use Rattle.floats.specs.Pick.{pick_true, pick-false}
use Rattle.stock_lines.specs.declared.Reading.{Reading}
use Rattle.stock_lines.specs.Form.{form_of}
use Rattle.stock_lines.specs.First.{first_of}
use Rattle.stock_lines.specs.declared.form.First.{First}
use Rattle.stock_lines.specs.declared.room.Took.{Took}
use Rattle.stock_lines.specs.declared.room.Took.TheVariants.{Cell, Ring, End, NoLine}
use Rattle.stock_lines.specs.Room.{stored, cell_at, took_of, rings_left_after}
use Rattle.stock_lines.specs.Reading.{State, state, next, ring_count, count_to, refusing, begun, onward_to, went, on_body, on_line}

pub count-more : (limit n : ℕ) → n < limit → n + 1 ≡ count_to limit n
unfolding count_to
count-more limit n h = sym (pick_true _ _ _ (lt-ltb _ _ h))

pub count-full : (limit n : ℕ) → limit ≤ n → n ≡ count_to limit n
unfolding count_to
count-full limit n h = sym (pick-false _ _ _ (le-ltb _ _ h))

-- ---- a reading, moved on

pub refused-is : (r : Reading) (l : ℕ) → l ≡ next r
    → ◌≡◌ {A = Reading} (record { stage = r.stage; form = r.form; edition = r.edition; bar = r.bar; cells = r.cells; rings = r.rings; lines = l; refused = true }) (refusing r)
unfolding refusing
refused-is r l e = rw e

pub onward-is : (r : Reading) (stage n m l : ℕ) → l ≡ next r
    → ◌≡◌ {A = Reading} (record { stage = stage; form = r.form; edition = r.edition; bar = r.bar; cells = n; rings = m; lines = l; refused = false }) (onward_to r stage n m)
unfolding onward_to
onward-is r stage n m l e = rw e

pub begun-none : (r : Reading) (f : Option First) → f ≡ None → refusing r ≡ begun r f
unfolding begun
begun-none r f e = sym (ap (begun r) e)

pub begun-is : (r : Reading) (f : Option First) (x : First) (l : ℕ) → f ≡ Some x → l ≡ next r
    → ◌≡◌ {A = Reading} (record { stage = 1; form = x.form; edition = x.edition; bar = x.bar; cells = r.cells; rings = r.rings; lines = l; refused = false }) (begun r f)
unfolding begun
begun-is r f x l h q = rw (h, q)

module _ (r : Reading) (t : Took) where
  pub went-cell : (n : ℕ) → t ≡ Cell → n ≡ count_to (form_of r.form).most r.cells → onward_to r 1 n r.rings ≡ went r t
  unfolding went
  went-cell n e q = rw (e, q)

  pub went-ring : (m : ℕ) → t ≡ Ring → m ≡ count_to ring_count r.rings → onward_to r 1 r.cells m ≡ went r t
  unfolding went
  went-ring m e q = rw (e, q)

  pub went-end : t ≡ End → onward_to r 2 r.cells r.rings ≡ went r t
  unfolding went
  went-end e = rw e

  pub went-none : t ≡ NoLine → refusing r ≡ went r t
  unfolding went
  went-none e = rw e

-- ---- the next line

-- the two answers of a line behind the first, and the room
pub body_is : (r q : Reading) (t : Took) (cs cs' rs rs' : List Float) (s : List ℕ) → t ≡ took_of r.form r.cells r.rings r.lines s → q ≡ went r t
    → cs' ≡ stored (form_of r.form).most cs r.cells (cell_at r.form r.cells r.rings s) → rs' ≡ rings_left_after r.form r.cells r.rings s rs → state q cs' rs' ≡ on_body (state r cs rs) s
unfolding on_body
body_is r q t cs cs' rs rs' s e f g h = rw (f, e, g, h)

module _ (st : State) (s : List ℕ) where
  pub line_first : st.reading.stage ≡ 0 → on_line st s ≡ state (begun st.reading (first_of s)) st.cells st.rings
  unfolding on_line
  line_first e = pick_true _ _ _ (eq-eqb _ _ e)

  pub line-body : (st.reading.stage ≡ 0 → ⊥) → st.reading.stage ≡ 1 → on_line st s ≡ on_body st s
  unfolding on_line
  line-body h e = pick-false _ _ _ (ne_eqb _ _ h) ∙ pick_true _ _ _ (eq-eqb _ _ e)

  pub line-behind : (st.reading.stage ≡ 0 → ⊥) → (st.reading.stage ≡ 1 → ⊥) → on_line st s ≡ state (refusing st.reading) st.cells st.rings
  unfolding on_line
  line-behind h k = pick-false _ _ _ (ne_eqb _ _ h) ∙ pick-false _ _ _ (ne_eqb _ _ k)

-- a line has one outcome: the reading, and the lent room
pub line-once : (st : State) (s : List ℕ) (r r' : Reading) (cs cs' rs rs' : List Float) → state r cs rs ≡ on_line st s → state r' cs' rs' ≡ on_line st s → (r ≡ r') × (cs ≡ cs') × (rs ≡ rs')
line-once st s r r' cs cs' rs rs' e f =
    let q : state r cs rs ≡ state r' cs' rs' = e ∙ sym f in
    (ap (λ (t : State). t.reading) q, ap (λ (t : State). t.cells) q, ap (λ (t : State). t.rings) q)
