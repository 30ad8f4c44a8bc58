-- However the bytes of a job are cut into parts, what `take_part` leaves of them one after the other and `finish` at the end is the job of the whole file. Assumes nothing.
use Rattle.std.proofs.Common.{◌≡◌, ℕ, ◌+◌, ◌<◌, ◌≤◌, Bool, true, false, not, eqb, ltb, List, [], ◌∷◌, ◌++◌, length, take, set, sym, refl, ap, ◌∙◌, subst, add-one, arith, length-set, length-take-le, take-suc-set, ltb-false, ltb-true, le-ltb, lt-ltb, ne_eqb}
use mathlib.Core.List.{foldl}
use lib.Ieee.{Float}
use Rattle.refusals.specs.declared.Refusal.TheVariants.{LineMalformed}
use Rattle.floats.specs.Pick.{pick}
use Rattle.text.proofs.Chosen.{yes, no}
use Rattle.job_run.specs.declared.Run.{Run}
use Rattle.lines.specs.File.{ended, joined}
use Rattle.job_run.specs.Run.{State, state, refused_with, refusing, on_line, on_long, on_end, stopped, Hold, hold, byte_on, is_empty, finish_of, job_of, cut_of}
use Rattle.lines.specs.Hands.{Hand, hand, takes, in_turn, byte_on as hand_on}
use Rattle.lines.proofs.AnyCut.{any-cut}

long-stops : (st : State) → stopped (on_long st) ≡ true
unfolding refused_with
long-stops st = refl

-- the line is within its room
pub record Fits (h : Hold) : Type 0 where
  pub within : h.len ≤ 127
  pub room : 127 ≤ length h.line

abbrev hand_of : Hold → Hand State
hand_of h = hand h.state (take h.len h.line)

-- what a byte does to the lent line it does to the line held as a list
record Follows (h k : Hold) (b : ℕ) : Type 0 where
  same : hand_of k ≡ hand_on stopped on_line on_long (hand_of h) b
  fits : Fits k

byte-follows : (h : Hold) (b : ℕ) → Fits h → Follows h (byte_on h b) b
unfolding byte_on hand_on
byte-follows h b f = by (stopped h.state) refl (eqb b 10) refl (ltb h.len 127) refl
  where
    long : length (take h.len h.line) ≡ h.len
    long = length-take-le h.len h.line (omega (arith, f.within, f.room))

    room : 127 ≤ length (set h.line h.len b)
    room = subst (λ (k : ℕ). 127 ≤ k) (sym (length-set h.line h.len b)) f.room

    by : (t : Bool) → stopped h.state ≡ t → (u : Bool) → eqb b 10 ≡ u → (v : Bool) → ltb h.len 127 ≡ v
        → Follows h (pick (stopped h.state) h (pick (eqb b 10) (hold (on_line h.state (take h.len h.line)) (set h.line h.len b) 0) (pick (ltb h.len 127) (hold h.state (set h.line h.len b) (h.len + 1)) (hold (on_long h.state) (set h.line h.len b) 0)))) b
    by true e u eu v ev = rw e (record { same = simp (e, yes); fits = simp yes f })
    by false e true eu v ev = rw (e, eu) (record { same = simp (e, eu, yes, no); fits = simp (yes, no) (record { within = omega arith; room = room }) })
    by false e false eu true ev =
        let r : h.len < 127 = ltb-true _ _ ev in
        let w : length (take h.len h.line) < 127 = omega (arith, long, r) in
        let q : take (h.len + 1) (set h.line h.len b) ≡ take h.len h.line ++ (b ∷ []) = ap (λ (k : ℕ). take k (set h.line h.len b)) (add-one h.len) ∙ take-suc-set h.line h.len b (omega (arith, r, f.room)) in
        rw (e, eu, ev)
        (record {
          same = simp (e, eu, yes, no, lt-ltb _ _ w, q);
          fits = simp (yes, no) (record { within = omega (arith, r); room = room });
        })
    by false e false eu false ev =
        let r : 127 ≤ h.len = ltb-false _ _ ev in
        let w : 127 ≤ length (take h.len h.line) = omega (arith, long, r) in
        rw (e, eu, ev)
        (record {
          same = simp (e, eu, no, le-ltb _ _ w);
          fits = simp no (record { within = omega arith; room = room });
        })

-- and so does a part
record FollowsAll (h k : Hold) (s : List ℕ) : Type 0 where
  same : hand_of k ≡ takes stopped on_line on_long (hand_of h) s
  fits : Fits k

part-follows : (s : List ℕ) (h : Hold) → Fits h → FollowsAll h (foldl byte_on h s) s
unfolding takes
part-follows [] h f = record { same = refl; fits = f }
part-follows (b ∷ s) h f =
    let o = byte-follows h b f in
    let r = part-follows s (byte_on h b) o.fits in
    record { same = r.same ∙ ap (λ (j : Hand State). takes stopped on_line on_long j s) o.same; fits = r.fits }

-- parts taken one after the other
abbrev pub take_parts : Hold → List (List ℕ) → Hold
take_parts h ps = foldl (λ (k : Hold) (p : List ℕ). foldl byte_on k p) h ps

record FollowsParts (h k : Hold) (ps : List (List ℕ)) : Type 0 where
  same : hand_of k ≡ in_turn stopped on_line on_long (hand_of h) ps
  fits : Fits k

parts-follow : (ps : List (List ℕ)) (h : Hold) → Fits h → FollowsParts h (take_parts h ps) ps
unfolding in_turn
parts-follow [] h f = record { same = refl; fits = f }
parts-follow (p ∷ ps) h f =
    let o = part-follows p h f in
    let r = parts-follow ps (foldl byte_on h p) o.fits in
    record { same = r.same ∙ ap (λ (j : Hand State). in_turn stopped on_line on_long j ps) o.same; fits = r.fits }

-- the end of the input, by the number of bytes that are held
finish-ended : (r : Run) (cells rings : List Float) (h : List ℕ) (n : ℕ) → n ≡ length h → state (finish_of r n) cells rings ≡ ended stopped on_long on_end (state r cells rings) h
unfolding finish_of ended
finish-ended r cells rings h n e = rw e (by (not (eqb r.refused 0)) refl (eqb (length h) 0) refl (is_empty r) refl)
  where
    by : (t : Bool) → not (eqb r.refused 0) ≡ t → (u : Bool) → eqb (length h) 0 ≡ u → (v : Bool) → is_empty r ≡ v
        → state (pick (not (eqb r.refused 0)) r (pick (not (eqb (length h) 0)) (refusing r LineMalformed) (pick (is_empty r) (refusing r LineMalformed) r))) cells rings
        ≡ pick (not (eqb r.refused 0)) (state r cells rings) (pick (eqb (length h) 0) (pick (is_empty r) (state (refusing r LineMalformed) cells rings) (state r cells rings)) (state (refusing r LineMalformed) cells rings))
    by true e u f v g = simp (e, yes)
    by false e true f true g = simp (e, f, g, yes, no)
    by false e true f false g = simp (e, f, g, yes, no)
    by false e false f v g = simp (e, f, yes, no)

-- the run that a job in hand ends with
abbrev pub end_of : Hold → State
end_of h = state (finish_of h.state.run h.len) h.state.cells h.state.rings

-- the theorem, of any parts, with room for a line
pub however-cut : (st : State) (line : List ℕ) (ps : List (List ℕ)) → 127 ≤ length line → end_of (take_parts (hold st line 0) ps) ≡ job_of st (joined ps)
however-cut st line ps h =
    let o = parts-follow ps (hold st line 0) (record { within = omega arith; room = h }) in
    let k = take_parts (hold st line 0) ps in
    let l : k.len ≡ length (take k.len k.line) = sym (length-take-le k.len k.line (omega (arith, o.fits.within, o.fits.room))) in
    finish-ended k.state.run k.state.cells k.state.rings (take k.len k.line) k.len l
    ∙ ap (λ (j : Hand State). ended stopped on_long on_end j.job j.held) o.same
    ∙ any-cut stopped on_line on_long on_end long-stops ps st

-- ---- input that is cut off

-- the run that a job in hand ends with, where more of its line was to come
abbrev pub end_cut_of : Hold → State
end_cut_of h = state (finish_of h.state.run 1) h.state.cells h.state.rings

-- one byte more that is no newline, and then the end
one_more : (h : Hold) → end_cut_of h ≡ end_of (byte_on h 0)
unfolding byte_on finish_of refused_with
one_more h = by (stopped h.state) refl (ltb h.len 127) refl
  where
    by : (t : Bool) → stopped h.state ≡ t → (v : Bool) → ltb h.len 127 ≡ v → end_cut_of h ≡ end_of (byte_on h 0)
    by true e v ev = simp (e, yes)
    by false e true ev = simp (e, ev, ne_eqb (h.len + 1) 0 (λ q. omega (arith, q)), yes, no)
    by false e false ev = simp (e, ev, yes, no)

-- bytes that are taken and then cut off
pub cut-finish : (st : State) (line s : List ℕ) → 127 ≤ length line → end_cut_of (foldl byte_on (hold st line 0) s) ≡ cut_of st s
unfolding joined
cut-finish st line s h = one_more (foldl byte_on (hold st line 0) s) ∙ however-cut st line (s ∷ (0 ∷ []) ∷ []) h
