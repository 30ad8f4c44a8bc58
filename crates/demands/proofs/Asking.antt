-- One law for every rule: a rule that asks tests one after the other is refused exactly as the list of those tests says. Assumes nothing.
use Rattle.std.specs.Prelude.{Option, None, Some}
use mathlib.Core.Path.{◌≡◌, refl, sym, ap, ◌∙◌, subst}
use mathlib.Core.Bool.{Bool, true, false}
use mathlib.Core.List.{List, [], ◌∷◌, ◌++◌, map}
use Prim.Native.Nat.{ℕ}
use Rattle.refusals.specs.Paper.{Paper, Reason, answers, refuses, only, demand, demand_at, demand_none, placed, onward}
use Rattle.stock.proofs.Count.{no_answer}
use Rattle.demands.specs.Refused.{Asked, ask, ask_at, ask_none, number_alone, AllHold, Stops, Exactly, of_answer}

same-refusal : {A : Type 0} {m n : Reason} → ◌≡◌ {A = Paper A} (refuses m) (refuses n) → m ≡ n
same-refusal h = cc

-- two refusals for one reason, of whatever would be answered
pub same_number : {A B : Type 0} {m n : Reason} → ◌≡◌ {A = Paper A} (refuses m) (refuses n) → ◌≡◌ {A = Paper B} (refuses n) (refuses m)
same_number h = ap refuses (sym (same-refusal h))

-- ---- a list of tests, asked one after the other

-- a test with the reason for which it refuses
abbrev asking : Bool → Reason → Asked
asking t n = record { holds = t; why = n }

-- refused for the reason n unless the test holds; then p
unfoldable pub unless : {A : Type 0} → Bool → Reason → Paper A → Paper A
unless true n p = p
unless false n p = refuses n

unless-true : {A : Type 0} (t : Bool) (n : Reason) (p : Paper A) → t ≡ true → unless t n p ≡ p
unfolding unless
unless-true t n p e = simp e

-- the reason of the first that does not hold
unfoldable pub first_failing : List Asked → Paper (Unit {0})
first_failing [] = answers tt
first_failing (q ∷ l) = unless q.holds q.why (first_failing l)

first_stops : (l : List Asked) (k : Reason) → first_failing l ≡ refuses k → Stops k l
unfolding first_failing unless
first_stops [] k h = absurd (no_answer k tt (sym h))
first_stops (q ∷ l) k h = go q.holds q.why h (first_stops l k)
  where
    go : (t : Bool) (n : Reason) → unless t n (first_failing l) ≡ refuses k → (first_failing l ≡ refuses k → Stops k l) → Stops k (asking t n ∷ l)
    go true n e f = let s = f e in record { before = asking true n ∷ s.before; after = s.after; order = ap (λ (x : List Asked). asking true n ∷ x) s.order; hold = (refl, s.hold) }
    go false n e f = record { before = []; after = l; order = ap (λ (x : Reason). asking false x ∷ l) (same-refusal e); hold = tt }

stops_first : (k : Reason) (b a : List Asked) → AllHold b → first_failing (b ++ (asking false k ∷ a)) ≡ refuses k
unfolding first_failing unless
stops_first k [] a h = refl
stops_first k (q ∷ b) a h = unless-true q.holds q.why _ h.0 ∙ stops_first k b a h.1

first_holds : (l : List Asked) → first_failing l ≡ answers tt → AllHold l
unfolding first_failing unless
first_holds [] h = tt
first_holds (q ∷ l) h = go q.holds q.why h (first_holds l)
  where
    go : (t : Bool) (n : Reason) → unless t n (first_failing l) ≡ answers tt → (first_failing l ≡ answers tt → AllHold l) → AllHold (asking t n ∷ l)
    go true n e f = (refl, f e)
    go false n e f = absurd (no_answer n tt e)

holds-first : (l : List Asked) → AllHold l → first_failing l ≡ answers tt
unfolding first_failing
holds-first [] h = refl
holds-first (q ∷ l) h = unless-true q.holds q.why _ h.0 ∙ holds-first l h.1

-- tests behind others
first-append : (l m : List Asked) → first_failing (l ++ m) ≡ onward (first_failing l) (λ _. first_failing m)
unfolding first_failing unless onward
first-append [] m = refl
first-append (q ∷ l) m = go q.holds q.why (first-append l m)
  where
    go : (t : Bool) (n : Reason) → first_failing (l ++ m) ≡ onward (first_failing l) (λ _. first_failing m) → unless t n (first_failing (l ++ m)) ≡ onward (unless t n (first_failing l)) (λ _. first_failing m)
    go true n e = e
    go false n e = refl

-- ---- a rule and its tests

-- the reason for which a rule refuses; what it answers is left out
unfoldable pub refusal_of : {A : Type 0} → Paper A → Paper (Unit {0})
refusal_of (answers a) = answers tt
refusal_of (refuses n) = refuses n

-- the rule is refused as the tests are
pub record Asks {A : Type 0} (p : Paper A) (l : List Asked) : Type 0 where
  pub same : refusal_of p ≡ first_failing l

is-refused : {A : Type 0} (p : Paper A) (k : Reason) → refusal_of p ≡ refuses k → p ≡ refuses k
unfolding refusal_of
is-refused (answers a) k h = absurd (no_answer k tt (sym h))
is-refused (refuses n) k h = ap refuses (same-refusal h)

is-answered : {A : Type 0} (p : Paper A) → refusal_of p ≡ answers tt → (a : A) × (p ≡ answers a)
unfolding refusal_of
is-answered (answers a) h = (a, refl)
is-answered (refuses n) h = absurd (no_answer n tt h)

-- THE LAW: it refuses for the reason k exactly when the first test that does not hold has it, and answers exactly when all hold
pub exactly : {A : Type 0} {p : Paper A} {l : List Asked} → Asks p l → Exactly p l
unfolding refusal_of
exactly {A} {p} {l} h = record {
  stops = λ k e. first_stops l k (sym h.same ∙ ap refusal_of e);
  refused = λ k s. is-refused p k (h.same ∙ ap first_failing s.order ∙ stops_first k s.before s.after s.hold);
  hold = λ a e. first_holds l (sym h.same ∙ ap refusal_of e);
  answered = λ s. is-answered p (h.same ∙ holds-first l s);
}

-- what is refused as a rule is has the same tests
pub exactly-as : {A B : Type 0} {p : Paper A} (q : Paper B) {l : List Asked} → refusal_of q ≡ refusal_of p → Exactly p l → Exactly q l
unfolding refusal_of
exactly-as {A} {B} {p} q h x = record {
  stops = λ k e. x.stops k (is-refused p k (sym h ∙ ap refusal_of e));
  refused = λ k s. is-refused q k (h ∙ ap refusal_of (x.refused k s));
  hold = λ b e. let y = is-answered p (sym h ∙ ap refusal_of e) in x.hold y.0 y.1;
  answered = λ s. is-answered q (h ∙ ap refusal_of (x.answered s).1);
}

-- a rule that tells numbers alone
unfoldable pub placeless : {A : Type 0} → Paper A → Paper A
placeless (answers a) = answers a
placeless (refuses n) = refuses (only n.number)

-- it has the same tests, each with its number alone
asks-by : {A : Type 0} {p : Paper A} {l : List Asked} → Exactly p l → refusal_of p ≡ first_failing l
unfolding refusal_of
asks-by {p = answers a} {l = l} x = sym (holds-first l (x.hold a refl))
asks-by {p = refuses k} {l = l} x =
    let s = x.stops k refl in
    sym (ap first_failing s.order ∙ stops_first k s.before s.after s.hold)

first_alone : (l : List Asked) → first_failing (map number_alone l) ≡ placeless (first_failing l)
unfolding first_failing unless placeless
first_alone [] = refl
first_alone (q ∷ l) = go q.holds q.why (first_alone l)
  where
    go : (t : Bool) (n : Reason) → first_failing (map number_alone l) ≡ placeless (first_failing l) → unless t (only n.number) (first_failing (map number_alone l)) ≡ placeless (unless t n (first_failing l))
    go true n e = e
    go false n e = refl

refusal-alone : {A : Type 0} (p : Paper A) → refusal_of (placeless p) ≡ placeless (refusal_of p)
unfolding refusal_of placeless
refusal-alone (answers a) = refl
refusal-alone (refuses n) = refl

pub exactly-placeless : {A : Type 0} {p : Paper A} {l : List Asked} → Exactly p l → Exactly (placeless p) (map number_alone l)
exactly-placeless {p = p} {l = l} x = exactly (record { same = refusal-alone p ∙ ap placeless (asks-by x) ∙ sym (first_alone l) })

-- ---- how a rule's tests are read off it

-- nothing is asked
pub asks_none : {A : Type 0} (a : A) → Asks (answers a) []
unfolding refusal_of first_failing
asks_none a = record { same = refl }

-- one more test before the others, which are asked where it holds
pub asks-more : {A : Type 0} {p : Paper A} {l : List Asked} (t : Bool) (n : ℕ) → (t ≡ true → Asks p l) → Asks (demand t n p) (ask t n ∷ l)
unfolding refusal_of first_failing unless demand
asks-more true n h = record { same = (h refl).same }
asks-more false n h = record { same = refl }

-- the same of a test of what another rule answers
pub asks_of : {A B : Type 0} {p : Paper A} {l : List Asked} (q : Paper B) (b : B) → q ≡ answers b → (test : B → Bool) (n : ℕ) → Asks p l → Asks (demand (test b) n p) (ask (of_answer q test) n ∷ l)
unfolding of_answer
asks_of {p = p} {l = l} q b e test n h = subst (λ x. Asks (demand (test b) n p) (ask (of_answer x test) n ∷ l)) (sym e) (asks-more (test b) n (λ _. h))

-- one more test of one of a list, at its place
pub asks_at : {A : Type 0} {p : Paper A} {l : List Asked} (t : Bool) (n k : ℕ) → Asks p l → Asks (demand_at t n k p) (ask_at t n k ∷ l)
unfolding refusal_of first_failing unless demand_at
asks_at true n k h = record { same = h.same }
asks_at false n k h = record { same = refl }

pub asks-of-at : {A B : Type 0} {p : Paper A} {l : List Asked} (q : Paper B) (b : B) → q ≡ answers b → (test : B → Bool) (n k : ℕ) → Asks p l → Asks (demand_at (test b) n k p) (ask_at (of_answer q test) n k ∷ l)
unfolding of_answer
asks-of-at {p = p} {l = l} q b e test n k h = subst (λ x. Asks (demand_at (test b) n k p) (ask_at (of_answer x test) n k ∷ l)) (sym e) (asks_at (test b) n k h)

-- and of a place that is found or not
pub asks-found : {A : Type 0} {p : Paper A} {l : List Asked} (o : Option ℕ) (n : ℕ) → Asks p l → Asks (demand_none o n p) (ask_none o n ∷ l)
unfolding refusal_of first_failing unless demand_none
asks-found None n h = record { same = h.same }
asks-found (Some k) n h = record { same = refl }

-- a test that is placed
pub placed-demand : {A : Type 0} (t : Bool) (n k : ℕ) (p : Paper A) → placed k (demand t n p) ≡ demand_at t n k (placed k p)
unfolding placed demand demand_at
placed-demand true n k p = refl
placed-demand false n k p = refl

-- a rule that goes on with what another answers
pub asks-on : {A B : Type 0} (p : Paper A) (f : A → Paper B) {l m : List Asked} → Asks p l → ((a : A) → p ≡ answers a → Asks (f a) m) → Asks (onward p f) (l ++ m)
unfolding refusal_of onward
asks-on (answers a) f {l} {m} h g = record { same = (g a refl).same ∙ ap (λ (x : Paper (Unit {0})). onward x (λ _. first_failing m)) h.same ∙ sym (first-append l m) }
asks-on (refuses n) f {l} {m} h g = record { same = ap (λ (x : Paper (Unit {0})). onward x (λ _. first_failing m)) h.same ∙ sym (first-append l m) }

-- the same where nothing more is asked
pub asks-then : {A B : Type 0} (p : Paper A) (f : A → Paper B) {l : List Asked} → Asks p l → ((a : A) → p ≡ answers a → Asks (f a) []) → Asks (onward p f) l
unfolding refusal_of onward first_failing
asks-then (answers a) f h g = record { same = (g a refl).same ∙ h.same }
asks-then (refuses n) f h g = record { same = h.same }

-- a rule that comes to another
pub asks-as : {A : Type 0} {p q : Paper A} {l : List Asked} → p ≡ q → Asks q l → Asks p l
asks-as {l = l} e h = subst (λ x. Asks x l) (sym e) h

-- to go on with an answer behind a test
pub onward-demand : {A B : Type 0} (t : Bool) (n : ℕ) (a : A) (f : A → Paper B) → onward (demand t n (answers a)) f ≡ demand t n (f a)
unfolding onward demand
onward-demand true n a f = refl
onward-demand false n a f = refl

-- an answer where a test holds, a refusal where it does not
pub asks-holds : {A : Type 0} {t : Bool} (n : ℕ) (a : A) → t ≡ true → Asks (answers a) (ask t n ∷ [])
unfolding refusal_of first_failing unless
asks-holds n a e = record { same = simp e }

pub asks-fails : {A : Type 0} {t : Bool} (n : ℕ) → t ≡ false → Asks {A = A} (refuses (only n)) (ask t n ∷ [])
unfolding refusal_of first_failing unless
asks-fails n e = record { same = simp e }
