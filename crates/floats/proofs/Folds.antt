-- A fold by a step that gathers (`Gathers`) does not turn on the order of the list, nor on how often an element stands in it: two lists with the same members give the same.
-- `least_of` and `greatest_of` gather. Assumes nothing.
use mathlib.Core.Path.{◌≡◌, refl, sym, ap, ◌∙◌, subst}
use mathlib.Core.Logic.{∥∥₁_elim}
use mathlib.Core.HLevel.{Discrete, hedberg}
use mathlib.Core.List.{List, [], ◌∷◌, ◌++◌, foldl, foldl-append, Memᴰ, Perm, Permᴰ}
use Prim.Native.Nat.{ℕ, zero, suc, ◌+◌, ◌<◌, zero-le, suc-le-suc}
use native.Mathlib.Nat.{not-suc-le-zero, le_of_suc-le-suc}
use native.Mathlib.Numerals.{add-one}
use lib.ListN.{length, take, get_or}
use lib.Seq.{take-suc, take-length}
use native.Mathlib.Decide.{ℕ_discrete}
use native.Mathlib.Omega.{arith}
use mathlib.Core.Bool.{Bool, Bool-discrete}
use lib.IntN.{ℤ, ℤ_discrete}
use lib.Dec.{T}
use lib.Ieee.{Float, nan, inf, fin, Format, le}
use Rattle.floats.specs.Each.{Each, Gathers, Semilattice}
use Rattle.floats.specs.Numbers.{least_of, greatest_of}
use Rattle.floats.specs.Kinds.{Plain}
use Rattle.floats.proofs.Order.{number-of, le-self, le_trans}
use Rattle.floats.proofs.Lattice.{least-le-l, least-le-r, greatest-ge-l, greatest-ge-r, least-plain, greatest-plain, least-assoc, greatest-assoc, least-comm, greatest-comm, least_self, greatest-self}

pub each-perm : {A : Type 0} (P : A → Type 0) {l l' : List A} → Permᴰ l l' → Each P l → Each P l'
each-perm P Permᴰ.nil ps = ps
each-perm P (Permᴰ.cons e d) ps = (subst P e ps.0, each-perm P d ps.1)
each-perm P (Permᴰ.swap e₁ e₂) ps = (subst P e₂ ps.1.0, (subst P e₁ ps.0, ps.1.1))
each-perm P (Permᴰ.trans d₁ d₂) ps = each-perm P d₂ (each-perm P d₁ ps)

pub each-mem : {A : Type 0} (P : A → Type 0) {x : A} {l : List A} → Memᴰ x l → Each P l → P x
each-mem P (Memᴰ.head e) ps = subst P (sym e) ps.0
each-mem P (Memᴰ.tail m) ps = each-mem P m ps.1

-- by the index, as a contract over a slice has it
pub each_at : {A : Type 0} (P : A → Type 0) (l : List A) (i : ℕ) (d : A) → i < length l → Each P l → P (get_or l i d)
each_at P [] i d h ps = absurd (not-suc-le-zero h)
each_at P (x ∷ l) zero d h ps = ps.0
each_at P (x ∷ l) (suc i) d h ps = each_at P l i d (le_of_suc-le-suc h) ps.1

pub each_of : {A : Type 0} (P : A → Type 0) (l : List A) (d : A) → ((i : ℕ) → i < length l → P (get_or l i d)) → Each P l
each_of P [] d h = tt
each_of P (x ∷ l) d h = (h zero (suc-le-suc zero-le), each_of P l d (λ i k. h (suc i) (suc-le-suc k)))

pub each_append : {A : Type 0} (P : A → Type 0) (l l' : List A) → Each P l → Each P l' → Each P (l ++ l')
each_append P [] l' ps rs = rs
each_append P (x ∷ l) l' ps rs = (ps.0, each_append P l l' ps.1 rs)

module _ {A S : Type 0} {P : A → Type 0} {Q : S → Type 0} {op : S → A → S} (G : Gathers P Q op) where
  pub fold-keeps : (l : List A) → Each P l → {b : S} → Q b → Q (foldl op b l)
  fold-keeps [] ps q = q
  fold-keeps (x ∷ l) ps q = fold-keeps l ps.1 (G.keeps q ps.0)

  pub fold-perm : {l l' : List A} → Permᴰ l l' → Each P l → {b : S} → Q b → foldl op b l ≡ foldl op b l'
  fold-perm Permᴰ.nil ps q = refl
  fold-perm (Permᴰ.cons {l₂ = l₂} e d) ps {b} q = fold-perm d ps.1 (G.keeps q ps.0) ∙ ap (λ (x : A). foldl op (op b x) l₂) e
  fold-perm (Permᴰ.swap {a = x} {a' = y'} {l = l} e₁ e₂) ps {b} q =
      ap (λ (s : S). foldl op s l) (G.turn q ps.0 ps.1.0) ∙ ap (λ (y : A). foldl op (op (op b y) x) l) e₂ ∙ ap (λ (z : A). foldl op (op (op b y') z) l) e₁
  fold-perm (Permᴰ.trans d₁ d₂) ps q = fold-perm d₁ ps q ∙ fold-perm d₂ (each-perm P d₁ ps) q

  -- one more step, at the end or at the start
  pub fold-slide : (l : List A) → Each P l → {b : S} {x : A} → Q b → P x → op (foldl op b l) x ≡ foldl op (op b x) l
  fold-slide [] ps q p = refl
  fold-slide (y ∷ l) ps q p = fold-slide l ps.1 (G.keeps q ps.0) p ∙ ap (λ (s : S). foldl op s l) (G.turn q ps.0 p)

  -- two lists, in either order
  pub fold-commute : (l l' : List A) → Each P l → Each P l' → {b : S} → Q b → foldl op (foldl op b l) l' ≡ foldl op (foldl op b l') l
  fold-commute l [] ps rs q = refl
  fold-commute l (x ∷ l') ps rs q = ap (λ (s : S). foldl op s l') (fold-slide l ps q rs.0) ∙ fold-commute l l' ps rs.1 (G.keeps q rs.0)

  -- an element that was met adds nothing
  pub fold-met : {x : A} {l : List A} → Memᴰ x l → Each P l → {b : S} → Q b → op (foldl op b l) x ≡ foldl op b l
  fold-met {x} (Memᴰ.head {x = y} {xs = l} e) ps {b} q =
      let p = subst P (sym e) ps.0 in
      fold-slide l ps.1 (G.keeps q ps.0) p ∙ ap (λ (z : A). foldl op (op (op b y) z) l) e ∙ ap (λ (s : S). foldl op s l) (G.again q ps.0)
  fold-met (Memᴰ.tail m) ps q = fold-met m ps.1 (G.keeps q ps.0)

  pub fold-within : (l l' : List A) → Each P l → ((x : A) → Memᴰ x l' → Memᴰ x l) → {b : S} → Q b → foldl op (foldl op b l) l' ≡ foldl op b l
  fold-within l [] ps h q = refl
  fold-within l (x ∷ l') ps h q =
      ap (λ (s : S). foldl op s l') (fold-met (h x (Memᴰ.head refl)) ps q) ∙ fold-within l l' ps (λ y m. h y (Memᴰ.tail m)) q

  -- two lists with the same members
  pub fold-members : (l l' : List A) → Each P l → Each P l' → ((x : A) → Memᴰ x l → Memᴰ x l') → ((x : A) → Memᴰ x l' → Memᴰ x l) → {b : S} → Q b → foldl op b l ≡ foldl op b l'
  fold-members l l' ps rs g h q = sym (fold-within l l' ps h q) ∙ fold-commute l l' ps rs q ∙ fold-within l' l rs g q

-- ---- an operation of one type that is associative, commutative and idempotent gathers
pub gathers : {A : Type 0} {P : A → Type 0} {op : A → A → A} → Semilattice P op → Gathers P P op
gathers {A} {P} {op} L = record {
  keeps = λ q p. L.keeps q p;
  turn = λ {b} q p r. L.assoc q p r ∙ ap (λ (z : A). op b z) (L.comm p r) ∙ sym (L.assoc q r p);
  again = λ {b} q p. L.assoc q p p ∙ ap (λ (z : A). op b z) (L.self p);
}

pub least-semilattice : (f : Format) → Semilattice (Plain f) least_of
least-semilattice f = record { keeps = least-plain; assoc = least-assoc; comm = least-comm; self = least_self }

pub greatest-semilattice : (f : Format) → Semilattice (Plain f) greatest_of
greatest-semilattice f = record { keeps = greatest-plain; assoc = greatest-assoc; comm = greatest-comm; self = greatest-self }

pub least-gathers : (f : Format) → Gathers (Plain f) (Plain f) least_of
least-gathers f = gathers (least-semilattice f)

pub greatest-gathers : (f : Format) → Gathers (Plain f) (Plain f) greatest_of
greatest-gathers f = gathers (greatest-semilattice f)

-- ---- more steps that gather, from those that do
-- the element is worked out of another
pub via-gathers : {A B S : Type 0} {P : A → Type 0} {Q : S → Type 0} {op : S → A → S} → Gathers P Q op → (g : B → A) → Gathers (λ (x : B). P (g x)) Q (λ (s : S) (x : B). op s (g x))
via-gathers G g = record { keeps = λ q p. G.keeps q p; turn = λ q p r. G.turn q p r; again = λ q p. G.again q p }

-- two states at once, of one element
pub both-gathers : {A S R : Type 0} {P : A → Type 0} {Q : S → Type 0} {W : R → Type 0} {op : S → A → S} {up : R → A → R} → Gathers P Q op → Gathers P W up
    → Gathers P (λ (s : S × R). Q s.0 × W s.1) (λ (s : S × R) (x : A). (op s.0 x, up s.1 x))
both-gathers G H = record {
  keeps = λ q p. (G.keeps q.0 p, H.keeps q.1 p);
  turn = λ q p r. λ i. (G.turn q.0 p r i, H.turn q.1 p r i);
  again = λ q p. λ i. (G.again q.0 p i, H.again q.1 p i);
}

-- ---- `Perm`, which hides its derivation, says as much of a fold whose states are a set
pub fold-perm₁ : {A S : Type 0} {P : A → Type 0} {Q : S → Type 0} {op : S → A → S} → IsSet S → Gathers P Q op → {l l' : List A} → Perm l l' → Each P l → {b : S} → Q b → foldl op b l ≡ foldl op b l'
fold-perm₁ {op = op} set G {l} {l'} d ps {b} q = ∥∥₁_elim d (set (foldl op b l) (foldl op b l')) (λ e. fold-perm G e ps q)

-- the floats are a set
differ : {A : Type 0} → ◌≡◌ {A = ℕ} 0 1 → A
differ h = absurd (zero_one h)
  where
    zero_one : ◌≡◌ {A = ℕ} 0 1 → ⊥
    zero_one h = omega arith

inf-dec : (s t : Bool) → Dec (s ≡ t) → Dec (inf s ≡ inf t)
inf-dec s t (yes p) = yes (ap inf p)
inf-dec s t (no n) = no (λ h. n (cc))

fin-dec : (s t : Bool) (m n : ℕ) (e d : ℤ) → Dec (s ≡ t) → Dec (m ≡ n) → Dec (e ≡ d) → Dec (fin s m e ≡ fin t n d)
fin-dec s t m n e d (yes p) (yes q) (yes r) = yes (λ i. fin (p i) (q i) (r i))
fin-dec s t m n e d (yes p) (yes q) (no c) = no (λ h. c (cc))
fin-dec s t m n e d (yes p) (no c) z = no (λ h. c (cc))
fin-dec s t m n e d (no c) y z = no (λ h. c (cc))

Float-discrete : Discrete Float
Float-discrete nan nan = yes refl
Float-discrete nan (inf t) = no (λ h. differ (cc))
Float-discrete nan (fin t n d) = no (λ h. differ (cc))
Float-discrete (inf s) nan = no (λ h. differ (cc))
Float-discrete (inf s) (inf t) = inf-dec s t (Bool-discrete s t)
Float-discrete (inf s) (fin t n d) = no (λ h. differ (cc))
Float-discrete (fin s m e) nan = no (λ h. differ (cc))
Float-discrete (fin s m e) (inf t) = no (λ h. differ (cc))
Float-discrete (fin s m e) (fin t n d) = fin-dec s t m n e d (Bool-discrete s t) (ℕ_discrete m n) (ℤ_discrete e d)

pub Float-set : IsSet Float
Float-set = hedberg Float-discrete

-- ---- the least and the greatest of a list, from a first one
pub least-perm : {f : Format} {l l' : List Float} → Perm l l' → Each (Plain f) l → {b : Float} → Plain f b → foldl least_of b l ≡ foldl least_of b l'
least-perm {f} d ps q = fold-perm₁ Float-set (least-gathers f) d ps q

pub greatest-perm : {f : Format} {l l' : List Float} → Perm l l' → Each (Plain f) l → {b : Float} → Plain f b → foldl greatest_of b l ≡ foldl greatest_of b l'
greatest-perm {f} d ps q = fold-perm₁ Float-set (greatest-gathers f) d ps q

-- ---- a loop over a list: one more element, and the end
pub fold_next : {A S : Type 0} (op : S → A → S) (b : S) (l : List A) (i : ℕ) (d : A) → i < length l → foldl op b (take (i + 1) l) ≡ op (foldl op b (take i l)) (get_or l i d)
fold_next op b l i d h = rw (add-one, take-suc l i d h, foldl-append)

pub fold_end : {A S : Type 0} (op : S → A → S) (b : S) (l : List A) (i : ℕ) → i ≡ length l → foldl op b (take i l) ≡ foldl op b l
fold_end op b l i h = rw (h, take-length)

-- ---- the least of a list is at most each of them and at least what each is at least; and the greatest
pub fold-least-le : {f : Format} (l : List Float) → Each (Plain f) l → {b : Float} → Plain f b → T (le (foldl least_of b l) b)
fold-least-le [] ps q = le-self (number-of q)
fold-least-le {f} (x ∷ l) ps q =
    let k = least-plain q ps.0 in
    le_trans (number-of (fold-keeps (least-gathers f) l ps.1 k)) (number-of k) (number-of q) (fold-least-le l ps.1 k) (least-le-l (number-of q) (number-of ps.0))

pub fold-least-member : {f : Format} {x : Float} {l : List Float} → Memᴰ x l → Each (Plain f) l → {b : Float} → Plain f b → T (le (foldl least_of b l) x)
fold-least-member {f} {x} {l} m ps {b} q =
    let k = number-of (fold-keeps (least-gathers f) l ps q) in
    subst (λ (z : Float). T (le z x)) (fold-met (least-gathers f) m ps q) (least-le-r k (number-of (each-mem (Plain f) m ps)))

pub fold-greatest-ge : {f : Format} (l : List Float) → Each (Plain f) l → {b : Float} → Plain f b → T (le b (foldl greatest_of b l))
fold-greatest-ge [] ps q = le-self (number-of q)
fold-greatest-ge {f} (x ∷ l) ps q =
    let k = greatest-plain q ps.0 in
    le_trans (number-of q) (number-of k) (number-of (fold-keeps (greatest-gathers f) l ps.1 k)) (greatest-ge-l (number-of q) (number-of ps.0)) (fold-greatest-ge l ps.1 k)

pub fold-greatest-member : {f : Format} {x : Float} {l : List Float} → Memᴰ x l → Each (Plain f) l → {b : Float} → Plain f b → T (le x (foldl greatest_of b l))
fold-greatest-member {f} {x} {l} m ps {b} q =
    let k = number-of (fold-keeps (greatest-gathers f) l ps q) in
    subst (λ (z : Float). T (le x z)) (fold-met (greatest-gathers f) m ps q) (greatest-ge-r k (number-of (each-mem (Plain f) m ps)))
