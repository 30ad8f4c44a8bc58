-- A line is of the form exactly when it is the writer's line of what is read of it. Assumes nothing.
use Rattle.std.proofs.Common.{◌≡◌, ℕ, zero, suc, ◌+◌, ◌*◌, ◌≤◌, Bool, true, false, not, T, List, [], ◌∷◌, ◌++◌, map, length, get_or, take, drop, sym, refl, ap, ◌∙◌, subst, append_assoc, arith, length-append, length-drop, take-append-drop, drop-cons, drop-drop, drop_at, None, Option, Some}
use lib.Ieee.{Float, binary64, fits, is_nan, to_bits, of_bits}
use lib.Seq.{take-append_seam, drop-append_seam}
use Rattle.floats.specs.Pick.{pick_true, pick-false}
use Rattle.text.specs.Same.{same_bytes}
use Rattle.text.specs.Digits.{digits, hex_of}
use Rattle.text.proofs.Spelling.{hex-long}
use Rattle.text.specs.Hex.{field_of}
use Rattle.stock_lines.specs.Form.{Line, holds, other, with_first, fields_of, line_of, fields_text}
use Rattle.text.proofs.Compare.{same_self, same_true}
use Rattle.text.proofs.Reading.{Word, hex-word, hex-fits, hex-plus, field_back, field_is, field-tab, field-text, tabbed-long}

-- ---- k fields

-- what a line of some numbers begins with
record First (h : Option Float) (l : Line) (xs : List Float) : Type 0 where
  x : Float
  ys : List Float
  head : h ≡ Some x
  rest : l ≡ holds ys
  both : xs ≡ x ∷ ys

first : (h : Option Float) (l : Line) (xs : List Float) → with_first h l ≡ holds xs → First h l xs
unfolding with_first
first (Some x) (holds ys) xs e = record { x = x; ys = ys; head = refl; rest = refl; both = cc }
first (Some x) other xs e = let z : ◌≡◌ {A = ℕ} 0 1 = cc in absurd (omega arith)
first None l xs e = let z : ◌≡◌ {A = ℕ} 0 1 = cc in absurd (omega arith)

-- numbers that a file keeps: of the format, and not -0.0
pub data Keeps : List Float → Type 0 where
  none : Keeps []
  more : {x : Float} {xs : List Float} → T (fits binary64 x) → (to_bits binary64 x ≡ 0x8000000000000000 → ⊥) → Keeps xs → Keeps (x ∷ xs)

-- no NaN among them
pub data NoNan : List Float → Type 0 where
  none : NoNan []
  more : {x : Float} {xs : List Float} → T (not (is_nan x)) → NoNan xs → NoNan (x ∷ xs)

abbrev head-number : {x : Float} {xs : List Float} → NoNan (x ∷ xs) → T (not (is_nan x))
head-number (more n m) = n

abbrev rest-numbers : {x : Float} {xs : List Float} → NoNan (x ∷ xs) → NoNan xs
rest-numbers (more n m) = m

-- numbers that are spelled have 17 bytes each
pub fields-text-long : (xs : List Float) → length (fields_text xs []) ≡ 17 * length xs
unfolding fields_text
fields-text-long [] = refl
fields-text-long (x ∷ xs) = omega (arith, length-append (9 ∷ hex_of x) (fields_text xs []), hex-long x, fields-text-long xs)

-- numbers that are spelled read back
pub fields_back : (xs : List Float) → Keeps xs → fields_of (length xs) (fields_text xs []) ≡ holds xs
unfolding fields_of fields_text with_first
fields_back [] none = refl
fields_back (x ∷ xs) (more h k m) =
    let t : List ℕ = fields_text xs [] in
    let f : field_of ((9 ∷ hex_of x) ++ t) ≡ Some x = field_back x t h k in
    let d : drop 17 ((9 ∷ hex_of x) ++ t) ≡ t = drop_at (9 ∷ hex_of x) t 17 (ap suc (hex-long x)) in
    let r : fields_of (length xs) t ≡ holds xs = fields_back xs m in
    ap (λ (h : Option Float). with_first h (fields_of (length xs) (drop 17 ((9 ∷ hex_of x) ++ t)))) f
    ∙ ap (λ (y : List ℕ). with_first (Some x) (fields_of (length xs) y)) d
    ∙ ap (λ (l : Line). with_first (Some x) l) r

-- fields have 17 bytes each
pub fields-long : (k : ℕ) (s : List ℕ) (xs : List Float) → fields_of k s ≡ holds xs → length s ≡ 17 * k
unfolding fields_of
fields-long zero [] xs e = refl
fields-long zero (b ∷ s) xs e = let z : ◌≡◌ {A = ℕ} 0 1 = cc in absurd (omega arith)
fields-long (suc k) s xs e =
    let w = first (field_of s) (fields_of k (drop 17 s)) xs e in
    let r : length (drop 17 s) ≡ 17 * k = fields-long k (drop 17 s) w.ys w.rest in
    omega (arith, r, length-drop 17 s, tabbed-long s w.x w.head)

pub fields-count : (k : ℕ) (s : List ℕ) (xs : List Float) → fields_of k s ≡ holds xs → length xs ≡ k
unfolding fields_of
fields-count zero [] xs e = let f : [] ≡ xs = cc in ap length (sym f)
fields-count zero (b ∷ s) xs e = let z : ◌≡◌ {A = ℕ} 0 1 = cc in absurd (omega arith)
fields-count (suc k) s xs e =
    let w = first (field_of s) (fields_of k (drop 17 s)) xs e in
    ap length w.both ∙ ap suc (fields-count k (drop 17 s) w.ys w.rest)

-- what is read of fields is spelled there, and nothing else stands there
pub fields-spelled : (k : ℕ) (s : List ℕ) (xs : List Float) → fields_of k s ≡ holds xs → NoNan xs → s ≡ fields_text xs []
unfolding fields_of fields_text
fields-spelled zero [] xs e n = let f : [] ≡ xs = cc in ap (λ (y : List Float). fields_text y []) f
fields-spelled zero (b ∷ s) xs e n = let z : ◌≡◌ {A = ℕ} 0 1 = cc in absurd (omega arith)
fields-spelled (suc k) s xs e n =
    let w = first (field_of s) (fields_of k (drop 17 s)) xs e in
    let m : NoNan (w.x ∷ w.ys) = subst NoNan w.both n in
    field-text s w.x w.head (head-number m)
    ∙ ap (λ (y : List ℕ). (9 ∷ hex_of w.x) ++ y) (fields-spelled k (drop 17 s) w.ys w.rest (rest-numbers m))
    ∙ ap (λ (y : List Float). fields_text y []) (sym w.both)

-- ---- a line

-- read after write: a line that is written reads as its numbers
pub line-back : (p : List ℕ) (xs : List Float) → Keeps xs → line_of p (length xs) (p ++ fields_text xs []) ≡ holds xs
unfolding line_of
line-back p xs m =
    let t : List ℕ = fields_text xs [] in
    pick_true _ _ _ (ap (λ (y : List ℕ). same_bytes y p) (take-append_seam p t) ∙ same_self p)
    ∙ ap (fields_of (length xs)) (drop-append_seam p t)
    ∙ fields_back xs m

-- a line of the form begins with its prefix and goes on with its fields
pub record Parted (p : List ℕ) (k : ℕ) (s : List ℕ) (xs : List Float) : Type 0 where
  pub front : take (length p) s ≡ p
  pub fields : fields_of k (drop (length p) s) ≡ holds xs

pub line-parted : (p : List ℕ) (k : ℕ) (s : List ℕ) (xs : List Float) → line_of p k s ≡ holds xs → Parted p k s xs
unfolding line_of
line-parted p k s xs e = by (same_bytes (take (length p) s) p) refl
  where
    by : (t : Bool) → same_bytes (take (length p) s) p ≡ t → Parted p k s xs
    by true f = record { front = same_true _ _ f; fields = sym (pick_true _ _ _ f) ∙ e }
    by false f = let g : other ≡ holds xs = sym (pick-false _ _ _ f) ∙ e in let z : ◌≡◌ {A = ℕ} 0 1 = cc in absurd (omega arith)

-- write after read: a line of the form, without NaN, is the writer's line of its numbers
pub line-spelled : (p : List ℕ) (k : ℕ) (s : List ℕ) (xs : List Float) → line_of p k s ≡ holds xs → NoNan xs → s ≡ p ++ fields_text xs []
line-spelled p k s xs e n =
    let w : Parted p k s xs = line-parted p k s xs e in
    sym (take-append-drop (length p) s)
    ∙ ap (λ (y : List ℕ). y ++ drop (length p) s) w.front
    ∙ ap (λ (y : List ℕ). p ++ y) (fields-spelled k (drop (length p) s) xs w.fields n)

-- so two lines that read as the same numbers are the same bytes
pub line-unique : (p : List ℕ) (k : ℕ) (s t : List ℕ) (xs : List Float) → line_of p k s ≡ holds xs → line_of p k t ≡ holds xs → NoNan xs → s ≡ t
line-unique p k s t xs e f n = line-spelled p k s xs e n ∙ sym (line-spelled p k t xs f n)

pub line-long : (p : List ℕ) (k : ℕ) (s : List ℕ) (xs : List Float) → line_of p k s ≡ holds xs → length s ≡ length p + 17 * k
line-long p k s xs e =
    let w : Parted p k s xs = line-parted p k s xs e in
    let q : take (length p) s ++ drop (length p) s ≡ s = take-append-drop (length p) s in
    omega (arith, fields-long k (drop (length p) s) xs w.fields, length-append (take (length p) s) (drop (length p) s), ap length q, ap length w.front)

-- the newline behind a line
pub fields-then : (xs : List Float) (t : List ℕ) → fields_text xs [] ++ t ≡ fields_text xs t
unfolding fields_text
fields-then [] t = refl
fields-then (x ∷ xs) t = append_assoc (9 ∷ hex_of x) (fields_text xs []) t ∙ ap (λ (y : List ℕ). (9 ∷ hex_of x) ++ y) (fields-then xs t)

-- what is read can be kept: it is of the format, and no -0.0
pub fields_keep : (k : ℕ) (s : List ℕ) (xs : List Float) → fields_of k s ≡ holds xs → Keeps xs
unfolding fields_of
fields_keep zero [] xs e = let f : [] ≡ xs = cc in subst Keeps f none
fields_keep zero (b ∷ s) xs e = let z : ◌≡◌ {A = ℕ} 0 1 = cc in absurd (omega arith)
fields_keep (suc k) s xs e =
    let w = first (field_of s) (fields_of k (drop 17 s)) xs e in
    let h = field_is s w.x w.head in
    subst Keeps (sym w.both) (more (hex-fits (drop 1 s) w.x h) (hex-plus (drop 1 s) w.x h) (fields_keep k (drop 17 s) w.ys w.rest))

pub line-keeps : (p : List ℕ) (k : ℕ) (s : List ℕ) (xs : List Float) → line_of p k s ≡ holds xs → Keeps xs
line-keeps p k s xs e = fields_keep k (drop (length p) s) xs (line-parted p k s xs e).fields

-- ---- every line of the form, also with patterns of NaN

-- words as they are written
unfoldable pub words_text : List ℕ → List ℕ
words_text [] = []
words_text (w ∷ ws) = (9 ∷ digits 16 16 w) ++ words_text ws

-- Words that stand in s, each below 2^64 and not -0.0's, and the numbers that have their bits. Every pattern of a NaN reads as the one NaN.
pub record Words (s : List ℕ) (xs : List Float) : Type 0 where
  pub words : List ℕ
  pub numbers : xs ≡ map (of_bits binary64) words
  pub text : s ≡ words_text words

field-words : (s : List ℕ) (x : Float) (e : field_of s ≡ Some x) → s ≡ (9 ∷ digits 16 16 (hex-word (drop 1 s) x (field_is s x e)).word) ++ drop 17 s
field-words s x e =
    let v : Word (drop 1 s) x = hex-word (drop 1 s) x (field_is s x e) in
    let l : 17 ≤ length s = tabbed-long s x e in
    let a : s ≡ get_or s 0 0 ∷ drop 1 s = drop-cons s 0 0 (omega arith) in
    a
    ∙ ap (λ (y : ℕ). y ∷ drop 1 s) (field-tab s x e)
    ∙ ap (λ (y : List ℕ). 9 ∷ y)
    (sym (take-append-drop 16 (drop 1 s)) ∙ ap (λ (y : List ℕ). y ++ drop 16 (drop 1 s)) v.spells ∙ ap (λ (y : List ℕ). digits 16 16 v.word ++ y) (drop-drop 16 1 s))

pub fields-words : (k : ℕ) (s : List ℕ) (xs : List Float) → fields_of k s ≡ holds xs → Words s xs
unfolding fields_of words_text
fields-words zero [] xs e = let f : [] ≡ xs = cc in record { words = []; numbers = sym f; text = refl }
fields-words zero (b ∷ s) xs e = let z : ◌≡◌ {A = ℕ} 0 1 = cc in absurd (omega arith)
fields-words (suc k) s xs e =
    let w = first (field_of s) (fields_of k (drop 17 s)) xs e in
    let v : Word (drop 1 s) w.x = hex-word (drop 1 s) w.x (field_is s w.x w.head) in
    let r : Words (drop 17 s) w.ys = fields-words k (drop 17 s) w.ys w.rest in
    record {
      words = v.word ∷ r.words;
      numbers = w.both ∙ ap (λ (y : Float). y ∷ w.ys) v.float ∙ ap (λ (y : List Float). of_bits binary64 v.word ∷ y) r.numbers;
      text = field-words s w.x w.head ∙ ap (λ (y : List ℕ). (9 ∷ digits 16 16 v.word) ++ y) r.text;
    }
