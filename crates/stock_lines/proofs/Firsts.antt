-- The first line: how it is read, read after write, write after read, and no two lines of a form for the same edition and bar. Assumes nothing.
use Rattle.std.proofs.Common.{◌≡◌, ℕ, ◌+◌, ◌-◌, ◌<◌, ◌≤◌, Bool, true, false, eqb, List, [], ◌∷◌, ◌++◌, length, get_or, take, drop, sym, refl, ap, ◌∙◌, subst, true≢false, append_assoc, arith, length-append, length-drop, take-append-drop, length-take, take_all, take_at, drop_at, eq-eqb, ne_eqb, eqb-true, None, Option, Some}
use Rattle.std.proofs.lemmas.Option.{same_Some}
use lib.Ieee.{Float}
use lib.ListN.{get_or-eq_default}
use borrow.Author.Tests.{eqb-false}
use Rattle.floats.specs.Pick.{pick, pick_true, pick-false}
use Rattle.text.specs.Digits.{digits}
use Rattle.text.specs.Lines.{newline}
use Rattle.text.specs.Hex.{eight_of}
use Rattle.text.proofs.Reading.{EightDigits, eight-reads-back, eight-unique}
use Rattle.text.proofs.Spelling.{digits-length}
use Rattle.stock_lines.specs.declared.Bar.{Bar}
use Rattle.stock_lines.specs.declared.form.First.{First}
use Rattle.stock_lines.specs.Form.{Line, holds, other, form_of, line_of, fields_text, five_of, bar_numbers, stock_prefix, edition_text, stock_text, stock_line}
use Rattle.stock_lines.specs.First.{form_in, edition_field, edition_of, first_says, first_from, first_in, first_of, CanSay, one, two, three}
use Rattle.stock_lines.proofs.Forms.{Keeps, NoNan, line-back, line-spelled, line-long, fields-then, fields-text-long}
use Rattle.stock_lines.proofs.Steps.{stock-long}
use Rattle.stock_lines.proofs.EachLine.{same-before, five-holds}

-- ---- as the code reads it

-- what stands behind k bytes
pub rest-is : (k : ℕ) (s : List ℕ) → take (length s - k) (drop k s) ≡ drop k s
rest-is k s = take_all (length s - k) (drop k s) (omega (arith, length-drop k s))

module _ (s : List ℕ) where
  pub form-short : length s < 7 → 1 ≡ form_in s
  unfolding form_in
  form-short h =
      let z : get_or s 6 0 ≡ 0 = get_or-eq_default s 0 (omega arith) in
      sym (pick-false _ _ _ (ne_eqb _ _ (λ (e : get_or s 6 0 ≡ 50). omega arith)) ∙ pick-false _ _ _ (ne_eqb _ _ (λ (e : get_or s 6 0 ≡ 51). omega arith)))

  pub form-two : get_or s 6 0 ≡ 50 → 2 ≡ form_in s
  unfolding form_in
  form-two e = sym (pick_true _ _ _ (eq-eqb _ _ e))

  pub form-three : (get_or s 6 0 ≡ 50 → ⊥) → get_or s 6 0 ≡ 51 → 3 ≡ form_in s
  unfolding form_in
  form-three e f = sym (pick-false _ _ _ (ne_eqb _ _ e) ∙ pick_true _ _ _ (eq-eqb _ _ f))

  pub form-other : (get_or s 6 0 ≡ 50 → ⊥) → (get_or s 6 0 ≡ 51 → ⊥) → 1 ≡ form_in s
  unfolding form_in
  form-other e f = sym (pick-false _ _ _ (ne_eqb _ _ e) ∙ pick-false _ _ _ (ne_eqb _ _ f))

  pub field-nothing : length s ≡ 0 → None ≡ edition_field s
  unfolding edition_field
  field-nothing h =
      let z : get_or s 0 0 ≡ 0 = get_or-eq_default s 0 (omega arith) in
      sym (pick-false _ _ _ (ne_eqb _ _ (λ (e : get_or s 0 0 ≡ 9). omega arith)))

  pub field-tab : get_or s 0 0 ≡ 9 → eight_of (drop 1 s) ≡ edition_field s
  unfolding edition_field
  field-tab e = sym (pick_true _ _ _ (eq-eqb _ _ e))

  pub field-other : (get_or s 0 0 ≡ 9 → ⊥) → None ≡ edition_field s
  unfolding edition_field
  field-other e = sym (pick-false _ _ _ (ne_eqb _ _ e))

  pub edition-there : (k : ℕ) → (form_of k).edition ≡ true → edition_field s ≡ edition_of k s
  unfolding edition_of
  edition-there k e = sym (pick_true _ _ _ e)

  pub edition-none : (k : ℕ) → (form_of k).edition ≡ false → length s ≡ 0 → Some 0 ≡ edition_of k s
  unfolding edition_of
  edition-none k e h = sym (pick-false _ _ _ e ∙ pick_true _ _ _ (eq-eqb _ _ h))

  pub edition-behind : (k : ℕ) → (form_of k).edition ≡ false → (length s ≡ 0 → ⊥) → None ≡ edition_of k s
  unfolding edition_of
  edition-behind k e h = sym (pick-false _ _ _ e ∙ pick-false _ _ _ (ne_eqb _ _ h))

module _ (k : ℕ) (x : Option ℕ) (f : Option Bar) where
  pub from-no-edition : x ≡ None → None ≡ first_from k x f
  unfolding first_from
  from-no-edition e = sym (ap (λ (y : Option ℕ). first_from k y f) e)

  pub from-no-bar : f ≡ None → None ≡ first_from k x f
  unfolding first_from
  from-no-bar e = by x ∙ sym (ap (first_from k x) e)
    where
      by : (y : Option ℕ) → None ≡ first_from k y None
      by (Some n) = refl
      by None = refl

  pub from-both : (n : ℕ) (b : Bar) → x ≡ Some n → f ≡ Some b → first_says k n b ≡ first_from k x f
  unfolding first_from
  from-both n b e g = sym (ap (λ (y : Option ℕ). first_from k y f) e ∙ ap (first_from k (Some n)) g)

-- too few bytes for a bar
bar-short : (k : ℕ) (s : List ℕ) → length s < 92 → five_of (line_of (stock_prefix k) 5 s) ≡ None
unfolding five_of
bar-short k s h = by (line_of (stock_prefix k) 5 s) refl
  where
    by : (l : Line) → line_of (stock_prefix k) 5 s ≡ l → five_of (line_of (stock_prefix k) 5 s) ≡ None
    by other e = ap five_of e
    by (holds xs) e = absurd (omega (arith, line-long (stock_prefix k) 5 s xs e, stock-long k))

pub first_short : (s : List ℕ) → length s < 92 → None ≡ first_of s
unfolding first_of first_in
first_short s h = from-no-bar (form_in s) (edition_of (form_in s) (drop 92 s)) _ (bar-short (form_in s) (take 92 s) (omega (arith, length-take 92 s)))

pub first-parts : (s : List ℕ) (k : ℕ) (x : Option ℕ) (f : Option Bar) → k ≡ form_in s → x ≡ edition_of k (drop 92 s) → f ≡ five_of (line_of (stock_prefix k) 5 (take 92 s)) → first_from k x f ≡ first_of s
unfolding first_of first_in
first-parts s k x f e g h = rw (g, h, e)

-- ---- read after write

form-back : (k e : ℕ) (t : List ℕ) → CanSay k e → form_in (stock_prefix k ++ t) ≡ k
unfolding form_in digits pick
form-back k e t one = refl
form-back k e t (two h) = refl
form-back k e t (three h) = refl

edition-back : (k e : ℕ) → CanSay k e → edition_of k (edition_text k e) ≡ Some e
unfolding edition_of edition_text edition_field form_of pick
edition-back k e one = refl
edition-back k e (two h) = eight-reads-back e h
edition-back k e (three h) = eight-reads-back e h

-- the bar's bytes, and the edition's
text-parts : (k : ℕ) (b : Bar) (e : ℕ) → stock_text k b e ≡ (stock_prefix k ++ fields_text (bar_numbers b) []) ++ edition_text k e
text-parts k b e =
    ap (λ (x : List ℕ). stock_prefix k ++ x) (sym (fields-then (bar_numbers b) (edition_text k e)))
    ∙ sym (append_assoc (stock_prefix k) (fields_text (bar_numbers b) []) (edition_text k e))

bar-long : (k : ℕ) (b : Bar) → length (stock_prefix k ++ fields_text (bar_numbers b) []) ≡ 92
bar-long k b = omega (arith, length-append (stock_prefix k) (fields_text (bar_numbers b) []), stock-long k, fields-text-long (bar_numbers b))

module _ (k e : ℕ) (b : Bar) (says : CanSay k e) where
  five-back : Keeps (bar_numbers b) → five_of (line_of (stock_prefix k) 5 (stock_prefix k ++ fields_text (bar_numbers b) [])) ≡ Some b
  unfolding five_of
  five-back m = ap five_of (line-back (stock_prefix k) (bar_numbers b) m)

  pub first_reads : (s : List ℕ) → Keeps (bar_numbers b) → s ++ newline ≡ stock_line k b e → first_of s ≡ first_says k e b
  unfolding stock_line
  first_reads s m w =
      let p : List ℕ = stock_prefix k ++ fields_text (bar_numbers b) [] in
      let q : List ℕ = edition_text k e in
      let t : s ≡ p ++ q = same-before s (stock_text k b e) w ∙ text-parts k b e in
      let f : form_in s ≡ k = ap form_in (same-before s (stock_text k b e) w) ∙ form-back k e (fields_text (bar_numbers b) q) says in
      let x : edition_of k (drop 92 s) ≡ Some e = ap (λ (y : List ℕ). edition_of k (drop 92 y)) t ∙ ap (edition_of k) (drop_at p q 92 (bar-long k b)) ∙ edition-back k e says in
      let y : five_of (line_of (stock_prefix k) 5 (take 92 s)) ≡ Some b =
      ap (λ (z : List ℕ). five_of (line_of (stock_prefix k) 5 (take 92 z))) t ∙ ap (λ (z : List ℕ). five_of (line_of (stock_prefix k) 5 z)) (take_at p q 92 (bar-long k b)) ∙ five-back m in
      sym (first-parts s k _ _ (sym f) refl refl) ∙ sym (from-both k _ _ e b x y)

-- ---- write after read

-- what a first line was put together from
record Parts (k : ℕ) (x : Option ℕ) (f : Option Bar) (n e : ℕ) (b : Bar) : Type 0 where
  form : k ≡ n
  edition : x ≡ Some e
  five : f ≡ Some b

parts : (k : ℕ) (x : Option ℕ) (f : Option Bar) (n e : ℕ) (b : Bar) → first_from k x f ≡ first_says n e b → Parts k x f n e b
unfolding first_from
parts k (Some i) (Some p) n e b h =
    let w = same_Some _ _ h in
    record {
      form = ap (λ (f : First). f.form) w;
      edition = ap (λ (f : First). Some f.edition) w;
      five = ap (λ (f : First). Some f.bar) w;
    }
parts k (Some i) None n e b h = let z : ◌≡◌ {A = ℕ} 0 1 = cc in absurd (omega arith)
parts k None f n e b h = let z : ◌≡◌ {A = ℕ} 0 1 = cc in absurd (omega arith)

-- An edition that is read in form k is spelled there: a number of 32 bits, and 0 where the form has none.
record Spelt (k : ℕ) (t : List ℕ) (e : ℕ) : Type 0 where
  small : e < 4294967296
  none : (form_of k).edition ≡ false → e ≡ 0
  text : t ≡ edition_text k e

nothing : (t : List ℕ) → length t ≡ 0 → t ≡ []
nothing [] e = refl
nothing (b ∷ t) e = absurd (omega arith)

tabbed : (t : List ℕ) → get_or t 0 0 ≡ 9 → t ≡ 9 ∷ drop 1 t
tabbed [] f = absurd (omega arith)
tabbed (b ∷ t) f = ap (λ (y : ℕ). y ∷ t) f

-- no edition is none
no-edition : {A : Type 0} {x : (Option ℕ)} {e : ℕ} → None ≡ x → x ≡ Some e → A
no-edition {A} {x} {e} f h = let z : ◌≡◌ {A = ℕ} 0 1 = cc in absurd (omega arith)

module _ (k : ℕ) (t : List ℕ) (e : ℕ) (h : edition_of k t ≡ Some e) where
  spelt-there : (form_of k).edition ≡ true → Spelt k t e
  unfolding edition_text
  spelt-there there = by (eqb (get_or t 0 0) 9) refl
    where
      by : (u : Bool) → eqb (get_or t 0 0) 9 ≡ u → Spelt k t e
      by true f =
          let tab : get_or t 0 0 ≡ 9 = eqb-true _ _ f in
          let w : EightDigits (drop 1 t) e = eight-unique (drop 1 t) e (field-tab t tab ∙ edition-there t k there ∙ h) in
          record {
            small = w.small;
            none = λ g. absurd (true≢false (sym there ∙ g));
            text = tabbed t tab ∙ ap (λ (y : List ℕ). 9 ∷ y) w.text ∙ sym (pick_true _ _ _ there);
          }
      by false f = no-edition (field-other t (eqb-false _ _ f) ∙ edition-there t k there) h

  spelt-none : (form_of k).edition ≡ false → Spelt k t e
  unfolding edition_text
  spelt-none none = by (eqb (length t) 0) refl
    where
      by : (u : Bool) → eqb (length t) 0 ≡ u → Spelt k t e
      by true f =
          let g : Some 0 ≡ Some e = edition-none t k none (eqb-true _ _ f) ∙ h in
          let z : e ≡ 0 = cc in
          record { small = omega arith; none = λ _. z; text = nothing t (eqb-true _ _ f) ∙ sym (pick-false _ _ _ none) }
      by false f = no-edition (edition-behind t k none (eqb-false _ _ f)) h

  spelt : Spelt k t e
  spelt = by (form_of k).edition refl
    where
      by : (u : Bool) → (form_of k).edition ≡ u → Spelt k t e
      by true f = spelt-there f
      by false f = spelt-none f

-- a first line names one of the forms, which can say its edition
can-say : (s t : List ℕ) (e : ℕ) → Spelt (form_in s) t e → CanSay (form_in s) e
unfolding form_of
can-say s t e w = by (eqb (get_or s 6 0) 50) refl (eqb (get_or s 6 0) 51) refl
  where
    by : (u : Bool) → eqb (get_or s 6 0) 50 ≡ u → (v : Bool) → eqb (get_or s 6 0) 51 ≡ v → CanSay (form_in s) e
    by true f v g = subst (λ (n : ℕ). CanSay n e) (form-two s (eqb-true _ _ f)) (two w.small)
    by false f true g = subst (λ (n : ℕ). CanSay n e) (form-three s (eqb-false _ _ f) (eqb-true _ _ g)) (three w.small)
    by false f false g =
        let k : 1 ≡ form_in s = form-other s (eqb-false _ _ f) (eqb-false _ _ g) in
        let z : e ≡ 0 = w.none (ap (λ (n : ℕ). (form_of n).edition) (sym k)) in
        subst (λ (n : ℕ). CanSay n e) k (subst (CanSay 1) (sym z) one)

-- a first line that is read is the writer's, in a form that can say its edition
pub record FirstSpelled (s : List ℕ) (k e : ℕ) (b : Bar) : Type 0 where
  pub says : CanSay k e
  pub text : NoNan (bar_numbers b) → s ++ newline ≡ stock_line k b e

pub first-spelled : (s : List ℕ) (k e : ℕ) (b : Bar) → first_of s ≡ first_says k e b → FirstSpelled s k e b
unfolding first_of first_in stock_line
first-spelled s k e b h =
    let w = parts (form_in s) _ _ k e b h in
    let v = spelt (form_in s) (drop 92 s) e w.edition in
    subst (λ (n : ℕ). FirstSpelled s n e b) w.form
    (record {
      says = can-say s (drop 92 s) e v;
      text = λ m. ap (λ (y : List ℕ). y ++ newline)
          (sym (take-append-drop 92 s)
          ∙ ap (λ (y : List ℕ). y ++ drop 92 s) (line-spelled (stock_prefix (form_in s)) 5 (take 92 s) (bar_numbers b) (five-holds (stock_prefix (form_in s)) (take 92 s) b w.five) m)
          ∙ ap (λ (y : List ℕ). (stock_prefix (form_in s) ++ fields_text (bar_numbers b) []) ++ y) v.text
          ∙ sym (text-parts (form_in s) b e));
    })

-- so two lines of one form that say the same are the same bytes
pub first-unique : (s t : List ℕ) (k e : ℕ) (b : Bar) → NoNan (bar_numbers b) → first_of s ≡ first_says k e b → first_of t ≡ first_says k e b → s ≡ t
first-unique s t k e b n f g = same-before s t ((first-spelled s k e b f).text n ∙ sym ((first-spelled t k e b g).text n))

-- ---- its length

-- a first line is at most 101 bytes, without its newline
pub first-few : (k e : ℕ) (b : Bar) → length (stock_text k b e) ≤ 127
unfolding edition_text
first-few k e b = by (form_of k).edition refl
  where
    all : length (stock_text k b e) ≡ 92 + length (edition_text k e)
    all = ap length (text-parts k b e) ∙ length-append (stock_prefix k ++ fields_text (bar_numbers b) []) (edition_text k e) ∙ ap (λ (n : ℕ). n + length (edition_text k e)) (bar-long k b)

    by : (t : Bool) → (form_of k).edition ≡ t → length (stock_text k b e) ≤ 127
    by true f = omega (arith, all, ap length (pick_true (form_of k).edition (9 ∷ digits 16 8 e) [] f), digits-length 16 8 e)
    by false f = omega (arith, all, ap length (pick-false (form_of k).edition (9 ∷ digits 16 8 e) [] f))
