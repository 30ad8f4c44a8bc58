-- `envelope::number_of` meets its contract. Assumes nothing.
use mathlib.Core.Path.{ap, sym, ◌∙◌}
use borrow.Author.Tests.{not-true, not-false}
use Rattle.envelope.specs.declared.Scanned.{Scanned}
use Rattle.envelope.proofs.Kept.{odd, long, good-is, kept-outside, kept-good, order-up, order-down, order-mixed}
use Rattle.envelope.proofs.number_of.Goals as goal

pub returns-then-len-ne0 : goal.returns-then-len-ne0
returns-then-len-ne0 c = kept-outside _ (odd _ c.if-len-ne0.true)

pub returns-then-len-gt-ENVELOPE_LIMIT : goal.returns-then-len-gt-ENVELOPE_LIMIT
returns-then-len-gt-ENVELOPE_LIMIT c = kept-outside _ (long _ c.if-len-ne0.false c.if-len-gt-ENVELOPE_LIMIT.true)

pub returns-then-not-s : goal.returns-then-not-s
returns-then-not-s c = let ps = c.args.points.now in
    kept-outside ps (good-is ps c.if-len-ne0.false c.if-len-gt-ENVELOPE_LIMIT.false (sym (not-true _ c.if-not-s.true) ∙ ap (λ (s : Scanned). s.good) c.scan-s.ensures))

pub returns-then-s : goal.returns-then-s
returns-then-s c = let ps = c.args.points.now in
    let e = c.scan-s.ensures in
    let good = good-is ps c.if-len-ne0.false c.if-len-gt-ENVELOPE_LIMIT.false (sym (not-false _ c.if-not-s.false) ∙ ap (λ (s : Scanned). s.good) e) in
    order-up ps (sym (ap (λ (s : Scanned). s.rises) e) ∙ c.if-s.true) ∙ sym (kept-good ps good)

pub returns-then-s-2 : goal.returns-then-s-2
returns-then-s-2 c = let ps = c.args.points.now in
    let e = c.scan-s.ensures in
    let good = good-is ps c.if-len-ne0.false c.if-len-gt-ENVELOPE_LIMIT.false (sym (not-false _ c.if-not-s.false) ∙ ap (λ (s : Scanned). s.good) e) in
    order-down ps (sym (ap (λ (s : Scanned). s.rises) e) ∙ c.if-s.false) (sym (ap (λ (s : Scanned). s.falls) e) ∙ c.if-s-2.true) ∙ sym (kept-good ps good)

pub returns : goal.returns
returns c = let ps = c.args.points.now in
    let e = c.scan-s.ensures in
    let good = good-is ps c.if-len-ne0.false c.if-len-gt-ENVELOPE_LIMIT.false (sym (not-false _ c.if-not-s.false) ∙ ap (λ (s : Scanned). s.good) e) in
    order-mixed ps (sym (ap (λ (s : Scanned). s.rises) e) ∙ c.if-s.false) (sym (ap (λ (s : Scanned). s.falls) e) ∙ c.if-s-2.false) ∙ sym (kept-good ps good)
