-- `cuts::rows::low_at` meets its contract. Assumes nothing.
use mathlib.Core.Path.{sym}
use borrow.Author.Tests.{not-true, not-false}
use lib.Ieee.{div, of_bits}
use Rattle.cuts.proofs.Places.{low-past, low-none, low-some, low-nan}
use Rattle.cuts.proofs.rows.low_at.Goals as goal

pub returns-then-there-k : goal.returns-then-there-k
returns-then-there-k c = sym (low-past _ _ _ c.if-there-k.true)

pub returns-then-not-there-k : goal.returns-then-not-there-k
returns-then-not-there-k c = sym (low-none _ _ _ (not-true _ c.if-not-there-k.true-raw))

pub returns-then-values-k : goal.returns-then-values-k
unfolding div of_bits
returns-then-values-k c = sym (low-nan _ _ _ (not-false _ c.if-not-there-k.false-raw) c.if-values-k.true)

pub returns : goal.returns
returns c = sym (low-some _ _ _ (not-false _ c.if-not-there-k.false-raw))
