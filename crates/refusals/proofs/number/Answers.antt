-- `refusals::number` meets its contract: of so many cases no proof is found unaided. Assumes nothing.
use borrow.Author.Rules.{rules}
use Rattle.refusals.proofs.number.Goals as goal

pub returns-in-SpecOutside : goal.returns-in-SpecOutside
returns-in-SpecOutside c = simp c.in-SpecOutside.is

pub returns-in-CellCount : goal.returns-in-CellCount
returns-in-CellCount c = simp c.in-CellCount.is

pub returns-in-CellsDoNotFit : goal.returns-in-CellsDoNotFit
returns-in-CellsDoNotFit c = simp c.in-CellsDoNotFit.is

pub returns-in-StoredRings : goal.returns-in-StoredRings
returns-in-StoredRings c = simp c.in-StoredRings.is

pub returns-in-ArgumentOutside : goal.returns-in-ArgumentOutside
returns-in-ArgumentOutside c = simp c.in-ArgumentOutside.is

pub returns-in-ChangesOverRoom : goal.returns-in-ChangesOverRoom
returns-in-ChangesOverRoom c = simp c.in-ChangesOverRoom.is

pub returns-in-IndicesDoNotRise : goal.returns-in-IndicesDoNotRise
returns-in-IndicesDoNotRise c = simp c.in-IndicesDoNotRise.is

pub returns-in-AfterDoesNotFit : goal.returns-in-AfterDoesNotFit
returns-in-AfterDoesNotFit c = simp c.in-AfterDoesNotFit.is

pub returns-in-RingOutside : goal.returns-in-RingOutside
returns-in-RingOutside c = simp c.in-RingOutside.is

pub returns-in-RingsOverRoom : goal.returns-in-RingsOverRoom
returns-in-RingsOverRoom c = simp c.in-RingsOverRoom.is

pub returns-in-GenerationsSpent : goal.returns-in-GenerationsSpent
returns-in-GenerationsSpent c = simp c.in-GenerationsSpent.is

pub returns-in-Arc : goal.returns-in-Arc
returns-in-Arc c = simp c.in-Arc.is

pub returns-in-EnvelopeOutside : goal.returns-in-EnvelopeOutside
returns-in-EnvelopeOutside c = simp c.in-EnvelopeOutside.is

pub returns-in-LineMalformed : goal.returns-in-LineMalformed
returns-in-LineMalformed c = simp c.in-LineMalformed.is

pub returns-in-FileMalformed : goal.returns-in-FileMalformed
returns-in-FileMalformed c = simp c.in-FileMalformed.is

pub returns-in-ProfileOutside : goal.returns-in-ProfileOutside
returns-in-ProfileOutside c = simp c.in-ProfileOutside.is

pub returns-in-ChordsOutgrow : goal.returns-in-ChordsOutgrow
returns-in-ChordsOutgrow c = simp c.in-ChordsOutgrow.is

pub returns-in-ListStale : goal.returns-in-ListStale
returns-in-ListStale c = simp c.in-ListStale.is

pub returns-in-BlocksDoNotMatch : goal.returns-in-BlocksDoNotMatch
returns-in-BlocksDoNotMatch c = simp c.in-BlocksDoNotMatch.is

pub returns-in-NoSuchBin : goal.returns-in-NoSuchBin
returns-in-NoSuchBin c = simp c.in-NoSuchBin.is

pub returns-in-BinHoldsOther : goal.returns-in-BinHoldsOther
returns-in-BinHoldsOther c = simp c.in-BinHoldsOther.is

pub returns-in-MaterialAdded : goal.returns-in-MaterialAdded
returns-in-MaterialAdded c = simp c.in-MaterialAdded.is

pub returns-in-SpecsDiffer : goal.returns-in-SpecsDiffer
returns-in-SpecsDiffer c = simp c.in-SpecsDiffer.is

pub returns-in-PassesOutside : goal.returns-in-PassesOutside
returns-in-PassesOutside c = simp c.in-PassesOutside.is
