-- The number tells the reason: a table that goes back from the numbers. Assumes nothing.
use mathlib.Core.Path.{◌≡◌, refl, sym, ap, ◌∙◌}
use mathlib.Core.Bool.{cond}
use Prim.Native.Nat.{ℕ}
use lib.Dec.{eqb}
use Rattle.refusal.specs.declared.Reason.{Reason}
use Rattle.refusal.specs.declared.Reason.TheVariants.{TextTooLong, ForeignByte, Misplaced, NotANumber, HeadOutOfRange, VariableOutOfRange, BoundTwice, BadBlock, Unbound, VariableTwice, WrongRowCount, TooMany, TraceTooLong, CutShort, UnknownKind, WrongLength, AfterEnd, SizesDiffer, NotEarlier, LeafUnbound, NotRising, NotAdmitted, PivotNotOpponents, PivotMarks, OpponentClash, OwnClash, EmptyTail, StepsFull, MarksFull, NoEmptyRecord, EndWithoutEmptyRecord, NotBegun, NoVerdict, BytesTooFew, OtherSidesTurn, BoardFull, BoardNotFull, UnknownChoice}
use Rattle.refusal.specs.Numbers.{number, ToldApart}

back : ℕ → Reason
back n = cond (eqb n 1) TextTooLong (cond (eqb n 2) ForeignByte (cond (eqb n 3) Misplaced (cond (eqb n 4) NotANumber (cond (eqb n 5) HeadOutOfRange (cond (eqb n 6) VariableOutOfRange (cond (eqb n 7) BoundTwice (cond (eqb n 8) BadBlock (cond (eqb n 9) Unbound (cond (eqb n 10) VariableTwice (cond (eqb n 11) WrongRowCount (cond (eqb n 12) TooMany (cond (eqb n 20) TraceTooLong (cond (eqb n 21) CutShort (cond (eqb n 22) UnknownKind (cond (eqb n 23) WrongLength (cond (eqb n 24) AfterEnd (cond (eqb n 25) SizesDiffer (cond (eqb n 31) NotEarlier (cond (eqb n 32) LeafUnbound (cond (eqb n 33) NotRising (cond (eqb n 34) NotAdmitted (cond (eqb n 35) PivotNotOpponents (cond (eqb n 36) PivotMarks (cond (eqb n 37) OpponentClash (cond (eqb n 38) OwnClash (cond (eqb n 39) EmptyTail (cond (eqb n 40) StepsFull (cond (eqb n 41) MarksFull (cond (eqb n 42) NoEmptyRecord (cond (eqb n 43) EndWithoutEmptyRecord (cond (eqb n 51) NotBegun (cond (eqb n 52) NoVerdict (cond (eqb n 53) BytesTooFew (cond (eqb n 54) OtherSidesTurn (cond (eqb n 55) BoardFull (cond (eqb n 56) BoardNotFull (UnknownChoice)))))))))))))))))))))))))))))))))))))

back_number : (r : Reason) → back (number r) ≡ r
unfolding back
back_number TextTooLong = refl
back_number ForeignByte = refl
back_number Misplaced = refl
back_number NotANumber = refl
back_number HeadOutOfRange = refl
back_number VariableOutOfRange = refl
back_number BoundTwice = refl
back_number BadBlock = refl
back_number Unbound = refl
back_number VariableTwice = refl
back_number WrongRowCount = refl
back_number TooMany = refl
back_number TraceTooLong = refl
back_number CutShort = refl
back_number UnknownKind = refl
back_number WrongLength = refl
back_number AfterEnd = refl
back_number SizesDiffer = refl
back_number NotEarlier = refl
back_number LeafUnbound = refl
back_number NotRising = refl
back_number NotAdmitted = refl
back_number PivotNotOpponents = refl
back_number PivotMarks = refl
back_number OpponentClash = refl
back_number OwnClash = refl
back_number EmptyTail = refl
back_number StepsFull = refl
back_number MarksFull = refl
back_number NoEmptyRecord = refl
back_number EndWithoutEmptyRecord = refl
back_number NotBegun = refl
back_number NoVerdict = refl
back_number BytesTooFew = refl
back_number OtherSidesTurn = refl
back_number BoardFull = refl
back_number BoardNotFull = refl
back_number UnknownChoice = refl

pub told_apart : ToldApart
told_apart a b same = sym (back_number a) ∙ ap back same ∙ back_number b
