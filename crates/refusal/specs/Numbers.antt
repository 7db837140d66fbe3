-- The table of refusals: the number and the text of each reason, and for each layer the reasons that it can give, in the order of its checks.
use Rattle.std.specs.Prelude.{◌≡◌, List, [], ◌∷◌, ℕ, codes}
use Rattle.refusal.specs.declared.Reason.{Reason}
use Rattle.refusal.specs.declared.Reason.TheVariants.{TextTooLong, ForeignByte, Misplaced, NotANumber, HeadOutOfRange, VariableOutOfRange, BoundTwice, BadBlock, Unbound, VariableTwice, WrongRowCount, TooMany, TraceTooLong, CutShort, UnknownKind, WrongLength, AfterEnd, SizesDiffer, NotEarlier, LeafUnbound, NotRising, NotAdmitted, PivotNotOpponents, PivotMarks, OpponentClash, OwnClash, EmptyTail, StepsFull, MarksFull, NoEmptyRecord, EndWithoutEmptyRecord, NotBegun, NoVerdict, BytesTooFew, OtherSidesTurn, BoardFull, BoardNotFull, UnknownChoice}
use Rattle.refusal.specs.declared.Layer.{Layer}
use Rattle.refusal.specs.declared.Layer.TheVariants.{Text, Word, Head, Block, Row, Trace, Record, Docket, Leaf, Resolve, Reduce, Close, Board, Choices}

-- the number that the programs print
abbrev pub number : Reason → ℕ
number TextTooLong = 1
number ForeignByte = 2
number Misplaced = 3
number NotANumber = 4
number HeadOutOfRange = 5
number VariableOutOfRange = 6
number BoundTwice = 7
number BadBlock = 8
number Unbound = 9
number VariableTwice = 10
number WrongRowCount = 11
number TooMany = 12
number TraceTooLong = 20
number CutShort = 21
number UnknownKind = 22
number WrongLength = 23
number AfterEnd = 24
number SizesDiffer = 25
number NotEarlier = 31
number LeafUnbound = 32
number NotRising = 33
number NotAdmitted = 34
number PivotNotOpponents = 35
number PivotMarks = 36
number OpponentClash = 37
number OwnClash = 38
number EmptyTail = 39
number StepsFull = 40
number MarksFull = 41
number NoEmptyRecord = 42
number EndWithoutEmptyRecord = 43
number NotBegun = 51
number NoVerdict = 52
number BytesTooFew = 53
number OtherSidesTurn = 54
number BoardFull = 55
number BoardNotFull = 56
number UnknownChoice = 57

-- what a reason says, for people
abbrev pub text : Reason → List ℕ
text TextTooLong = codes "the text is longer than 65,536 bytes"
text ForeignByte = codes "a word has a byte that the format does not know"
text Misplaced = codes "the text is not of the shape: head, blocks, rows"
text NotANumber = codes "a number is due"
text HeadOutOfRange = codes "the head announces too many variables or rows, or fewer than none"
text VariableOutOfRange = codes "no variable of the head has this number"
text BoundTwice = codes "the variable was bound before"
text BadBlock = codes "the block has its neighbour's letter, or no variable"
text Unbound = codes "no block binds the variable"
text VariableTwice = codes "the row names the variable twice"
text WrongRowCount = codes "there are more or fewer rows than the head announces"
text TooMany = codes "there is no room for a further block or literal"
text TraceTooLong = codes "the trace is longer than 65,536 bytes"
text CutShort = codes "the record is cut short, or the trace has no end record"
text UnknownKind = codes "no record has this kind"
text WrongLength = codes "the record's length does not fit its kind"
text AfterEnd = codes "bytes follow the end record"
text SizesDiffer = codes "formula, ground and docket are not of the same number of variables"
text NotEarlier = codes "a parent is no earlier step"
text LeafUnbound = codes "a literal's variable is not bound"
text NotRising = codes "the literals' variables do not rise"
text NotAdmitted = codes "the ground does not admit the leaf"
text PivotNotOpponents = codes "the pivot is no variable of the opponent"
text PivotMarks = codes "the pivot is not plus in the first parent and minus in the second"
text OpponentClash = codes "the parents differ in a further variable of the opponent"
text OwnClash = codes "the parents differ in an own variable that is not above the pivot"
text EmptyTail = codes "the parent's tail is empty"
text StepsFull = codes "the step table is full"
text MarksFull = codes "the mark table is full"
text NoEmptyRecord = codes "no step has an empty record"
text EndWithoutEmptyRecord = codes "the trace ends and no step has an empty record"
text NotBegun = codes "the board is not begun"
text NoVerdict = codes "the verdict is no step with an empty record here, or the board was begun for another number of variables"
text BytesTooFew = codes "the board has fewer bytes than there are variables"
text OtherSidesTurn = codes "it is the other side's turn"
text BoardFull = codes "every variable has a value"
text BoardNotFull = codes "not every variable has a value yet"
text UnknownChoice = codes "no choice is written so"

-- the name of a layer: the part of the work that refuses
abbrev pub name : Layer → List ℕ
name Text = codes "text"
name Word = codes "word"
name Head = codes "head"
name Block = codes "block"
name Row = codes "row"
name Trace = codes "trace"
name Record = codes "record"
name Docket = codes "docket"
name Leaf = codes "leaf"
name Resolve = codes "resolve"
name Reduce = codes "reduce"
name Close = codes "close"
name Board = codes "board"
name Choices = codes "choices"

-- the reasons that a layer can give, in the order of its checks
abbrev pub checks : Layer → List Reason
checks Text = TextTooLong ∷ []
checks Word = ForeignByte ∷ Misplaced ∷ NotANumber ∷ []
checks Head = HeadOutOfRange ∷ []
checks Block = BadBlock ∷ TooMany ∷ VariableOutOfRange ∷ BoundTwice ∷ []
checks Row = WrongRowCount ∷ VariableOutOfRange ∷ Unbound ∷ VariableTwice ∷ TooMany ∷ []
checks Trace = TraceTooLong ∷ []
checks Record = CutShort ∷ UnknownKind ∷ WrongLength ∷ AfterEnd ∷ EndWithoutEmptyRecord ∷ []
checks Docket = SizesDiffer ∷ []
checks Leaf = LeafUnbound ∷ NotRising ∷ NotAdmitted ∷ StepsFull ∷ MarksFull ∷ []
checks Resolve = NotEarlier ∷ PivotNotOpponents ∷ PivotMarks ∷ OpponentClash ∷ OwnClash ∷ StepsFull ∷ MarksFull ∷ []
checks Reduce = NotEarlier ∷ EmptyTail ∷ StepsFull ∷ MarksFull ∷ []
checks Close = NoEmptyRecord ∷ []
checks Board = SizesDiffer ∷ NotBegun ∷ NoVerdict ∷ BytesTooFew ∷ BoardFull ∷ OtherSidesTurn ∷ BoardNotFull ∷ []
checks Choices = UnknownChoice ∷ []

-- no two reasons have the same number
abbrev pub ToldApart : Type 0
ToldApart = (a b : Reason) → number a ≡ number b → a ≡ b
