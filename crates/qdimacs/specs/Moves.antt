-- Which word may come next, and what it does.
use Rattle.std.specs.Prelude.{ℕ, suc, Bool, true, false, cond, not, ◌||◌, ℤ, pos, negsuc, Ok, Err, codes, Result, ◌==◌, nat_le}
use Rattle.std.specs.Str.{bytes_eq}
use Rattle.refusal.specs.declared.Layer.TheVariants.{Word, Head as HeadLayer, Block as BlockLayer}
use Rattle.refusal.specs.declared.Reason.TheVariants.{ForeignByte, Misplaced, NotANumber, HeadOutOfRange, VariableOutOfRange}
use Rattle.formula.specs.declared.letter.Letter.{Letter}
use Rattle.formula.specs.declared.letter.Letter.TheVariants.{Universal, Existential}
use Rattle.words.specs.Text.{Lexeme, letter, number_of, stray, printable}
use Rattle.qdimacs.specs.declared.phase.Phase.{Phase}
use Rattle.qdimacs.specs.declared.phase.Phase.TheVariants.{Start, Format, Variables, RowCount, Blocks, Block, Rows, Row}
use Rattle.qdimacs.specs.declared.phase.Move.{Move}
use Rattle.qdimacs.specs.declared.phase.Move.TheVariants.{Problem, Format as Named, Variables as VariableCount, Head, Open, Bind, EndBlock, Add, EndRow}
use Rattle.qdimacs.specs.declared.phase.Fault.{Fault}

abbrev pub foreign_byte : Fault
foreign_byte = record { reason = ForeignByte; layer = Word }

abbrev pub misplaced : Fault
misplaced = record { reason = Misplaced; layer = Word }

abbrev pub not_a_number : Fault
not_a_number = record { reason = NotANumber; layer = Word }

abbrev pub bad_head : Fault
bad_head = record { reason = HeadOutOfRange; layer = HeadLayer }

abbrev pub bad_variable : Fault
bad_variable = record { reason = VariableOutOfRange; layer = BlockLayer }

-- a word with a byte that the format does not know
abbrev pub foreign : Lexeme → Bool
foreign (letter b) = false
foreign (number_of z) = false
foreign (stray bs) = not (printable bs)

-- a number of the head: from 0 to `most`
abbrev pub head_number : ℕ → ℤ → Result ℕ Fault
head_number most (pos n) = cond (nat_le n most) (Ok n) (Err bad_head)
head_number most (negsuc n) = Err bad_head

-- what such a number does
abbrev pub counted : (ℕ → Move) → Result ℕ Fault → Result Move Fault
counted does (Ok n) = Ok (does n)
counted does (Err f) = Err f

-- n: a number from 0 to 1,024
abbrev pub variable_total : ℤ → Result Move Fault
variable_total z = counted VariableCount (head_number 1024 z)

-- m: a number from 0 to 4,096
abbrev pub row_total : ℕ → ℤ → Result Move Fault
row_total n z = counted (Head n) (head_number 4096 z)

-- in a block: a variable, or 0 for the block's end
abbrev pub block_number : Letter → ℤ → Result Move Fault
block_number l (pos n) = cond (n == 0) (Ok (EndBlock l)) (Ok (Bind n))
block_number l (negsuc n) = Err bad_variable

-- in a row: a literal, or 0 for the row's end
abbrev pub row_number : ℤ → Move
row_number (pos n) = cond (n == 0) EndRow (Add (record { variable = n; positive = true }))
row_number (negsuc n) = Add (record { variable = suc n; positive = false })

-- where a block or the first row may begin: `a` and `e` open a block
abbrev pub block_letter : ℕ → Result Move Fault
block_letter b = cond (b == 97) (Ok (Open Universal)) (cond (b == 101) (Ok (Open Existential)) (Err not_a_number))

-- where a further row may begin, a block letter is out of place
abbrev pub late_letter : ℕ → Result Move Fault
late_letter b = cond (b == 97 || b == 101) (Err misplaced) (Err not_a_number)

-- what a word does where that is due, its bytes aside
abbrev pub due : Phase → Lexeme → Result Move Fault
due Start (letter b) = cond (b == 112) (Ok Problem) (Err misplaced)
due Start (number_of z) = Err misplaced
due Start (stray bs) = Err misplaced
due Format (letter b) = Err misplaced
due Format (number_of z) = Err misplaced
due Format (stray bs) = cond (bytes_eq bs (codes "cnf")) (Ok Named) (Err misplaced)
due Variables (letter b) = Err not_a_number
due Variables (number_of z) = variable_total z
due Variables (stray bs) = Err not_a_number
due (RowCount n) (letter b) = Err not_a_number
due (RowCount n) (number_of z) = row_total n z
due (RowCount n) (stray bs) = Err not_a_number
due Blocks (letter b) = block_letter b
due Blocks (number_of z) = Ok (row_number z)
due Blocks (stray bs) = Err not_a_number
due (Block l) (letter b) = Err not_a_number
due (Block l) (number_of z) = block_number l z
due (Block l) (stray bs) = Err not_a_number
due Rows (letter b) = late_letter b
due Rows (number_of z) = Ok (row_number z)
due Rows (stray bs) = Err not_a_number
due Row (letter b) = Err not_a_number
due Row (number_of z) = Ok (row_number z)
due Row (stray bs) = Err not_a_number

-- what a word does: its bytes are looked at first
abbrev pub decide : Phase → Lexeme → Result Move Fault
decide phase t = cond (foreign t) (Err foreign_byte) (due phase t)
