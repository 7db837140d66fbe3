-- How a formula text is read: word by word, from nothing.
use Rattle.std.specs.Prelude.{ℕ, min, cond, List, [], ◌∷◌, length, Some, None, Ok, Err, Option, Result, nat_le}
use Rattle.refusal.specs.declared.Layer.{Layer}
use Rattle.refusal.specs.declared.Layer.TheVariants.{Text, Block as BlockLayer, Row as RowLayer}
use Rattle.refusal.specs.declared.Reason.{Reason}
use Rattle.refusal.specs.declared.Reason.TheVariants.{TextTooLong, WrongRowCount}
use Rattle.refusal.specs.declared.Refusal.{Refusal}
use Rattle.formula.specs.declared.letter.Letter.{Letter}
use Rattle.formula.specs.declared.letter.Literal.{Literal}
use Rattle.formula.specs.Formula.{Formula, complete_part}
use Rattle.formula.specs.Matrix.{MatrixModel, no_rows, complete, add_literal, end_row}
use Rattle.formula.specs.Prefix.{PrefixModel, unbound, no_block, bind, end_block, unnameable}
use Rattle.words.specs.Text.{Lexeme, body, tokens_from}
use Rattle.qdimacs.specs.declared.phase.Phase.{Phase}
use Rattle.qdimacs.specs.declared.phase.Phase.TheVariants.{Start, Format, Variables, RowCount, Blocks, Block, Rows, Row}
use Rattle.qdimacs.specs.declared.phase.Move.{Move}
use Rattle.qdimacs.specs.declared.phase.Move.TheVariants.{Problem, Format as Named, Variables as VariableCount, Head, Open, Bind, EndBlock, Add, EndRow}
use Rattle.qdimacs.specs.declared.phase.Fault.{Fault}
use Rattle.qdimacs.specs.Moves.{decide, misplaced}

-- what is read so far: what is due, and prefix and matrix with the block or row that is being read
pub record State : Type 0 where
  pub phase : Phase
  pub prefix : PrefixModel
  pub matrix : MatrixModel

abbrev pub nothing : State
nothing = record { phase = Start; prefix = unbound 0; matrix = no_rows 0 }

abbrev pub in_phase : Phase → State → State
in_phase ph s = record { phase = ph; prefix = s.prefix; matrix = s.matrix }

abbrev pub with_prefix : Phase → PrefixModel → State → State
with_prefix ph p s = record { phase = ph; prefix = p; matrix = s.matrix }

abbrev pub with_matrix : Phase → MatrixModel → State → State
with_matrix ph m s = record { phase = ph; prefix = s.prefix; matrix = m }

abbrev pub by_layer : Layer → Reason → Fault
by_layer l r = record { reason = r; layer = l }

-- an answer of the prefix
abbrev pub in_block : Phase → State → Result PrefixModel Reason → Result State Fault
in_block ph s (Ok p) = Ok (with_prefix ph p s)
in_block ph s (Err r) = Err (by_layer BlockLayer r)

-- an answer of the matrix
abbrev pub in_row : Phase → State → Result MatrixModel Reason → Result State Fault
in_row ph s (Ok m) = Ok (with_matrix ph m s)
in_row ph s (Err r) = Err (by_layer RowLayer r)

-- a block's letter, unless something forbids the block
abbrev pub opened : Letter → State → Option Reason → Result State Fault
opened l s None = Ok (in_phase (Block l) s)
opened l s (Some r) = Err (by_layer BlockLayer r)

-- a literal, unless something forbids its variable
abbrev pub named : Literal → State → Option Reason → Result State Fault
named l s None = in_row Row s (add_literal l s.matrix)
named l s (Some r) = Err (by_layer RowLayer r)

-- what a move does, or why it is refused
abbrev pub apply : State → Move → Result State Fault
apply s Problem = Ok (in_phase Format s)
apply s Named = Ok (in_phase Variables s)
apply s (VariableCount n) = Ok (in_phase (RowCount n) s)
apply s (Head n m) = Ok (record { phase = Blocks; prefix = unbound (min n 1024); matrix = no_rows (min m 4096) })
apply s (Open l) = opened l s (no_block l s.prefix)
apply s (Bind x) = in_block s.phase s (bind x s.prefix)
apply s (EndBlock l) = in_block Blocks s (end_block l s.prefix)
apply s (Add l) = cond (complete s.matrix) (Err (by_layer RowLayer WrongRowCount)) (named l s (unnameable l.variable s.prefix))
apply s EndRow = in_row Rows s (end_row s.matrix)

-- one word more
abbrev pub step : State → Lexeme → Result State Fault
step s t = elim (decide s.phase t) [ Ok move ↦ apply s move | Err f ↦ Err f ]

-- what is wrong where the text ends
abbrev pub lacks : State → Option Fault
lacks s = elim s.phase [
  | Start ↦ Some misplaced
  | Format ↦ Some misplaced
  | Variables ↦ Some misplaced
  | RowCount n ↦ Some misplaced
  | Blocks ↦ cond (complete s.matrix) None (Some (by_layer RowLayer WrongRowCount))
  | Block l ↦ Some misplaced
  | Rows ↦ cond (complete s.matrix) None (Some (by_layer RowLayer WrongRowCount))
  | Row ↦ Some misplaced
]

-- ---- a whole text

-- what a reading leaves, and the refusal, if the text is refused
pub record Outcome : Type 0 where
  pub left : State
  pub refusal : Option Refusal

abbrev pub at_place : Fault → ℕ → Refusal
at_place f place = record { reason = f.reason; layer = f.layer; place = place }

abbrev pub stopped : State → ℕ → Option Fault → Outcome
stopped s place None = record { left = s; refusal = None }
stopped s place (Some f) = record { left = s; refusal = Some (at_place f place) }

-- the words ts, and then the text's end at offset `end`
abbrev pub run : ℕ → State → List (ℕ × Lexeme) → Outcome
run end s [] = stopped s end (lacks s)
run end s (t ∷ ts) = elim (step s t.1) [ Ok n ↦ run end n ts | Err f ↦ stopped s t.0 (Some f) ]

-- a text of at most 65,536 bytes: its words after the comments
abbrev pub reading : List ℕ → Outcome
reading text = cond (nat_le (length text) 65536) (run (length text) nothing (tokens_from text (body text))) (stopped nothing 0 (Some (by_layer Text TextTooLong)))

-- the formula that a reading leaves: the head, the blocks and the rows that are complete
abbrev pub left_formula : State → Formula
left_formula s = complete_part s.prefix s.matrix
