-- The words that lead to a state of the reading, and what holds of every state that words lead to.
use Rattle.std.specs.Prelude.{◌≡◌, ◌≤◌, true, List, [], ◌∷◌, ◌++◌, map, length, pos, None, codes}
use Rattle.std.specs.List.{flat_map}
use Rattle.formula.specs.Formula.{alternating, none_empty, distinct, row_bound, row_distinct, rows_good}
use Rattle.formula.specs.Matrix.{MatrixModel, literal_count, no_rows}
use Rattle.formula.specs.Prefix.{PrefixModel, order, all_in_range, no_block, unbound}
use Rattle.words.specs.Text.{Lexeme, letter, number_of, stray}
use Rattle.qdimacs.specs.declared.phase.Phase.{Phase}
use Rattle.qdimacs.specs.declared.phase.Phase.TheVariants.{Start, Format, Variables, RowCount, Blocks, Block, Rows, Row}
use Rattle.qdimacs.specs.Grammar.{letter_byte, head_words, block_words, row_words, variable_word, literal_word}
use Rattle.qdimacs.specs.Reading.{State}

-- the words of the head, the complete blocks and the complete rows
abbrev pub complete_words : PrefixModel → MatrixModel → List Lexeme
complete_words p m = head_words p.size m.due ++ (flat_map block_words p.blocks ++ flat_map row_words m.rows)

-- the words that were read, by what is due after them
abbrev pub written : Phase → PrefixModel → MatrixModel → List Lexeme
written Start p m = []
written Format p m = letter 112 ∷ []
written Variables p m = letter 112 ∷ stray (codes "cnf") ∷ []
written (RowCount n) p m = letter 112 ∷ stray (codes "cnf") ∷ number_of (pos n) ∷ []
written Blocks p m = complete_words p m
written (Block l) p m = complete_words p m ++ letter (letter_byte l) ∷ map variable_word p.begun
written Rows p m = complete_words p m
written Row p m = complete_words p m ++ map literal_word m.begun

abbrev pub written_by : State → List Lexeme
written_by s = written s.phase s.prefix s.matrix

-- what is not begun, by what is due
abbrev pub Begun : Phase → PrefixModel → MatrixModel → Type 0
Begun Start p m = (p ≡ unbound 0) × (m ≡ no_rows 0)
Begun Format p m = (p ≡ unbound 0) × (m ≡ no_rows 0)
Begun Variables p m = (p ≡ unbound 0) × (m ≡ no_rows 0)
Begun (RowCount n) p m = (p ≡ unbound 0) × (m ≡ no_rows 0) × (n ≤ 1024)
Begun Blocks p m = (p.begun ≡ []) × (m.rows ≡ []) × (m.begun ≡ [])
Begun (Block l) p m = (no_block l p ≡ None) × (m.rows ≡ []) × (m.begun ≡ [])
Begun Rows p m = (p.begun ≡ []) × (m.begun ≡ [])
Begun Row p m = p.begun ≡ []

-- what is read so far breaks no condition of a well-formed formula
pub record Sound (p : PrefixModel) (m : MatrixModel) : Type 0 where
  pub variables : p.size ≤ 1024
  pub few_blocks : length p.blocks ≤ 64
  pub letters : alternating p.blocks ≡ true
  pub filled : none_empty p.blocks ≡ true
  pub in_size : all_in_range p.size (order p.blocks ++ p.begun) ≡ true
  pub once : distinct (order p.blocks ++ p.begun) ≡ true
  pub few_rows : m.due ≤ 4096
  pub rows_due : length m.rows ≤ m.due
  pub few_literals : literal_count m ≤ 16384
  pub rows_are : rows_good (order p.blocks) m.rows ≡ true
  pub row_bound_is : row_bound (order p.blocks) m.begun ≡ true
  pub row_once : row_distinct m.begun ≡ true

-- what holds of every state that words lead to
pub record Good (phase : Phase) (p : PrefixModel) (m : MatrixModel) : Type 0 where
  pub begun : Begun phase p m
  pub sound : Sound p m
