-- What a formula text is, in words of its own: the formula, and the words that write it.
use Rattle.std.specs.Prelude.{◌≡◌, ℕ, ◌≤◌, true, cond, List, [], ◌∷◌, ◌++◌, map, length, ℤ, pos, neg_ℤ, is_ok, codes, Result}
use Rattle.std.specs.List.{flat_map}
use Rattle.formula.specs.declared.letter.Letter.{Letter}
use Rattle.formula.specs.declared.letter.Letter.TheVariants.{Universal, Existential}
use Rattle.formula.specs.declared.letter.Literal.{Literal}
use Rattle.formula.specs.Prefix.{Block}
use Rattle.formula.specs.Formula.{Formula, WellFormed}
use Rattle.words.specs.Text.{Lexeme, letter, number_of, stray, body, tokens_from}

-- the byte that writes a letter: `a` or `e`
abbrev pub letter_byte : Letter → ℕ
letter_byte Universal = 97
letter_byte Existential = 101

-- the number that writes a literal: its variable, below zero where the sign is minus
abbrev pub literal_number : Literal → ℤ
literal_number l = cond l.positive (pos l.variable) (neg_ℤ (pos l.variable))

abbrev pub zero_word : Lexeme
zero_word = number_of (pos 0)

abbrev pub variable_word : ℕ → Lexeme
variable_word x = number_of (pos x)

abbrev pub literal_word : Literal → Lexeme
literal_word l = number_of (literal_number l)

-- `p cnf n m`
abbrev pub head_words : ℕ → ℕ → List Lexeme
head_words n m = letter 112 ∷ stray (codes "cnf") ∷ number_of (pos n) ∷ number_of (pos m) ∷ []

-- a block is written by its letter, its variables and a 0
abbrev pub block_words : Block → List Lexeme
block_words b = letter (letter_byte b.letter) ∷ (map variable_word b.vars ++ zero_word ∷ [])

-- a row is written by its literals and a 0
abbrev pub row_words : List Literal → List Lexeme
row_words row = map literal_word row ++ zero_word ∷ []

-- a formula is written by its head, its blocks and its rows
abbrev pub formula_words : Formula → List Lexeme
formula_words F = head_words F.size F.due ++ (flat_map block_words F.blocks ++ flat_map row_words F.rows)

-- the words of a text after its comments
abbrev pub lexemes : List ℕ → List Lexeme
lexemes text = map (λ (t : ℕ × Lexeme). t.1) (tokens_from text (body text))

-- the text writes the formula: it is short enough, its words after the comments are the formula's, and the formula is well-formed
pub record Writes (text : List ℕ) (F : Formula) : Type 0 where
  pub short : length text ≤ 65536
  pub words : lexemes text ≡ formula_words F
  pub formula : WellFormed F

-- a text is accepted exactly when it writes a formula, and that formula is then what is left
pub record Exact {X E : Type 0} (text : List ℕ) (r : Result X E) (left : Formula) : Type 0 where
  pub accepts : (F : Formula) → Writes text F → (is_ok r ≡ true) × (left ≡ F)
  pub accepted : is_ok r ≡ true → Writes text left
