-- Where a refused text goes wrong, in words of its own.
use Rattle.std.specs.Prelude.{◌≡◌, ℕ, ◌≤◌, List, [], ◌∷◌, ◌++◌, map, length, Err, Result}
use Rattle.refusal.specs.declared.Refusal.{Refusal}
use Rattle.formula.specs.Formula.{Formula, WellFormed}
use Rattle.words.specs.Text.{Lexeme, body, tokens_from}
use Rattle.qdimacs.specs.Grammar.{formula_words}
use Rattle.qdimacs.specs.Reading.{State}
use Rattle.qdimacs.specs.Written.{written_by, Sound}

-- words without their places
abbrev pub bare : List (ℕ × Lexeme) → List Lexeme
bare ts = map (λ (t : ℕ × Lexeme). t.1) ts

-- the place of the first word, or the text's end where there is none
abbrev pub place_of : ℕ → List (ℕ × Lexeme) → ℕ
place_of end [] = end
place_of end (t ∷ ts) = t.0

-- the formula is written by these words, and then the next one, if there is one
abbrev pub GoesOn : List Lexeme → List (ℕ × Lexeme) → Formula → Type 0
GoesOn front [] F = formula_words F ≡ front
GoesOn front (t ∷ ts) F = (more : List Lexeme) × (formula_words F ≡ front ++ t.1 ∷ more)

-- The reading stops at the first word of `rest`, or at the end: the words before are those that write what is left, what is left
-- breaks no condition, and no well-formed formula goes on like this.
pub record Stops (text : List ℕ) (r : Refusal) (left : State) : Type 0 where
  pub before : List (ℕ × Lexeme)
  pub rest : List (ℕ × Lexeme)
  pub words : tokens_from text (body text) ≡ before ++ rest
  pub place : r.place ≡ place_of (length text) rest
  pub read : written_by left ≡ bare before
  pub sound : Sound left.prefix left.matrix
  pub no_way : (F : Formula) → WellFormed F → GoesOn (bare before) rest F → ⊥

-- what a refusal of a text that is not too long says
abbrev pub Stopped : {X : Type 0} → List ℕ → Result X Refusal → State → Type 0
Stopped text r left = length text ≤ 65536 → (e : Refusal) → r ≡ Err e → Stops text e left
