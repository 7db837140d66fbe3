-- Grounds: what a leaf may be and what it is to win; the clause ground and the cube ground; FALSE and TRUE.
use Rattle.std.specs.Prelude.{◌≡◌, ℕ, ◌≤◌, Bool, true, false, cond, not, ◌&&◌, ◌||◌, List, [], ◌∷◌, length, ◌==◌}
use Rattle.formula.specs.declared.letter.Letter.{Letter}
use Rattle.formula.specs.declared.letter.Letter.TheVariants.{Universal, Existential}
use Rattle.formula.specs.declared.letter.Literal.{Literal}
use Rattle.formula.specs.Prefix.{order}
use Rattle.formula.specs.Formula.{Formula, row_bound, WellFormed}
use Rattle.game.specs.Records.{Side, Record}
use Rattle.game.specs.Rules.{Calculus, Step, marks_of, Derivation}
use Rattle.game.specs.Plays.{Full, all_steps, Lowest, meets_leaf, witness}
use Rattle.game.specs.Game.{value, no_values, Wins, Run}
use Rattle.game.specs.Prefix.{side}
use Rattle.game.specs.Leaves.{rising, each_literal, all_met, literals, all_plain}
use Rattle.game.specs.Functions.{opponents}

-- A ground stands for one side in the game of one formula. It says which finished plays are won, and which leaves it admits: what a
-- derivation may start from.
pub record Ground : Type 0 where
  pub own : Letter
  pub formula : Formula
  pub won : List ℕ → Bool
  pub admits : List Literal → Bool

-- a leaf over a formula: literals of bound variables, whose numbers rise strictly
abbrev pub leaf_over : Formula → List Literal → Bool
leaf_over F ls = row_bound (order F.blocks) ls && rising 0 ls

-- the game as the ground's side sees it, its prefix order, and who wins it from the play without values
abbrev pub side_of : Ground → Side
side_of G = side G.own G.formula.blocks

abbrev pub order_of : Ground → List ℕ
order_of G = order G.formula.blocks

abbrev pub OwnWins : Ground → Type 0
OwnWins G = Wins (side_of G) G.won (order_of G) (no_values G.formula.size)

-- the law of a ground: every full play that meets an admitted leaf is won
abbrev pub KeepsLaw : Ground → Type 0
KeepsLaw G =
    (ls : List Literal) (p : List ℕ) → leaf_over G.formula ls ≡ true → G.admits ls ≡ true
    → length p ≡ G.formula.size → Full (side_of G) (value p) → all_met (side_of G) (value p) ls ≡ true
    → G.won p ≡ true

-- the record is that of a leaf which the ground admits
abbrev pub admitted_record : Ground → Record → Bool
admitted_record G r = all_plain r && (leaf_over G.formula (literals r) && G.admits (literals r))

-- long-distance Q-resolution over a ground: pivots are the opponent's, leaves are those that the ground admits
abbrev pub calculus_of : Ground → Calculus
calculus_of G = record { pivots = opponents (side_of G); leaves = admitted_record G }

-- ---- what a derivation over a ground shows

-- A finished play that was won: its witness is the lowest leaf step up to the verdict that it meets, that leaf is admitted, and its
-- literals are met.
pub record WonWithWitness (G : Ground) (D : List Step) (u : ℕ) (p : List ℕ) : Type 0 where
  pub lowest_met : Lowest (meets_leaf (side_of G) D all_steps (value p)) u (witness (side_of G) D all_steps u (value p))
  pub admitted : G.admits (literals (marks_of D (witness (side_of G) D all_steps u (value p)))) ≡ true
  pub met : all_met (side_of G) (value p) (literals (marks_of D (witness (side_of G) D all_steps u (value p)))) ≡ true
  pub won : G.won p ≡ true

-- Where a ground keeps the law, a step with an empty record shows that own side wins, and every play in which own side gave the
-- replies under it ends won, with a witness.
pub record EmptyRecordWins : Type 0 where
  pub wins : (G : Ground) → WellFormed G.formula → KeepsLaw G → (D : List Step) → Derivation (side_of G) (calculus_of G) D
      → (u : ℕ) → 1 ≤ u → u ≤ length D → marks_of D u ≡ [] → OwnWins G
  pub played : (G : Ground) → WellFormed G.formula → KeepsLaw G → (D : List Step) → Derivation (side_of G) (calculus_of G) D
      → (u : ℕ) → 1 ≤ u → u ≤ length D → marks_of D u ≡ []
      → (p : List ℕ) → Run (side_of G) D all_steps u G.formula.size (order_of G) [] p → WonWithWitness G D u p

-- ---- rows under a play

unfoldable pub some_literal : (Literal → Bool) → List Literal → Bool
some_literal f [] = false
some_literal f (l ∷ ls) = f l || some_literal f ls

unfoldable pub some_row : (List Literal → Bool) → List (List Literal) → Bool
some_row f [] = false
some_row f (r ∷ rs) = f r || some_row f rs

unfoldable pub each_row : (List Literal → Bool) → List (List Literal) → Bool
each_row f [] = true
each_row f (r ∷ rs) = f r && each_row f rs

abbrev pub same_sign : Bool → Bool → Bool
same_sign true b = b
same_sign false b = not b

abbrev pub same_literal : Literal → Literal → Bool
same_literal k l = k.variable == l.variable && same_sign k.positive l.positive

-- the literal stands in the list
abbrev pub has_literal : List Literal → Literal → Bool
has_literal ls l = some_literal (same_literal l) ls

-- a literal is false where its variable has the other value; a row is false where all its literals are
abbrev pub literal_false : List ℕ → Literal → Bool
literal_false p l = value p l.variable == cond l.positive 0 1

abbrev pub row_false : List ℕ → List Literal → Bool
row_false p row = each_literal (literal_false p) row

-- some row is false in the play; no row is
abbrev pub some_false : Formula → List ℕ → Bool
some_false F p = some_row (row_false p) F.rows

abbrev pub none_false : Formula → List ℕ → Bool
none_false F p = each_row (λ row. not (row_false p row)) F.rows

-- ---- FALSE and TRUE, by the value rule

-- FALSE: side `a` wins, where the won plays are those in which some row is false
abbrev pub IsFalseFormula : Formula → Type 0
IsFalseFormula F = Wins (side Universal F.blocks) (some_false F) (order F.blocks) (no_values F.size)

-- TRUE: side `e` wins, where the won plays are those in which no row is false
abbrev pub IsTrueFormula : Formula → Type 0
IsTrueFormula F = Wins (side Existential F.blocks) (none_false F) (order F.blocks) (no_values F.size)

-- ---- the two grounds

-- The clause ground: own side is `a`. A leaf is admitted exactly where some row has the same literals, in any order.
abbrev pub clause_ground : Formula → Ground
clause_ground F =
    record {
      own = Universal;
      formula = F;
      won = some_false F;
      admits = λ ls. leaf_over F ls && some_row (λ row. each_literal (has_literal row) ls && each_literal (has_literal ls) row) F.rows;
    }

-- The cube ground: own side is `e`. A leaf is admitted exactly where every row has one of its literals.
abbrev pub cube_ground : Formula → Ground
cube_ground F =
    record {
      own = Existential;
      formula = F;
      won = none_false F;
      admits = λ ls. leaf_over F ls && each_row (λ row. some_literal (has_literal ls) row) F.rows;
    }

-- Both keep the law; so a step with an empty record shows FALSE over the one, and TRUE over the other.
pub record GroundsRight : Type 0 where
  pub clause_law : (F : Formula) → KeepsLaw (clause_ground F)
  pub cube_law : (F : Formula) → KeepsLaw (cube_ground F)
  pub clause_false : (F : Formula) → WellFormed F → (D : List Step) → Derivation (side_of (clause_ground F)) (calculus_of (clause_ground F)) D
      → (u : ℕ) → 1 ≤ u → u ≤ length D → marks_of D u ≡ [] → IsFalseFormula F
  pub cube_true : (F : Formula) → WellFormed F → (D : List Step) → Derivation (side_of (cube_ground F)) (calculus_of (cube_ground F)) D
      → (u : ℕ) → 1 ≤ u → u ≤ length D → marks_of D u ≡ [] → IsTrueFormula F

-- no formula is both FALSE and TRUE
abbrev pub NeverBoth : Type 0
NeverBoth = (F : Formula) → IsFalseFormula F → IsTrueFormula F → ⊥
