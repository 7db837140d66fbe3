-- Derivations over a ground, step by step.
use Rattle.std.specs.Prelude.{◌≡◌, ℕ, ◌≤◌, true, List, [], ◌∷◌, ◌++◌, length, Ok}
use Rattle.formula.specs.declared.letter.Literal.{Literal}
use Rattle.game.specs.Records.{Record, IsRecord}
use Rattle.game.specs.Rules.{Origin, Leaf, Resolve, Reduce, Step, marks_of, Derivation}
use Rattle.game.specs.Leaves.{marked}
use Rattle.game.specs.Functions.{resolve_rule, reduce_rule}
use Rattle.game.specs.Grounds.{Ground, leaf_over, side_of, calculus_of}

-- the steps with one more behind them
abbrev pub entered : List Step → Origin → Record → List Step
entered D o r = D ++ record { origin = o; marks = r } ∷ []

-- the steps are a derivation over the ground, and the marks of each are a record
pub record Sound (G : Ground) (D : List Step) : Type 0 where
  pub derives : Derivation (side_of G) (calculus_of G) D
  pub records : (k : ℕ) → 1 ≤ k → k ≤ length D → IsRecord (side_of G) (marks_of D k)

-- Without steps it is so, and it stays so when a step comes that a rule allows: a leaf that the ground admits, or what the function of
-- the rule makes of earlier steps.
pub record StepsEnter : Type 0 where
  pub none : (G : Ground) → Sound G []
  pub leaf : (G : Ground) (D : List Step) → Sound G D
      → (ls : List Literal) → leaf_over G.formula ls ≡ true → G.admits ls ≡ true → Sound G (entered D Leaf (marked ls))
  pub resolve : (G : Ground) (D : List Step) → Sound G D
      → (p i j : ℕ) → 1 ≤ i → i ≤ length D → 1 ≤ j → j ≤ length D
      → (out : Record) → resolve_rule (side_of G) p (marks_of D i) (marks_of D j) ≡ Ok out → Sound G (entered D (Resolve p i j) out)
  pub reduce : (G : Ground) (D : List Step) → Sound G D
      → (j : ℕ) → 1 ≤ j → j ≤ length D
      → (out : Record) → reduce_rule (side_of G) (marks_of D j) ≡ Ok out → Sound G (entered D (Reduce j) out)
