-- What is assured of the dockets that calls lead to.
use Rattle.std.specs.Prelude.{◌≡◌, ℕ, ◌≤◌, length, Ok, Result}
use Rattle.refusal.specs.declared.Refusal.{Refusal}
use Rattle.formula.specs.Formula.{Formula, WellFormed}
use Rattle.game.specs.Rules.{marks_of}
use Rattle.game.specs.Plays.{Lowest, is_empty}
use Rattle.game.specs.Grounds.{Ground, KeepsLaw, OwnWins, clause_ground, cube_ground, IsFalseFormula, IsTrueFormula}
use Rattle.game.specs.Steps.{Sound}
use Rattle.calls.specs.Dockets.{Docket, all_marks, close}
use Rattle.calls.specs.Runs.{Reached}

-- v is the lowest step of the docket with an empty record
abbrev pub LowestEmpty : Docket → ℕ → Type 0
LowestEmpty D v = Lowest (λ k. is_empty (marks_of D.steps k)) (length D.steps) v

-- What an answer of close says, where the docket is reached: it is the lowest step with an empty record whenever there is one, and
-- whenever it is a step, own side wins the ground's formula by the value rule with the ground's won plays. So it says FALSE at the
-- clause ground and TRUE at the cube ground.
pub record VerdictRight (G : Ground) (D : Docket) (answer : Result ℕ Refusal) : Type 0 where
  pub given : (v : ℕ) → LowestEmpty D v → answer ≡ Ok v
  pub lowest : (v : ℕ) → answer ≡ Ok v → LowestEmpty D v
  pub wins : (v : ℕ) → answer ≡ Ok v → OwnWins G
  pub says_false : (F : Formula) → G ≡ clause_ground F → (v : ℕ) → answer ≡ Ok v → IsFalseFormula F
  pub says_true : (F : Formula) → G ≡ cube_ground F → (v : ℕ) → answer ≡ Ok v → IsTrueFormula F

-- a docket never holds more than its room
pub record RoomKept (D : Docket) : Type 0 where
  pub steps_fit : length D.steps ≤ D.step_room
  pub marks_fit : length (all_marks D.steps) ≤ D.mark_room
  pub few_steps : D.step_room ≤ 4096
  pub few_marks : D.mark_room ≤ 16384

-- Over every ground that keeps its law, and every docket that calls lead to.
pub record DocketsAssured : Type 0 where
  -- the steps are a derivation over the ground, and the marks of each are a record
  pub sound : (G : Ground) (D : Docket) → Reached G D → Sound G D.steps
  pub verdict : (G : Ground) → WellFormed G.formula → KeepsLaw G → (D : Docket) → Reached G D → VerdictRight G D (close G.formula G D).0
  pub room : (G : Ground) (D : Docket) → Reached G D → RoomKept D
