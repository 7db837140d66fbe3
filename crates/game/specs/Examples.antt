-- Worked examples, which compute.
use Rattle.std.specs.Prelude.{◌≡◌, ℕ, true, false, List, [], ◌∷◌, ◌++◌, Ok, Err}
use Rattle.refusal.specs.declared.Reason.TheVariants.{PivotNotOpponents, PivotMarks, OpponentClash, OwnClash, EmptyTail}
use Rattle.formula.specs.declared.letter.Letter.{Letter}
use Rattle.formula.specs.declared.letter.Letter.TheVariants.{Universal, Existential}
use Rattle.formula.specs.declared.letter.Literal.{Literal}
use Rattle.formula.specs.Prefix.{Block}
use Rattle.formula.specs.Formula.{Formula, well_formed}
use Rattle.game.specs.Records.{Side, Mark, Plus, Minus, Star, Entry, Record}
use Rattle.game.specs.Rules.{Origin, Leaf, Resolve, Reduce, Step}
use Rattle.game.specs.Plays.{all_steps, wholly, lowest_empty, reply, witness}
use Rattle.game.specs.Game.{value}
use Rattle.game.specs.Prefix.{side}
use Rattle.game.specs.Leaves.{marked}
use Rattle.game.specs.Functions.{resolve_rule, reduce_rule}
use Rattle.game.specs.Grounds.{clause_ground, cube_ground, side_of, IsFalseFormula, IsTrueFormula}

-- the literals x and -x, a variable with a mark, a block, a step
abbrev pub pos : ℕ → Literal
pos x = record { variable = x; positive = true }

abbrev pub neg : ℕ → Literal
neg x = record { variable = x; positive = false }

abbrev pub is : ℕ → Mark → Entry
is x m = record { variable = x; mark = m }

abbrev pub block : Letter → List ℕ → Block
block l xs = record { letter = l; vars = xs }

abbrev pub came : Origin → Record → Step
came o r = record { origin = o; marks = r }

-- ---- a formula that is FALSE: prefix e1 a2 e3,4, rows 1 2 3 / -1 -2 4 / -3 / -4

abbrev pub row_1 : List Literal
row_1 = pos 1 ∷ pos 2 ∷ pos 3 ∷ []

abbrev pub row_2 : List Literal
row_2 = neg 1 ∷ neg 2 ∷ pos 4 ∷ []

abbrev pub row_3 : List Literal
row_3 = neg 3 ∷ []

abbrev pub row_4 : List Literal
row_4 = neg 4 ∷ []

abbrev pub K : Formula
K = record {
  size = 4;
  blocks = block Existential (1 ∷ []) ∷ block Universal (2 ∷ []) ∷ block Existential (3 ∷ 4 ∷ []) ∷ [];
  due = 4;
  rows = row_1 ∷ row_2 ∷ row_3 ∷ row_4 ∷ [];
}

abbrev pub S : Side
S = side_of (clause_ground K)

abbrev pub record_5 : Record
record_5 = is 1 Plus ∷ is 2 Plus ∷ []

abbrev pub record_6 : Record
record_6 = is 1 Minus ∷ is 2 Minus ∷ []

abbrev pub record_7 : Record
record_7 = is 2 Star ∷ []

-- leaves 1 to 4 are the rows
abbrev pub D : List Step
D = came Leaf (marked row_1) ∷ came Leaf (marked row_2) ∷ came Leaf (marked row_3) ∷ came Leaf (marked row_4)
    ∷ came (Resolve 3 1 3) record_5 ∷ came (Resolve 4 2 4) record_6 ∷ came (Resolve 1 5 6) record_7 ∷ came (Reduce 7) [] ∷ []

-- the same shown by reducing first: under its verdict, step 9, variable 1 tells which reduce step decides
abbrev pub D' : List Step
D' = came Leaf (marked row_1) ∷ came Leaf (marked row_2) ∷ came Leaf (marked row_3) ∷ came Leaf (marked row_4)
    ∷ came (Resolve 3 1 3) record_5 ∷ came (Reduce 5) (is 1 Plus ∷ []) ∷ came (Resolve 4 2 4) record_6 ∷ came (Reduce 7) (is 1 Minus ∷ [])
    ∷ came (Resolve 1 6 8) [] ∷ []

-- ---- prefix e1 a2 e3, for side `a`

abbrev pub T : Side
T = side Universal (block Existential (1 ∷ []) ∷ block Universal (2 ∷ []) ∷ block Existential (3 ∷ []) ∷ [])

-- ---- a formula that is TRUE: prefix a1 e2, rows 1 2 / -1 -2; cubes 1 -2 and -1 2

abbrev pub Q : Formula
Q = record {
  size = 2;
  blocks = block Universal (1 ∷ []) ∷ block Existential (2 ∷ []) ∷ [];
  due = 2;
  rows = (pos 1 ∷ pos 2 ∷ []) ∷ (neg 1 ∷ neg 2 ∷ []) ∷ [];
}

abbrev pub cube_1 : List Literal
cube_1 = pos 1 ∷ neg 2 ∷ []

abbrev pub cube_2 : List Literal
cube_2 = neg 1 ∷ pos 2 ∷ []

abbrev pub U : Side
U = side_of (cube_ground Q)

abbrev pub E : List Step
E = came Leaf (marked cube_1) ∷ came Leaf (marked cube_2) ∷ came (Resolve 1 1 2) (is 2 Star ∷ []) ∷ came (Reduce 3) [] ∷ []

pub record Examples : Type 0 where
  pub K_formed : well_formed K ≡ true
  pub leaf_1 : (clause_ground K).admits row_1 ≡ true
  pub leaf_2 : (clause_ground K).admits row_2 ≡ true
  pub leaf_3 : (clause_ground K).admits row_3 ≡ true
  pub leaf_4 : (clause_ground K).admits row_4 ≡ true
  pub step_5 : resolve_rule S 3 (marked row_1) (marked row_3) ≡ Ok record_5
  pub step_6 : resolve_rule S 4 (marked row_2) (marked row_4) ≡ Ok record_6
  pub step_7 : resolve_rule S 1 record_5 record_6 ≡ Ok record_7
  pub step_8 : reduce_rule S record_7 ≡ Ok []
  pub verdict_8 : lowest_empty D ≡ 8
  pub chose_0 : reply S D all_steps 8 (value (0 ∷ 2 ∷ 2 ∷ 2 ∷ [])) 2 ≡ (0, 8)
  pub chose_1 : reply S D all_steps 8 (value (1 ∷ 2 ∷ 2 ∷ 2 ∷ [])) 2 ≡ (1, 8)
  pub witness_3 : witness S D all_steps 8 (value (0 ∷ 0 ∷ 1 ∷ 0 ∷ [])) ≡ 3
  pub K_false : IsFalseFormula K
  -- the lowest step decides: with step 7 reduced once more, as step 9
  pub lowest_decides : reply S (D ++ came (Reduce 7) [] ∷ []) all_steps 9 (value (0 ∷ 2 ∷ 2 ∷ 2 ∷ [])) 2 ≡ (0, 8)
  -- a step whose parent's base is not met does not decide
  pub step_6' : reduce_rule S record_5 ≡ Ok (is 1 Plus ∷ [])
  pub step_8' : reduce_rule S record_6 ≡ Ok (is 1 Minus ∷ [])
  pub step_9' : resolve_rule S 1 (is 1 Plus ∷ []) (is 1 Minus ∷ []) ≡ Ok []
  pub chose_0' : reply S D' all_steps 9 (value (0 ∷ 2 ∷ 2 ∷ 2 ∷ [])) 2 ≡ (0, 6)
  pub chose_1' : reply S D' all_steps 9 (value (1 ∷ 2 ∷ 2 ∷ 2 ∷ [])) 2 ≡ (1, 8)
  pub nobody_chose : reply S D' all_steps 9 (value (2 ∷ 2 ∷ 2 ∷ 2 ∷ [])) 2 ≡ (0, 0)
  -- a play that does not follow the replies may meet no leaf step, though it meets step 6
  pub no_witness : witness S D' all_steps 9 (value (0 ∷ 1 ∷ 0 ∷ 0 ∷ [])) ≡ 0
  pub met_6 : wholly S D' (value (0 ∷ 1 ∷ 0 ∷ 0 ∷ [])) 6 ≡ true
  -- the tail goes by level, not by number: prefix e2 a1
  pub by_level : reduce_rule (side Universal (block Existential (2 ∷ []) ∷ block Universal (1 ∷ []) ∷ [])) record_5 ≡ Ok (is 2 Plus ∷ [])
  -- what the rules forbid
  pub no_pivot : resolve_rule S 3 (marked row_1) (marked row_2) ≡ Err PivotMarks
  pub no_tail : reduce_rule S (marked row_1) ≡ Err EmptyTail
  pub own_clash : resolve_rule T 3 (marked (pos 2 ∷ pos 3 ∷ [])) (marked (neg 2 ∷ neg 3 ∷ [])) ≡ Err OwnClash
  pub opponent_clash : resolve_rule T 3 (marked (pos 1 ∷ pos 3 ∷ [])) (marked (neg 1 ∷ neg 3 ∷ [])) ≡ Err OpponentClash
  pub clash_order : resolve_rule T 3 (marked (pos 1 ∷ pos 2 ∷ pos 3 ∷ [])) (marked (neg 1 ∷ neg 2 ∷ neg 3 ∷ [])) ≡ Err OpponentClash
  pub own_pivot : resolve_rule T 2 (marked (pos 2 ∷ pos 3 ∷ [])) (marked (neg 2 ∷ neg 3 ∷ [])) ≡ Err PivotNotOpponents
  pub unbound_pivot : resolve_rule T 4 (marked (pos 4 ∷ [])) (marked (neg 4 ∷ [])) ≡ Err PivotNotOpponents
  -- cubes
  pub Q_formed : well_formed Q ≡ true
  pub admitted_1 : (cube_ground Q).admits cube_1 ≡ true
  pub admitted_2 : (cube_ground Q).admits cube_2 ≡ true
  pub not_admitted : (cube_ground Q).admits (pos 1 ∷ []) ≡ false
  pub cube_step_3 : resolve_rule U 1 (marked cube_1) (marked cube_2) ≡ Ok (is 2 Star ∷ [])
  pub cube_step_4 : reduce_rule U (is 2 Star ∷ []) ≡ Ok []
  pub cube_verdict : lowest_empty E ≡ 4
  pub cube_chose_1 : reply U E all_steps 4 (value (1 ∷ 2 ∷ [])) 2 ≡ (0, 4)
  pub Q_true : IsTrueFormula Q
