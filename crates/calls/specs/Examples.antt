-- Worked examples, step by step through the calls' definitions.
use Rattle.std.specs.Prelude.{◌≡◌, ℕ, List, [], ◌∷◌, take, Ok, Err}
use Rattle.refusal.specs.declared.Reason.{Reason}
use Rattle.refusal.specs.declared.Reason.TheVariants.{SizesDiffer, NotEarlier, LeafUnbound, NotRising, NotAdmitted, PivotNotOpponents, PivotMarks, OpponentClash, OwnClash, EmptyTail, StepsFull, MarksFull, NoEmptyRecord}
use Rattle.refusal.specs.declared.Layer.{Layer}
use Rattle.refusal.specs.declared.Layer.TheVariants.{Docket as by_docket, Leaf as by_leaf, Resolve as by_resolve, Reduce as by_reduce, Close as by_close}
use Rattle.formula.specs.declared.letter.Letter.TheVariants.{Universal, Existential}
use Rattle.formula.specs.declared.letter.Literal.{Literal}
use Rattle.formula.specs.Formula.{Formula}
use Rattle.game.specs.declared.record.Origin.TheVariants.{Leaf, Resolve, Reduce}
use Rattle.game.specs.declared.record.Mark.TheVariants.{Plus, Minus, Star}
use Rattle.game.specs.Rules.{Step}
use Rattle.game.specs.Leaves.{marked}
use Rattle.game.specs.Grounds.{Ground, clause_ground, cube_ground}
use Rattle.game.specs.Examples.{pos, neg, is, block, came, row_1, row_2, row_3, row_4, K, Q, cube_1, cube_2}
use Rattle.calls.specs.Tests.{Told, refused_by}
use Rattle.calls.specs.Dockets.{Docket, opened, leaf, resolve, reduce, close}

-- the call is refused, and leaves the docket D
abbrev pub Refused : Told ℕ Docket → Layer → Reason → Docket → Type 0
Refused call layer reason D = call ≡ (Err (refused_by layer reason), D)

-- a docket for n variables, with so much room, that holds these steps
abbrev pub holding : ℕ → ℕ → ℕ → List Step → Docket
holding n step_room mark_room steps = record { size = n; step_room = step_room; mark_room = mark_room; steps = steps }

-- ---- the formula K over its clause ground

abbrev pub G : Ground
G = clause_ground K

-- leaves 1 to 4 are the rows; two resolves, which come to different marks of variable 2; a resolve of the two, and a reduce
abbrev pub K_steps : List Step
K_steps = came Leaf (marked row_1) ∷ came Leaf (marked row_2) ∷ came Leaf (marked row_3) ∷ came Leaf (marked row_4)
    ∷ came (Resolve 3 1 3) (is 1 Plus ∷ is 2 Plus ∷ []) ∷ came (Resolve 4 2 4) (is 1 Minus ∷ is 2 Minus ∷ [])
    ∷ came (Resolve 1 5 6) (is 2 Star ∷ []) ∷ came (Reduce 7) [] ∷ []

-- the docket after k of the steps, where there are so many places for steps
abbrev pub after_K : ℕ → ℕ → Docket
after_K room k = holding 4 room 16384 (take k K_steps)

-- seven steps, one after another, from a new docket on: each call's answer, and the docket that it leaves
pub record SevenSteps (room : ℕ) : Type 0 where
  pub start : opened 4 room 16384 ≡ after_K room 0
  pub step_1 : leaf K G (after_K room 0) row_1 ≡ (Ok 1, after_K room 1)
  pub step_2 : leaf K G (after_K room 1) row_2 ≡ (Ok 2, after_K room 2)
  pub step_3 : leaf K G (after_K room 2) row_3 ≡ (Ok 3, after_K room 3)
  pub step_4 : leaf K G (after_K room 3) row_4 ≡ (Ok 4, after_K room 4)
  pub step_5 : resolve K G (after_K room 4) 3 1 3 ≡ (Ok 5, after_K room 5)
  pub step_6 : resolve K G (after_K room 5) 4 2 4 ≡ (Ok 6, after_K room 6)
  pub step_7 : resolve K G (after_K room 6) 1 5 6 ≡ (Ok 7, after_K room 7)

-- the docket after those steps, with all the room there is
abbrev pub at : ℕ → Docket
at k = after_K 4096 k

-- ---- prefix e1 a2 e3, rows 2 3 / -2 -3 / 1 3 / -1 -3, which are leaves 1 to 4

abbrev pub C_rows : List (List Literal)
C_rows = (pos 2 ∷ pos 3 ∷ []) ∷ (neg 2 ∷ neg 3 ∷ []) ∷ (pos 1 ∷ pos 3 ∷ []) ∷ (neg 1 ∷ neg 3 ∷ []) ∷ []

abbrev pub C : Formula
C = record {
  size = 3;
  blocks = block Existential (1 ∷ []) ∷ block Universal (2 ∷ []) ∷ block Existential (3 ∷ []) ∷ [];
  due = 4;
  rows = C_rows;
}

abbrev pub H : Ground
H = clause_ground C

abbrev pub C_steps : List Step
C_steps = came Leaf (marked (pos 2 ∷ pos 3 ∷ [])) ∷ came Leaf (marked (neg 2 ∷ neg 3 ∷ []))
    ∷ came Leaf (marked (pos 1 ∷ pos 3 ∷ [])) ∷ came Leaf (marked (neg 1 ∷ neg 3 ∷ [])) ∷ []

abbrev pub after_C : ℕ → Docket
after_C k = holding 3 4096 16384 (take k C_steps)

-- ---- the formula Q over its cube ground

abbrev pub U : Ground
U = cube_ground Q

abbrev pub Q_steps : List Step
Q_steps = came Leaf (marked cube_1) ∷ came Leaf (marked cube_2) ∷ came (Resolve 1 1 2) (is 2 Star ∷ []) ∷ came (Reduce 3) [] ∷ []

abbrev pub after_Q : ℕ → Docket
after_Q k = holding 2 4096 16384 (take k Q_steps)

-- ---- few places for marks

abbrev pub few_marks : List Step → Docket
few_marks steps = holding 4 4096 5 steps

pub record StepExamples : Type 0 where
  -- the verdict of K comes with the eighth step, and not before
  pub seven : SevenSteps 4096
  pub step_8 : reduce K G (at 7) 7 ≡ (Ok 8, at 8)
  pub closed : close K G (at 8) ≡ (Ok 8, at 8)
  pub too_early : Refused (close K G (at 7)) by_close NoEmptyRecord (at 7)
  -- steps that the rules forbid
  pub no_pivot : Refused (resolve K G (at 4) 3 1 2) by_resolve PivotMarks (at 4)
  pub own_pivot : Refused (resolve K G (at 4) 2 1 2) by_resolve PivotNotOpponents (at 4)
  pub no_tail : Refused (reduce K G (at 4) 1) by_reduce EmptyTail (at 4)
  pub C_start : opened 3 4096 16384 ≡ after_C 0
  pub C_step_1 : leaf C H (after_C 0) (pos 2 ∷ pos 3 ∷ []) ≡ (Ok 1, after_C 1)
  pub C_step_2 : leaf C H (after_C 1) (neg 2 ∷ neg 3 ∷ []) ≡ (Ok 2, after_C 2)
  pub own_clash : Refused (resolve C H (after_C 2) 3 1 2) by_resolve OwnClash (after_C 2)
  pub C_step_3 : leaf C H (after_C 2) (pos 1 ∷ pos 3 ∷ []) ≡ (Ok 3, after_C 3)
  pub C_step_4 : leaf C H (after_C 3) (neg 1 ∷ neg 3 ∷ []) ≡ (Ok 4, after_C 4)
  pub opponent_clash : Refused (resolve C H (after_C 4) 3 3 4) by_resolve OpponentClash (after_C 4)
  -- parents that are no steps
  pub first_parent_0 : Refused (resolve K G (at 8) 3 0 3) by_resolve NotEarlier (at 8)
  pub first_parent_9 : Refused (resolve K G (at 8) 3 9 3) by_resolve NotEarlier (at 8)
  pub second_parent_0 : Refused (resolve K G (at 8) 3 1 0) by_resolve NotEarlier (at 8)
  pub second_parent_9 : Refused (resolve K G (at 8) 3 1 9) by_resolve NotEarlier (at 8)
  pub parent_9 : Refused (reduce K G (at 8) 9) by_reduce NotEarlier (at 8)
  -- lists that are no leaves, and a leaf that the ground does not admit
  pub unbound : Refused (leaf K G (at 0) (pos 5 ∷ [])) by_leaf LeafUnbound (at 0)
  pub not_rising : Refused (leaf K G (at 0) (pos 2 ∷ pos 1 ∷ [])) by_leaf NotRising (at 0)
  pub not_admitted : Refused (leaf Q U (after_Q 0) (pos 1 ∷ [])) by_leaf NotAdmitted (after_Q 0)
  -- seven places for steps: the eighth is refused
  pub seven_places : SevenSteps 7
  pub steps_full : Refused (reduce K G (after_K 7 7) 7) by_reduce StepsFull (after_K 7 7)
  -- five places for marks: the second row has one too many
  pub few_start : opened 4 4096 5 ≡ few_marks []
  pub few_step_1 : leaf K G (few_marks []) row_1 ≡ (Ok 1, few_marks (take 1 K_steps))
  pub marks_full : Refused (leaf K G (few_marks (take 1 K_steps)) row_2) by_leaf MarksFull (few_marks (take 1 K_steps))
  -- another n
  pub other_size : Refused (leaf K G (opened 3 4096 16384) row_1) by_docket SizesDiffer (opened 3 4096 16384)
  -- cubes
  pub Q_start : opened 2 4096 16384 ≡ after_Q 0
  pub Q_step_1 : leaf Q U (after_Q 0) cube_1 ≡ (Ok 1, after_Q 1)
  pub Q_step_2 : leaf Q U (after_Q 1) cube_2 ≡ (Ok 2, after_Q 2)
  pub Q_step_3 : resolve Q U (after_Q 2) 1 1 2 ≡ (Ok 3, after_Q 3)
  pub Q_step_4 : reduce Q U (after_Q 3) 3 ≡ (Ok 4, after_Q 4)
  pub Q_closed : close Q U (after_Q 4) ≡ (Ok 4, after_Q 4)
