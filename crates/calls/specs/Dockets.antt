-- Dockets, and what each of their calls answers and leaves. A docket is the growing list of the steps of a trace, with their records.
use Rattle.std.specs.Prelude.{ℕ, ◌+◌, min, Bool, ◌&&◌, List, [], ◌∷◌, length, Ok, ◌==◌, nat_le, nat_lt}
use Rattle.std.specs.List.{flat_map}
use Rattle.refusal.specs.declared.Reason.TheVariants.{SizesDiffer, NotEarlier, LeafUnbound, NotRising, NotAdmitted, PivotNotOpponents, PivotMarks, OpponentClash, OwnClash, EmptyTail, StepsFull, MarksFull, NoEmptyRecord}
use Rattle.refusal.specs.declared.Layer.{Layer}
use Rattle.refusal.specs.declared.Layer.TheVariants.{Docket as by_docket, Leaf as by_leaf, Resolve as by_resolve, Reduce as by_reduce, Close as by_close}
use Rattle.formula.specs.declared.letter.Literal.{Literal}
use Rattle.formula.specs.Prefix.{order}
use Rattle.formula.specs.Formula.{Formula, row_bound}
use Rattle.game.specs.Records.{Side, Record, some_var, over}
use Rattle.game.specs.declared.record.Origin.{Origin}
use Rattle.game.specs.declared.record.Origin.TheVariants.{Leaf, Resolve, Reduce}
use Rattle.game.specs.declared.record.Entry.{Entry}
use Rattle.game.specs.Rules.{Step, marks_of}
use Rattle.game.specs.Plays.{lowest_empty}
use Rattle.game.specs.Prefix.{side}
use Rattle.game.specs.Leaves.{rising, marked}
use Rattle.game.specs.Functions.{opponents, pivot_marks, opponents_agree, clashes_above, resolved, reduced}
use Rattle.game.specs.Grounds.{Ground}
use Rattle.game.specs.Steps.{entered}
use Rattle.ground.specs.Admits.{admits_leaf}
use Rattle.calls.specs.Tests.{Told, Test, test, tested}

-- A docket: the n that it was opened for, how many steps and how many marks it has room for, and its steps, the first one first.
pub record Docket : Type 0 where
  pub size : ℕ
  pub step_room : ℕ
  pub mark_room : ℕ
  pub steps : List Step

-- a new docket on memory of so many places for steps and for marks: it holds at most 4,096 and 16,384 of them
abbrev pub opened : ℕ → ℕ → ℕ → Docket
opened n step_places mark_places = record { size = n; step_room = min 4096 step_places; mark_room = min 16384 mark_places; steps = [] }

-- the marks of all steps, step after step
abbrev pub all_marks : List Step → List Entry
all_marks steps = flat_map (λ (s : Step). s.marks) steps

-- formula, ground and docket have the same n
abbrev pub same_size : Formula → Ground → Docket → Bool
same_size F G D = D.size == F.size && D.size == G.formula.size

-- the game of the formula as the ground's side sees it
abbrev pub side_at : Formula → Ground → Side
side_at F G = side G.own F.blocks

-- the docket has a step of this number
abbrev pub has_step : Docket → ℕ → Bool
has_step D k = nat_le 1 k && nat_le k (length D.steps)

-- there is room for one more step with this record
abbrev pub room_tests : Layer → Docket → Record → List Test
room_tests layer D r =
    test (nat_lt (length D.steps) D.step_room) layer StepsFull
    ∷ test (nat_le (length (all_marks D.steps) + length r) D.mark_room) layer MarksFull
    ∷ []

-- the docket with one more step, and the step's number
abbrev pub with_step : Docket → Origin → Record → Docket
with_step D o r = record { size = D.size; step_room = D.step_room; mark_room = D.mark_room; steps = entered D.steps o r }

abbrev pub enter : Docket → Origin → Record → Told ℕ Docket
enter D o r = (Ok (length D.steps + 1), with_step D o r)

-- ---- leaf

abbrev pub leaf_tests : Formula → Ground → Docket → List Literal → List Test
leaf_tests F G D ls =
    test (same_size F G D) by_docket SizesDiffer
    ∷ test (row_bound (order F.blocks) ls) by_leaf LeafUnbound
    ∷ test (rising 0 ls) by_leaf NotRising
    ∷ test (admits_leaf G ls) by_leaf NotAdmitted
    ∷ room_tests by_leaf D (marked ls)

-- the literals enter as a leaf
abbrev pub leaf : Formula → Ground → Docket → List Literal → Told ℕ Docket
leaf F G D ls = tested (leaf_tests F G D ls) D (enter D Leaf (marked ls))

-- ---- resolve

abbrev pub resolve_tests : Formula → Ground → Docket → ℕ → ℕ → ℕ → List Test
resolve_tests F G D p i j =
    let S = side_at F G in
    let r = marks_of D.steps i in
    let s = marks_of D.steps j in
    test (same_size F G D) by_docket SizesDiffer
    ∷ test (has_step D i && has_step D j) by_resolve NotEarlier
    ∷ test (opponents S p) by_resolve PivotNotOpponents
    ∷ test (pivot_marks p r s) by_resolve PivotMarks
    ∷ test (opponents_agree S p r s) by_resolve OpponentClash
    ∷ test (clashes_above S p r s) by_resolve OwnClash
    ∷ room_tests by_resolve D (resolved p r s)

-- the steps i and j are resolved on p
abbrev pub resolve : Formula → Ground → Docket → ℕ → ℕ → ℕ → Told ℕ Docket
resolve F G D p i j =
    tested (resolve_tests F G D p i j) D (enter D (Resolve p i j) (resolved p (marks_of D.steps i) (marks_of D.steps j)))

-- ---- reduce

abbrev pub reduce_tests : Formula → Ground → Docket → ℕ → List Test
reduce_tests F G D j =
    let S = side_at F G in
    let r = marks_of D.steps j in
    test (same_size F G D) by_docket SizesDiffer
    ∷ test (has_step D j) by_reduce NotEarlier
    ∷ test (some_var (over S r) r) by_reduce EmptyTail
    ∷ room_tests by_reduce D (reduced S r)

-- the tail of step j is taken off
abbrev pub reduce : Formula → Ground → Docket → ℕ → Told ℕ Docket
reduce F G D j = tested (reduce_tests F G D j) D (enter D (Reduce j) (reduced (side_at F G) (marks_of D.steps j)))

-- ---- close

abbrev pub close_tests : Formula → Ground → Docket → List Test
close_tests F G D =
    test (same_size F G D) by_docket SizesDiffer
    ∷ test (nat_le 1 (lowest_empty D.steps)) by_close NoEmptyRecord
    ∷ []

-- the verdict: the lowest step with an empty record
abbrev pub close : Formula → Ground → Docket → Told ℕ Docket
close F G D = tested (close_tests F G D) D (Ok (lowest_empty D.steps), D)
