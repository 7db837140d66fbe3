-- What the code answers where it goes through some of a call's tests.
use Rattle.std.specs.Prelude.{ℕ, ◌+◌, cond, List, [], ◌∷◌, length, Ok, Err, Result, nat_le, nat_lt}
use Rattle.refusal.specs.declared.Reason.TheVariants.{StepsFull, MarksFull, PivotNotOpponents, PivotMarks, OpponentClash, OwnClash}
use Rattle.refusal.specs.declared.Layer.{Layer}
use Rattle.refusal.specs.declared.Layer.TheVariants.{Resolve as by_resolve}
use Rattle.refusal.specs.declared.Refusal.{Refusal}
use Rattle.calls.specs.Tests.{Test, test}
use Rattle.calls.specs.Dockets.{Docket, all_marks}
use Rattle.game.specs.Records.{Side, Record}
use Rattle.game.specs.Functions.{opponents, pivot_marks, opponents_agree, clashes_above}

-- the refusal of the first test that fails, if one does
abbrev pub checked : List Test → Result (Unit {0}) Refusal
checked [] = Ok tt
checked (t ∷ ts) = cond t.holds (checked ts) (Err t.refusal)

-- the tests `room_tests` at a record of n marks
abbrev pub room_for : Layer → Docket → ℕ → List Test
room_for layer D n =
    test (nat_lt (length D.steps) D.step_room) layer StepsFull
    ∷ test (nat_le (length (all_marks D.steps) + n) D.mark_room) layer MarksFull
    ∷ []

-- what a resolve asks of the records r and s and the variable p that they are resolved on
abbrev pub parents_tests : Side → ℕ → Record → Record → List Test
parents_tests S p r s =
    test (opponents S p) by_resolve PivotNotOpponents
    ∷ test (pivot_marks p r s) by_resolve PivotMarks
    ∷ test (opponents_agree S p r s) by_resolve OpponentClash
    ∷ test (clashes_above S p r s) by_resolve OwnClash
    ∷ []
