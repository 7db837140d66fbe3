use Rattle.std.proofs.Common.{◌+◌, ◌^◌, ◌<◌, ◌≤◌}
use Rattle.formula_cases.proofs.main.Given as goal

abbrev pub invariant-loop-case : goal.invariant-loop-case
invariant-loop-case l =
    (goal.iterator-loop-case).can_next l.case-iterator ×
    (goal.iterator-loop-case).is_finite l.case-iterator ×
    (l.cases + (goal.iterator-loop-case).remaining l.case-iterator < 2 ^ 64) ×
    (l.wrong ≤ l.cases)
