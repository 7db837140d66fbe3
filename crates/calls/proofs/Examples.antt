-- The worked examples compute.
use Rattle.std.proofs.Common.{refl}
use Rattle.game.specs.Records.{found, each_var, some_var, ceiling}
use Rattle.game.specs.Plays.{lowest}
use Rattle.game.specs.Leaves.{rising, each_literal, marked}
use Rattle.game.specs.Functions.{merge_from, merge, kept}
use Rattle.game.specs.Grounds.{some_literal, some_row, each_row}
use Rattle.calls.specs.Examples.{StepExamples}

pub step_examples : StepExamples
unfolding found each_var some_var ceiling lowest rising each_literal marked merge_from merge kept some_literal some_row each_row
step_examples = record {
  seven = record { start = refl; step_1 = refl; step_2 = refl; step_3 = refl; step_4 = refl; step_5 = refl; step_6 = refl; step_7 = refl };
  step_8 = refl;
  closed = refl;
  too_early = refl;
  no_pivot = refl;
  own_pivot = refl;
  no_tail = refl;
  C_start = refl;
  C_step_1 = refl;
  C_step_2 = refl;
  own_clash = refl;
  C_step_3 = refl;
  C_step_4 = refl;
  opponent_clash = refl;
  first_parent_0 = refl;
  first_parent_9 = refl;
  second_parent_0 = refl;
  second_parent_9 = refl;
  parent_9 = refl;
  unbound = refl;
  not_rising = refl;
  not_admitted = refl;
  seven_places = record { start = refl; step_1 = refl; step_2 = refl; step_3 = refl; step_4 = refl; step_5 = refl; step_6 = refl; step_7 = refl };
  steps_full = refl;
  few_start = refl;
  few_step_1 = refl;
  marks_full = refl;
  other_size = refl;
  Q_start = refl;
  Q_step_1 = refl;
  Q_step_2 = refl;
  Q_step_3 = refl;
  Q_step_4 = refl;
  Q_closed = refl;
}
