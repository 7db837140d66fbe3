-- The worked examples compute.
use Rattle.std.proofs.Common.{refl, inl, inr}
use Rattle.game.specs.Records.{found, each_var, some_var, ceiling}
use Rattle.game.specs.Plays.{phase_within, phase, lowest}
use Rattle.game.specs.Game.{Wins}
use Rattle.game.specs.Leaves.{rising, each_literal, marked}
use Rattle.game.specs.Functions.{merge_from, merge, kept}
use Rattle.game.specs.Grounds.{some_literal, some_row, each_row}
use Rattle.game.specs.Examples.{Examples}

pub examples : Examples
unfolding found each_var some_var ceiling phase_within phase lowest Wins rising each_literal marked merge_from merge kept some_literal some_row each_row
examples = record {
  K_formed = refl;
  leaf_1 = refl;
  leaf_2 = refl;
  leaf_3 = refl;
  leaf_4 = refl;
  step_5 = refl;
  step_6 = refl;
  step_7 = refl;
  step_8 = refl;
  verdict_8 = refl;
  chose_0 = refl;
  chose_1 = refl;
  witness_3 = refl;
  K_false = (inl ((refl, refl), (refl, refl)), inr ((refl, refl), (refl, refl)));
  lowest_decides = refl;
  step_6' = refl;
  step_8' = refl;
  step_9' = refl;
  chose_0' = refl;
  chose_1' = refl;
  nobody_chose = refl;
  no_witness = refl;
  met_6 = refl;
  by_level = refl;
  no_pivot = refl;
  no_tail = refl;
  own_clash = refl;
  opponent_clash = refl;
  clash_order = refl;
  own_pivot = refl;
  unbound_pivot = refl;
  Q_formed = refl;
  admitted_1 = refl;
  admitted_2 = refl;
  not_admitted = refl;
  cube_step_3 = refl;
  cube_step_4 = refl;
  cube_verdict = refl;
  cube_chose_1 = refl;
  Q_true = (inr refl, inl refl);
}
