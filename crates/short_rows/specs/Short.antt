-- A ground that admits only the short rows of a formula.
use Rattle.std.specs.Prelude.{ℕ, ◌&&◌, length, nat_le}
use Rattle.formula.specs.declared.letter.Letter.TheVariants.{Universal}
use Rattle.formula.specs.Formula.{Formula}
use Rattle.game.specs.Grounds.{Ground, clause_ground, some_false, leaf_over}

-- as the clause ground, but for rows of more than `most` literals, which it does not admit
abbrev pub short_ground : ℕ → Formula → Ground
short_ground most F = record {
  own = Universal;
  formula = F;
  won = some_false F;
  admits = λ ls. nat_le (length ls) most && (leaf_over F ls && (clause_ground F).admits ls);
}
