-- What a ground answers of a list of literals.
use Rattle.std.specs.Prelude.{Bool, ◌&&◌, List}
use Rattle.formula.specs.declared.letter.Literal.{Literal}
use Rattle.game.specs.Grounds.{Ground, leaf_over}

-- the list is a leaf over the ground's formula, and the ground admits it
abbrev pub admits_leaf : Ground → List Literal → Bool
admits_leaf G ls = leaf_over G.formula ls && G.admits ls
