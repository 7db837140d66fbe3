use Rattle.game.proofs.Leaf.{witness_in_words}
use Rattle.game.proofs.theorems.witness_in_words.Goals as goal

pub returns : goal.returns
returns c = witness_in_words
