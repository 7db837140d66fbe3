use Rattle.game.proofs.Records.{tail_in_words}
use Rattle.game.proofs.theorems.tail_in_words.Goals as goal

pub returns : goal.returns
returns c = tail_in_words
