use Rattle.words.proofs.Parting.{words_are_parts}
use Rattle.words.proofs.laws.words_are_parts.Goals as goal

pub returns : goal.returns
returns c = words_are_parts
