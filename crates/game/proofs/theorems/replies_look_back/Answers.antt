use Rattle.game.proofs.Replies.{replies_look_back}
use Rattle.game.proofs.theorems.replies_look_back.Goals as goal

pub returns : goal.returns
returns c = replies_look_back
