use Rattle.game.proofs.RulesAgree.{rules_agree}
use Rattle.game.proofs.theorems.rules_agree.Goals as goal

pub returns : goal.returns
returns c = rules_agree
