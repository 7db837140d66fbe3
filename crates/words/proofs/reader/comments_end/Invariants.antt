use Rattle.std.proofs.Common.{length}
use Rattle.words.proofs.Comments.{Behind}
use Rattle.words.proofs.reader.comments_end.Given as goal

abbrev pub invariant-loop-rest : goal.invariant-loop-rest
invariant-loop-rest l = Behind l.text l.rest

abbrev pub decreases-loop-rest : goal.decreases-loop-rest
decreases-loop-rest l = length l.rest
