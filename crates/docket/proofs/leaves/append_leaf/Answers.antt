use Rattle.std.proofs.Common.{map, rules}
use Rattle.std.proofs.lemmas.Iterator.{YieldsList-from_slice, YieldsList-from_map}
use Rattle.std.proofs.lemmas.Iterator.Consumers.{YieldsList-at}
use Rattle.game.specs.Leaves.{entry_from}
use Rattle.docket.proofs.Leaf.{marked_map}
use Rattle.docket.proofs.leaves.append_leaf.Goals as goal

pub returns : goal.returns
returns c =
    rw marked_map
    (c.extend.ensures.given (map entry_from c.args.literals.now)
    (YieldsList-from_map _ entry_from (YieldsList-at c.map.ensures.source (YieldsList-from_slice _ c.iter.ensures.rest)) c.map.ensures.closure (λ x r q k. search rules)).runs)
