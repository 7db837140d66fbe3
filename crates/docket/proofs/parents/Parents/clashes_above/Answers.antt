use Rattle.std.proofs.Common.{◌≡◌, true, ◌||◌, not, ltb, ap₂, ◌∙◌, rules}
use Rattle.std.proofs.lemmas.Iterator.Consumers.{YieldsList-from_first}
use Rattle.std.proofs.lemmas.Iterator.Search.{all_from_yields_List}
use Rattle.table.specs.Joins.{ahead, meetings}
use Rattle.game.specs.Records.{Found, absent}
use Rattle.game.specs.Functions.{agree}
use Rattle.docket.specs.Sides.{seen}
use Rattle.docket.proofs.Clashing.{met, walked, clashes_alone}
use Rattle.docket.proofs.Joining.{variable_of}
use Rattle.docket.proofs.Steps.{rises_above}
use Rattle.docket.proofs.parents.Parents.clashes_above.Goals as goal

pub returns : goal.returns
returns c =
    let q = c.args.self.now in
    let S = seen q.side in
    let r = q.first.now in
    let s = q.second.now in
    let h = λ (x : _) (f k : Found). not (S.mine x) || (agree f k || ltb (S.level q.pivot) (S.level x)) in
    let alone : (x : _) (f : Found) → h x f absent ≡ true = λ x f. clashes_alone (not (S.mine x)) (ltb (S.level q.pivot) (S.level x)) f in
    let meets : ahead variable_of c.new.result ≡ meetings variable_of r s = ap₂ (meetings variable_of) c.new.ensures.first c.new.ensures.second in
    all_from_yields_List (met h alone) c.all.new.self _ _ c.all.ensures.ran (YieldsList-from_first (λ x. x) (ahead variable_of) {s = c.new.result} _ meets) (λ x b w k. search rules)
    ∙ walked h alone r s (rises_above 0 r q.rise.0) (rises_above 0 s q.rise.1)
