use Rattle.std.proofs.Common.{◌≡◌, List, eqb, not, filter, length, sym, ap, ap₂, ◌∙◌, rules, inl, arith}
use Rattle.std.proofs.lemmas.Iterator.{YieldsList-from_map}
use Rattle.std.proofs.lemmas.Iterator.Consumers.{YieldsList-at, YieldsList-from_first, YieldsList-from_filter, count_from_yields_List}
use Rattle.table.specs.Joins.{ahead, outcome, meetings}
use Rattle.table.proofs.Joins.{join_met}
use Rattle.game.specs.declared.record.Entry.{Entry}
use Rattle.game.specs.Functions.{joined_entry}
use Rattle.docket.proofs.Joining.{variable_of, resolved_join, meets_few}
use Rattle.docket.proofs.parents.Parents.resolved_len.Goals as goal

pub count-requires-clause-fits : goal.count-requires-clause-fits
count-requires-clause-fits c =
    let walk = ap (λ m. m.iter) c.filter.ensures.source ∙ c.map.ensures.source in
    inl
    (rw walk
    (omega (arith, meets_few c.new.result.first.now c.new.result.second.now, ap length c.new.ensures.first, ap length c.new.ensures.second, c.both_len-most.ensures, c.both_len-most.type_inv)))

pub returns : goal.returns
returns c =
    let p = c.args.self.now.pivot in
    let r = c.args.self.now.first.now in
    let s = c.args.self.now.second.now in
    let meets : ahead variable_of c.new.result ≡ meetings variable_of r s = ap₂ (meetings variable_of) c.new.ensures.first c.new.ensures.second in
    count_from_yields_List c.filter.result c.count.result c.count.ensures.ran
    (YieldsList-from_filter _ (λ (x : Entry). not (eqb x.variable p))
    (YieldsList-at c.filter.ensures.source
    (YieldsList-from_map _ (outcome joined_entry) (YieldsList-at c.map.ensures.source (YieldsList-from_first (λ x. x) (ahead variable_of) _ meets)) c.map.ensures.closure (λ x w q k. search rules)))
    c.filter.ensures.closure (λ x b q k. search rules))
    ∙ ap (λ (l : List Entry). length (filter (λ (x : Entry). not (eqb x.variable p)) l)) (sym (join_met variable_of joined_entry r s)) ∙ ap length (sym (resolved_join p r s))
