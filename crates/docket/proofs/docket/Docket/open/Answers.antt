use Rattle.docket.proofs.Opening.{none_lie, none_rise, few_places, opens}
use Rattle.docket.proofs.docket.Docket.open.Goals as goal

pub invariant_of-result : goal.invariant_of-result
invariant_of-result c =
    let steps = c.new.result in
    let marks = c.new-2.result in
    let no_steps = c.new.ensures.none in
    let no_marks = c.new-2.ensures.none in record { lie = none_lie steps marks no_steps no_marks; rise = none_rise steps marks no_steps no_marks; few = few_places steps marks no_steps no_marks _ _ c.new.ensures.places c.new-2.ensures.places }

pub returns : goal.returns
returns c = record {
  new =
      opens c.new.result c.new-2.result c.new.ensures.none c.new-2.ensures.none _ _ c.new.ensures.places c.new-2.ensures.places
      c.args.n;
  free_steps = c.new.ensures.places;
  free_marks = c.new-2.ensures.places;
}
