use Rattle.std.proofs.Common.{sym, ◌∙◌, rules}
use Rattle.std.proofs.lemmas.List.Sorted.{answers_always}
use Rattle.game.specs.declared.record.Entry.{Entry}
use Rattle.docket.proofs.Looking.{Searched, found_at, not_there}
use Rattle.docket.proofs.look.mark_of.Goals as goal
use Rattle.docket.proofs.look.mark_of.Goals.{After-binary_search_by_key}

searched : (c : After-binary_search_by_key) → Searched c.args.marks.now c.args.variable c.binary_search_by_key.result
searched c = c.binary_search_by_key.ensures.position (λ (e : Entry). e.variable) (answers_always _ _ _ (λ f a r q k. search rules))

pub returns-in_err-place : goal.returns-in_err-place
returns-in_err-place c =
    rw c.from_residual.ensures
    (not_there c.args.marks.now c.args.variable c.requires c.binary_search_by_key.result (searched (goal.at.returns-in_err-place c).After-binary_search_by_key)
    (sym c.ok.ensures.value ∙ c.in_err-place.was))

pub returns : goal.returns
returns c =
    found_at c.args.marks.now c.args.variable c.requires c.binary_search_by_key.result c.in_ok-place.place
    (searched (goal.at.returns c).After-binary_search_by_key) c.binary_search_by_key.ensures.bound (sym c.ok.ensures.value ∙ c.in_ok-place.was)
