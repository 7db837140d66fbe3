use Rattle.std.proofs.Common.{◌≡◌, ℕ, Bool, true, false, suc, length, sym, ap, ◌∙◌, arith, rules, tests}
use Rattle.std.proofs.lemmas.Iterator.{first_from_Range}
use Rattle.table.specs.Entries.{entries}
use Rattle.game.specs.Rules.{marks_of}
use Rattle.game.specs.Plays.{is_empty, lowest}
use Rattle.docket.specs.Models.{docket_of}
use Rattle.docket.proofs.Closing.{First, found, lowest_none, lowest_some}
use Rattle.docket.proofs.Steps.{step_count}
use Rattle.docket.proofs.docket.Docket.lowest_empty.Goals as goal
use Rattle.docket.proofs.docket.Docket.lowest_empty.Goals.{After-find}

-- a step's record is empty
abbrev empty : After-find → ℕ → Bool
empty c k = is_empty (marks_of (docket_of c.args.self.now).steps k)

-- what is found is the first such step
first : (c : After-find) → First (empty c) c.len.result c.find.result
first c =
    first_from_Range _ _ _ c.find.result (λ k. empty c (suc k) ≡ true) (λ k. empty c (suc k) ≡ false) c.find.ensures.ran (λ x q k. search (rules, tests))
    (λ x q k. search (rules, tests))

count : (c : After-find) → lowest (empty c) (length (docket_of c.args.self.now).steps) ≡ lowest (empty c) c.len.result
count c = ap (lowest (empty c)) (step_count (entries c.args.self.now.steps) (entries c.args.self.now.marks) ∙ sym c.len.ensures)

pub returns-in_err-place : goal.returns-in_err-place
returns-in_err-place c =
    let f = (goal.at.returns-in_err-place c).After-find in
    rw c.from_residual.ensures (count f ∙ lowest_none (empty f) f.len.result (first f) c.in_err-place.was)

pub overflow_cast-result : goal.overflow_cast-result
overflow_cast-result c =
    let f = (goal.at.overflow_cast-result c).After-find in
    omega (arith, (found (empty f) f.len.result c.in_ok-place.place (first f) c.in_ok-place.was).1, c.len.ensures, c.args.self.now.few)

pub overflow_add-result : goal.overflow_add-result
overflow_add-result c =
    let f = (goal.at.overflow_add-result c).After-find in
    omega (arith, (found (empty f) f.len.result c.in_ok-place.place (first f) c.in_ok-place.was).1, c.len.ensures, c.args.self.now.few)

pub returns : goal.returns
returns c =
    let f = (goal.at.returns c).After-find in
    (omega arith, count f ∙ lowest_some (empty f) f.len.result c.in_ok-place.place (first f) c.in_ok-place.was)
