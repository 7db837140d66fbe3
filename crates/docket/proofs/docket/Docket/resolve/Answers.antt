use Rattle.std.proofs.Common.{◌≡◌, ◌&&◌, true, List, ◌++◌, Err, Ok, length, take, pred, sym, ap, ap₂, ◌∙◌, subst, rules}
use Rattle.std.proofs.lemmas.Bool.{and_from}
use Rattle.std.specs.Result.{result_ok}
use Rattle.refusal.specs.declared.Layer.TheVariants.{Resolve as by_resolve}
use Rattle.table.specs.Joins.{part, join_but}
use Rattle.table.specs.Entries.{entries, Grown}
use Rattle.table.proofs.Growth.{grown_whole}
use Rattle.qdimacs.specs.Kept.{sealed_formula}
use Rattle.game.specs.declared.record.Origin.TheVariants.{Resolve}
use Rattle.game.specs.Records.{Record, Side}
use Rattle.game.specs.Rules.{marks_of}
use Rattle.game.specs.Functions.{joined_entry, resolved}
use Rattle.calls.specs.Tests.{Test}
use Rattle.calls.specs.Dockets.{enter, has_step, resolve_tests, side_at}
use Rattle.docket.specs.Checks.{checked, parents_tests, room_for}
use Rattle.docket.specs.Models.{docket_of, LieBoth, LiesIn}
use Rattle.docket.specs.Sides.{seen}
use Rattle.docket.proofs.Checks.{checked_on, checked_out, refused, passed}
use Rattle.docket.proofs.Entering.{entered_kept, entered_told}
use Rattle.docket.proofs.Joining.{variable_of, resolved_join, resolved_rises}
use Rattle.docket.proofs.Steps.{rise_at}
use Rattle.docket.proofs.docket.Docket.resolve.Given.{Over}
use Rattle.docket.proofs.docket.Docket.resolve.Goals as goal
use Rattle.docket.proofs.docket.Docket.resolve.Goals.{After-of-3, After-enter}

-- the game, and the parents' records
abbrev game : (g : Over) → After-of-3 g → Side
game g c = side_at (sealed_formula c.args.formula.now) (g.G.Ground.meaning c.args.own_ground.now)

abbrev one : (g : Over) → After-of-3 g → Record
one g c = marks_of (docket_of c.args.self.now).steps c.args.first

abbrev other : (g : Over) → After-of-3 g → Record
other g c = marks_of (docket_of c.args.self.now).steps c.args.second

-- they lie in the spans
both : (g : Over) (c : After-of-3 g) → LiesIn c.args.self.now c.args.first c.in_ok-spans.spans.0 × LiesIn c.args.self.now c.args.second c.in_ok-spans.spans.1
both g c = (subst (LieBoth c.args.self.now c.args.first c.args.second) (c.ok_or.ensures.ok_part ∙ ap result_ok c.in_ok-spans.was) c.spans_of.ensures).cases

there : (g : Over) (c : After-of-3 g) → (has_step (docket_of c.args.self.now) c.args.first && has_step (docket_of c.args.self.now) c.args.second) ≡ true
there g c = and_from _ _ (both g c).0.there (both g c).1.there

same_one : (g : Over) (c : After-of-3 g) → c.of-2.result.now ≡ one g c
same_one g c = c.of-2.ensures ∙ ap (part c.in_ok-spans.spans.0) c.as_slice-marks.ensures ∙ (both g c).0.marks

same_other : (g : Over) (c : After-of-3 g) → c.of-3.result.now ≡ other g c
same_other g c = c.of-3.ensures ∙ ap (part c.in_ok-spans.spans.1) c.as_slice-marks.ensures ∙ (both g c).1.marks

-- what is asked of them
abbrev asked : (g : Over) → After-of-3 g → List Test
asked g c = parents_tests (game g c) c.args.pivot (one g c) (other g c)

tests : (g : Over) (c : After-of-3 g) → parents_tests (seen c.of.result) c.args.pivot c.of-2.result.now c.of-3.result.now ≡ asked g c
tests g c =
    ap (λ S. parents_tests S c.args.pivot c.of-2.result.now c.of-3.result.now) c.of.ensures
    ∙ ap₂ (parents_tests (game g c) c.args.pivot) (same_one g c) (same_other g c)

pub invariant_of-parents : goal.invariant_of-parents
invariant_of-parents g c =
    let at = (goal.at.invariant_of-parents g c).After-of-3 in
    let steps = (docket_of c.args.self.now).steps in
    record { rise = (rw (same_one g at) (rise_at steps (pred c.args.first) c.args.self.now.rise), rw (same_other g at) (rise_at steps (pred c.args.second) c.args.self.now.rise)) }

pub returns-in_err-check-clause-answer : goal.returns-in_err-check-clause-answer
returns-in_err-check-clause-answer g c =
    let D = docket_of c.args.self.now in
    let at = (goal.at.returns-in_err-check-clause-answer g c).After-of-3 in
    let r = resolved c.args.pivot (one g at) (other g at) in
    let has = there g at in
    let out : checked (asked g at) ≡ Err c.in_err-check.field-0.0 = sym (ap checked (tests g at)) ∙ sym c.check.ensures ∙ c.in_err-check.was in
    record {
      is =
          refused D (enter D (Resolve c.args.pivot c.args.first c.args.second) r)
          (take 2 (resolve_tests (sealed_formula c.args.formula.now) (g.G.Ground.meaning c.args.own_ground.now) D c.args.pivot c.args.first c.args.second))
          (asked g at ++ room_for by_resolve D (length r)) (search rules)
          (checked_out (asked g at) (room_for by_resolve D (length r)) out) (search rules);
    }

pub returns-in_err-check_room-clause-answer : goal.returns-in_err-check_room-clause-answer
returns-in_err-check_room-clause-answer g c =
    let D = docket_of c.args.self.now in
    let at = (goal.at.returns-in_err-check_room-clause-answer g c).After-of-3 in
    let r = resolved c.args.pivot (one g at) (other g at) in
    let has = there g at in
    let long : c.resolved_len.result ≡ length r = c.resolved_len.ensures ∙ ap₂ (λ a b. length (resolved c.args.pivot a b)) (same_one g at) (same_other g at) in
    let fine : checked (asked g at) ≡ Ok tt = sym (ap checked (tests g at)) ∙ sym c.check.ensures ∙ c.in_ok-check.was in
    let full : checked (room_for by_resolve D (length r)) ≡ Err c.in_err-check_room.field-0.0 = rw (← long) (sym c.check_room.ensures.answer ∙ c.in_err-check_room.was) in
    record {
      is =
          refused D (enter D (Resolve c.args.pivot c.args.first c.args.second) r)
          (take 2 (resolve_tests (sealed_formula c.args.formula.now) (g.G.Ground.meaning c.args.own_ground.now) D c.args.pivot c.args.first c.args.second))
          (asked g at ++ room_for by_resolve D (length r)) (search rules)
          (checked_on (asked g at) (room_for by_resolve D (length r)) fine ∙ full) (search rules);
    }

-- there was room, so all of it has gone in
grown : (g : Over) (c : After-enter g)
    → let at = (goal.at.invariant_of-self g c).After-of-3 in
    Grown c.args.self.now.marks (resolved c.args.pivot (one g at) (other g at)) c.append_joined.new.self
grown g c =
    let at = (goal.at.invariant_of-self g c).After-of-3 in
    let r = resolved c.args.pivot (one g at) (other g at) in
    let long : c.resolved_len.result ≡ length r = c.resolved_len.ensures ∙ ap₂ (λ a b. length (resolved c.args.pivot a b)) (same_one g at) (same_other g at) in
    let made : join_but variable_of joined_entry c.args.pivot (part c.in_ok-spans.spans.0 (entries c.args.self.now.marks)) (part c.in_ok-spans.spans.1 (entries c.args.self.now.marks)) ≡ r
    = ap₂ (join_but variable_of joined_entry c.args.pivot) (both g at).0.marks (both g at).1.marks ∙ sym (resolved_join c.args.pivot (one g at) (other g at)) in
    grown_whole r (rw made at c.append_joined.ensures) (rw (← long) c.in_ok-check_room.ensures.room.1)

pub invariant_of-self : goal.invariant_of-self
invariant_of-self g c =
    let d = c.args.self.now in
    let at = (goal.at.invariant_of-self g c).After-of-3 in
    let steps = (docket_of d).steps in
    let all = entered_kept d.lie (grown g c) c.enter.ensures.stored c.len-end.ensures c.in_ok-check_room.ensures.room.0
    d.rise (resolved_rises c.args.pivot _ _ (rise_at steps (pred c.args.first) d.rise) (rise_at steps (pred c.args.second) d.rise)) d.few in
    record { lie = all.0; rise = all.1; few = all.2 }

pub returns-clause-answer : goal.returns-clause-answer
returns-clause-answer g c =
    let D = docket_of c.args.self.now in
    let at = (goal.at.returns-clause-answer g c).After-of-3 in
    let r = resolved c.args.pivot (one g at) (other g at) in
    let has = there g at in
    let long : c.resolved_len.result ≡ length r = c.resolved_len.ensures ∙ ap₂ (λ a b. length (resolved c.args.pivot a b)) (same_one g at) (same_other g at) in
    let fine : checked (asked g at) ≡ Ok tt = sym (ap checked (tests g at)) ∙ sym c.check.ensures ∙ c.in_ok-check.was in
    let room : checked (room_for by_resolve D (length r)) ≡ Ok tt = rw (← long) (sym c.check_room.ensures.answer ∙ c.in_ok-check_room.was) in
    record {
      is =
          passed D (enter D (Resolve c.args.pivot c.args.first c.args.second) r)
          (take 2 (resolve_tests (sealed_formula c.args.formula.now) (g.G.Ground.meaning c.args.own_ground.now) D c.args.pivot c.args.first c.args.second))
          (asked g at ++ room_for by_resolve D (length r)) (search rules)
          (checked_on (asked g at) (room_for by_resolve D (length r)) fine ∙ room)
          (entered_told c.args.self.now.lie (grown g (goal.at.returns-clause-answer g c).After-enter) c.enter.ensures.stored c.len-end.ensures c.in_ok-check_room.ensures.room.0 D.size
          (rw (← long) c.in_ok-check_room.ensures.room.1) c.enter.ensures.number);
    }
