use Rattle.std.proofs.Common.{◌≡◌, ltb, Err, length, take, pred, filter, sym, ap, ◌∙◌, subst, rules}
use Rattle.std.specs.Result.{result_ok}
use Rattle.refusal.specs.declared.Layer.TheVariants.{Reduce as by_reduce}
use Rattle.table.specs.Joins.{part}
use Rattle.table.specs.Entries.{entries, Grown}
use Rattle.table.proofs.Growth.{grown_whole}
use Rattle.qdimacs.specs.Kept.{sealed_formula}
use Rattle.game.specs.declared.record.Entry.{Entry}
use Rattle.game.specs.declared.record.Origin.TheVariants.{Reduce}
use Rattle.game.specs.Records.{Record, Side, over, some_var}
use Rattle.game.specs.Rules.{marks_of}
use Rattle.game.specs.Functions.{kept, reduced}
use Rattle.calls.specs.Dockets.{enter, reduce_tests, side_at}
use Rattle.docket.specs.Checks.{checked, room_for}
use Rattle.docket.specs.Models.{docket_of, Lies, LiesIn}
use Rattle.docket.specs.Sides.{seen, stays}
use Rattle.docket.proofs.Checks.{refused, passed}
use Rattle.docket.proofs.Entering.{entered_kept, entered_told}
use Rattle.docket.proofs.Reducing.{made, tail_told, kept_rises}
use Rattle.docket.proofs.Staying.{kept_filter}
use Rattle.docket.proofs.Steps.{rise_at}
use Rattle.docket.proofs.docket.Docket.reduce.Given.{Over}
use Rattle.docket.proofs.docket.Docket.reduce.Goals as goal
use Rattle.docket.proofs.docket.Docket.reduce.Goals.{After-kept_len-stay, After-enter}

-- the game, and the parent's record
abbrev game : (g : Over) → After-kept_len-stay g → Side
game g c = side_at (sealed_formula c.args.formula.now) (g.G.Ground.meaning c.args.own_ground.now)

abbrev parent : (g : Over) → After-kept_len-stay g → Record
parent g c = marks_of (docket_of c.args.self.now).steps c.args.parent

-- it lies in the span, and it is cut
lies : (g : Over) (c : After-kept_len-stay g) → LiesIn c.args.self.now c.args.parent c.in_ok-span.span
lies g c = (subst (Lies c.args.self.now c.args.parent) (c.ok_or.ensures.ok_part ∙ ap result_ok c.in_ok-span.was) c.span_of.ensures).cases

same : (g : Over) (c : After-kept_len-stay g) → c.of-record.result.now ≡ parent g c
same g c = c.of-record.ensures ∙ ap (part c.in_ok-span.span) c.as_slice.ensures ∙ (lies g c).marks

-- what stays of it is what the call enters
left : (g : Over) (c : After-kept_len-stay g) → kept (stays (seen c.of-cut.result.side) c.of-cut.result.ceiling) c.of-record.result.now ≡ reduced (game g c) (parent g c)
left g c =
    made (seen c.of-cut.result.side) (game g c) c.of-cut.result.ceiling c.of-record.result.now (parent g c) (c.of-cut.ensures.side ∙ c.of.ensures) (same g c)
    c.of-cut.ensures.ceiling

stay : (g : Over) (c : After-kept_len-stay g) → c.kept_len-stay.result ≡ length (reduced (game g c) (parent g c))
stay g c = c.kept_len-stay.ensures ∙ ap length (left g c)

-- there are fewer exactly where some variable goes
some_go : (g : Over) (c : After-kept_len-stay g) → some_var (over (game g c) (parent g c)) (parent g c) ≡ ltb c.kept_len-stay.result (length c.of-record.result.now)
some_go g c =
    sym
    (tail_told (seen c.of-cut.result.side) (game g c) c.of-cut.result.ceiling c.of-record.result.now (parent g c) (c.of-cut.ensures.side ∙ c.of.ensures) (same g c)
    c.of-cut.ensures.ceiling c.kept_len-stay.result c.kept_len-stay.ensures)

pub returns-in_err-check-clause-answer : goal.returns-in_err-check-clause-answer
returns-in_err-check-clause-answer g c =
    let at = (goal.at.returns-in_err-check-clause-answer g c).After-kept_len-stay in
    let goes = some_go g at in
    let there = (lies g at).there in
    search rules

pub returns-in_err-check_room-clause-answer : goal.returns-in_err-check_room-clause-answer
returns-in_err-check_room-clause-answer g c =
    let D = docket_of c.args.self.now in
    let at = (goal.at.returns-in_err-check_room-clause-answer g c).After-kept_len-stay in
    let r = reduced (game g at) (parent g at) in
    let goes = some_go g at in
    let there = (lies g at).there in
    let full : checked (room_for by_reduce D (length r)) ≡ Err c.in_err-check_room.field-0.0 = rw (← stay g at) (sym c.check_room.ensures.answer ∙ c.in_err-check_room.was) in
    record {
      is =
          refused D (enter D (Reduce c.args.parent) r)
          (take 3 (reduce_tests (sealed_formula c.args.formula.now) (g.G.Ground.meaning c.args.own_ground.now) D c.args.parent))
          (room_for by_reduce D (length r)) (search rules) full (search rules);
    }

-- there was room, so all of it has gone in
grown : (g : Over) (c : After-enter g)
    → let at = (goal.at.invariant_of-self g c).After-kept_len-stay in
    Grown c.args.self.now.marks (reduced (game g at) (parent g at)) c.append_kept.new.self
grown g c =
    let at = (goal.at.invariant_of-self g c).After-kept_len-stay in
    let f = stays (seen c.of-cut.result.side) c.of-cut.result.ceiling in
    let all = part c.in_ok-span.span (entries c.args.self.now.marks) in
    let cut : c.of-record.result.now ≡ all = c.of-record.ensures ∙ ap (part c.in_ok-span.span) c.as_slice.ensures in
    let made : filter (λ (e : Entry). f e.variable) all ≡ reduced (game g at) (parent g at) = sym (kept_filter f all) ∙ ap (kept f) (sym cut) ∙ left g at in
    grown_whole (reduced (game g at) (parent g at)) (rw made at (c.append_kept.ensures.passed (λ (e : Entry). f e.variable) (λ x b q k. search rules)))
    (rw (← stay g at) c.in_ok-check_room.ensures.room.1)

pub invariant_of-self : goal.invariant_of-self
invariant_of-self g c =
    let d = c.args.self.now in
    let all = entered_kept d.lie (grown g c) c.enter.ensures.stored c.len-end.ensures c.in_ok-check_room.ensures.room.0
    d.rise (kept_rises _ _ (rise_at (docket_of d).steps (pred c.args.parent) d.rise)) d.few in
    record { lie = all.0; rise = all.1; few = all.2 }

pub returns-clause-answer : goal.returns-clause-answer
returns-clause-answer g c =
    let D = docket_of c.args.self.now in
    let at = (goal.at.returns-clause-answer g c).After-kept_len-stay in
    let r = reduced (game g at) (parent g at) in
    let goes = some_go g at in
    let there = (lies g at).there in
    record {
      is =
          passed D (enter D (Reduce c.args.parent) r)
          (take 3 (reduce_tests (sealed_formula c.args.formula.now) (g.G.Ground.meaning c.args.own_ground.now) D c.args.parent))
          (room_for by_reduce D (length r)) (search rules) (rw (← stay g at) (sym c.check_room.ensures.answer ∙ c.in_ok-check_room.was))
          (entered_told c.args.self.now.lie (grown g (goal.at.returns-clause-answer g c).After-enter) c.enter.ensures.stored c.len-end.ensures c.in_ok-check_room.ensures.room.0 D.size
          (rw (← stay g at) c.in_ok-check_room.ensures.room.1) c.enter.ensures.number);
    }

pub returns-clause-memory : goal.returns-clause-memory
returns-clause-memory g c =
    record {
      cases = record {
        step = record { origin = Reduce c.args.parent; end = c.len-end.result };
        marks = _;
        steps_grown = c.enter.ensures.stored;
        marks_grown = grown g (goal.at.returns-clause-memory g c).After-enter;
      };
    }
