use Rattle.std.proofs.Common.{◌≡◌, length, take, sym, ◌∙◌, rules}
use Rattle.refusal.specs.declared.Layer.TheVariants.{Leaf as by_leaf}
use Rattle.qdimacs.specs.Kept.{sealed_formula}
use Rattle.game.specs.declared.record.Origin.TheVariants.{Leaf}
use Rattle.game.specs.Leaves.{marked}
use Rattle.table.specs.Entries.{Grown}
use Rattle.table.proofs.Growth.{grown_whole}
use Rattle.calls.specs.Dockets.{enter, leaf_tests}
use Rattle.docket.specs.Checks.{checked, room_for}
use Rattle.docket.specs.Models.{docket_of}
use Rattle.docket.proofs.Checks.{refused, passed}
use Rattle.docket.proofs.Entering.{entered_kept, entered_told}
use Rattle.docket.proofs.Leaf.{length_marked, marked_rises}
use Rattle.docket.proofs.docket.Docket.leaf.Given.{Over}
use Rattle.docket.proofs.docket.Docket.leaf.Goals as goal
use Rattle.docket.proofs.docket.Docket.leaf.Goals.{After-check_room, After-append_leaf}

-- the last check is of the room for the marks of the literals
room : (g : Over) (c : After-check_room g) → c.check_room.result ≡ checked (room_for by_leaf (docket_of c.args.self.now) (length (marked c.args.literals.now)))
room g c = rw length_marked c.check_room.ensures.answer

pub returns-in_err-check_room-clause-answer : goal.returns-in_err-check_room-clause-answer
returns-in_err-check_room-clause-answer g c =
    let D = docket_of c.args.self.now in
    let ls = c.args.literals.now in
    record {
      is =
          refused D (enter D Leaf (marked ls)) (take 4 (leaf_tests (sealed_formula c.args.formula.now) (g.G.Ground.meaning c.args.own_ground.now) D ls))
          (room_for by_leaf D (length (marked ls))) (search rules)
          (sym (room g (goal.at.returns-in_err-check_room-clause-answer g c).After-check_room) ∙ c.in_err-check_room.was) (search rules);
    }

-- there was room, so all the marks have gone in
grown : (g : Over) (c : After-append_leaf g) → Grown c.args.self.now.marks (marked c.args.literals.now) c.append_leaf.new.marks
grown g c = grown_whole (marked c.args.literals.now) c.append_leaf.ensures (rw length_marked c.in_ok-check_room.ensures.room.1)

pub invariant_of-self : goal.invariant_of-self
invariant_of-self g c =
    let d = c.args.self.now in
    let all = entered_kept d.lie (grown g (goal.at.invariant_of-self g c).After-append_leaf) c.enter.ensures.stored c.len-end.ensures c.in_ok-check_room.ensures.room.0
    d.rise (marked_rises 0 c.args.literals.now (search rules)) d.few in
    record { lie = all.0; rise = all.1; few = all.2 }

pub returns-clause-answer : goal.returns-clause-answer
returns-clause-answer g c =
    let D = docket_of c.args.self.now in
    let ls = c.args.literals.now in
    let at = goal.at.returns-clause-answer g c in
    record {
      is =
          passed D (enter D Leaf (marked ls)) (take 4 (leaf_tests (sealed_formula c.args.formula.now) (g.G.Ground.meaning c.args.own_ground.now) D ls))
          (room_for by_leaf D (length (marked ls))) (search rules) (sym (room g at.After-check_room) ∙ c.in_ok-check_room.was)
          (entered_told c.args.self.now.lie (grown g at.After-append_leaf) c.enter.ensures.stored c.len-end.ensures c.in_ok-check_room.ensures.room.0 D.size
          (rw length_marked c.in_ok-check_room.ensures.room.1) c.enter.ensures.number);
    }
