use Rattle.std.proofs.Common.{length, refl, ap, ◌∙◌, arith}
use Rattle.table.proofs.Heads.{at_end, goes_on}
use Rattle.table.proofs.join.steps.WalkIterator.next.Goals as goal

pub returns-in_err-met-clause-stepped : goal.returns-in_err-met-clause-stepped
returns-in_err-met-clause-stepped g c =
    rw c.from_residual.ensures
    (at_end _ c.args.self.now (c.copied.ensures ∙ c.first.ensures.value) (c.copied-2.ensures ∙ c.first-2.ensures.value) c.meet.ensures c.in_err-met.was)

pub returns-in_err-met-clause-steps : goal.returns-in_err-met-clause-steps
returns-in_err-met-clause-steps g c =
    let none = at_end g.T.Keyed.key c.args.self.now (c.copied.ensures ∙ c.first.ensures.value) (c.copied-2.ensures ∙ c.first-2.ensures.value) c.meet.ensures c.in_err-met.was in
    rw c.from_residual.ensures (none.cases.0, none.cases.0)

pub returns-clause-stepped : goal.returns-clause-stepped
returns-clause-stepped g c =
    goes_on _ c.args.self.now (c.copied.ensures ∙ c.first.ensures.value) (c.copied-2.ensures ∙ c.first-2.ensures.value) _ c.meet.ensures c.in_ok-met.was c.takes-first.ensures _ refl refl

pub returns-clause-steps : goal.returns-clause-steps
returns-clause-steps g c = (returns-clause-stepped g c).cases.0

pub returns-clause-goes : goal.returns-clause-goes
returns-clause-goes g c =
    let less = ap length (returns-clause-steps g c) in
    record { on = λ _. (tt, tt, omega arith); keeps = tt; rests = λ _. tt }
