use Rattle.table.proofs.Places.{at_end, steps_on}
use Rattle.table.proofs.join.SpanWalk.next.Goals as goal

pub returns-in_err-met : goal.returns-in_err-met
returns-in_err-met g c =
    rw c.from_residual.ensures (at_end g.T.Keyed.key c.args.all.now c.args.self.now c.head.ensures c.head-2.ensures c.meet.ensures c.in_err-met.was)

pub returns : goal.returns
returns g c =
    steps_on g.T.Keyed.key c.args.all.now c.args.self.now c.head.ensures c.head-2.ensures c.meet.ensures _ c.in_ok-met.was c.takes-first.ensures c.past-self.ensures c.past-self-2.ensures
