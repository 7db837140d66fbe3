use Rattle.std.proofs.Common.{rules}
use Rattle.table.proofs.Appends.{begins, appended, left_out, all_appended}
use Rattle.table.proofs.slab.Table.append_joined.Goals as goal

pub loop-met-init : goal.loop-met-init
loop-met-init g c = begins _ _ _ c.args.self.now c.args.first c.args.second (search rules) (search rules)

pub loop-met-preserved-then-key-without : goal.loop-met-preserved-then-key-without
loop-met-preserved-then-key-without g c =
    appended _ _ _ _ _ _ c.loop-met.invariant c.as_slice.ensures c.in-Some.ensures c.joined-entry.ensures c.key.ensures c.if-key-without.true c.push.ensures

pub loop-met-preserved : goal.loop-met-preserved
loop-met-preserved g c =
    left_out _ _ _ _ _ _ c.loop-met.invariant c.as_slice.ensures c.in-Some.ensures c.joined-entry.ensures c.key.ensures c.if-key-without.false

pub returns : goal.returns
returns g c = all_appended _ _ _ _ _ _ c.loop-met.invariant c.as_slice.ensures c.in_default.ensures.cases.0
