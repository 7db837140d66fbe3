use Rattle.std.proofs.Common.{◌≡◌, length, take, ap, ◌∙◌}
use Rattle.table.proofs.Filling.{taken}
use Rattle.table.proofs.slab.filling.fill.Goals as goal

pub returns-clause-filled : goal.returns-clause-filled
returns-clause-filled g c all gives =
    let same = c.into_iter-item-iterator.ensures.into_iter_gives in
    let came : c.loop-item.yielded ≡ take (length c.args.slots.now) all
    = taken g.I.Iterator.next_gives all _ _ _ gives (ap (λ t. t.iter) same ∙ c.take-item-items.ensures.source) (ap (λ t. t.n) same ∙ c.take-item-items.ensures.count)
    c.loop-item.yielded_by c.in-None.is c.next.ensures.steps in
    let now = c.loop-item.invariant in
    record { count = now.taken ∙ ap length came; written = now.written ∙ came; rest = now.rest }
