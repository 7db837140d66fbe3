use Rattle.std.proofs.Common.{◌≤◌, length, refl, ap, arith, rules, length-take, length-drop}
use Rattle.std.proofs.lemmas.List.{take_rest}
use Rattle.std.proofs.lemmas.Slice.{overwrites}
use Rattle.table.proofs.Filling.{filled_to_end, rest_to_end, size_to_end, grown_filled, longer_by}
use Rattle.table.proofs.slab.Table.extend.Goals as goal

pub returns-clause-given : goal.returns-clause-given
returns-clause-given g c all gives =
    let t = c.args.self.now in
    grown_filled t c.len-used.ensures (λ _. all) (search (rules, overwrites))
    (filled_to_end t.slots.now all c.len-used.result c.fill.result {filled = c.fill.new.slots} (omega (arith, c.len-used.ensures, length-take t.len t.slots.now))
    (c.fill.ensures.filled all gives)) refl refl

pub returns-clause-longer : goal.returns-clause-longer
returns-clause-longer g c =
    let t = c.args.self.now in
    let within : c.len-used.result ≤ length t.slots.now = omega (arith, c.len-used.ensures, length-take t.len t.slots.now) in
    longer_by t c.len-used.ensures c.fill.result (search (rules, overwrites)) (rest_to_end t.slots.now c.len-used.result c.fill.result c.fill.new.slots within c.fill.ensures.rest)
    (omega (arith, within, c.fill.ensures.room, ap length (take_rest t.slots.now c.len-used.result), length-drop c.len-used.result t.slots.now))
    (size_to_end t.slots.now c.len-used.result c.fill.new.slots within c.fill.auto.slots) refl refl
