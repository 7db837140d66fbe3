use Rattle.std.proofs.Common.{◌≡◌, ◌+◌, length, take, drop}
use Rattle.table.proofs.slab.filling.fill.Given as goal

-- what came stands in the first slots, and as many items may still come as there are further slots
abbrev pub invariant-loop-item : goal.invariant-loop-item
invariant-loop-item g l = record {
  left : l.item-iterator.n + l.filled ≡ length l.initial.slots;
  taken : l.filled ≡ length l.yielded;
  written : take l.filled l.slots ≡ l.yielded;
  rest : drop l.filled l.slots ≡ drop l.filled l.initial.slots;
}
