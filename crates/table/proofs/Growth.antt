-- What a caller of `extend` and its like may want who knows that there is room.
use Rattle.std.proofs.Common.{◌≤◌, List, length, take}
use Rattle.table.specs.declared.slab.Table.{Table}
use Rattle.table.specs.Entries.{free, Grown}
use Rattle.table.proofs.Pushes.{grown_all}

-- entries that go in as far as there is room all go in
pub grown_whole : {T : Type 0} {before after : Table T} (new : List T) → Grown before (take (length (free before)) new) after → length new ≤ length (free before)
    → Grown before new after
grown_whole {before} new grown fits = grown_all new (length (free before)) grown fits
