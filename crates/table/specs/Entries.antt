-- What a table holds, as two lists: its entries, and the slots that are still free.
use Rattle.std.specs.Prelude.{◌≡◌, ℕ, ◌<◌, ◌≤◌, List, [], ◌∷◌, ◌++◌, length, take, drop, Result, MatchResult}
use Rattle.table.specs.declared.slab.Full.{Full}
use Rattle.table.specs.declared.slab.Table.{Table}

module _ {T : Type 0} where
  -- the entries, in the order in which they came
  abbrev pub entries : Table T → List T
  entries t = take t.len t.slots.now

  -- what the free slots hold; together with the entries this is all of the table's memory
  abbrev pub free : Table T → List T
  free t = drop t.len t.slots.now

  -- the entries `new` stand after the old ones, in what were the first free slots, and no other slot has changed
  pub record Grown (before : Table T) (new : List T) (after : Table T) : Type 0 where
    pub longer : entries after ≡ entries before ++ new
    pub rest : free after ≡ drop (length new) (free before)
    -- the slots are the same memory, so that their owner learns what they hold
    pub stays : after.slots.ghost_name ≡ before.slots.ghost_name

  -- some entries stand after the old ones, as many at most as there were free slots, and no other slot has changed
  pub record Longer (before after : Table T) : Type 0 where
    pub new : List T
    pub fits : length new ≤ length (free before)
    pub grown : Grown before new after

  -- the first n slots hold what there was of `new`, as far as there were slots, and no other slot has changed
  pub record Filled (before new : List T) (n : ℕ) (after : List T) : Type 0 where
    pub count : n ≡ length (take (length before) new)
    pub written : take n after ≡ take (length before) new
    pub rest : drop n after ≡ drop n before

  -- no slot has changed, and they are the same memory
  pub record Same (before after : Table T) : Type 0 where
    pub kept : entries after ≡ entries before
    pub rest : free after ≡ free before
    pub stays : after.slots.ghost_name ≡ before.slots.ghost_name

  -- What a call of `push` does: where a slot is free, x is the new last entry and the result is its place;
  -- where none is, the call refuses and nothing has changed.
  pub record Pushed (before : Table T) (x : T) (r : Result ℕ Full) (after : Table T) : Type 0 where
    pub cases :
        MatchResult r
        (λ i. (0 < length (free before)) × (i ≡ length (entries before)) × Grown before (x ∷ []) after)
        (λ _. (free before ≡ []) × Same before after)
