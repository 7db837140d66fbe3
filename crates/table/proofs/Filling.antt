-- The free slots of a table filled by what an iterator gives.
use Rattle.std.proofs.Common.{◌≡◌, ℕ, ◌+◌, ◌-◌, ◌≤◌, min, List, ◌++◌, length, take, drop, Option, None, sym, ap, ◌∙◌, subst, arith, length-append, length-take, length-drop}
use Rattle.std.proofs.Math.Seq.{take-add}
use Rattle.std.proofs.lemmas.List.{append-nil, drop-drop, drop_all, drop_at, length-take-le, map-id, take_min, take_rest, drop_min}
use borrow.Rule.Slice.PartMut.{put_mid}
use Rattle.std.proofs.lemmas.Iterator.{YieldsList-from_take}
use Rattle.std.proofs.lemmas.Iterator.Consumers.{YieldsList-at, YieldsList-end}
use Rattle.std.specs.Iterator.{AlwaysYields, Yields}
use Rattle.std.specs.Iterator.Adapters.{take_source, take_count, take_steps}
use Rattle.std.specs.declared.iter.Take.{Take}
use Rattle.table.specs.declared.slab.Table.{Table}
use Rattle.table.specs.Entries.{entries, free, Grown, Longer, Filled}

-- a loop takes at most n items from an iterator that gives a list
pub taken : {S A : Type 0} (steps : S → Option A → S → Type 0) (all : List A) {s : S} (n : ℕ) {start : Take S} (now end : Take S) {xs : List A} {r : Option A}
    → AlwaysYields steps (λ x. x) s all → take_source start ≡ s → take_count start ≡ n
    → Yields (take_steps steps) start xs now → r ≡ None → take_steps steps now r end → xs ≡ take n all
taken steps all n {start} now end {xs} {r} gives source count so_far is last =
    sym (map-id xs)
    ∙ (YieldsList-end (YieldsList-from_take {steps = steps} {v = λ x. x} {s = start} n (YieldsList-at source (record { runs = gives })) count) xs now so_far r end is last).0

-- the back part of the slots is filled, and the front part kept
pub filled_behind : {T : Type 0} (slots new : List T) (used n : ℕ) (front : List T) {back filled : List T} → length front ≡ used → back ≡ drop used slots
    → Filled back new n filled → Filled (drop used slots) new n (drop used (front ++ filled))
filled_behind slots new used n front {filled = filled} long unused fills = rw (← unused, drop_at front filled used long) fills

pub rest_behind : {T : Type 0} (slots : List T) (used n : ℕ) (front filled : List T) {back : List T} → length front ≡ used → back ≡ drop used slots
    → drop n filled ≡ drop n back → drop (used + n) (front ++ filled) ≡ drop (used + n) slots
rest_behind slots used n front filled long unused rest =
    sym (drop-drop n used (front ++ filled)) ∙ ap (drop n) (drop_at front filled used long) ∙ rest ∙ ap (drop n) unused ∙ drop-drop n used slots

-- the same where that part is written as `&mut slots[used..]`
put_to_end : {T : Type 0} (slots : List T) (used : ℕ) (filled : List T) → used ≤ length slots → put_mid used (length slots - used) slots filled ≡ take used slots ++ filled
put_to_end slots used filled within =
    ap (λ l. take used slots ++ l) (ap (λ l. filled ++ l) (drop_all (length slots - used) (drop used slots) (omega (arith, length-drop used slots))) ∙ append-nil filled)

pub filled_to_end : {T : Type 0} (slots new : List T) (used n : ℕ) {filled : List T} → used ≤ length slots → Filled (take (length slots - used) (drop used slots)) new n filled
    → Filled (drop used slots) new n (drop used (put_mid used (length slots - used) slots filled))
filled_to_end slots new used n {filled} within fills =
    subst (λ l. Filled (drop used slots) new n (drop used l)) (sym (put_to_end slots used filled within))
    (filled_behind slots new used n (take used slots) (length-take-le used slots within) (take_rest slots used) fills)

pub rest_to_end : {T : Type 0} (slots : List T) (used n : ℕ) (filled : List T) → used ≤ length slots → drop n filled ≡ drop n (take (length slots - used) (drop used slots))
    → drop (used + n) (put_mid used (length slots - used) slots filled) ≡ drop (used + n) slots
rest_to_end slots used n filled within rest =
    ap (drop (used + n)) (put_to_end slots used filled within) ∙ rest_behind slots used n (take used slots) filled (length-take-le used slots within) (take_rest slots used) rest

pub size_to_end : {T : Type 0} (slots : List T) (used : ℕ) (filled : List T) → used ≤ length slots → length filled ≡ length (take (length slots - used) (drop used slots))
    → length (put_mid used (length slots - used) slots filled) ≡ length slots
size_to_end slots used filled within same =
    ap length (put_to_end slots used filled within)
    ∙ omega (arith, length-append (take used slots) filled, length-take-le used slots within, same, ap length (take_rest slots used), length-drop used slots)

-- a table is parted at its length: the slots before it are its entries, and those behind it are free
module _ {T : Type 0} (before : Table T) {used : ℕ} (counts : used ≡ length (entries before)) where
  limit : used ≡ min before.len (length before.slots.now)
  limit = counts ∙ length-take before.len before.slots.now

  held : take used before.slots.now ≡ entries before
  held = ap (λ k. take k before.slots.now) limit ∙ take_min before.len before.slots.now

  unused : drop used before.slots.now ≡ free before
  unused = ap (λ k. drop k before.slots.now) limit ∙ drop_min before.len before.slots.now

  -- where those are filled by what is made of the entries, and the entries kept, it has grown
  pub grown_filled : {after : Table T} (new : List T → List T) {n : ℕ} → take used after.slots.now ≡ take used before.slots.now
      → Filled (drop used before.slots.now) (new (take used before.slots.now)) n (drop used after.slots.now) → after.len ≡ used + n
      → after.slots.ghost_name ≡ before.slots.ghost_name → Grown before (take (length (free before)) (new (entries before))) after
  grown_filled {after} new {n} same fills longer stays =
      let all : Filled (free before) (new (entries before)) n (drop used after.slots.now)
      = subst (λ l. Filled l (new (entries before)) n (drop used after.slots.now)) unused
      (subst (λ l. Filled (drop used before.slots.now) (new l) n (drop used after.slots.now)) held fills) in
      record {
        longer =
            ap (λ k. take k after.slots.now) longer ∙ take-add used n after.slots.now
            ∙ ap (λ l. l ++ take n (drop used after.slots.now)) (same ∙ held) ∙ ap (λ l. entries before ++ l) all.written;
        rest =
            ap (λ k. drop k after.slots.now) longer ∙ sym (drop-drop n used after.slots.now) ∙ all.rest
            ∙ ap (λ k. drop k (free before)) all.count;
        stays = stays;
      }

  -- and where nothing is known of what filled them, it has some entries more
  pub longer_by : {after : Table T} (n : ℕ) → take used after.slots.now ≡ take used before.slots.now → drop (used + n) after.slots.now ≡ drop (used + n) before.slots.now
      → used + n ≤ length before.slots.now → length after.slots.now ≡ length before.slots.now → after.len ≡ used + n
      → after.slots.ghost_name ≡ before.slots.ghost_name → Longer before after
  longer_by {after} n same rest within size longer stays =
      let came = take n (drop used after.slots.now) in
      let count : length came ≡ n = length-take-le n (drop used after.slots.now) (omega (arith, length-drop used after.slots.now)) in
      record {
        new = came;
        fits = omega (arith, count, ap length unused, length-drop used before.slots.now);
        grown = record {
          longer = ap (λ k. take k after.slots.now) longer ∙ take-add used n after.slots.now ∙ ap (λ l. l ++ came) (same ∙ held);
          rest =
              ap (λ k. drop k after.slots.now) longer ∙ rest ∙ sym (drop-drop n used before.slots.now) ∙ ap (drop n) unused
              ∙ ap (λ k. drop k (free before)) (sym count);
          stays = stays;
        };
      }
