-- What a caller of `push` may want: how a table grows over one push, and over a loop of them.
use Rattle.std.proofs.Common.{◌≡◌, ℕ, ◌+◌, ◌-◌, ◌<◌, ◌≤◌, List, [], ◌∷◌, ◌++◌, length, get_or, take, drop, Ok, Err, Result, sym, refl, ap, ◌∙◌, subst, arith, length-drop, length-take}
use Rattle.std.proofs.lemmas.List.{length_push, length-append, append-nil, append_assoc, drop-drop, take_more, take_all, take-append-le}
use Rattle.table.specs.declared.slab.Full.{Full}
use Rattle.table.specs.declared.slab.Table.{Table}
use Rattle.table.specs.Entries.{entries, free, Grown, Pushed}

module _ {T : Type 0} where
  -- a loop of pushes: before its first turn nothing has grown, and a turn where there is room adds one entry
  pub grown_none : (t : Table T) → Grown t [] t
  grown_none t = record { longer = sym (append-nil _); rest = refl; stays = refl }

  pub grown_more : {before middle after : Table T} {new : List T} {x : T} {r : Result ℕ Full} → Grown before new middle → Pushed middle x r after → 0 < length (free middle) → Grown before (new ++ x ∷ []) after
  grown_more {before = before} {new = new} {x = x} {r = Ok i} front last room = record {
    longer = last.cases.2.longer ∙ ap (λ l. l ++ x ∷ []) front.longer ∙ append_assoc (entries before) new (x ∷ []);
    rest = last.cases.2.rest ∙ ap (drop 1) front.rest ∙ drop-drop 1 (length new) (free before) ∙ ap (λ n. drop n (free before)) (sym (length_push new x));
    stays = last.cases.2.stays ∙ front.stays;
  }
  grown_more {r = Err e} front last room = absurd (omega (arith, ap length last.cases.0))

  -- a loop of pushes that goes on where there is no more room: what was to be pushed has gone in as far as there was room
  pub grown_room : {before middle after : Table T} (done : List T) {x : T} {r : Result ℕ Full} → Grown before (take (length (free before)) done) middle → Pushed middle x r after → Grown before (take (length (free before)) (done ++ x ∷ [])) after
  grown_room {before} {after = after} done {x = x} {r = Ok i} front last =
      let held = length-take (length (free before)) done in
      let left = ap length front.rest ∙ length-drop (length (take (length (free before)) done)) (free before) in
      let room = last.cases.0 in
      let all : take (length (free before)) done ≡ done = take_all (length (free before)) done (omega arith) in
      let more : take (length (free before)) (done ++ x ∷ []) ≡ done ++ x ∷ [] = take_all (length (free before)) (done ++ x ∷ []) (omega (arith, length_push done x)) in
      subst (λ l. Grown before l after) (ap (λ l. l ++ x ∷ []) all ∙ sym more) (grown_more front last room)
  grown_room {before} {after = after} done {x = x} {r = Err e} front last =
      let held = length-take (length (free before)) done in
      let left = ap length front.rest ∙ length-drop (length (take (length (free before)) done)) (free before) in
      let none = ap length last.cases.0 in
      let same : take (length (free before)) (done ++ x ∷ []) ≡ take (length (free before)) done = take-append-le (length (free before)) done (x ∷ []) (omega arith) in
      subst (λ l. Grown before l after) (sym same) (record {
        longer = last.cases.1.kept ∙ front.longer;
        rest = last.cases.1.rest ∙ front.rest;
        stays = last.cases.1.stays ∙ front.stays;
      })

  -- no growth loses an entry
  pub grown_longer : {before after : Table T} {new : List T} → Grown before new after → length (entries before) ≤ length (entries after)
  grown_longer {before} {new = new} done = omega (arith, ap length done.longer, length-append (entries before) new)

  -- one push where there is room adds one entry
  pub grown_once : {before after : Table T} {x : T} {r : Result ℕ Full} → Pushed before x r after → 0 < length (free before) → Grown before (x ∷ []) after
  grown_once {r = Ok i} done room = done.cases.2
  grown_once {r = Err e} done room = absurd (omega (arith, ap length done.cases.0))

  -- a push, with or without room, loses no entry, and takes one slot if one is free
  pub push_grows : {before after : Table T} {x : T} {r : Result ℕ Full} → Pushed before x r after → length (entries before) ≤ length (entries after)
  push_grows {before = before} {x = x} {r = Ok i} done = omega (arith, ap length done.cases.2.longer, length_push (entries before) x)
  push_grows {r = Err e} done = omega (arith, ap length done.cases.1.kept)

  pub push_takes : {before after : Table T} {x : T} {r : Result ℕ Full} → Pushed before x r after → length (free after) ≡ length (free before) - 1
  push_takes {before = before} {r = Ok i} done = ap length done.cases.2.rest ∙ length-drop 1 (free before)
  push_takes {r = Err e} done = let none = ap length done.cases.0 in ap length done.cases.1.rest ∙ omega arith

  -- a loop that pushes the elements of a slice, one after the other: a turn, and what it comes to at the end
  pub grown_next : (xs : List T) (i : ℕ) (d : T) {before middle after : Table T} {r : Result ℕ Full} → Grown before (take i xs) middle → Pushed middle (get_or xs i d) r after → i < length xs → 0 < length (free middle) → Grown before (take (i + 1) xs) after
  grown_next xs i d {before = before} {after = after} front last more room =
      subst (λ l. Grown before l after) (sym (take_more xs i d more)) (grown_more front last room)

  pub grown_all : (xs : List T) (i : ℕ) {before after : Table T} → Grown before (take i xs) after → length xs ≤ i → Grown before xs after
  grown_all xs i {before} {after} done end = subst (λ l. Grown before l after) (take_all i xs end) done
