-- The join of two sorted lists of entries with keys, and the walk over two lists that makes it.
use Rattle.std.specs.Prelude.{◌≡◌, ℕ, ◌+◌, ◌-◌, ◌<◌, min, cond, not, List, [], ◌∷◌, map, filter, drop, Some, None, Option, MatchOption, ◌==◌, nat_lt}
use Rattle.std.specs.List.{between}
use Rattle.table.specs.declared.join.Meeting.{Meeting}
use Rattle.table.specs.declared.join.Meeting.TheVariants.{First, Second, Both}
use Rattle.table.specs.declared.join.Span.{Span}
use Rattle.table.specs.declared.join.SpanWalk.{SpanWalk}
use Rattle.table.specs.declared.join.Walk.{Walk}

-- the part of a list that a span names; it is shorter where the list ends before the span, and empty where the span is backward
abbrev pub part : {T : Type 0} → Span → List T → List T
part s xs = between s.from s.to xs

-- the places of a span that are below n
abbrev pub below : ℕ → Span → Span
below n s = record { from = s.from; to = min s.to n }

-- the places of a span but for the first n
abbrev pub past : ℕ → Span → Span
past n s = record { from = s.from + n; to = s.to }

-- ---- the join, where `key` is the key of an entry, and `both` makes one entry of two that have the same key

module _ {T : Type 0} (key : T → ℕ) (both : T → T → T) where
  -- x is the first list's next entry, `rest` joins its later ones with a list, and the second list is given
  unfoldable pub join_from : T → (List T → List T) → List T → List T
  join_from x rest [] = x ∷ rest []
  join_from x rest (y ∷ ys) =
      cond (nat_lt (key x) (key y)) (x ∷ rest (y ∷ ys))
      (cond (nat_lt (key y) (key x)) (y ∷ join_from x rest ys)
      (both x y ∷ rest ys))

  -- Two lists in one, by rising keys: the entry with the lower key comes first, and two with the same key become one. Of lists whose
  -- keys rise, it has each key of either once.
  unfoldable pub join : List T → List T → List T
  join [] ys = ys
  join (x ∷ xs) ys = join_from x (join xs) ys

  -- the join without the entries that have the key p
  abbrev pub join_but : ℕ → List T → List T → List T
  join_but p xs ys = filter (λ x. not (key x == p)) (join xs ys)

-- ---- the walk

-- the entry that a meeting comes to
abbrev pub outcome : {T : Type 0} → (T → T → T) → Meeting T → T
outcome both (First x) = x
outcome both (Second y) = y
outcome both (Both x y) = both x y

-- how many entries of the first list, and of the second, a meeting takes
abbrev pub of_first : {T : Type 0} → Meeting T → ℕ
of_first (First x) = 1
of_first (Second y) = 0
of_first (Both x y) = 1

abbrev pub of_second : {T : Type 0} → Meeting T → ℕ
of_second (First x) = 0
of_second (Second y) = 1
of_second (Both x y) = 1

-- how many places a walk by places has still before it
abbrev pub places_left : SpanWalk → ℕ
places_left w = (w.first.to - w.first.from) + (w.second.to - w.second.from)

module _ {T : Type 0} (key : T → ℕ) where
  -- the key that is met
  abbrev pub meeting_key : Meeting T → ℕ
  meeting_key (First x) = key x
  meeting_key (Second y) = key y
  meeting_key (Both x y) = key x

  -- which of two entries comes first: the one with the lower key, or both where the keys are the same
  abbrev pub first_of : T → T → Meeting T
  first_of x y = cond (nat_lt (key x) (key y)) (First x) (cond (nat_lt (key y) (key x)) (Second y) (Both x y))

  -- what is met next, where the two lists begin so; none where both are at their end
  abbrev pub next_of : Option T → Option T → Option (Meeting T)
  next_of None None = None
  next_of None (Some y) = Some (Second y)
  next_of (Some x) None = Some (First x)
  next_of (Some x) (Some y) = Some (first_of x y)

  -- x is the first list's next entry, `rest` has the meetings of its later ones with a list, and the second list is given
  unfoldable pub meetings_from : T → (List T → List (Meeting T)) → List T → List (Meeting T)
  meetings_from x rest [] = First x ∷ rest []
  meetings_from x rest (y ∷ ys) =
      cond (nat_lt (key x) (key y)) (First x ∷ rest (y ∷ ys))
      (cond (nat_lt (key y) (key x)) (Second y ∷ meetings_from x rest ys)
      (Both x y ∷ rest ys))

  -- what a walk over two lists meets, in this order
  unfoldable pub meetings : List T → List T → List (Meeting T)
  meetings [] ys = map Second ys
  meetings (x ∷ xs) ys = meetings_from x (meetings xs) ys

  -- what a walk has still to meet
  abbrev pub ahead : Walk T → List (Meeting T)
  ahead w = meetings w.first.now w.second.now

  -- What a call of `next` does: where something is still to be met, the result is the first of it, and the walk has gone on past it;
  -- where nothing is, the walk stays.
  pub record Stepped (before : Walk T) (r : Option (Meeting T)) (after : Walk T) : Type 0 where
    pub cases :
        MatchOption r
        ((ahead before ≡ []) × (after ≡ before))
        (λ m. (ahead before ≡ m ∷ ahead after)
        × (after.first.now ≡ drop (of_first m) before.first.now) × (after.second.now ≡ drop (of_second m) before.second.now))

  -- what a walk over two parts of a list has still to meet
  abbrev pub spans_ahead : List T → SpanWalk → List (Meeting T)
  spans_ahead xs w = meetings (part w.first xs) (part w.second xs)

  -- What a call of `next` of a walk by places does: where something is still to be met, the result is the first of it, and the walk has
  -- gone on past it; where nothing is, the walk stays. It ends where it did.
  pub record SpansStepped (xs : List T) (before : SpanWalk) (r : Option (Meeting T)) (after : SpanWalk) : Type 0 where
    pub cases :
        MatchOption r
        ((spans_ahead xs before ≡ []) × (after ≡ before))
        (λ m. (spans_ahead xs before ≡ m ∷ spans_ahead xs after) × (places_left after < places_left before))
    pub first_end : after.first.to ≡ before.first.to
    pub second_end : after.second.to ≡ before.second.to
