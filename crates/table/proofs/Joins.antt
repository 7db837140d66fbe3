-- What a caller of a walk may want: a join is what the walk's meetings come to, and, for a walk by places, how a turn takes it on.
use Rattle.std.proofs.Common.{◌≡◌, ℕ, ◌≤◌, min, not, eqb, ltb, List, [], ◌∷◌, ◌++◌, map, filter, length, drop, sym, refl, ap, ◌∙◌, ap₂, inl, inr}
use Rattle.std.proofs.lemmas.List.{take-append-le, take_min}
use Rattle.std.proofs.lemmas.Slice.{between_is}
use Rattle.std.proofs.lemmas.Bool.{cases_Bool, eq-eqb, ne_eqb, cond-true, cond-false, not_from_true, not_from_false}
use Rattle.table.specs.declared.join.Meeting.{Meeting}
use Rattle.table.specs.declared.join.Meeting.TheVariants.{Second}
use Rattle.table.specs.declared.join.Span.{Span}
use Rattle.table.specs.declared.join.SpanWalk.{SpanWalk}
use Rattle.table.specs.Joins.{part, below, join_from, join, join_but, outcome, meetings_from, meetings, spans_ahead}

-- ---- parts

module _ {T : Type 0} where
  -- of the places of a span only those below the list's length count
  pub part_below : (xs : List T) (s : Span) → part (below (length xs) s) xs ≡ part s xs
  part_below xs s =
      between_is xs s.from (min s.to (length xs)) ∙ ap (drop s.from) (take_min s.to xs) ∙ sym (between_is xs s.from s.to)

  -- a part that ends within a list is the same part of the list with more behind it
  pub part_front : (xs new : List T) (s : Span) → s.to ≤ length xs → part s (xs ++ new) ≡ part s xs
  part_front xs new s within =
      between_is (xs ++ new) s.from s.to ∙ ap (drop s.from) (take-append-le s.to xs new within) ∙ sym (between_is xs s.from s.to)

  -- and so what a walk has still to meet stays the same
  pub ahead_front : (key : T → ℕ) (xs new : List T) (w : SpanWalk) → w.first.to ≤ length xs → w.second.to ≤ length xs → spans_ahead key (xs ++ new) w ≡ spans_ahead key xs w
  ahead_front key xs new w first second = ap₂ (meetings key) (part_front xs new w.first first) (part_front xs new w.second second)

-- ---- joins

module _ {T : Type 0} (key : T → ℕ) (both : T → T → T) where
  seconds : (ys : List T) → ys ≡ map (outcome both) (map Second ys)
  seconds [] = refl
  seconds (y ∷ ys) = ap (λ l. y ∷ l) (seconds ys)

  module _ (x : T) (f : List T → List T) (g : List T → List (Meeting T)) (same : (ys : List T) → f ys ≡ map (outcome both) (g ys)) where
    joined_from : (ys : List T) → join_from key both x f ys ≡ map (outcome both) (meetings_from key x g ys)
    unfolding join_from meetings_from
    joined_from [] = ap (λ l. x ∷ l) (same [])
    joined_from (y ∷ ys) = elim (cases_Bool (ltb (key x) (key y))) [
      | inl t ↦ rw t (ap (λ l. x ∷ l) (same (y ∷ ys)))
      | inr t ↦ elim (cases_Bool (ltb (key y) (key x))) [
        | inl u ↦ rw (t, u) (ap (λ l. y ∷ l) (joined_from ys))
        | inr u ↦ rw (t, u) (ap (λ l. both x y ∷ l) (same ys))
      ]
    ]

  -- a join is what the meetings come to
  pub join_met : (xs ys : List T) → join key both xs ys ≡ map (outcome both) (meetings key xs ys)
  unfolding join meetings
  join_met [] ys = seconds ys
  join_met (x ∷ xs) ys = joined_from x (join key both xs) (meetings key xs) (join_met xs) ys

  module _ (p : ℕ) where
    -- what a join without the key p has still to come, where a walk is
    abbrev pub to_come : List T → SpanWalk → List T
    to_come xs w = filter (λ x. not (eqb (key x) p)) (map (outcome both) (spans_ahead key xs w))

    -- where it begins, that is the whole join
    pub join_but_met : (xs : List T) (w : SpanWalk) → join_but key both p (part w.first xs) (part w.second xs) ≡ to_come xs w
    join_but_met xs w = ap (filter (λ x. not (eqb (key x) p))) (join_met (part w.first xs) (part w.second xs))

    -- a turn: its entry is the next one, unless it has the key p
    module _ (xs : List T) (w v : SpanWalk) (m : Meeting T) (turn : spans_ahead key xs w ≡ m ∷ spans_ahead key xs v) where
      pub next_kept : (key (outcome both m) ≡ p → ⊥) → to_come xs w ≡ outcome both m ∷ to_come xs v
      next_kept other =
          ap (λ l. filter (λ x. not (eqb (key x) p)) (map (outcome both) l)) turn
          ∙ cond-true _ _ _ (not_from_false _ (ne_eqb (key (outcome both m)) p other))

      pub next_passed : key (outcome both m) ≡ p → to_come xs w ≡ to_come xs v
      next_passed same =
          ap (λ l. filter (λ x. not (eqb (key x) p)) (map (outcome both) l)) turn
          ∙ cond-false _ _ _ (not_from_true _ (eq-eqb (key (outcome both m)) p same))

    -- at its end nothing is still to come
    pub none_to_come : (xs : List T) (w : SpanWalk) → spans_ahead key xs w ≡ [] → to_come xs w ≡ []
    none_to_come xs w end = ap (λ l. filter (λ x. not (eqb (key x) p)) (map (outcome both) l)) end
