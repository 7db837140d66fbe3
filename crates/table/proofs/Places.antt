-- A step of a walk by places: what the first entries of its two parts say of their meetings.
use Rattle.std.proofs.Common.{◌≡◌, ℕ, ◌+◌, ◌-◌, ◌<◌, ◌≤◌, List, [], ◌∷◌, length, take, drop, Some, None, Option, sym, refl, ap, ◌∙◌, subst, ap₂, arith, length-take}
use Rattle.std.proofs.lemmas.List.{drop-drop}
use Rattle.std.proofs.lemmas.Slice.{between_is}
use Rattle.std.specs.List.{slice_get}
use Rattle.table.specs.declared.join.Meeting.{Meeting}
use Rattle.table.specs.declared.join.Meeting.TheVariants.{First, Second, Both}
use Rattle.table.specs.declared.join.Span.{Span}
use Rattle.table.specs.declared.join.SpanWalk.{SpanWalk}
use Rattle.table.specs.Joins.{part, past, of_first, of_second, next_of, meetings_from, meetings, SpansStepped}
use Rattle.table.proofs.Heads.{Goes, met}

-- what comes after the first n entries of a part
part_next : {T : Type 0} (xs : List T) (s : Span) (n : ℕ) → drop n (part s xs) ≡ part (past n s) xs
part_next xs s n = ap (drop n) (between_is xs s.from s.to) ∙ drop-drop n s.from (take s.to xs) ∙ sym (between_is xs (s.from + n) s.to)

-- a meeting takes an entry, and at most one of each list
record Takes {T : Type 0} (m : Meeting T) (first second : ℕ) : Type 0 where
  of_one : of_first m ≤ first
  of_other : of_second m ≤ second
  moves : 0 < of_first m + of_second m

takes_one : {T : Type 0} (m : Meeting T) {first second : ℕ} → 0 < first → 0 < second → Takes m first second
takes_one (First x) a b = record { of_one = omega arith; of_other = omega arith; moves = omega arith }
takes_one (Second y) a b = record { of_one = omega arith; of_other = omega arith; moves = omega arith }
takes_one (Both x y) a b = record { of_one = omega arith; of_other = omega arith; moves = omega arith }

module _ {T : Type 0} (key : T → ℕ) where
  -- of neither list more than there is
  takes_there : (xs ys : List T) (m : Meeting T) (rest : List (Meeting T)) → meetings key xs ys ≡ m ∷ rest → Takes m (length xs) (length ys)
  unfolding meetings meetings_from
  takes_there [] [] m rest is = absurd cc
  takes_there [] (y ∷ ys) m rest is =
      let same : Second y ≡ m = cc in subst (λ k. Takes k 0 (length (y ∷ ys))) same (record { of_one = omega arith; of_other = omega arith; moves = omega arith })
  takes_there (x ∷ xs) [] m rest is =
      let same : First x ≡ m = cc in subst (λ k. Takes k (length (x ∷ xs)) 0) same (record { of_one = omega arith; of_other = omega arith; moves = omega arith })
  takes_there (x ∷ xs) (y ∷ ys) m rest is = takes_one m (omega arith) (omega arith)

  -- where x and y are the first entries of a walk's two parts
  module _ (xs : List T) (w : SpanWalk) {x y : Option T} (first : x ≡ slice_get (part w.first xs) 0) (second : y ≡ slice_get (part w.second xs) 0)
      {r : Option (Meeting T)} (next : r ≡ next_of key x y) where
    pub at_end : r ≡ None → SpansStepped key xs w None w
    at_end is = record { cases = (met key (part w.first xs) (part w.second xs) first second None next is, refl); first_end = refl; second_end = refl }

    -- where they meet in m, which takes the first of them
    module _ (m : Meeting T) (is : r ≡ Some m) {n : ℕ × ℕ} (takes : n ≡ (of_first m, of_second m)) where
      goes : Goes key (part w.first xs) (part w.second xs) m
      goes = met key (part w.first xs) (part w.second xs) first second (Some m) next is

      there : Takes m (length (part w.first xs)) (length (part w.second xs))
      there = takes_there (part w.first xs) (part w.second xs) m _ goes

      first_below : n.0 ≤ w.first.to - w.first.from
      first_below = omega (arith, ap (λ (p : ℕ × ℕ). p.0) takes, there.of_one, length-take (w.first.to - w.first.from) (drop w.first.from xs))

      second_below : n.1 ≤ w.second.to - w.second.from
      second_below = omega (arith, ap (λ (p : ℕ × ℕ). p.1) takes, there.of_other, length-take (w.second.to - w.second.from) (drop w.second.from xs))

      stepped : SpansStepped key xs w (Some m) (record { first = past n.0 w.first; second = past n.1 w.second })
      stepped = record {
        cases = (
          goes
              ∙ ap (λ (p : ℕ × ℕ). m ∷ meetings key (drop p.0 (part w.first xs)) (drop p.1 (part w.second xs))) (sym takes)
              ∙ ap₂ (λ k l. m ∷ meetings key k l) (part_next xs w.first n.0) (part_next xs w.second n.1),
          omega (arith, first_below, second_below, there.moves, ap (λ (p : ℕ × ℕ). p.0) takes, ap (λ (p : ℕ × ℕ). p.1) takes),
        );
        first_end = refl;
        second_end = refl;
      }

      pub steps_on : {s t : Span} → s ≡ past n.0 w.first → t ≡ past n.1 w.second → SpansStepped key xs w (Some m) (record { first = s; second = t })
      steps_on s_is t_is =
          let P : SpanWalk → Type 0 = SpansStepped key xs w (Some m) in
          subst P (sym (ap₂ (λ (s t : Span). record { first = s; second = t }) s_is t_is)) stepped
