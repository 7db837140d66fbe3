-- A loop that appends the join of two parts of a table to it, turn by turn.
use Rattle.std.proofs.Common.{◌≡◌, ℕ, ◌≤◌, List, [], ◌∷◌, ◌++◌, length, take, Some, Result, sym, refl, ap, ◌∙◌, subst, ap₂, arith}
use Rattle.std.proofs.lemmas.List.{append-nil, append_assoc, take_all}
use Rattle.table.specs.declared.join.Meeting.{Meeting}
use Rattle.table.specs.declared.join.Span.{Span}
use Rattle.table.specs.declared.join.SpanWalk.{SpanWalk}
use Rattle.table.specs.declared.slab.Full.{Full}
use Rattle.table.specs.declared.slab.Table.{Table}
use Rattle.table.specs.Entries.{entries, free, Grown, Pushed}
use Rattle.table.specs.Joins.{part, below, join_but, outcome, spans_ahead, SpansStepped}
use Rattle.table.proofs.Joins.{part_below, ahead_front, to_come, join_but_met, next_kept, next_passed, none_to_come}
use Rattle.table.proofs.Pushes.{grown_none, grown_room}

module _ {T : Type 0} (key : T → ℕ) (both : T → T → T) (p : ℕ) (before : Table T) (first second : Span) where
  -- what was to be written up to here, and what is still to come, are the whole join, of which as much was written as there was room for
  pub record Appending (w : SpanWalk) (now : Table T) : Type 0 where
    first_within : w.first.to ≤ length (entries before)
    second_within : w.second.to ≤ length (entries before)
    done : List T
    grown : Grown before (take (length (free before)) done) now
    goes_on : done ++ to_come key both p (entries before) w ≡ join_but key both p (part first (entries before)) (part second (entries before))

  -- before the first turn, where the walk is to go over the two parts as far as the entries reach
  pub begins : {w : SpanWalk} → w.first ≡ below (length (entries before)) first → w.second ≡ below (length (entries before)) second → Appending w before
  begins {w} first-is second_is =
      let front : part w.first (entries before) ≡ part first (entries before) = ap (λ s. part s (entries before)) first-is ∙ part_below (entries before) first in
      let back : part w.second (entries before) ≡ part second (entries before) = ap (λ s. part s (entries before)) second_is ∙ part_below (entries before) second in
      record {
        first_within = omega (arith, ap (λ (s : Span). s.to) first-is);
        second_within = omega (arith, ap (λ (s : Span). s.to) second_is);
        done = [];
        grown = subst (λ l. Grown before l before) (sym (take_all (length (free before)) [] (omega arith))) (grown_none before);
        goes_on = sym (join_but_met key both p (entries before) w) ∙ ap₂ (join_but key both p) front back;
      }

  -- the walk reads the table as it is now, and meets what it would have met in the table as it was
  module _ {w : SpanWalk} {now : Table T} (here : Appending w now) {xs : List T} (read : xs ≡ entries now) where
    as_before : (u : SpanWalk) → u.first.to ≡ w.first.to → u.second.to ≡ w.second.to → spans_ahead key xs u ≡ spans_ahead key (entries before) u
    as_before u ft st =
        ap (λ l. spans_ahead key l u) (read ∙ here.grown.longer)
        ∙ ahead_front key (entries before) _ u (omega (arith, ft, here.first_within)) (omega (arith, st, here.second_within))

    -- a turn: the entry x that its meeting comes to, which has the key k
    module _ {v : SpanWalk} {m : Meeting T} (step : SpansStepped key xs w (Some m) v) {x : T} (is : x ≡ outcome both m) {k : ℕ} (keyed : k ≡ key x) where
      turn : spans_ahead key (entries before) w ≡ m ∷ spans_ahead key (entries before) v
      turn = sym (as_before w refl refl) ∙ step.cases.0 ∙ ap (λ l. m ∷ l) (as_before v step.first_end step.second_end)

      pub appended : {r : Result ℕ Full} {after : Table T} → (k ≡ p → ⊥) → Pushed now x r after → Appending v after
      appended other pushed = record {
        first_within = omega (arith, step.first_end, here.first_within);
        second_within = omega (arith, step.second_end, here.second_within);
        done = here.done ++ x ∷ [];
        grown = grown_room here.done here.grown pushed;
        goes_on =
            append_assoc here.done (x ∷ []) (to_come key both p (entries before) v)
            ∙ ap (λ l. here.done ++ l)
            (ap (λ y. y ∷ to_come key both p (entries before) v) is
            ∙ sym (next_kept key both p (entries before) w v m turn (subst (λ n. n ≡ p → ⊥) (keyed ∙ ap key is) other)))
            ∙ here.goes_on;
      }

      pub left_out : k ≡ p → Appending v now
      left_out same = record {
        first_within = omega (arith, step.first_end, here.first_within);
        second_within = omega (arith, step.second_end, here.second_within);
        done = here.done;
        grown = here.grown;
        goes_on =
            ap (λ l. here.done ++ l) (sym (next_passed key both p (entries before) w v m turn (sym (keyed ∙ ap key is) ∙ same)))
            ∙ here.goes_on;
      }

    -- at the end nothing is still to come
    pub all_appended : spans_ahead key xs w ≡ []
        → Grown before (take (length (free before)) (join_but key both p (part first (entries before)) (part second (entries before)))) now
    all_appended end =
        let none = none_to_come key both p (entries before) w (sym (as_before w refl refl) ∙ end) in
        let all = sym (append-nil here.done) ∙ ap (λ l. here.done ++ l) (sym none) ∙ here.goes_on in
        subst (λ l. Grown before (take (length (free before)) l) now) all here.grown
