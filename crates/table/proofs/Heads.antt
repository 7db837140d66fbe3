-- A walk's step: what the first entries of two lists say of their meetings.
use Rattle.std.proofs.Common.{◌≡◌, ℕ, ◌-◌, ltb, List, [], ◌∷◌, length, take, drop, Some, None, Option, refl, sym, ap, ◌∙◌, subst, ap₂, inl, inr, MatchOption}
use Rattle.std.proofs.lemmas.List.{take_rest}
use Rattle.std.proofs.lemmas.Bool.{cases_Bool}
use Rattle.std.specs.List.{slice_get}
use Rattle.table.specs.declared.join.Meeting.{Meeting}
use Rattle.table.specs.declared.join.Walk.{Walk}
use Rattle.table.specs.Joins.{of_first, of_second, next_of, meetings_from, meetings, Stepped}

module _ {T : Type 0} (key : T → ℕ) where
  -- m is what the two lists meet first
  abbrev pub Goes : List T → List T → Meeting T → Type 0
  Goes xs ys m = meetings key xs ys ≡ m ∷ meetings key (drop (of_first m) xs) (drop (of_second m) ys)

  by_heads : (xs ys : List T) → MatchOption (next_of key (slice_get xs 0) (slice_get ys 0)) (meetings key xs ys ≡ []) (Goes xs ys)
  unfolding meetings meetings_from
  by_heads [] [] = refl
  by_heads [] (y ∷ ys) = refl
  by_heads (x ∷ xs) [] = refl
  by_heads (x ∷ xs) (y ∷ ys) = elim (cases_Bool (ltb (key x) (key y))) [
    | inl t ↦ rw t
    | inr t ↦ elim (cases_Bool (ltb (key y) (key x))) [ inl u ↦ rw (t, u) | inr u ↦ rw (t, u) ]
  ]

  -- where x and y are the first entries of two lists
  pub met : (xs ys : List T) {x y : Option T} → x ≡ slice_get xs 0 → y ≡ slice_get ys 0 → {r : Option (Meeting T)} (m : Option (Meeting T))
      → r ≡ next_of key x y → r ≡ m → MatchOption m (meetings key xs ys ≡ []) (Goes xs ys)
  met xs ys first second m next is =
      subst (λ o. MatchOption o (meetings key xs ys ≡ []) (Goes xs ys)) (sym (ap₂ (next_of key) first second) ∙ sym next ∙ is) (by_heads xs ys)

  -- and those are a walk's
  module _ (w : Walk T) {x y : Option T} (first : x ≡ slice_get w.first.now 0) (second : y ≡ slice_get w.second.now 0) where
    pub at_end : {r : Option (Meeting T)} → r ≡ next_of key x y → r ≡ None → Stepped key w None w
    at_end next is = record { cases = (met w.first.now w.second.now first second None next is, refl) }

    -- it goes on with `&xs[a..]` and `&ys[b..]`
    pub goes_on : {r : Option (Meeting T)} (m : Meeting T) → r ≡ next_of key x y → r ≡ Some m → {n : ℕ × ℕ} → n ≡ (of_first m, of_second m) → (v : Walk T)
        → v.first.now ≡ take (length w.first.now - n.0) (drop n.0 w.first.now) → v.second.now ≡ take (length w.second.now - n.1) (drop n.1 w.second.now)
        → Stepped key w (Some m) v
    goes_on m next is {n} takes v first-is second_is =
        let a : v.first.now ≡ drop (of_first m) w.first.now = first-is ∙ take_rest w.first.now n.0 ∙ ap (λ (p : ℕ × ℕ). drop p.0 w.first.now) takes in
        let b : v.second.now ≡ drop (of_second m) w.second.now = second_is ∙ take_rest w.second.now n.1 ∙ ap (λ (p : ℕ × ℕ). drop p.1 w.second.now) takes in
        record { cases = (met w.first.now w.second.now first second (Some m) next is ∙ ap₂ (λ k l. m ∷ meetings key k l) (sym a) (sym b), a, b) }
