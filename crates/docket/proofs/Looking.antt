-- A variable looked for in a record that rises, by halving.
use Rattle.std.proofs.Common.{◌≡◌, ℕ, zero, suc, ◌<◌, ◌≤◌, true, [], ◌∷◌, length, get_or, Some, None, Ok, Err, Result, sym, refl, ap, ◌∙◌, inl, inr, arith, tests}
use Rattle.std.specs.List.Sorted.{IsBinarySearchResult, IsSearchInRange}
use Rattle.std.specs.Result.{result_ok}
use Rattle.std.specs.Ordering.{nat_cmp, ordering_index}
use Rattle.std.specs.declared.cmp.Ordering.TheVariants.{Less, Equal, Greater}
use Rattle.std.proofs.lemmas.Bool.{cases_eq, cases_lt, ne_eqb}
use Rattle.game.specs.declared.record.Entry.{Entry}
use Rattle.game.specs.Records.{Record, absent, has, found, Above}
use Rattle.game.proofs.Merge.{entries_found}
use Rattle.docket.specs.Stored.{rises, blank}
use Rattle.docket.proofs.Steps.{rises_above}

above_at : (a : ℕ) (r : Record) → Above a r → (k : ℕ) (d : Entry) → k < length r → a < (get_or r k d).variable
above_at a [] up k d low = absurd (omega arith)
above_at a (e ∷ r) up zero d low = up.0
above_at a (e ∷ r) up (suc k) d low = let more : e.variable < (get_or r k d).variable = above_at e.variable r up.1 k d (omega arith) in let first = up.0 in omega arith

-- variables rise from place to place
ordered : (a : ℕ) (r : Record) → Above a r → (i j : ℕ) (d : Entry) → i < j → j < length r → (get_or r i d).variable < (get_or r j d).variable
ordered a [] up i j d less low = absurd (omega arith)
ordered a (e ∷ r) up zero zero d less low = absurd (omega arith)
ordered a (e ∷ r) up zero (suc j) d less low = above_at e.variable r up.1 j d (omega arith)
ordered a (e ∷ r) up (suc i) zero d less low = absurd (omega arith)
ordered a (e ∷ r) up (suc i) (suc j) d less low = ordered e.variable r up.1 i j d (omega arith) (omega arith)

nowhere : (r : Record) (x : ℕ) → ((k : ℕ) → k < length r → (get_or r k blank).variable ≡ x → ⊥) → found r x ≡ absent
unfolding found
nowhere [] x none = refl
nowhere (e ∷ r) x none = rw (ne_eqb e.variable x (none 0 (omega arith))) (nowhere r x (λ k low. none (suc k) (omega arith)))

-- what comparisons with x tell
equal : (a x : ℕ) → nat_cmp a x ≡ Equal → a ≡ x
equal a x is = grind (arith, tests)

less : (a x : ℕ) → nat_cmp a x ≡ Less → a < x
less a x is = grind (arith, tests)

greater : (a x : ℕ) → nat_cmp a x ≡ Greater → x < a
greater a x is = grind (arith, tests)

ranked : (a b x : ℕ) → a ≤ b → ordering_index (nat_cmp a x) ≤ ordering_index (nat_cmp b x)
ranked a b x le = grind (arith, tests)

-- the answer of a search for x
abbrev pub Searched : Record → ℕ → Result ℕ ℕ → Type 0
Searched r x q = IsBinarySearchResult (λ (e : Entry). nat_cmp e.variable x) r q

module _ (r : Record) (x : ℕ) (up : rises 0 r ≡ true) where
  -- what is found has the variable
  pub found_at : (q : Result ℕ ℕ) (k : ℕ) → Searched r x q → IsSearchInRange q (length r) → result_ok q ≡ Some k → has (get_or r k blank).mark ≡ found r x
  found_at (Ok i) k here low is =
      let same : i ≡ k = cc in
      ap (λ j. has (get_or r j blank).mark) (sym same) ∙ sym (entries_found r (rises_above 0 r up) i low blank) ∙ ap (found r) (equal _ x (here blank))
  found_at (Err i) k parted within is = let z : ◌≡◌ {A = ℕ} 0 1 = cc in absurd (omega arith)

  -- where none is found, it is nowhere
  pub not_there : (q : Result ℕ ℕ) → Searched r x q → result_ok q ≡ None → absent ≡ found r x
  not_there (Ok i) here is = let z : ◌≡◌ {A = ℕ} 0 1 = cc in absurd (omega arith)
  not_there (Err i) parted is =
      let parts = parted (λ j k d le low. elim (cases_eq j k) [
        | inl q ↦ rw q (omega arith)
        | inr d' ↦ ranked _ _ x (omega (arith, ordered 0 r (rises_above 0 r up) j k d (omega arith) low))
      ]) in
      sym (nowhere r x (λ k low is. elim (cases_lt k i) [
        | inl before ↦ omega (arith, less _ x (parts.0 k blank (omega arith) before))
        | inr from ↦ omega (arith, greater _ x (parts.1 k blank from low))
      ]))
