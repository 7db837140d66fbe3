-- What holds of each variable of a record, and the levels of tail and base.
use Rattle.std.proofs.Common.{◌≡◌, ℕ, ◌<◌, ◌≤◌, Bool, true, false, eqb, ◌⊎◌, [], ◌∷◌, refl, ap, ◌∙◌, inl, inr, arith}
use Rattle.std.proofs.lemmas.Bool.{cases_Bool, eqb-true, eq-eqb, and_parts, or_cases, or_left, or_right, lt-ltb}
use Rattle.std.proofs.lemmas.Bool.Decides.{nat_tests}
use Rattle.game.specs.Theorems.{TailInWords}
use Rattle.game.specs.Records.{Side, Entry, Record, found, named, each_var, some_var, ceiling, over}

-- the head's variable is named, and so is each of the rest
named_here : (e : Entry) (r : Record) → named (e ∷ r) e.variable ≡ true
unfolding found
named_here e r = rw (eq-eqb e.variable e.variable refl)

named_there : (e : Entry) (r : Record) (x : ℕ) → named r x ≡ true → named (e ∷ r) x ≡ true
unfolding found
named_there e r x h = elim (cases_Bool (eqb e.variable x)) [ inl t ↦ rw t | inr t ↦ rw t h ]

-- a named variable is the head's, or one of the rest
named_cases : (e : Entry) (r : Record) (x : ℕ) → named (e ∷ r) x ≡ true → (e.variable ≡ x) ⊎ (named r x ≡ true)
unfolding found
named_cases e r x h =
    elim (cases_Bool (eqb e.variable x)) [ inl t ↦ inl (eqb-true e.variable x t) | inr t ↦ inr (rw t at h) ]

pub each_at : (f : ℕ → Bool) (r : Record) → each_var f r ≡ true → (x : ℕ) → named r x ≡ true → f x ≡ true
unfolding each_var found
each_at f [] h x n = cc
each_at f (e ∷ r) h x n =
    let (a, b) = and_parts (f e.variable) (each_var f r) h in
    elim (named_cases e r x n) [ inl q ↦ rw q at a | inr m ↦ each_at f r b x m ]

pub each_from : (f : ℕ → Bool) (r : Record) → ((x : ℕ) → named r x ≡ true → f x ≡ true) → each_var f r ≡ true
unfolding each_var
each_from f [] h = refl
each_from f (e ∷ r) h =
    rw (h e.variable (named_here e r), each_from f r (λ x n. h x (named_there e r x n)))

pub each_same : (f g : ℕ → Bool) (r : Record) → ((x : ℕ) → named r x ≡ true → f x ≡ g x) → each_var f r ≡ each_var g r
unfolding each_var
each_same f g [] h = refl
each_same f g (e ∷ r) h =
    rw (h e.variable (named_here e r), each_same f g r (λ x n. h x (named_there e r x n)))

pub some_at : (f : ℕ → Bool) (r : Record) → some_var f r ≡ true → (x : ℕ) × (named r x ≡ true) × (f x ≡ true)
unfolding some_var
some_at f [] h = let z : ◌≡◌ {A = ℕ} 0 1 = cc in absurd (omega arith)
some_at f (e ∷ r) h = elim (or_cases (f e.variable) (some_var f r) h) [
  | inl t ↦ (e.variable, named_here e r, t)
  | inr t ↦ let (x, n, p) = some_at f r t in (x, named_there e r x n, p)
]

pub some_from : (f : ℕ → Bool) (r : Record) (x : ℕ) → named r x ≡ true → f x ≡ true → some_var f r ≡ true
unfolding some_var found
some_from f [] x n p = let z : ◌≡◌ {A = ℕ} 0 1 = cc in absurd (omega arith)
some_from f (e ∷ r) x n p = elim (named_cases e r x n) [
  | inl q ↦ or_left _ _ (ap f q ∙ p)
  | inr m ↦ or_right _ _ (some_from f r x m p)
]

module _ (S : Side) where
  -- an opponent's variable of r is not above its ceiling
  under_ceiling : (r : Record) (x : ℕ) → named r x ≡ true → S.mine x ≡ false → S.level x ≤ ceiling S r
  unfolding ceiling found
  under_ceiling [] x n o = let z : ◌≡◌ {A = ℕ} 0 1 = cc in omega arith
  under_ceiling (e ∷ r) x n o = elim (named_cases e r x n) [
    | inl q ↦ grind arith
    | inr m ↦ let h : S.level x ≤ ceiling S r = under_ceiling r x m o in grind arith
  ]

  -- what is in the tail is above the whole base
  pub tail_over_base : (r : Record) (x y : ℕ) → over S r x ≡ true → named r y ≡ true → over S r y ≡ false → S.level y < S.level x
  tail_over_base r x y t n b =
      let h : S.mine y ≡ false → S.level y ≤ ceiling S r = under_ceiling r y n in grind (arith, nat_tests)

  -- and a level above all of its opponent's variables is above the ceiling
  ceiling_under : (r : Record) (l : ℕ) → 1 ≤ l → ((z : ℕ) → named r z ≡ true → S.mine z ≡ false → S.level z < l) → ceiling S r < l
  unfolding ceiling
  ceiling_under [] l lo h = omega arith
  ceiling_under (e ∷ r) l lo h =
      let rest : ceiling S r < l = ceiling_under r l lo (λ z n. h z (named_there e r z n)) in
      let here : S.mine e.variable ≡ false → S.level e.variable < l = h e.variable (named_here e r) in
      grind arith

pub tail_in_words : TailInWords
tail_in_words = record {
  exactly = λ S r x own bd. (
    λ t z n o. let h : S.level z ≤ ceiling S r = under_ceiling S r z n o in grind (arith, nat_tests),
    λ h. rw (own, lt-ltb (ceiling S r) (S.level x) (ceiling_under S r (S.level x) bd h)),
  );
  above_base = tail_over_base;
}
