-- From a met record down to a leaf.
use Rattle.std.proofs.Common.{◌≡◌, ℕ, ◌≤◌, Bool, true, false, ◌⊎◌, List, length, sym, refl, ◌∙◌, subst, inl, inr, arith}
use Rattle.std.proofs.lemmas.Bool.{cases_Bool, cases_eq, eq-eqb, eqb-false}
use Rattle.game.specs.Records.{Side, Plus, Minus, Star, Found, absent, has, found, is_there, named}
use Rattle.game.specs.Rules.{Origin, Resolve, Reduce, Step, origin_of, marks_of, Merged, neither, first, second, both_plus, both_minus, clash, Resolves, Calculus, Allowed, Derivation}
use Rattle.game.specs.Plays.{meets, of_parents, phase_by, phase, met, wholly, Fair, Full}
use Rattle.game.specs.Theorems.{ResolveGoesDown}
use Rattle.game.proofs.Records.{each_at, each_from}
use Rattle.game.proofs.Phases.{phase_law}

-- a phase from the mark, given what a star's is
abbrev pub plain : Found → Bool → Bool
plain absent s = true
plain (has Plus) s = true
plain (has Minus) s = false
plain (has Star) s = s

module _ (mine : Bool) (above : Type 0) where
  -- what the first parent names stands in the result, and so does what the second names
  first_named : {a b c : Found} → Merged mine above a b c → is_there a ≡ true → is_there c ≡ true
  first_named neither h = h
  first_named first h = refl
  first_named second h = refl
  first_named both_plus h = refl
  first_named both_minus h = refl
  first_named (clash d o l) h = refl

  second_named : {a b c : Found} → Merged mine above a b c → is_there b ≡ true → is_there c ≡ true
  second_named neither h = h
  second_named first h = refl
  second_named second h = refl
  second_named both_plus h = refl
  second_named both_minus h = refl
  second_named (clash d o l) h = refl

  -- and has there the phase that it has in the parent whose pivot literal is met
  first_phase : {a b c : Found} → Merged mine above a b c → is_there a ≡ true
      → (met s t : Bool) → met ≡ true → s ≡ plain a s → plain c (of_parents a b met s t) ≡ s
  first_phase neither h met s t e l = cc
  first_phase first h met s t e l = sym l
  first_phase second h met s t e l = cc
  first_phase both_plus h met s t e l = sym l
  first_phase both_minus h met s t e l = sym l
  first_phase (clash d o k) h met s t e l = cc

  second_phase : {a b c : Found} → Merged mine above a b c → is_there b ≡ true
      → (met s t : Bool) → met ≡ false → t ≡ plain b t → plain c (of_parents a b met s t) ≡ t
  second_phase neither h met s t e l = cc
  second_phase first h met s t e l = cc
  second_phase second h met s t e l = sym l
  second_phase both_plus h met s t e l = sym l
  second_phase both_minus h met s t e l = sym l
  second_phase (clash d o k) h met s t e l = cc

module _ (S : Side) (C : Calculus) (D : List Step) (ok : Derivation S C D) (v : ℕ → ℕ) where
  -- a plain mark is its phase
  by_plain : (y : ℕ) (m : Found) (h : Origin) (f : ℕ → Bool) (b : Bool) → b ≡ phase_by S D v y m h f → b ≡ plain m b
  by_plain y absent h f b e = e
  by_plain y (has Plus) h f b e = e
  by_plain y (has Minus) h f b e = e
  by_plain y (has Star) h f b e = refl

  pub phase_plain : (y k : ℕ) → 1 ≤ k → k ≤ length D → phase S D v y k ≡ plain (found (marks_of D k) y) (phase S D v y k)
  phase_plain y k lo hi = by_plain y (found (marks_of D k) y) (origin_of D k) (phase S D v y) (phase S D v y k) (phase_law S C D ok y v k lo hi)

  -- the phase after a resolve, and after a reduce
  by_resolve : (y p i j : ℕ) (m : Found) (f : ℕ → Bool)
      → phase_by S D v y m (Resolve p i j) f ≡ plain m (of_parents (found (marks_of D i) y) (found (marks_of D j) y) (meets S v p true) (f i) (f j))
  by_resolve y p i j absent f = refl
  by_resolve y p i j (has Plus) f = refl
  by_resolve y p i j (has Minus) f = refl
  by_resolve y p i j (has Star) f = refl

  by_reduce : (y j : ℕ) (m : Found) (f : ℕ → Bool) → phase_by S D v y m (Reduce j) f ≡ plain m (f j)
  by_reduce y j absent f = refl
  by_reduce y j (has Plus) f = refl
  by_reduce y j (has Minus) f = refl
  by_reduce y j (has Star) f = refl

  module _ (k : ℕ) (lo : 1 ≤ k) (hi : k ≤ length D) where
    phase_resolve : (y p i j : ℕ) → origin_of D k ≡ Resolve p i j
        → phase S D v y k ≡ plain (found (marks_of D k) y) (of_parents (found (marks_of D i) y) (found (marks_of D j) y) (meets S v p true) (phase S D v y i) (phase S D v y j))
    phase_resolve y p i j e = phase_law S C D ok y v k lo hi ∙ rw e (by_resolve y p i j (found (marks_of D k) y) (phase S D v y))

    pub phase_reduce : (y j : ℕ) → origin_of D k ≡ Reduce j → phase S D v y k ≡ plain (found (marks_of D k) y) (phase S D v y j)
    phase_reduce y j e = phase_law S C D ok y v k lo hi ∙ rw e (by_reduce y j (found (marks_of D k) y) (phase S D v y))

    module _ (p i j : ℕ) (e : origin_of D k ≡ Resolve p i j) (all : wholly S D v k ≡ true) where
      pub allowed : Resolves S C D k p i j (marks_of D k)
      allowed = subst (λ h. Allowed S C D k h (marks_of D k)) e (ok k lo hi)

      first_down : meets S v p true ≡ true → wholly S D v i ≡ true
      first_down m = each_from _ (marks_of D i) at
        where
          at : (y : ℕ) → named (marks_of D i) y ≡ true → met S D v i y ≡ true
          at y n =
              let own : phase S D v y i ≡ plain (found (marks_of D i) y) (phase S D v y i) = phase_plain y i allowed.first_there (omega (arith, allowed)) in
              elim (cases_eq y p) [
                | inl q ↦ let f : found (marks_of D i) p ≡ has Plus = allowed.joins.plus_first in cc
                | inr d ↦
                    let mg = allowed.joins.others y d in
                    let same : phase S D v y k ≡ phase S D v y i =
                    phase_resolve y p i j e ∙ first_phase _ _ mg n (meets S v p true) (phase S D v y i) (phase S D v y j) m own in
                    let here : met S D v k y ≡ true = each_at (met S D v k) (marks_of D k) all y (first_named _ _ mg n) in
                    cc
              ]

      second_down : meets S v p true ≡ false → meets S v p false ≡ true → wholly S D v j ≡ true
      second_down o m = each_from _ (marks_of D j) at
        where
          at : (y : ℕ) → named (marks_of D j) y ≡ true → met S D v j y ≡ true
          at y n =
              let own : phase S D v y j ≡ plain (found (marks_of D j) y) (phase S D v y j) = phase_plain y j allowed.second_there (omega (arith, allowed)) in
              elim (cases_eq y p) [
                | inl q ↦ let f : found (marks_of D j) p ≡ has Minus = allowed.joins.minus_second in cc
                | inr d ↦
                    let mg = allowed.joins.others y d in
                    let same : phase S D v y k ≡ phase S D v y j =
                    phase_resolve y p i j e ∙ second_phase _ _ mg n (meets S v p true) (phase S D v y i) (phase S D v y j) o own in
                    let here : met S D v k y ≡ true = each_at (met S D v k) (marks_of D k) all y (second_named _ _ mg n) in
                    cc
              ]

      down : Fair S → Full S v → ((meets S v p true ≡ true) × (wholly S D v i ≡ true)) ⊎ ((meets S v p false ≡ true) × (wholly S D v j ≡ true))
      down fair full = elim (cases_Bool (meets S v p true)) [
        | inl m ↦ inl (m, first_down m)
        | inr o ↦
            let m : meets S v p false ≡ true = elim (fair.covers (v p) (full p allowed.joins.bound)) [
              | inl q ↦ absurd (eqb-false (v p) (S.meeting true) o q)
              | inr q ↦ eq-eqb (v p) (S.meeting false) q
            ] in
            inr (m, second_down o m)
      ]

pub resolve_goes_down : ResolveGoesDown
resolve_goes_down S fair C D ok v full k lo hi p i j e all = down S C D ok v k lo hi p i j e all fair full
