-- The lowest step with an empty record, looked for step by step.
use Rattle.std.proofs.Common.{◌≡◌, ℕ, zero, suc, MatchOption, Option, Some, None, ◌+◌, ◌-◌, ◌<◌, ◌≤◌, Bool, true, false, eqb, List, [], ◌∷◌, length, get_or, take, drop, sym, refl, ap, ◌∙◌, subst, inl, inr, arith}
use Rattle.std.specs.List.{between}
use Rattle.std.proofs.lemmas.List.{length-take-le, length-drop}
use Rattle.std.proofs.lemmas.Option.{slice_get-get_or}
use Rattle.std.proofs.lemmas.Bool.Decides.{nat_tests}
use Rattle.formula.specs.Cuts.{last_end}
use Rattle.game.specs.declared.record.Entry.{Entry}
use Rattle.game.specs.Records.{Record}
use Rattle.game.specs.Rules.{Step, no_step}
use Rattle.game.specs.Plays.{is_empty, lowest, NonePasses}
use Rattle.game.proofs.Lowest.{lowest_cases, lowest_is}
use Rattle.docket.specs.declared.stored.StoredStep.{StoredStep}
use Rattle.docket.specs.Stored.{step_end, steps_in, StepsLie}
use Rattle.docket.proofs.Spans.{step_at, lies_at}

empty_length : (r : Record) → is_empty r ≡ eqb (length r) 0
empty_length [] = refl
empty_length (e ∷ r) = grind (arith, nat_tests)

-- a record is empty where it ends as it begins
pub empty_at : (stored : List StoredStep) (marks : List Entry) → StepsLie stored (length marks) → (k : ℕ) (d : StoredStep) → k < length stored
    → eqb (last_end step_end 0 (take k stored)) (get_or stored k d).end ≡ is_empty (get_or (steps_in stored marks) k no_step).marks
empty_at stored marks lie k d low =
    let s = get_or stored k d in
    let from = last_end step_end 0 (take k stored) in
    let is = slice_get-get_or stored k d low in
    let lies = lies_at stored marks lie k s is in
    let long : length (between from s.end marks) ≡ s.end - from
    = length-take-le (s.end - from) (drop from marks) (omega (arith, lies.0, lies.1, length-drop from marks)) in
    let there : (get_or (steps_in stored marks) k no_step).marks ≡ between from s.end marks = ap (λ (t : Step). t.marks) (step_at stored marks lie k s is) in
    let same : eqb from s.end ≡ eqb (length (between from s.end marks)) 0 = rw long (tests from s.end lies.0) in
    same ∙ sym (empty_length (between from s.end marks)) ∙ sym (ap is_empty there)
  where
    tests : (a b : ℕ) → a ≤ b → eqb a b ≡ eqb (b - a) 0
    tests a b le = grind (arith, nat_tests)

-- the lowest number from 1 on that passes a test is one more than the first place from 0 on where the test is passed
module _ (f : ℕ → Bool) (n : ℕ) where
  abbrev pub First : Option ℕ → Type 0
  First r = MatchOption r ((k : ℕ) → 0 ≤ k → k < n → f (suc k) ≡ false)
      (λ i. (0 ≤ i) × (i < n) × (f (suc i) ≡ true) × ((k : ℕ) → 0 ≤ k → k < i → f (suc k) ≡ false))

  before : (m : ℕ) → ((k : ℕ) → 0 ≤ k → k < m → f (suc k) ≡ false) → NonePasses f m
  before m none zero lo hi = absurd (omega arith)
  before m none (suc k) lo hi = none k (omega arith) (omega arith)

  pub lowest_none : {r : Option ℕ} → First r → r ≡ None → lowest f n ≡ 0
  lowest_none first is =
      let none : First None = subst First is first in elim (lowest_cases f n) [
        | inl z ↦ z.0
        | inr l ↦ let fails : f (lowest f n) ≡ false = before n none (lowest f n) l.low l.high in let p = l.passes in cc
      ]

  pub found : {r : Option ℕ} (i : ℕ) → First r → r ≡ Some i → First (Some i)
  found i first is = subst First is first

  pub lowest_some : {r : Option ℕ} (i : ℕ) → First r → r ≡ Some i → lowest f n ≡ i + 1
  lowest_some i there is =
      let first = found i there is in
      lowest_is f n (i + 1) (record {
        low = omega arith;
        high = omega (arith, first.1);
        passes = subst (λ k. f k ≡ true) {x = suc i} {y = i + 1} (omega arith) first.2;
        none_below = λ j lo hi. before i first.3 j lo (omega arith);
      })
