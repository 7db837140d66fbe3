-- A docket without steps.
use Rattle.std.proofs.Common.{◌≡◌, ℕ, ◌≤◌, min, true, List, [], length, take, refl, ap, arith, length-take}
use Rattle.table.specs.declared.slab.Table.{Table}
use Rattle.table.specs.Entries.{entries, free}
use Rattle.game.specs.declared.record.Entry.{Entry}
use Rattle.game.specs.Rules.{Step}
use Rattle.calls.specs.Dockets.{Docket, opened}
use Rattle.docket.specs.declared.stored.StoredStep.{StoredStep}
use Rattle.docket.specs.Stored.{steps_in, StepsLie, all_rise}
use Rattle.docket.specs.Models.{places, model_of}

-- equal parts, equal dockets
pub same_docket : {n n' a a' b b' : ℕ} {s s' : List Step} → n ≡ n' → a ≡ a' → b ≡ b' → s ≡ s'
    → ◌≡◌ {A = Docket} (record { size = n; step_room = a; mark_room = b; steps = s }) (record { size = n'; step_room = a'; mark_room = b'; steps = s' })
same_docket p q r t = cc

module _ (steps : Table StoredStep) (marks : Table Entry) (no_steps : entries steps ≡ []) (no_marks : entries marks ≡ []) where
  pub none_lie : StepsLie (entries steps) (length (entries marks))
  none_lie = rw (no_steps, no_marks) (refl, refl)

  pub none_rise : all_rise (steps_in (entries steps) (entries marks)) ≡ true
  unfolding all_rise
  none_rise = ap (λ l. all_rise (steps_in l (entries marks))) no_steps

  module _ (xs : List StoredStep) (ys : List Entry) (step_memory : free steps ≡ take 4096 xs) (mark_memory : free marks ≡ take 16384 ys) where
    step_places : places steps ≡ min 4096 (length xs)
    step_places = omega (arith, ap length no_steps, ap length step_memory, length-take 4096 xs)

    mark_places : places marks ≡ min 16384 (length ys)
    mark_places = omega (arith, ap length no_marks, ap length mark_memory, length-take 16384 ys)

    pub few_places : places steps ≤ 4096
    few_places = omega (arith, step_places)

    pub opens : (n : ℕ) → model_of n steps marks ≡ opened n (length xs) (length ys)
    opens n = same_docket refl step_places mark_places (ap (λ l. steps_in l (entries marks)) no_steps)
