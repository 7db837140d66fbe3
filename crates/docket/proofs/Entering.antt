-- One step more in memory is one step more of the docket.
use Rattle.std.proofs.Common.{◌≡◌, ℕ, ◌+◌, ◌<◌, ◌≤◌, true, List, [], ◌∷◌, ◌++◌, length, Ok, sym, refl, ap, ◌∙◌, ap₂, arith}
use Rattle.std.proofs.lemmas.List.{length-append, length-drop}
use Rattle.table.specs.declared.slab.Table.{Table}
use Rattle.table.specs.Entries.{entries, free, Grown}
use Rattle.game.specs.declared.record.Entry.{Entry}
use Rattle.game.specs.declared.record.Origin.{Origin}
use Rattle.game.specs.Records.{Record}
use Rattle.calls.specs.Tests.{Told}
use Rattle.calls.specs.Dockets.{Docket, enter}
use Rattle.docket.specs.declared.stored.StoredStep.{StoredStep}
use Rattle.docket.specs.Stored.{steps_in, StepsLie, rises, all_rise}
use Rattle.docket.specs.Models.{places, model_of}
use Rattle.docket.proofs.Opening.{same_docket}
use Rattle.docket.proofs.Steps.{step_count, steps_push, lie_push, rise_push}

-- a table that grows within its places keeps them
grown_places : {T : Type 0} (before after : Table T) (new : List T) → Grown before new after → length new ≤ length (free before) → places after ≡ places before
grown_places before after new grown fits =
    omega (arith, ap length grown.longer, length-append (entries before) new, ap length grown.rest, length-drop (length new) (free before))

-- the record r was appended to the marks, and then a step was stored that ends with them
module _ {steps steps' : Table StoredStep} {marks marks' : Table Entry} {o : Origin} {end : ℕ} {r : Record}
    (lie : StepsLie (entries steps) (length (entries marks))) (appended : Grown marks r marks')
    (stored : Grown steps (record { origin = o; end = end } ∷ []) steps') (ends : end ≡ length (entries marks')) (room : 0 < length (free steps)) where
  abbrev s : StoredStep
  s = record { origin = o; end = end }

  ends_behind : end ≡ length (entries marks ++ r)
  ends_behind = ends ∙ ap length appended.longer

  -- the docket's invariants
  pub entered_kept : all_rise (steps_in (entries steps) (entries marks)) ≡ true → rises 0 r ≡ true → places steps ≤ 4096
      → StepsLie (entries steps') (length (entries marks')) × (all_rise (steps_in (entries steps') (entries marks')) ≡ true) × (places steps' ≤ 4096)
  entered_kept up last few = (
    rw (stored.longer, appended.longer) (lie_push (entries steps) (entries marks) lie s r ends_behind),
    rw (stored.longer, appended.longer) (rise_push (entries steps) (entries marks) lie s r ends_behind up last),
    omega (arith, grown_places steps steps' (s ∷ []) stored room),
  )

  -- what the call answers and leaves
  pub entered_told : (n : ℕ) → length r ≤ length (free marks) → {k : ℕ} → k ≡ length (entries steps) + 1
      → ◌≡◌ {A = Told ℕ Docket} (Ok k, model_of n steps' marks') (enter (model_of n steps marks) o r)
  entered_told n fits is =
      ap₂ (λ (i : ℕ) (D : Docket). (Ok i, D)) (is ∙ ap (λ i. i + 1) (sym (step_count (entries steps) (entries marks))))
      (same_docket refl (grown_places steps steps' (s ∷ []) stored room) (grown_places marks marks' r appended fits)
      (ap₂ steps_in stored.longer appended.longer ∙ steps_push (entries steps) (entries marks) lie s r ends_behind))
