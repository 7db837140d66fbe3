-- When a further step and further marks fit, by what is free.
use Rattle.std.proofs.Common.{◌≡◌, ℕ, ◌+◌, Bool, not, ltb, leb, [], length, ◌↔◌, IsTrue, ap, inl, inr, arith}
use Rattle.std.proofs.lemmas.Bool.{cases_Bool, cases_eq}
use Rattle.std.proofs.lemmas.Bool.Decides.{nat_tests}
use Rattle.std.proofs.lemmas.List.{nil_from_length}
use Rattle.table.specs.declared.slab.Table.{Table}
use Rattle.table.specs.Entries.{entries, free}
use Rattle.game.specs.declared.record.Entry.{Entry}
use Rattle.calls.specs.Dockets.{all_marks}
use Rattle.docket.specs.declared.stored.StoredStep.{StoredStep}
use Rattle.docket.specs.Stored.{steps_in, StepsLie}
use Rattle.docket.specs.Models.{places}
use Rattle.docket.proofs.Steps.{step_count, all_marks_kept}

module _ (steps : Table StoredStep) (marks : Table Entry) where
  pub step_fits : {full : Bool} → (IsTrue full ↔ (free steps ≡ [])) → ltb (length (steps_in (entries steps) (entries marks))) (places steps) ≡ not full
  step_fits {full} is = let count = step_count (entries steps) (entries marks) in elim (cases_eq (length (free steps)) 0) [
    | inl none ↦ rw (is.1 (nil_from_length (free steps) none)) (grind (arith, nat_tests))
    | inr some ↦ elim (cases_Bool full) [
      | inl t ↦ let none = ap length (is.0 t) in absurd (some none)
      | inr f ↦ rw f (grind (arith, nat_tests))
    ]
  ]

  pub marks_fit : (n : ℕ) → StepsLie (entries steps) (length (entries marks))
      → leb (length (all_marks (steps_in (entries steps) (entries marks))) + n) (places marks) ≡ leb n (length (free marks))
  marks_fit n lie =
      let count = ap length (all_marks_kept (entries steps) (entries marks) lie) in
      grind (arith, nat_tests)
