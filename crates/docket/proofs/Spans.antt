-- Where the record of a step lies.
use Rattle.std.proofs.Common.{◌≡◌, ℕ, zero, suc, ◌+◌, ◌≤◌, leb, List, [], ◌∷◌, length, get_or, take, Some, None, sym, ap, ◌∙◌, pred, arith}
use Rattle.std.specs.List.{between, slice_get}
use Rattle.std.proofs.lemmas.Option.{slice_get-get_or, slice_get_within, get_or_from_slice_get}
use Rattle.std.proofs.lemmas.Bool.{and_from, and_right, le-leb, lt-leb}
use Rattle.formula.specs.Cuts.{last_end}
use Rattle.formula.proofs.Parts.{nth_cut, climbs_at}
use Rattle.game.specs.declared.record.Entry.{Entry}
use Rattle.game.specs.Rules.{Step, no_step}
use Rattle.docket.specs.declared.stored.StoredStep.{StoredStep}
use Rattle.docket.specs.declared.docket.Docket.{Docket}
use Rattle.docket.specs.Stored.{step_end, as_step, steps_in, StepsLie}
use Rattle.docket.specs.Models.{Lies}
use Rattle.docket.proofs.Steps.{step_count}
use Rattle.table.specs.Entries.{entries}

-- nothing stands past the end
nth_none : {X : Type 0} (xs : List X) (k : ℕ) → slice_get xs k ≡ None → length xs ≤ k
nth_none [] k is = omega arith
nth_none (x ∷ xs) zero is = let z : ◌≡◌ {A = ℕ} 0 1 = cc in absurd (omega arith)
nth_none (x ∷ xs) (suc k) is = omega (arith, nth_none xs k is)

module _ (stored : List StoredStep) (marks : List Entry) (lie : StepsLie stored (length marks)) (k : ℕ) (s : StoredStep) (is : slice_get stored k ≡ Some s) where
  -- the step at place k
  pub step_at : get_or (steps_in stored marks) k no_step ≡ as_step s (between (last_end step_end 0 (take k stored)) s.end marks)
  step_at =
      let low = slice_get_within stored k s is in
      let here = nth_cut step_end as_step 0 stored marks k s low in
      let there = slice_get-get_or (steps_in stored marks) k no_step (omega (arith, step_count stored marks)) in
      let same : get_or stored k s ≡ s = get_or_from_slice_get stored k s s is in
      cc

  pub lies_at : (last_end step_end 0 (take k stored) ≤ s.end) × (s.end ≤ length marks)
  lies_at =
      let up = climbs_at step_end 0 stored k s lie.0 (slice_get_within stored k s is) in
      let same = ap step_end (get_or_from_slice_get stored k s s is) in
      (omega arith, omega (arith, lie.1))

-- the span that a step's number leads to, where the step stands at place p
module _ (d : Docket) (k p : ℕ) (is : k ≡ p + 1) where
  pub lies_none : slice_get (entries d.steps) p ≡ None → Lies d k None
  lies_none none = record {
    cases = and_right (leb 1 k) _ (lt-leb k _ (omega (arith, nth_none (entries d.steps) p none, step_count (entries d.steps) (entries d.marks))));
  }

  pub lies_some : (s : StoredStep) (from : ℕ) → slice_get (entries d.steps) p ≡ Some s → from ≡ last_end step_end 0 (take p (entries d.steps))
      → Lies d k (Some (record { from = from; to = s.end }))
  lies_some s from there begins =
      let low = slice_get_within (entries d.steps) p s there in
      let lies = lies_at (entries d.steps) (entries d.marks) d.lie p s there in
      let before : p ≡ pred k = omega arith in
      record {
        cases = record {
          there = and_from _ _ (le-leb 1 k (omega arith)) (le-leb k _ (omega (arith, step_count (entries d.steps) (entries d.marks))));
          forward = omega (arith, lies.0);
          within = lies.1;
          marks =
              ap (λ a. between a s.end (entries d.marks)) begins
              ∙ sym (ap (λ (t : Step). t.marks) (step_at (entries d.steps) (entries d.marks) d.lie p s there))
              ∙ ap (λ i. (get_or (steps_in (entries d.steps) (entries d.marks)) i no_step).marks) before;
        };
      }
