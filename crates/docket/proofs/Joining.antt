-- The record of a resolve is the join of its parents' records, but for the pivot.
use Rattle.std.proofs.Common.{◌≡◌, ℕ, suc, ◌+◌, ◌≤◌, true, ltb, not, eqb, List, [], ◌∷◌, length, refl, ap, ◌∙◌, inl, inr, arith}
use Rattle.std.proofs.lemmas.List.{length-map}
use Rattle.std.proofs.lemmas.Bool.{cases_Bool}
use Rattle.table.specs.declared.join.Meeting.{Meeting}
use Rattle.table.specs.declared.join.Meeting.TheVariants.{Second}
use Rattle.table.specs.Joins.{join_from, join, join_but, meetings_from, meetings}
use Rattle.game.specs.declared.record.Entry.{Entry}
use Rattle.game.specs.Records.{Record}
use Rattle.game.specs.Functions.{joined_entry, merge_from, merge, kept, resolved}
use Rattle.game.proofs.Merge.{merges, kept_above}
use Rattle.docket.specs.Stored.{rises}
use Rattle.docket.proofs.Staying.{kept_filter}
use Rattle.docket.proofs.Steps.{rises_above, above_rises}

abbrev pub variable_of : Entry → ℕ
variable_of e = e.variable

module _ (e : Entry) (f g : Record → Record) (same : (s : Record) → f s ≡ g s) where
  merged_from : (s : Record) → merge_from e f s ≡ join_from variable_of joined_entry e g s
  unfolding merge_from join_from
  merged_from [] = ap (λ l. e ∷ l) (same [])
  merged_from (d ∷ s) = elim (cases_Bool (ltb e.variable d.variable)) [
    | inl t ↦ rw (t, merge_from) (ap (λ l. e ∷ l) (same (d ∷ s)))
    | inr t ↦ elim (cases_Bool (ltb d.variable e.variable)) [
      | inl u ↦ rw (t, u, merge_from) (ap (λ l. d ∷ l) (merged_from s))
      | inr u ↦ rw (t, u, merge_from) (ap (λ l. joined_entry e d ∷ l) (same s))
    ]
  ]

merged : (r s : Record) → merge r s ≡ join variable_of joined_entry r s
unfolding merge join
merged [] s = refl
merged (e ∷ r) s = merged_from e (merge r) (join variable_of joined_entry r) (merged r) s

pub resolved_join : (p : ℕ) (r s : Record) → resolved p r s ≡ join_but variable_of joined_entry p r s
resolved_join p r s = ap (kept (λ x. not (eqb x p))) (merged r s) ∙ kept_filter (λ x. not (eqb x p)) (join variable_of joined_entry r s)

-- it rises where they do
pub resolved_rises : (p : ℕ) (r s : Record) → rises 0 r ≡ true → rises 0 s ≡ true → rises 0 (resolved p r s) ≡ true
resolved_rises p r s up down =
    above_rises 0 (resolved p r s) (kept_above (λ x. not (eqb x p)) 0 (merge r s) (merges r 0 s (rises_above 0 r up) (rises_above 0 s down)).rises)

-- a walk meets no more than there is
module _ (x : Entry) (f : List Entry → List (Meeting Entry)) (n : ℕ) (short : (ys : List Entry) → length (f ys) ≤ n + length ys) where
  from_short : (ys : List Entry) → length (meetings_from variable_of x f ys) ≤ suc n + length ys
  unfolding meetings_from
  from_short [] = omega (arith, short [])
  from_short (y ∷ ys) = elim (cases_Bool (ltb x.variable y.variable)) [
    | inl t ↦ rw (t, meetings_from) (omega (arith, short (y ∷ ys)))
    | inr t ↦ elim (cases_Bool (ltb y.variable x.variable)) [
      | inl u ↦ rw (t, u, meetings_from) (omega (arith, from_short ys))
      | inr u ↦ rw (t, u, meetings_from) (omega (arith, short ys))
    ]
  ]

pub meets_few : (xs ys : List Entry) → length (meetings variable_of xs ys) ≤ length xs + length ys
unfolding meetings
meets_few [] ys = omega (arith, length-map ys Second)
meets_few (x ∷ xs) ys = from_short x (meetings variable_of xs) (length xs) (meets_few xs) ys
