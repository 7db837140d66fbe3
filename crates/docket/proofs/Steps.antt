-- Steps as they are kept: how many, all their marks, one step more.
use Rattle.std.proofs.Common.{◌≡◌, ℕ, zero, suc, ◌-◌, true, ltb, List, [], ◌∷◌, ◌++◌, length, get_or, take, sym, refl, ap, ◌∙◌, ap₂, arith}
use Rattle.std.proofs.lemmas.List.{length-append, take_all, drop_at}
use Rattle.std.proofs.lemmas.Bool.{and_parts, and_from, ltb-true, lt-ltb}
use Rattle.formula.specs.Cuts.{last_end}
use Rattle.formula.proofs.Parts.{cut_grown, cut_push, length_cut, joined_cut, last_push, climbs_push}
use Rattle.game.specs.declared.record.Entry.{Entry}
use Rattle.game.specs.Records.{Record, Above}
use Rattle.game.specs.Rules.{Step, no_step}
use Rattle.calls.specs.Dockets.{all_marks}
use Rattle.docket.specs.declared.stored.StoredStep.{StoredStep}
use Rattle.docket.specs.Stored.{step_end, as_step, steps_in, StepsLie, rises, all_rise}

-- a record rises, as a test and as a fact
pub rises_above : (a : ℕ) (r : Record) → rises a r ≡ true → Above a r
unfolding rises
rises_above a [] up = tt
rises_above a (e ∷ r) up =
    let both = and_parts (ltb a e.variable) (rises e.variable r) up in
    (ltb-true a e.variable both.0, rises_above e.variable r both.1)

pub above_rises : (a : ℕ) (r : Record) → Above a r → rises a r ≡ true
unfolding rises
above_rises a [] up = refl
above_rises a (e ∷ r) up = and_from _ _ (lt-ltb a e.variable up.0) (above_rises e.variable r up.1)

all_rise_push : (ss : List Step) (s : Step) → all_rise ss ≡ true → rises 0 s.marks ≡ true → all_rise (ss ++ s ∷ []) ≡ true
unfolding all_rise
all_rise_push [] s up last = and_from _ _ last refl
all_rise_push (t ∷ ss) s up last =
    let both = and_parts (rises 0 t.marks) (all_rise ss) up in
    and_from _ _ both.0 (all_rise_push ss s both.1 last)

pub step_count : (stored : List StoredStep) (marks : List Entry) → length (steps_in stored marks) ≡ length stored
step_count stored marks = length_cut step_end as_step 0 stored marks

module _ (stored : List StoredStep) (marks : List Entry) (lie : StepsLie stored (length marks)) where
  -- the records of all steps are all the marks
  pub all_marks_kept : all_marks (steps_in stored marks) ≡ marks
  all_marks_kept =
      joined_cut step_end as_step (λ (s : Step). s.marks) (λ _ _. refl) 0 stored marks lie.0
      ∙ take_all (last_end step_end 0 stored - 0) marks (omega (arith, lie.1))

  -- one step more, whose record stands behind the marks
  module _ (s : StoredStep) (r : Record) (end : s.end ≡ length (marks ++ r)) where
    pub steps_push : steps_in (stored ++ s ∷ []) (marks ++ r) ≡ steps_in stored marks ++ as_step s r ∷ []
    steps_push =
        cut_push step_end as_step 0 stored s (marks ++ r)
        ∙ ap₂ (λ (ss : List Step) (l : Record). ss ++ as_step s l ∷ [])
        (cut_grown step_end as_step 0 stored marks r lie.0 (omega (arith, lie.1)))
        (ap (take (s.end - last_end step_end 0 stored)) (drop_at marks r _ (sym lie.1))
        ∙ take_all _ r (omega (arith, lie.1, end, length-append marks r)))

    pub lie_push : StepsLie (stored ++ s ∷ []) (length (marks ++ r))
    lie_push =
        (climbs_push step_end 0 stored s lie.0 (omega (arith, lie.1, end, length-append marks r)), last_push step_end 0 stored s ∙ end)

    pub rise_push : all_rise (steps_in stored marks) ≡ true → rises 0 r ≡ true → all_rise (steps_in (stored ++ s ∷ []) (marks ++ r)) ≡ true
    rise_push up last = rw steps_push (all_rise_push (steps_in stored marks) (as_step s r) up last)

-- the record of each step rises
pub rise_at : (ss : List Step) (k : ℕ) → all_rise ss ≡ true → rises 0 (get_or ss k no_step).marks ≡ true
unfolding all_rise rises
rise_at [] k up = refl
rise_at (s ∷ ss) zero up = (and_parts (rises 0 s.marks) (all_rise ss) up).0
rise_at (s ∷ ss) (suc k) up = rise_at ss k (and_parts (rises 0 s.marks) (all_rise ss) up).1
