-- The dockets that calls lead to keep within their room, and their verdicts are right.
use Rattle.std.proofs.Common.{◌≡◌, ℕ, ◌+◌, ◌≤◌, true, leb, List, [], ◌∷◌, ◌++◌, length, Ok, refl, ap, ◌∙◌, subst, inl, inr, arith}
use Rattle.std.proofs.lemmas.List.{flat_map_more, length-append, length_push}
use Rattle.std.proofs.lemmas.Bool.{leb-true, le-leb}
use Rattle.formula.specs.Formula.{WellFormed}
use Rattle.game.specs.Records.{Record}
use Rattle.game.specs.Rules.{Step, marks_of}
use Rattle.game.specs.Plays.{is_empty, lowest_empty}
use Rattle.game.specs.Grounds.{Ground, KeepsLaw, OwnWins}
use Rattle.game.proofs.Grounds.{empty_record_wins}
use Rattle.game.proofs.Lowest.{lowest_cases, lowest_is}
use Rattle.calls.specs.Tests.{Told, AllHold}
use Rattle.calls.specs.Dockets.{Docket, all_marks, same_size, close_tests, close}
use Rattle.calls.specs.Runs.{Reached}
use Rattle.calls.specs.Assured.{LowestEmpty, VerdictRight, RoomKept, DocketsAssured}
use Rattle.calls.proofs.Tests.{passed, accepted}
use Rattle.calls.proofs.Dockets.{sound_reached, every_reached}

-- ---- room

marks_more : (steps : List Step) (s : Step) → length (all_marks (steps ++ s ∷ [])) ≡ length (all_marks steps) + length s.marks
marks_more steps s = rw (← flat_map_more (λ (t : Step). t.marks) [] steps s) (length-append (all_marks steps) s.marks)

pub room_kept : {G : Ground} {D : Docket} → Reached G D → RoomKept D
room_kept {G} = every_reached G RoomKept
    (λ n a b. record { steps_fit = omega arith; marks_fit = omega arith; few_steps = omega arith; few_marks = omega arith })
    (λ D _ kept o r m. record {
      steps_fit = rw (length_push D.steps (record { origin = o; marks = r })) (omega arith);
      marks_fit = rw (marks_more D.steps (record { origin = o; marks = r })) m.marks_fit;
      few_steps = kept.few_steps;
      few_marks = kept.few_marks;
    })

-- ---- the verdict

-- a docket with a step has the n of its formula and its ground
pub sizes_reached : {G : Ground} {D : Docket} → Reached G D → 1 ≤ length D.steps → same_size G.formula G D ≡ true
sizes_reached {G} = every_reached G (λ D. 1 ≤ length D.steps → same_size G.formula G D ≡ true)
    (λ n a b some. absurd (omega arith))
    (λ D _ _ o r m _. m.sizes)

empty_nil : (r : Record) → is_empty r ≡ true → r ≡ []
empty_nil [] h = refl
empty_nil (e ∷ r) h = cc

module _ (G : Ground) (D : Docket) (reached : Reached G D) where
  verdict_given : (v : ℕ) → LowestEmpty D v → (close G.formula G D).0 ≡ Ok v
  verdict_given v l =
      let e : lowest_empty D.steps ≡ v = lowest_is _ _ v l in
      let same : same_size G.formula G D ≡ true = sizes_reached reached (let a = l.low in let b = l.high in omega arith) in
      let some : leb 1 (lowest_empty D.steps) ≡ true = le-leb _ _ (rw e l.low) in
      ap (λ (t : Told ℕ Docket). t.0) (accepted (close_tests G.formula G D) D (Ok (lowest_empty D.steps), D) (same, (some, tt))) ∙ ap Ok e

  verdict_lowest : (v : ℕ) → (close G.formula G D).0 ≡ Ok v → LowestEmpty D v
  verdict_lowest v h =
      let done : Told ℕ Docket = (Ok (lowest_empty D.steps), D) in
      let held : AllHold (close_tests G.formula G D) = passed (close_tests G.formula G D) D done v h in
      let all = accepted (close_tests G.formula G D) D done held in
      let e : lowest_empty D.steps ≡ v = cc in
      elim (lowest_cases (λ k. is_empty (marks_of D.steps k)) (length D.steps)) [
        | inl z ↦ absurd (omega (arith, z.0, leb-true _ _ held.1.0))
        | inr l ↦ subst (LowestEmpty D) e l
      ]

  verdict_wins : WellFormed G.formula → KeepsLaw G → (v : ℕ) → (close G.formula G D).0 ≡ Ok v → OwnWins G
  verdict_wins formed law v h =
      let l : LowestEmpty D v = verdict_lowest v h in
      empty_record_wins.wins G formed law D.steps (sound_reached reached).derives v l.low l.high (empty_nil _ l.passes)

  pub verdict_right : WellFormed G.formula → KeepsLaw G → VerdictRight G D (close G.formula G D).0
  verdict_right formed law = record {
    given = verdict_given;
    lowest = verdict_lowest;
    wins = verdict_wins formed law;
    says_false = λ F e v h. subst OwnWins e (verdict_wins formed law v h);
    says_true = λ F e v h. subst OwnWins e (verdict_wins formed law v h);
  }

pub dockets_assured : DocketsAssured
dockets_assured = record {
  sound = λ G D reached. sound_reached reached;
  verdict = λ G formed law D reached. verdict_right G D reached formed law;
  room = λ G D reached. room_kept reached;
}
