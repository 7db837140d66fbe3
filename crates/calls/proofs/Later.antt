-- Where calls lead on from a docket: it only grows.
use Rattle.std.proofs.Common.{◌≡◌, List, [], ◌∷◌, ◌++◌, sym, refl, ap, ◌∙◌}
use Rattle.std.proofs.lemmas.List.{append-nil, append_assoc}
use Rattle.game.specs.declared.record.Origin.{Origin}
use Rattle.game.specs.Records.{Record}
use Rattle.game.specs.Rules.{Step}
use Rattle.game.specs.Grounds.{Ground}
use Rattle.calls.specs.Dockets.{Docket, with_step}
use Rattle.calls.specs.Runs.{Reached, acted, Later, same, later}
use Rattle.calls.proofs.Dockets.{acts_keep, sound_reached}

pub later_reached : {G : Ground} {D E : Docket} → Reached G D → Later G D E → Reached G E
later_reached r same = r
later_reached r (later l a) = acted (later_reached r l) a

-- E has the n and the room of D, and its steps are those of D with more behind them
pub record Grown (D E : Docket) : Type 0 where
  pub size : E.size ≡ D.size
  pub step_room : E.step_room ≡ D.step_room
  pub mark_room : E.mark_room ≡ D.mark_room
  pub more : List Step
  pub steps : E.steps ≡ D.steps ++ more

grown_more : {D E : Docket} → Grown D E → (o : Origin) (r : Record) → Grown D (with_step E o r)
grown_more {D} g o r = record {
  size = g.size;
  step_room = g.step_room;
  mark_room = g.mark_room;
  more = g.more ++ record { origin = o; marks = r } ∷ [];
  steps = ap (λ (ss : List Step). ss ++ record { origin = o; marks = r } ∷ []) g.steps ∙ append_assoc D.steps g.more _;
}

-- from a docket that calls lead to, further calls only add steps
pub later_grows : {G : Ground} {D E : Docket} → Reached G D → Later G D E → Grown D E
later_grows {D = D} r same = record { size = refl; step_room = refl; mark_room = refl; more = []; steps = sym (append-nil D.steps) }
later_grows {G} {D} r (later l a) =
    acts_keep G (Grown D) (sound_reached (later_reached r l)) (later_grows r l) (λ o m _. grown_more (later_grows r l) o m) a
