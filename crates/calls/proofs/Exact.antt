-- A step is accepted exactly when the rules allow it and the tables hold it.
use Rattle.std.proofs.Common.{◌≡◌, ℕ, ◌+◌, List, length, sym, ap, ◌∙◌, subst}
use Rattle.std.proofs.lemmas.List.{same_from_push}
use Rattle.game.specs.declared.record.Origin.{Origin}
use Rattle.game.specs.declared.record.Origin.TheVariants.{Leaf}
use Rattle.game.specs.Records.{Record}
use Rattle.game.specs.Rules.{Step}
use Rattle.game.specs.Leaves.{marked}
use Rattle.calls.specs.Tests.{Told, Test, tested, AllHold}
use Rattle.calls.specs.Dockets.{Docket, enter, leaf_tests, resolve_tests, reduce_tests, close_tests}
use Rattle.calls.specs.Exact.{MayEnter, EntersExactly, StepsExact}
use Rattle.calls.proofs.Tests.{passed, accepted, done_exactly, refuses_exactly}
use Rattle.calls.proofs.Dockets.{leaf_accepted, leaf_back, resolve_accepted, resolve_back, reduce_accepted, reduce_back, sound_reached}
use Rattle.game.specs.Grounds.{Ground}

-- a docket tells which step was entered last
entered_same : (D : Docket) (o : Origin) (r q : Record) → enter D o r ≡ enter D o q → r ≡ q
entered_same D o r q e =
    let (_, last) = same_from_push D.steps D.steps _ _ (ap (λ (t : Told ℕ Docket). t.1.steps) e) in
    ap (λ (s : Step). s.marks) last

-- a call that enters the record `made`: its tests hold exactly where a step of its origin may be entered, and no other record may be
module _ (G : Ground) (D : Docket) (o : Origin) (made : Record) (ts : List Test) (there : AllHold ts → MayEnter G D o made)
    (back : (r : Record) → MayEnter G D o r → AllHold ts × (made ≡ r)) where
  enters_exactly : EntersExactly G D o (tested ts D (enter D o made))
  enters_exactly = record {
    exactly = λ r. (
      λ e.
          let held : AllHold ts = passed ts D (enter D o made) (length D.steps + 1) (ap (λ (t : Told ℕ Docket). t.0) e) in
          let is : made ≡ r = entered_same D o made r (sym (accepted ts D (enter D o made) held) ∙ e) in
          subst (MayEnter G D o) is (there held),
      λ m. let (held, is) = back r m in accepted ts D (enter D o made) held ∙ ap (enter D o) is,
    );
    only_so = λ k e. (made, accepted ts D (enter D o made) (passed ts D (enter D o made) k e));
  }

pub steps_exact : StepsExact
steps_exact = record {
  leaf_enters = λ G D reached ls.
      let s = sound_reached reached in
      let ts : List Test = leaf_tests G.formula G D ls in
      let (held, done) = done_exactly ts D (length D.steps + 1) (enter D Leaf (marked ls)).1 in
      record {
        exactly = (λ e. (leaf_accepted G D s ls (held e)).may, λ m. done (leaf_back G D s ls m));
        only_so = λ k e. done (passed ts D (enter D Leaf (marked ls)) k e);
      };
  resolve_enters = λ G D reached p i j.
      let s = sound_reached reached in
      enters_exactly G D _ _ (resolve_tests G.formula G D p i j) (λ t. (resolve_accepted G D s p i j t).may) (resolve_back G D s p i j);
  reduce_enters = λ G D reached j.
      let s = sound_reached reached in
      enters_exactly G D _ _ (reduce_tests G.formula G D j) (λ t. (reduce_accepted G D s j t).may) (reduce_back G D s j);
  leaf_refuses = λ F G D ls. refuses_exactly (leaf_tests F G D ls) D _ _;
  resolve_refuses = λ F G D p i j. refuses_exactly (resolve_tests F G D p i j) D _ _;
  reduce_refuses = λ F G D j. refuses_exactly (reduce_tests F G D j) D _ _;
  close_refuses = λ F G D. refuses_exactly (close_tests F G D) D _ _;
}
