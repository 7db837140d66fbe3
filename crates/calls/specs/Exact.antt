-- When a step is accepted, in the words of the rules.
use Rattle.std.specs.Prelude.{◌≡◌, ℕ, ◌+◌, ◌<◌, ◌≤◌, true, ◌↔◌, List, length, Ok, Err}
use Rattle.refusal.specs.declared.Refusal.{Refusal}
use Rattle.formula.specs.declared.letter.Literal.{Literal}
use Rattle.game.specs.Records.{Record, Above}
use Rattle.game.specs.declared.record.Origin.{Origin}
use Rattle.game.specs.declared.record.Origin.TheVariants.{Leaf, Resolve, Reduce}
use Rattle.game.specs.Rules.{Allowed}
use Rattle.game.specs.Leaves.{marked}
use Rattle.game.specs.Grounds.{Ground, side_of, calculus_of}
use Rattle.calls.specs.Tests.{Told, Test, FirstFailing}
use Rattle.calls.specs.Dockets.{Docket, same_size, all_marks, enter, leaf_tests, leaf, resolve_tests, resolve, reduce_tests, reduce, close_tests, close}
use Rattle.calls.specs.Runs.{Reached}
use Rattle.formula.specs.Formula.{Formula}

-- A step may be entered: the sizes agree; the rules of long-distance Q-resolution over the ground allow it after the docket's steps, with
-- this record, which rises; and the tables hold it.
pub record MayEnter (G : Ground) (D : Docket) (o : Origin) (r : Record) : Type 0 where
  pub sizes : same_size G.formula G D ≡ true
  pub allowed : Allowed (side_of G) (calculus_of G) D.steps (length D.steps + 1) o r
  pub rises : Above 0 r
  pub step_fits : length D.steps < D.step_room
  pub marks_fit : length (all_marks D.steps) + length r ≤ D.mark_room

-- The call enters the step of that origin with the record r exactly where it may be entered; and whenever it is accepted, it is so that it
-- enters such a step.
pub record EntersExactly (G : Ground) (D : Docket) (o : Origin) (call : Told ℕ Docket) : Type 0 where
  pub exactly : (r : Record) → (call ≡ enter D o r) ↔ MayEnter G D o r
  pub only_so : (k : ℕ) → call.0 ≡ Ok k → (r : Record) × (call ≡ enter D o r)

-- A leaf: the literals are those of the record.
pub record LeafExactly (G : Ground) (D : Docket) (ls : List Literal) (call : Told ℕ Docket) : Type 0 where
  pub exactly : (call ≡ enter D Leaf (marked ls)) ↔ MayEnter G D Leaf (marked ls)
  pub only_so : (k : ℕ) → call.0 ≡ Ok k → call ≡ enter D Leaf (marked ls)

-- A call is refused exactly by the first of its tests that fails, and a refused call leaves the state.
pub record RefusesExactly {A State : Type 0} (tests : List Test) (s : State) (call : Told A State) : Type 0 where
  pub refused : (e : Refusal) → FirstFailing tests e → call ≡ (Err e, s)
  pub only_so : (e : Refusal) → call.0 ≡ Err e → FirstFailing tests e

-- Over every ground, and every docket that calls lead to: a step is accepted exactly when the rules allow it and the tables hold it. And
-- every call, on any docket, is refused exactly by its tests.
pub record StepsExact : Type 0 where
  pub leaf_enters : (G : Ground) (D : Docket) → Reached G D → (ls : List Literal) → LeafExactly G D ls (leaf G.formula G D ls)
  pub resolve_enters : (G : Ground) (D : Docket) → Reached G D → (p i j : ℕ) → EntersExactly G D (Resolve p i j) (resolve G.formula G D p i j)
  pub reduce_enters : (G : Ground) (D : Docket) → Reached G D → (j : ℕ) → EntersExactly G D (Reduce j) (reduce G.formula G D j)
  pub leaf_refuses : (F : Formula) (G : Ground) (D : Docket) (ls : List Literal) → RefusesExactly (leaf_tests F G D ls) D (leaf F G D ls)
  pub resolve_refuses : (F : Formula) (G : Ground) (D : Docket) (p i j : ℕ) → RefusesExactly (resolve_tests F G D p i j) D (resolve F G D p i j)
  pub reduce_refuses : (F : Formula) (G : Ground) (D : Docket) (j : ℕ) → RefusesExactly (reduce_tests F G D j) D (reduce F G D j)
  pub close_refuses : (F : Formula) (G : Ground) (D : Docket) → RefusesExactly (close_tests F G D) D (close F G D)
