-- What a docket of the code is, apart from where it lies; and what a call leaves in memory.
use Rattle.std.specs.Prelude.{◌≡◌, ℕ, ◌+◌, ◌≤◌, true, false, ◌&&◌, List, [], ◌∷◌, length, Ok, Err, Option, Result, MatchOption, MatchResult}
use Rattle.std.specs.List.{between}
use Rattle.refusal.specs.declared.Refusal.{Refusal}
use Rattle.table.specs.declared.join.Span.{Span}
use Rattle.table.specs.declared.slab.Table.{Table}
use Rattle.table.specs.Entries.{entries, free, Grown}
use Rattle.formula.specs.declared.letter.Literal.{Literal}
use Rattle.formula.specs.Formula.{Formula}
use Rattle.game.specs.declared.record.Entry.{Entry}
use Rattle.game.specs.Records.{Record}
use Rattle.game.specs.Rules.{marks_of}
use Rattle.game.specs.Grounds.{Ground}
use Rattle.calls.specs.Dockets as model
use Rattle.docket.specs.declared.docket.Docket.{Docket}
use Rattle.docket.specs.declared.docket.Verdict.{Verdict}
use Rattle.docket.specs.declared.stored.StoredStep.{StoredStep}
use Rattle.docket.specs.Stored.{steps_in}

-- how many entries a table has room for, those that it has among them
abbrev pub places : {T : Type 0} → Table T → ℕ
places t = length (entries t) + length (free t)

-- by the parts, so that a lemma need not name the invariant
abbrev pub model_of : ℕ → Table StoredStep → Table Entry → model.Docket
model_of n steps marks = record { size = n; step_room = places steps; mark_room = places marks; steps = steps_in (entries steps) (entries marks) }

-- the docket as a list of steps with its room
abbrev pub docket_of : Docket → model.Docket
docket_of d = model_of d.n d.steps d.marks

-- the marks of step k of the docket lie in this span
pub record LiesIn (d : Docket) (k : ℕ) (s : Span) : Type 0 where
  pub there : model.has_step (docket_of d) k ≡ true
  pub forward : s.from ≤ s.to
  pub within : s.to ≤ length (entries d.marks)
  pub marks : between s.from s.to (entries d.marks) ≡ marks_of (docket_of d).steps k

-- where the record of step k lies, if the docket has such a step
pub record Lies (d : Docket) (k : ℕ) (r : Option Span) : Type 0 where
  pub cases : MatchOption r (model.has_step (docket_of d) k ≡ false) (LiesIn d k)

-- where the records of steps i and j lie, if the docket has both
pub record LieBoth (d : Docket) (i j : ℕ) (r : Option (Span × Span)) : Type 0 where
  pub cases : MatchOption r ((model.has_step (docket_of d) i && model.has_step (docket_of d) j) ≡ false) (λ w. LiesIn d i w.0 × LiesIn d j w.1)

-- one stored step and some marks more, each in what was the first free place, and no other place has changed
pub record Longer (before after : Docket) : Type 0 where
  pub step : StoredStep
  pub marks : Record
  pub steps_grown : Grown before.steps (step ∷ []) after.steps
  pub marks_grown : Grown before.marks marks after.marks

-- what a call leaves in memory: an accepted one a step more and nothing else changed, a refused one everything as it was
pub record Memory (before : Docket) (r : Result ℕ Refusal) (after : Docket) : Type 0 where
  pub cases : MatchResult r (λ _. Longer before after) (λ _. after ≡ before)

-- Answer and docket after a call are exactly those of the call's definition. (As records, so that a caller can read the arguments off.)
pub record Leafed (F : Formula) (G : Ground) (ls : List Literal) (before : model.Docket) (r : Result ℕ Refusal) (after : model.Docket) : Type 0 where
  pub is : (r, after) ≡ model.leaf F G before ls

pub record Resolved (F : Formula) (G : Ground) (p i j : ℕ) (before : model.Docket) (r : Result ℕ Refusal) (after : model.Docket) : Type 0 where
  pub is : (r, after) ≡ model.resolve F G before p i j

pub record Reduced (F : Formula) (G : Ground) (j : ℕ) (before : model.Docket) (r : Result ℕ Refusal) (after : model.Docket) : Type 0 where
  pub is : (r, after) ≡ model.reduce F G before j

-- an answer of close by the number of its step
abbrev pub numbered : Result Verdict Refusal → Result ℕ Refusal
numbered (Ok v) = Ok v.step
numbered (Err e) = Err e
